-- The tokens of pages, and the last of them.
use Rattle.std.specs.Prelude.{List, [], ◌∷◌, ℕ}
use Rattle.rules.specs.Tree.{Token, new_page}

-- the tokens that begin these pages
abbrev pub page_tokens : List ℕ → List Token
page_tokens [] = []
page_tokens (p ∷ ps) = new_page p ∷ page_tokens ps

-- the page that stands after pages have begun, p the one before
abbrev pub last_page : ℕ → List ℕ → ℕ
last_page p [] = p
last_page p (q ∷ ps) = last_page q ps
