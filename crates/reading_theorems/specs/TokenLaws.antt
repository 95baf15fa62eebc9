-- A directory's pages and its entries in chain order: each gives the other back, where the pages' entries are whole.
use Rattle.std.specs.Prelude.{◌≡◌, refl, List, [], ◌∷◌, ◌++◌, ℕ, zero, suc, ◌+◌, ◌*◌, ◌/◌, ◌%◌, ◌≤◌, length, take, drop}
use Rattle.std.proofs.Common.{ap, ap₂, sym, ◌∙◌, add_comm, suc-mul, mul-div_cancel, div-add-mod', arith, length-append, length-drop, take-append-drop, drop_at}
use Rattle.std.proofs.Math.Nat.{mul-mod_left}
use Rattle.geometry.specs.declared.Geometry.{Geometry}
use Rattle.geometry.specs.Geometry.{entry_size}
use Rattle.geometry.specs.Number.{Bytes}
use Rattle.geometry.specs.NumberLaws.{bytes_drop}
use Rattle.rules.specs.declared.Entry.{Entry}
use Rattle.rules.specs.Chain.{Link, link}
use Rattle.rules.specs.Names.{entry_bytes}
use Rattle.rules.specs.Tree.{Token, new_page, entry, stamp_tokens, token_bytes, token_links, entries_in, link_tokens}
use Rattle.rules.specs.WellFormed.{EntryFits, Stamps}
use Rattle.reading_theorems.specs.EntryLaws.{entry_size_lem, length_entry, entry_back, entry_bytes_lem, entry_fits}

-- the numbers of every entry fit
abbrev pub TokensFit : ℕ → List Token → Type 0
TokensFit n [] = Unit {0}
TokensFit n (new_page p ∷ ts) = TokensFit n ts
TokensFit n (entry e ∷ ts) = EntryFits n e × TokensFit n ts

pub stamps_fit : (n : ℕ) (ss : List Entry) (ts : List Token) → Stamps n ss → TokensFit n ts → TokensFit n (stamp_tokens ss ts)
stamps_fit n [] ts h f = f
stamps_fit n (s ∷ ss) ts h f = (h.1, stamps_fit n ss ts h.2 f)

-- the entries before the next page, and what comes from that page on
abbrev pub leading : List Token → List Token
leading [] = []
leading (new_page p ∷ ts) = []
leading (entry e ∷ ts) = entry e ∷ leading ts

abbrev pub from_page : List Token → List Token
from_page [] = []
from_page (new_page p ∷ ts) = new_page p ∷ ts
from_page (entry e ∷ ts) = from_page ts

pub leading_on : (ts : List Token) → leading ts ++ from_page ts ≡ ts
leading_on [] = refl
leading_on (new_page p ∷ ts) = refl
leading_on (entry e ∷ ts) = ap (λ (l : List Token). entry e ∷ l) (leading_on ts)

-- ---- entries written and read
module _ (g : Geometry) where
  length_tokens : (ts : List Token) → length (token_bytes g.width ts) ≡ length (leading ts) * entry_size g
  length_tokens [] = omega arith
  length_tokens (new_page p ∷ ts) = omega arith
  length_tokens (entry e ∷ ts) =
      length-append (entry_bytes g.width e) (token_bytes g.width ts) ∙ ap₂ (λ (x y : ℕ). x + y) (length_entry g e) (length_tokens ts)
      ∙ add_comm (entry_size g) (length (leading ts) * entry_size g) ∙ sym (suc-mul (length (leading ts)) (entry_size g))

  -- stamps take their slots
  pub length_stamps : (ss : List Entry) (ts : List Token) → length (token_bytes g.width (stamp_tokens ss ts)) ≡ length ss * entry_size g + length (token_bytes g.width ts)
  length_stamps [] ts = omega arith
  length_stamps (s ∷ ss) ts = length-append (entry_bytes g.width s) (token_bytes g.width (stamp_tokens ss ts))
      ∙ omega (arith, length_entry g s, length_stamps ss ts, suc-mul (length ss) (entry_size g))

  -- the entries of a page are whole
  pub whole_tokens : (ts : List Token) → length (token_bytes g.width ts) % entry_size g ≡ 0
  whole_tokens ts = rw (length_tokens ts) (mul-mod_left (length (leading ts)) (entry_size g))

  entries_back : (ts : List Token) → TokensFit g.width ts → entries_in g (length (leading ts)) (token_bytes g.width ts) ≡ leading ts
  entries_back [] f = refl
  entries_back (new_page p ∷ ts) f = refl
  entries_back (entry e ∷ ts) f =
      let b = token_bytes g.width ts in
      let d = drop_at (entry_bytes g.width e) b (entry_size g) (length_entry g e) in
      ap₂ (λ (x : Entry) (l : List Token). entry x ∷ l) (entry_back g.width e b f.0) (ap (entries_in g (length (leading ts))) d ∙ entries_back ts f.1)

  page_back : (ts : List Token) → TokensFit g.width ts
      → entries_in g (length (token_bytes g.width ts) / entry_size g) (token_bytes g.width ts) ≡ leading ts
  page_back ts f =
      let k = length (leading ts) in
      let e : length (token_bytes g.width ts) / entry_size g ≡ k = rw (length_tokens ts) (mul-div_cancel k (omega (arith, entry_size_lem g))) in
      rw e (entries_back ts f)

  pub tokens_back : (control : List ℕ) (skip : ℕ) (ts : List Token) → length control ≡ skip → TokensFit g.width ts
      → link_tokens g skip (token_links g.width control ts) ≡ from_page ts
  tokens_back control skip [] h f = refl
  tokens_back control skip (new_page p ∷ ts) h f =
      ap (λ (l : List Token). new_page p ∷ l)
      (ap₂ (λ (x y : List Token). x ++ y)
      (ap (λ (b : List ℕ). entries_in g (length b / entry_size g) b) (drop_at control (token_bytes g.width ts) skip h) ∙ page_back ts f)
      (tokens_back [] 0 ts refl f) ∙ leading_on ts)
  tokens_back control skip (entry e ∷ ts) h f = tokens_back control skip ts h f.1

-- ---- pages read and written
-- pages of bytes with whole entries, after so many bytes of the first page
abbrev pub WholePages : Geometry → ℕ → List Link → Type 0
WholePages g skip [] = Unit {0}
WholePages g skip (link p b ∷ ls) = Bytes b × (length (drop skip b) % entry_size g ≡ 0) × WholePages g 0 ls

-- the first page begins with these bytes
abbrev pub Opens : ℕ → List ℕ → List Link → Type 0
Opens skip control [] = Unit {0}
Opens skip control (link p b ∷ ls) = take skip b ≡ control

module _ (g : Geometry) where
  whole_length : (b : List ℕ) → length b % entry_size g ≡ 0 → length b ≡ length b / entry_size g * entry_size g
  whole_length b h = omega (arith, div-add-mod' (length b) (entry_size g))

  rest_length : (k : ℕ) (b : List ℕ) → length b ≡ suc k * entry_size g → length (drop (entry_size g) b) ≡ k * entry_size g
  rest_length k b h = simp length-drop (omega (arith, suc-mul k (entry_size g)))

  bytes_back : (k : ℕ) (b : List ℕ) (ts : List Token) → Bytes b → length b ≡ k * entry_size g → token_bytes g.width ts ≡ []
      → token_bytes g.width (entries_in g k b ++ ts) ≡ b
  bytes_back zero [] ts h l e = e
  bytes_back zero (x ∷ b) ts h l e = absurd (omega arith)
  bytes_back (suc k) b ts h l e =
      let m : entry_size g ≤ length b = omega (arith, suc-mul k (entry_size g)) in
      ap₂ (λ (x y : List ℕ). x ++ y) (entry_bytes_lem g b h m)
      (bytes_back k (drop (entry_size g) b) ts (bytes_drop (entry_size g) b h) (rest_length k b l) e)
      ∙ take-append-drop (entry_size g) b

  entries_links : (k : ℕ) (b control : List ℕ) (ts : List Token) → token_links g.width control (entries_in g k b ++ ts) ≡ token_links g.width control ts
  entries_links zero b control ts = refl
  entries_links (suc k) b control ts = entries_links k (drop (entry_size g) b) control ts

  entries_fit : (k : ℕ) (b : List ℕ) (ts : List Token) → Bytes b → length b ≡ k * entry_size g → TokensFit g.width ts
      → TokensFit g.width (entries_in g k b ++ ts)
  entries_fit zero b ts h l f = f
  entries_fit (suc k) b ts h l f =
      let m : entry_size g ≤ length b = omega (arith, suc-mul k (entry_size g)) in
      (entry_fits g b h m, entries_fit k (drop (entry_size g) b) ts (bytes_drop (entry_size g) b h) (rest_length k b l) f)

  -- a page comes first
  pub links_begin : (skip : ℕ) (ls : List Link) → token_bytes g.width (link_tokens g skip ls) ≡ []
  links_begin skip [] = refl
  links_begin skip (link p b ∷ ls) = refl

  pub links_fit : (skip : ℕ) (ls : List Link) → WholePages g skip ls → TokensFit g.width (link_tokens g skip ls)
  links_fit skip [] w = tt
  links_fit skip (link p b ∷ ls) w =
      let d = drop skip b in
      entries_fit (length d / entry_size g) d (link_tokens g 0 ls) (bytes_drop skip b w.0) (whole_length d w.1) (links_fit 0 ls w.2)

  opens_none : (ls : List Link) → Opens 0 [] ls
  opens_none [] = tt
  opens_none (link p b ∷ ls) = refl

  pub links_back : (skip : ℕ) (control : List ℕ) (ls : List Link) → WholePages g skip ls → Opens skip control ls
      → token_links g.width control (link_tokens g skip ls) ≡ ls
  links_back skip control [] w o = refl
  links_back skip control (link p b ∷ ls) w o =
      let d = drop skip b in
      let k = length d / entry_size g in
      let ts = link_tokens g 0 ls in
      let e = bytes_back k d ts (bytes_drop skip b w.0) (whole_length d w.1) (links_begin 0 ls) in
      ap₂ (λ (x : List ℕ) (l : List Link). link p x ∷ l) (ap₂ (λ (x y : List ℕ). x ++ y) (sym o) e ∙ take-append-drop skip b)
      (entries_links k d [] ts ∙ links_back 0 [] ls w.2 (opens_none ls))
