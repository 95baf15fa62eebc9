-- For contracts: what the owner table says of a page, the pages that it has an owner at, and the bits that it gives a bitmap.
use Rattle.std.specs.Prelude.{◌≡◌, Bool, not, List, [], ◌∷◌, ℕ, zero, suc, eqb, ltb, length, get_or, set, replicate}
use Rattle.geometry.specs.Choose.{choose}
use Rattle.rules.specs.PageSets.{count}
use Rattle.rules.specs.Owners.{OwnerRecord, free}

-- the owner of a page; 0 for a free page, and for one past the table
unfoldable pub owner_at : List OwnerRecord → ℕ → ℕ
owner_at table p = (get_or table p free).owner

-- a page has an owner
unfoldable pub is_owned : List OwnerRecord → ℕ → Bool
is_owned table p = not (eqb (owner_at table p) 0)

-- 1 for a number above 0
abbrev pub nonzero : ℕ → ℕ
nonzero zero = 0
nonzero (suc n) = 1

-- the table has an owner at just the claimed pages
abbrev pub Represents : List OwnerRecord → List ℕ → Type 0
Represents table claimed = (x : ℕ) → count x claimed ≡ nonzero (owner_at table x)

-- a page's bit in the bitmap: 1 for every page below a bound, and for each that has an owner
unfoldable pub page_bit : List OwnerRecord → ℕ → ℕ → ℕ
page_bit table below p = choose (ltb p below) 1 (nonzero (owner_at table p))

-- with that bound, the bits of the table are those of these pages in use
abbrev pub Marks : List OwnerRecord → ℕ → List ℕ → Type 0
Marks table below used = (x : ℕ) → count x used ≡ page_bit table below x

-- every page below a bound has an owner then, and each that had one
pub record ClaimsBelow (table : List OwnerRecord) (below : ℕ) (after : List OwnerRecord) : Type 0 where
  pub sized : length after ≡ length table
  pub owned : (x : ℕ) → nonzero (owner_at after x) ≡ page_bit table below x

-- a table of N free pages
abbrev pub all_free : ℕ → List OwnerRecord
all_free N = replicate N free

-- the table with a page free again
abbrev pub released : List OwnerRecord → ℕ → List OwnerRecord
released table p = set table p free

-- the table with these pages free again
abbrev pub freed : List ℕ → List OwnerRecord → List OwnerRecord
freed [] table = table
freed (p ∷ ps) table = freed ps (released table p)
