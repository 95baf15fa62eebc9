-- For contracts: the free pages from a page on, and the bound below which the lowest of them lie.
use Rattle.std.specs.Prelude.{◌≡◌, List, [], ◌∷◌, ◌++◌, ℕ, zero, suc, ◌+◌, ◌-◌, ◌≤◌, ◌<◌, length, take, Option, Some, None}
use Rattle.geometry.specs.Choose.{choose}
use Rattle.rules.specs.PageSets.{mem, free_pages}
use Rattle.rules.specs.Owners.{OwnerRecord}
use Rattle.owners.specs.Owned.{Represents}

-- the pages that are not in use among the n from page k on, rising
unfoldable pub free_among : List ℕ → ℕ → ℕ → List ℕ
free_among used k zero = []
free_among used k (suc n) = choose (mem k used) [] (k ∷ []) ++ free_among used (suc k) n

-- the pages from k on below N that are not in use, rising
unfoldable pub free_from : List ℕ → ℕ → ℕ → List ℕ
free_from used k N = free_among used k (N - k)

-- r is the first of them, or N if there is none
pub data Next (used : List ℕ) (k N r : ℕ) : Type 0 where
  found : r < N → free_from used k N ≡ r ∷ free_from used (r + 1) N → Next used k N r
  none : r ≡ N → free_from used k N ≡ [] → Next used k N r

unfoldable pub NextFree : List OwnerRecord → ℕ → ℕ → Type 0
NextFree table from r = (used : List ℕ) → Represents table used → Next used from (length table) r

-- the lowest free pages, so many of them, are the free pages below a bound
pub record RoomBelow (used : List ℕ) (N need below : ℕ) : Type 0 where
  pub inside : below ≤ N
  pub enough : need ≤ length (free_pages used N)
  pub lowest : free_pages used below ≡ take need (free_pages used N)

-- there are so many free pages, or not
abbrev pub RoomIs : List ℕ → ℕ → ℕ → Option ℕ → Type 0
RoomIs used N need (Some b) = RoomBelow used N need b
RoomIs used N need None = length (free_pages used N) < need

unfoldable pub Rooms : List OwnerRecord → ℕ → Option ℕ → Type 0
Rooms table need r = (used : List ℕ) → Represents table used → RoomIs used (length table) need r
