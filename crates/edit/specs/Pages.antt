-- For contracts: the pages that an edit takes.
use Rattle.std.specs.Prelude.{◌≡◌, List, ◌∷◌, ℕ, ◌+◌, ◌≤◌, ◌<◌, length, take, drop, Option, Some, None}
use Rattle.rules.specs.PageSets.{free_pages}
use Rattle.rules.specs.Owners.{OwnerRecord}
use Rattle.owners.specs.Owned.{Represents}
use Rattle.owners.specs.Free.{free_from}
use Rattle.edit.specs.declared.Pages.{Pages}

-- of the free pages, rising, the first joins if `extra` is 1; the chain's pages are the next
pub record PagesTaken (used : List ℕ) (N extra pages : ℕ) (p : Pages) : Type 0 where
  pub enough : extra + pages ≤ length (free_pages used N)
  pub inside : p.below ≤ N
  pub lowest : free_pages used p.below ≡ take (extra + pages) (free_pages used N)
  pub joins_none : extra ≡ 0 → p.joins ≡ 0
  pub joins_is : extra ≡ 1 → free_pages used N ≡ p.joins ∷ free_from used (p.joins + 1) N
  pub rest : drop extra (free_pages used N) ≡ free_from used p.start N
  pub starts : free_from used p.start N ≡ p.start ∷ free_from used (p.start + 1) N

abbrev pub TakenIs : List ℕ → ℕ → ℕ → ℕ → Option Pages → Type 0
TakenIs used N extra pages (Some p) = PagesTaken used N extra pages p
TakenIs used N extra pages None = length (free_pages used N) < extra + pages

unfoldable pub Takes : List OwnerRecord → ℕ → ℕ → Option Pages → Type 0
Takes table extra pages r = (used : List ℕ) → Represents table used → TakenIs used (length table) extra pages r
