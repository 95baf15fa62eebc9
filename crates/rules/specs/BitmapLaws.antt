-- The lowest bit in which a bitmap differs from the pages in use.
use Rattle.std.specs.Prelude.{◌≡◌, List, ℕ, ◌+◌, ◌≤◌, ◌<◌}
use Rattle.rules.specs.PageSets.{bit, mem}
use Rattle.rules.specs.Bitmap.{bit_at}

-- d is the lowest of the n bits from k on in which the bytes differ from the pages in use; k + n if there is none
pub record IsLowest (bits used : List ℕ) (k n d : ℕ) : Type 0 where
  pub low : k ≤ d
  pub high : d ≤ k + n
  pub agree : (j : ℕ) → k ≤ j → j < d → bit_at bits j ≡ bit (mem j used)
  pub differs : d < k + n → bit_at bits d ≡ bit (mem d used) → ⊥
