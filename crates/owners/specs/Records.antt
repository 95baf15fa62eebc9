-- For contracts: the owner table as a caller lends it, bytes, as its records.
use Rattle.std.specs.Prelude.{◌≡◌, List, [], ◌∷◌, ℕ, ◌+◌, ◌*◌, length}
use Rattle.rules.specs.Owners.{OwnerRecord, held}
use Rattle.owners.specs.Owned.{all_free}

-- the records in bytes, four for each; a rest of fewer bytes belongs to none
unfoldable pub records_of : List ℕ → List OwnerRecord
records_of [] = []
records_of (a ∷ []) = []
records_of (a ∷ b ∷ []) = []
records_of (a ∷ b ∷ c ∷ []) = []
records_of (a ∷ b ∷ c ∷ d ∷ bytes) = held (a + 256 * b) (c + 256 * d) ∷ records_of bytes

-- bytes of just N records, all of free pages
pub record Empty (N : ℕ) (bytes : List ℕ) : Type 0 where
  pub sized : length bytes ≡ 4 * N
  pub free : records_of bytes ≡ all_free N
