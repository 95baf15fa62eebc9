-- For contracts: the bytes of the bitmap as an owner table has them, with every page below a bound marked.
use Rattle.std.specs.Prelude.{List, [], ◌∷◌, ℕ, zero, suc, ◌+◌, ◌*◌}
use Rattle.owners.specs.Owned.{page_bit}
use Rattle.rules.specs.Owners.{OwnerRecord}

-- the byte for the n pages from k on
abbrev pub byte_marks : List OwnerRecord → ℕ → ℕ → ℕ → ℕ
byte_marks table below k zero = 0
byte_marks table below k (suc n) = page_bit table below k + 2 * byte_marks table below (k + 1) n

-- n bytes for the pages from k on
unfoldable pub marks_from : List OwnerRecord → ℕ → ℕ → ℕ → List ℕ
marks_from table below k zero = []
marks_from table below k (suc n) = byte_marks table below k 8 ∷ marks_from table below (k + 8) n
