-- For contracts: bytes stored as a chain of the lowest free pages from a page on.
use Rattle.std.specs.Prelude.{◌≡◌, List, ℕ, ◌≤◌, length, take}
use Rattle.geometry.specs.declared.Geometry.{Geometry}
use Rattle.geometry.specs.Geometry.{data_capacity}
use Rattle.packet.specs.Packet.{Write}
use Rattle.packet.specs.declared.Budget.{Budget}
use Rattle.packet.specs.Budgets.{Progress, write_all}
use Rattle.rules.specs.Chain.{linked, chain_of, pages_for}
use Rattle.rules.specs.Owners.{OwnerRecord}
use Rattle.owners.specs.Owned.{Represents}
use Rattle.owners.specs.Free.{free_from}

-- the table has enough free pages from a page on for so many bytes
pub record HasRoom (g : Geometry) (table : List OwnerRecord) (from size : ℕ) : Type 0 where
  pub used : List ℕ
  pub represents : Represents table used
  pub enough : pages_for (data_capacity g) size ≤ length (free_from used from g.pages)

-- the pages that bytes take, and their writes
abbrev pub chosen : Geometry → List ℕ → ℕ → List ℕ → List ℕ
chosen g used from bytes = take (pages_for (data_capacity g) (length bytes)) (free_from used from g.pages)

abbrev pub store_writes : Geometry → List ℕ → ℕ → List ℕ → List Write
store_writes g used from bytes = linked (chain_of (data_capacity g) (chosen g used from bytes) bytes)

unfoldable pub Stores : Geometry → List OwnerRecord → ℕ → List ℕ → List ℕ → Budget → List ℕ → Budget → Type 0
Stores g table from bytes image budget after left =
    (used : List ℕ) → Represents table used → ◌≡◌ {A = Progress} (record { image = after; budget = left }) (write_all g (store_writes g used from bytes) (record { image = image; budget = budget }))
