-- For contracts: the pages that a format writes.
use Rattle.std.specs.Prelude.{Bool, List, ◌∷◌, ◌++◌, ℕ}
use Rattle.geometry.specs.declared.Geometry.{Geometry}
use Rattle.geometry.specs.Geometry.{data_capacity, bitmap_size}
use Rattle.geometry.specs.Number.{number_bytes}
use Rattle.packet.specs.Packet.{Write, after_writes}
use Rattle.rules.specs.Chain.{linked, chain_of, pages_for}
use Rattle.rules.specs.Control.{marker}
use Rattle.rules.specs.Format.{upward, empty_image, format_writes}
use Rattle.rules.specs.Owners.{OwnerRecord}
use Rattle.marks.specs.Marks.{marks_from}

-- marker, map address 0, bitmap control, four bytes
unfoldable pub control_field : ℕ → ℕ → List ℕ → List ℕ
control_field n control four = marker n ∷ (number_bytes n 0 ++ (control ∷ four))

-- the pages of a new bitmap file
unfoldable pub map_page_count : Geometry → ℕ
map_page_count g = pages_for (data_capacity g) (bitmap_size g)

-- the packets of a new bitmap file whose bits an owner table and a bound tell
unfoldable pub bits_writes : Geometry → List OwnerRecord → ℕ → List Write
bits_writes g table below = linked (chain_of (data_capacity g) (upward 1 (map_page_count g)) (marks_from table below 0 (bitmap_size g)))

-- the image without entries, written over an image
unfoldable pub emptied : Geometry → Bool → List ℕ → List ℕ
emptied g local image = after_writes g (format_writes g (empty_image g local)) image
