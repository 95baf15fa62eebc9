-- Document 01, "Edits": format.
use Rattle.std.specs.Prelude.{Bool, not, ◌||◌, List, [], ◌∷◌, ◌++◌, ℕ, zero, suc, ◌+◌}
use Rattle.geometry.specs.declared.Geometry.{Geometry}
use Rattle.geometry.specs.Choose.{choose}
use Rattle.geometry.specs.Geometry.{data_capacity, bitmap_size}
use Rattle.packet.specs.Packet.{Write, after_writes}
use Rattle.rules.specs.Result.{Res, ok, and_after as ◌>>◌, refuse_unless}
use Rattle.rules.specs.Chain.{linked, chain_of, pages_for}
use Rattle.rules.specs.Tree.{end, page, directory_links, Map, in_root, in_file, Image, used}
use Rattle.rules.specs.Control.{local_allowed, root_control}
use Rattle.rules.specs.Bitmap.{bitmap_from, bitmap_of}
use Rattle.rules.specs.Writes.{map_writes}

-- k pages from page p upward
abbrev pub upward : ℕ → ℕ → List ℕ
upward p zero = []
upward p (suc k) = p ∷ upward (p + 1) k

-- the bitmap file from page 1 upward, with full packets
abbrev pub new_map : Geometry → Map
new_map g =
    let ps = upward 1 (pages_for (data_capacity g) (bitmap_size g)) in
    in_file (chain_of (data_capacity g) ps (bitmap_from (0 ∷ ps) 0 (bitmap_size g)))

-- an image without entries: page 0 and, if asked, the bitmap file
unfoldable pub empty_image : Geometry → Bool → Image
empty_image g local = record { tree = page 0 end; map = choose local in_root (new_map g) }

unfoldable pub format_writes : Geometry → Image → List Write
format_writes g i =
    let bits = bitmap_of g (used i) i.map in
    linked (directory_links g (root_control g.width bits i.map) i.tree) ++ map_writes g bits i.tree i.map

-- the image after a format; 4 for a local bitmap with N above 32
unfoldable pub format : Geometry → Bool → List ℕ → Res (List ℕ)
format g local image = do
  refuse_unless (not local || local_allowed g) 4 0
  ok (after_writes g (format_writes g (empty_image g local)) image)
