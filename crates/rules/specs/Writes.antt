-- The ordered page writes of an edit.
use Rattle.std.specs.Prelude.{Bool, ◌&&◌, List, [], ◌∷◌, ◌++◌, ℕ, eqb, take}
use Rattle.geometry.specs.declared.Geometry.{Geometry}
use Rattle.geometry.specs.Choose.{choose}
use Rattle.packet.specs.Packet.{Write, write, same_list}
use Rattle.rules.specs.Chain.{Link, linked}
use Rattle.rules.specs.Tree.{Items, directory_links, all_pages, Map, in_root, in_file, map_pages, Image, used}
use Rattle.rules.specs.Control.{root_control, sub_control}
use Rattle.rules.specs.Bitmap.{bitmap_of, refill, remap}
use Rattle.rules.specs.Paths.{Site, at_root, below, change_at}

-- two page writes are equal
abbrev pub same_write : Write → Write → Bool
same_write (write p b n) (write q c m) = eqb p q && (same_list b c && eqb n m)

-- the packets of a changed chain that differ from those before, place by place
abbrev pub changes : List Write → List Write → List Write
changes [] new = new
changes (w ∷ ws) [] = []
changes (w ∷ ws) (u ∷ us) = choose (same_write w u) (changes ws us) (u ∷ changes ws us)

abbrev pub backwards : List Write → List Write
backwards [] = []
backwards (w ∷ ws) = backwards ws ++ (w ∷ [])

-- the control field of the directory at a site, where the bitmap has these bytes
abbrev pub control_of : ℕ → List ℕ → Map → Site → List ℕ
control_of n bits m at_root = root_control n bits m
control_of n bits m (below up) = sub_control n up

-- the bitmap's pages with these bytes: page 0 for a local bitmap, else its file's pages in chain order
abbrev pub map_writes : Geometry → List ℕ → Items → Map → List Write
map_writes g bits root in_root = take 1 (linked (directory_links g (root_control g.width bits in_root) root))
map_writes g bits root (in_file ls) = linked (refill ls bits)

-- an edit of one directory: where it stands, its items before and after, and the new chain of the file it puts
pub record Edit : Type 0 where
  pub site : Site
  pub before : Items
  pub after : Items
  pub chain : List Link

-- the image after an edit of the directory that the names lead to: the bitmap has the pages then in use
unfoldable pub edited : Geometry → List ℕ → Edit → Image → Image
edited g names e i =
    let t = change_at names (λ _. e.after) i.tree in
    record { tree = t; map = remap (bitmap_of g (all_pages t ++ map_pages i.map) i.map) i.map }

-- in order: bitmap pages with the bytes `marks`; the file's pages, rising; a new directory page, then the directory page that makes the change visible;
-- bitmap pages with the pages then in use. A plain edit marks nothing beforehand: its marks are the bitmap as it stands
unfoldable pub edit_writes : Geometry → List ℕ → Edit → Image → Image → List Write
edit_writes g marks e i j =
    let control = control_of g.width marks i.map e.site in
    map_writes g marks i.tree i.map
    ++ (linked e.chain
    ++ (backwards (changes (linked (directory_links g control e.before)) (linked (directory_links g control e.after)))
    ++ map_writes g (bitmap_of g (used j) j.map) j.tree j.map))
