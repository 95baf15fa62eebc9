-- Document 02, A7: the gathered copy of an image. The tree without its pages, the one image that it determines, that image's bytes, and the call.
use Rattle.std.specs.Prelude.{Bool, true, false, List, [], ◌++◌, ℕ, suc, ◌+◌, ◌-◌, ◌*◌, leb, eqb, length, replicate}
use Rattle.geometry.specs.declared.Geometry.{Geometry}
use Rattle.geometry.specs.Choose.{choose}
use Rattle.geometry.specs.Geometry.{data_capacity, first_entries, later_entries, bitmap_size}
use Rattle.packet.specs.Packet.{Write, after_writes}
use Rattle.rules.specs.Result.{Res, ok, err, and_then as ◌>>=◌}
use Rattle.rules.specs.Chain.{views_of, Link, content, linked, chain_of, pages_for}
use Rattle.rules.specs.Tree.{Label, width, Items, end, page, file, dir, start_of, directory_links, Map, in_root, in_file, is_local, Image, used}
use Rattle.rules.specs.Control.{Parent, the_root, root_control, sub_control}
use Rattle.rules.specs.Bitmap.{bitmap_from, bitmap_of}
use Rattle.rules.specs.Check.{check}
use Rattle.rules.specs.WellFormed.{map_packets}
use Rattle.rules.specs.Format.{upward}
use Rattle.rules.specs.Calls.{shape, in_geometry, table_for}

-- ---- the tree without its pages: labels (names, extension bytes, stamps), file bytes, order of entries
pub data Bare : Type 0 where
  bare_end : Bare
  bare_file : Label → List ℕ → Bare → Bare
  bare_dir : Label → Bare → Bare → Bare

abbrev pub bare : Items → Bare
bare end = bare_end
bare (page p t) = bare t
bare (file l ls t) = bare_file l (content ls) (bare t)
bare (dir l d t) = bare_dir l (bare d) (bare t)

-- and the bitmap's kind: in the root's control field, or in a file
pub record BareImage : Type 0 where
  pub tree : Bare
  pub local : Bool

abbrev pub bare_of : Image → BareImage
bare_of i = record { tree = bare i.tree; local = is_local i.map }

-- ---- directory pages filled in order
-- an entry with its stamps goes to the page at hand if r slots are left there that it fits into
unfoldable pub fits_here : ℕ → Label → Bool
fits_here r l = leb (width l) r

-- else to a page that is opened for it
abbrev pub opens : Bool → ℕ
opens true = 0
opens false = 1

abbrev pub opened : Bool → ℕ → Items → Items
opened true q t = t
opened false q t = page q t

-- the slots left after it, where a later page has so many
abbrev pub slots_left : Bool → ℕ → ℕ → Label → ℕ
slots_left true later r l = r - width l
slots_left false later r l = later - width l

module _ (g : Geometry) where
  abbrev pub left_after : ℕ → Label → ℕ
  left_after r l = slots_left (fits_here r l) (later_entries g) r l

  -- the pages that a directory's entries open, r slots being left on the page at hand
  abbrev pub further : ℕ → Bare → ℕ
  further r bare_end = 0
  further r (bare_file l bs t) = opens (fits_here r l) + further (left_after r l) t
  further r (bare_dir l d t) = opens (fits_here r l) + further (left_after r l) t

  -- the pages of a directory's own chain, of a file's, and of every chain below a directory
  abbrev pub own_size : Bare → ℕ
  own_size b = suc (further (first_entries g) b)

  abbrev pub file_size : List ℕ → ℕ
  file_size bs = pages_for (data_capacity g) (length bs)

  abbrev pub below_size : Bare → ℕ
  below_size bare_end = 0
  below_size (bare_file l bs t) = file_size bs + below_size t
  below_size (bare_dir l d t) = own_size d + (below_size d + below_size t)

  -- ---- the chains, consecutive
  -- a file's from page a up, its packets full but the last
  abbrev pub file_chain : ℕ → List ℕ → List Link
  file_chain a bs = chain_of (data_capacity g) (upward a (file_size bs)) bs

  -- a directory's entries, r slots being left on the page at hand: the pages that they open from q up, the chains below it from a up, in walk order
  abbrev pub laid : ℕ → ℕ → ℕ → Bare → Items
  laid r q a bare_end = end
  laid r q a (bare_file l bs t) = opened (fits_here r l) q (file l (file_chain a bs) (laid (left_after r l) (q + opens (fits_here r l)) (a + file_size bs) t))
  laid r q a (bare_dir l d t) =
      opened (fits_here r l) q (dir l (page a (laid (first_entries g) (a + 1) (a + own_size d) d)) (laid (left_after r l) (q + opens (fits_here r l)) (a + (own_size d + below_size d)) t))

  -- ---- the gathered image: page 0, then the bitmap file, the root's further pages, each entry's chain in walk order
  abbrev pub map_needs : Bool → ℕ
  map_needs true = 0
  map_needs false = pages_for (data_capacity g) (bitmap_size g)

  -- the pages in use
  abbrev pub gathered_size : BareImage → ℕ
  gathered_size b = suc (map_needs b.local + (further (first_entries g) b.tree + below_size b.tree))

  abbrev pub gathered_tree : BareImage → Items
  gathered_tree b = let q = suc (map_needs b.local) in page 0 (laid (first_entries g) q (q + further (first_entries g) b.tree) b.tree)

  -- the bitmap file from page 1 up, its packets full but the last; its bits are the pages in use
  abbrev pub gathered_map : Bool → List ℕ → Map
  gathered_map true in_use = in_root
  gathered_map false in_use = in_file (chain_of (data_capacity g) (upward 1 (map_needs false)) (bitmap_from in_use 0 (bitmap_size g)))

  unfoldable pub gathered_image : BareImage → Image
  gathered_image b = record { tree = gathered_tree b; map = gathered_map b.local (upward 0 (gathered_size b)) }

  -- ---- every packet of an image: all below a directory that is known as `here`; the root's chain, all below it, the bitmap file's chain
  abbrev pub below_writes : Parent → Items → List Write
  below_writes here end = []
  below_writes here (page p t) = below_writes here t
  below_writes here (file l ls t) = linked ls ++ below_writes here t
  below_writes here (dir l d t) = linked (directory_links g (sub_control g.width here) d) ++ (below_writes (record { name = l.name; start = start_of d }) d ++ below_writes here t)

  abbrev pub image_writes : Image → List Write
  image_writes i = linked (directory_links g (root_control g.width (bitmap_of g (used i) i.map) i.map) i.tree) ++ (below_writes the_root i.tree ++ map_packets i.map)

  -- ---- the copy's bytes: all FF, with every packet of the gathered image written over them
  unfoldable pub gathered_bytes : BareImage → List ℕ
  gathered_bytes b = after_writes g (image_writes (gathered_image b)) (replicate (g.size * g.pages) 0xFF)

  -- the copy of an accepted image; else the check's answer
  unfoldable pub gather : List ℕ → Res (List ℕ)
  gather image = do
    i ← check g (views_of g image)
    ok (gathered_bytes (bare_of i))

-- ---- the call: the answer, the second image and the owner table. 1 first of all if the second image has another length; then the check's answers for the source.
-- The owner table is the copy's when done, the source's when the check refuses it, as it was after 1
module _ (P N : ℕ) (image second table : List ℕ) where
  abbrev pub gathered : Geometry → Res (List ℕ) → Res (Unit {0}) × List ℕ × List ℕ
  gathered g (ok copy) = (ok tt, copy, table_for P N image table g copy)
  gathered g (err n p) = (err n p, second, table_for P N image table g image)

  unfoldable pub gather_call : Res (Unit {0}) × List ℕ × List ℕ
  gather_call = choose (eqb (length second) (length image)) (in_geometry (shape P N image table) (err 1 0, second, table) (λ g. gathered g (gather g image))) (err 1 0, second, table)
