-- No well-formed image with the same tree and bitmap kind has fewer pages in use than the gathered one.
use Rattle.std.specs.Prelude.{◌≡◌, Bool, true, false, List, ◌++◌, ℕ, zero, suc, ◌+◌, ◌-◌, ◌≤◌, ◌<◌, length}
use Rattle.std.proofs.Common.{ap, arith, length-append, le-leb}
use Rattle.geometry.specs.declared.Geometry.{Geometry}
use Rattle.geometry.specs.Geometry.{Valid, data_capacity, first_entries, later_entries, bitmap_size}
use Rattle.geometry.specs.Number.{Bytes}
use Rattle.packet.specs.Packet.{View, view_of}
use Rattle.rules.specs.Chain.{one_view, views_of, Link, pages, content, linked, pages_for}
use Rattle.rules.proofs.ChainLaws.{length_pages, pages_least}
use Rattle.rules.specs.Tree.{Label, width, Items, end, page, file, dir, start_of, directory_links, own_pages, inner_pages, all_pages, Map, in_root, in_file, map_pages, Image, used, is_local}
use Rattle.rules.specs.Control.{Parent, the_root, sub_control}
use Rattle.rules.specs.Bitmap.{map_size, bitmap_of}
use Rattle.rules.specs.WellFormed.{HasPackets, HasBelow, map_packets, IsDirectory, Entries, MapHolds, WellFormed}
use Rattle.reading_theorems.specs.PacketLaws.{ByteView, byte_view}
use Rattle.reading_theorems.specs.SubControlLaws.{length_sub}
use Rattle.editing_theorems.specs.Capacity.{capacity_least, first_holds, slots_here, PagesHold}
use Rattle.editing_theorems.specs.DirectoryWrites.{packets_hold}
use Rattle.editing_theorems.specs.PathContents.{root_there, there_holds, content_size}
use Rattle.gathering.specs.Gather.{Bare, bare, BareImage, bare_of, fits_here, opens, slots_left, further, own_size, below_size, map_needs, gathered_size, gathered_image}
use Rattle.gathering.proofs.GatherPages.{length_gathered}

-- ---- an entry's slots
pub fits_true : (r : ℕ) (l : Label) → width l ≤ r → fits_here r l ≡ true
unfolding fits_here
fits_true r l h = le-leb (width l) r h

module _ (g : Geometry) where
  -- another directory may put an entry elsewhere; still it has a page for each that filling in order opens
  entry_case : (k n : ℕ) (l : Label) (b : Bare) (c : Bool) → ((r : ℕ) → k - width l ≤ r → further g r b ≤ n) → ((r : ℕ) → further g r b ≤ suc n) → k ≤ later_entries g
      → (r : ℕ) → opens c + further g (slots_left c (later_entries g) r l) b ≤ suc n
  entry_case k n l b true f h z r = omega (arith, h (r - width l))
  entry_case k n l b false f h z r = omega (arith, f (later_entries g - width l) (omega arith))

  -- a directory's entries, k slots being left to it on its page: filling in order with no fewer slots left opens no more pages, with fewer at most one more
  pub in_order_least : (t : Items) (k : ℕ) → PagesHold (later_entries g) (later_entries g) t → slots_here t ≤ k
      → ((r : ℕ) → k ≤ r → further g r (bare t) ≤ length (own_pages t)) × (k ≤ later_entries g → (r : ℕ) → further g r (bare t) ≤ suc (length (own_pages t)))
  in_order_least end k c h = (λ r z. omega arith, λ z r. omega arith)
  in_order_least (page p t) k c h =
      let j = in_order_least t (later_entries g) c.1 c.0 in
      (λ r z. j.1 (omega arith) r, λ z r. omega (arith, j.1 (omega arith) r))
  in_order_least (file l ls t) k c h =
      let j = in_order_least t (k - width l) c (omega arith) in (
        λ r z. rw (fits_true r l (omega arith)) (omega (arith, j.0 (r - width l) (omega arith))),
        λ z r. entry_case k (length (own_pages t)) l (bare t) (fits_here r l) j.0 (j.1 (omega arith)) z r,
      )
  in_order_least (dir l d t) k c h =
      let j = in_order_least t (k - width l) c (omega arith) in (
        λ r z. rw (fits_true r l (omega arith)) (omega (arith, j.0 (r - width l) (omega arith))),
        λ z r. entry_case k (length (own_pages t)) l (bare t) (fits_here r l) j.0 (j.1 (omega arith)) z r,
      )

  -- a whole directory
  pub own_least : (t : Items) → IsDirectory t → PagesHold (first_entries g) (later_entries g) t → own_size g (bare t) ≤ length (own_pages t)
  own_least end i c = absurd i
  own_least (page p t) i c = omega (arith, (in_order_least t (first_entries g) c.1 c.0).0 (first_entries g) (omega arith))
  own_least (file l ls t) i c = absurd i
  own_least (dir l d t) i c = absurd i

  module _ (valid : Valid g) (v : View) (bv : ByteView g v) where
    -- a chain of bytes
    pub chain_least : (n : ℕ) (ls : List Link) → 0 < length ls → HasPackets v (linked ls) → n ≤ length (content ls) → pages_for (data_capacity g) n ≤ length ls
    chain_least n ls h s e = pages_least (data_capacity g) n (length ls) (omega (arith, capacity_least g valid)) h (omega (arith, content_size g v bv ls s))

    -- a subdirectory that stands holds no more entries than its pages can
    pub sub_holds : (here : Parent) (d : Items) → HasPackets v (linked (directory_links g (sub_control g.width here) d)) → PagesHold (first_entries g) (later_entries g) d
    sub_holds here d s = packets_hold g valid v bv (sub_control g.width here) (first_entries g) (λ k m. first_holds g valid k (omega (arith, length_sub g here))) d s

    -- every chain below a directory
    pub below_least : (levels : ℕ) (here : Parent) (t : Items) → Entries g.width levels t → HasBelow g (one_view v) here t → below_size g (bare t) ≤ length (inner_pages t)
    below_least levels here end w s = omega arith
    below_least levels here (page p t) w s = below_least levels here t w s
    below_least levels here (file l ls t) w s = omega (
      arith,
      chain_least (length (content ls)) ls w.2 s.0 (omega arith),
      below_least levels here t w.3 s.1,
      length_pages ls,
      length-append (pages ls) (inner_pages t),
    )
    below_least zero here (dir l d t) w s = absurd w.4
    below_least (suc levels) here (dir l d t) w s = omega (
      arith,
      own_least d w.2 (sub_holds here d s.0),
      below_least levels (record { name = l.name; start = start_of d }) d w.4 s.1,
      below_least (suc levels) here t w.5 s.2,
      length-append (own_pages d) (inner_pages d ++ inner_pages t),
      length-append (inner_pages d) (inner_pages t),
    )

    -- the bitmap
    pub map_least : (bits : List ℕ) (m : Map) → MapHolds g bits m → length bits ≡ map_size g m → HasPackets v (map_packets m) → map_needs g (is_local m) ≤ length (map_pages m)
    map_least bits in_root h z s = omega arith
    map_least bits (in_file ls) h z s = omega (arith, length_pages ls, chain_least (bitmap_size g) ls h.0 s (omega (arith, ap length h.1, z)))

-- ---- the whole image
pub root_pages_hold : (g : Geometry) (image : List ℕ) (i : Image) → Bytes image → WellFormed g image i → PagesHold (first_entries g) (later_entries g) i.tree
root_pages_hold g image i bytes w = there_holds g w.fits.valid (views_of g image) (byte_view g image bytes) i.tree (root_there g image i w)

pub size_least : (g : Geometry) (image : List ℕ) (i : Image) → Bytes image → WellFormed g image i → gathered_size g (bare_of i) ≤ length (used i)
size_least g image i bytes w =
    let v = view_of g image in
    let bv = byte_view g image bytes in
    let valid = w.fits.valid in
    let bits = bitmap_of g (used i) i.map in
    omega (
      arith,
      own_least g i.tree w.holds.is_directory (root_pages_hold g image i bytes w),
      below_least g valid v bv 8 the_root i.tree w.holds.entries w.holds.packets.below,
      map_least g valid v bv bits i.map w.holds.map w.holds.room w.holds.packets.map,
      length-append (all_pages i.tree) (map_pages i.map),
      length-append (own_pages i.tree) (inner_pages i.tree),
    )

pub gathered_least : (g : Geometry) (b : BareImage) (image : List ℕ) (i : Image) → Bytes image → WellFormed g image i → bare_of i ≡ b → length (used (gathered_image g b)) ≤ length (used i)
gathered_least g b image i bytes w e = omega (arith, length_gathered g b, size_least g image i bytes w, ap (gathered_size g) e)
