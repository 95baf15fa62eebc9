-- An edit of one directory, written page by page: the image after it is well formed with the edited tree, and other bytes stay.
use Rattle.std.specs.Prelude.{◌≡◌, refl, ℕ, ◌+◌, ◌≤◌, length}
use Rattle.std.proofs.Math.Path.{ap}
use Rattle.std.proofs.Common.{ap₂, sym, ◌∙◌, arith}
use mathlib.Core.List.{List, ◌++◌}
use Rattle.geometry.specs.declared.Geometry.{Geometry}
use Rattle.geometry.specs.Geometry.{Fit, Valid, first_entries, later_entries}
use Rattle.geometry.specs.Number.{Bytes}
use Rattle.packet.specs.Packet.{View, view_of, Write, after_writes}
use Rattle.rules.specs.PageSets.{count, range, Within}
use Rattle.rules.proofs.PageSetLaws.{count_append, range_le}
use Rattle.rules.specs.Chain.{one_view, views_of, Link, pages, linked}
use Rattle.rules.specs.Tree.{Items, start_of, directory_links, own_pages, inner_pages, all_pages, map_pages, Image, used}
use Rattle.rules.specs.Control.{Parent, the_root}
use Rattle.rules.specs.Bitmap.{map_size, bitmap_from, bitmap_of, remap}
use Rattle.rules.proofs.BitmapLaws.{length_bitmap, bytes_bitmap, pages_remap}
use Rattle.rules.specs.WellFormed.{HasPackets, HasBelow, HasParts, map_packets, WellFormedWith, WellFormed}
use Rattle.rules.specs.Paths.{at_root, Place, root_place, change_at}
use Rattle.rules.specs.Writes.{changes, backwards, control_of, map_writes, Edit, edited, edit_writes}
use Rattle.rules.specs.Demand2.{EditDone}
use Rattle.reading_theorems.specs.PacketLaws.{byte_view}
use Rattle.reading_theorems.specs.Directory.{all_split}
use Rattle.editing_theorems.specs.Capacity.{PagesHold, first_holds, holds_first}
use Rattle.editing_theorems.specs.AfterWrites.{write_pages, WritesFit, after_writes_append, length_after_writes, fit_after_writes, bytes_after_writes, view_stays, after_writes_packets, after_writes_same}
use Rattle.editing_theorems.specs.HeldPackets.{pages_linked, count_directory, count_map, packets_same, fits_join, image_stands}
use Rattle.editing_theorems.specs.DirectoryWrites.{packets_hold, directory_fits, changes_less, changes_fit, changes_stand, count_backwards, backwards_fit, backwards_stand}
use Rattle.editing_theorems.specs.MadeWrites.{made_rest}
use Rattle.editing_theorems.specs.MapWrites.{remap_same, map_standing, map_size_lem, control_length, control_bytes, map_fits, map_pages_lem, map_holds, map_written}
use Rattle.editing_theorems.specs.Contexts.{Context, filled_all, around_all, site_at, above_at, levels_at, all_filled_all, start_filled_all, Located}
use Rattle.editing_theorems.specs.ContextLaws.{DirectoryIn, place_stands, place_changed, Shaped, shaped_at, shaped_changed}

-- an edit of a directory d to e, which has so many levels left and is known as `here` to those below it: it puts a chain, a file's or a new directory's,
-- and `kept` are the pages below the directory that stay in use
pub record DirectoryEdit (g : Geometry) (levels : ℕ) (here : Parent) (d e : Items) (chain : List Link) (kept : List ℕ) : Type 0 where
  pub start : start_of e ≡ start_of d
  pub shaped : Shaped g.width levels d → Shaped g.width levels e
  -- no page gets more slots taken than it holds
  pub holds : PagesHold (first_entries g) (later_entries g) d → PagesHold (first_entries g) (later_entries g) e
  -- the directory keeps its pages
  pub own : (x : ℕ) → count x (own_pages d) ≤ count x (own_pages e)
  pub inner : (x : ℕ) → count x (inner_pages e) ≡ count x kept + count x (pages chain)
  pub stands : (v w : View) → ((x : ℕ) → 1 ≤ count x kept → w x ≡ v x) → HasBelow g (one_view v) here d → HasPackets w (linked chain) → HasBelow g (one_view w) here e

-- the tree and the pages of an edited image
pub tree_edited : (g : Geometry) (names : List ℕ) (e : Edit) (i : Image) → (edited g names e i).tree ≡ change_at names (λ _. e.after) i.tree
unfolding edited
tree_edited g names e i = refl

pub used_edited : (g : Geometry) (names : List ℕ) (e : Edit) (i : Image) → used (edited g names e i) ≡ all_pages (change_at names (λ _. e.after) i.tree) ++ map_pages i.map
unfolding edited
used_edited g names e i =
    let t = change_at names (λ _. e.after) i.tree in
    ap (λ (l : List ℕ). all_pages t ++ l) (pages_remap (bitmap_of g (all_pages t ++ map_pages i.map) i.map) i.map)

-- a directory of an image that stands with these bitmap bytes: the tree, and the place that names lead to in it
pub record DirectoryOf (g : Geometry) (image marks : List ℕ) : Type 0 where
  pub tree : Image
  pub fit : Fit g image
  pub stands : WellFormedWith g (views_of g image) marks tree
  pub bytes : Bytes image
  pub names : List ℕ
  pub place : Place
  pub located : Located names (root_place tree.tree) place

-- of a well-formed image
abbrev pub directory_of : (g : Geometry) (image : List ℕ) (i : Image) → WellFormed g image i → Bytes image → (names : List ℕ) (place : Place) → Located names (root_place i.tree) place
    → DirectoryOf g image (bitmap_of g (used i) i.map)
directory_of g image i well bytes names place located = record { tree = i; fit = well.fits; stands = well.holds; bytes = bytes; names = names; place = place; located = located }

module _ {g : Geometry} {image marks : List ℕ} (D : DirectoryOf g image marks) where
  open D use {tree, fit, stands, bytes, names, place, located}

  abbrev valid : Valid g
  valid = fit.valid

  abbrev pub v₀ : View
  v₀ = view_of g image

  abbrev d : Items
  d = place.items

  abbrev cs : List Context
  cs = located.contexts

  -- the levels left at the place
  abbrev pub levels : ℕ
  levels = levels_at D.located.contexts 8

  pub parts : HasParts g (views_of g image) marks D.tree.tree D.tree.map
  parts = stands.packets

  pub root_stands : DirectoryIn g marks D.tree.map (views_of g image) at_root the_root (filled_all D.located.contexts D.place.items)
  root_stands = rw located.whole (record { own = parts.own; below = parts.below })

  pub root_shaped : Shaped g.width 8 (filled_all D.located.contexts D.place.items)
  root_shaped = rw located.whole (record { is_directory = stands.is_directory; names = stands.names; entries = stands.entries })

  pub here_stands : DirectoryIn g marks D.tree.map (views_of g image) D.place.site D.place.here D.place.items
  here_stands = rw (located.site_is, located.here_is) (place_stands g marks tree.map (views_of g image) cs at_root the_root d root_stands)

  -- the directory at the place has names and nesting as it must, and no page of it is too full
  pub place_shaped : Shaped g.width levels D.place.items
  place_shaped = shaped_at cs 8 d root_shaped

  pub place_holds : PagesHold (first_entries g) (later_entries g) D.place.items
  place_holds =
      let control = control_of g.width marks tree.map place.site in
      let l = control_length g valid marks tree.map stands.room place.site in
      packets_hold g valid v₀ (byte_view g image bytes) control (first_entries g) (λ k h. first_holds g valid k (omega (arith, l))) d here_stands.own

-- an edit of it: the directory after it, the new chain, the pages below the directory that stay in use
pub record OneEdit {g : Geometry} {image marks : List ℕ} (D : DirectoryOf g image marks) : Type 0 where
  pub after : Items
  pub chain : List Link
  pub kept : List ℕ
  pub edit : DirectoryEdit g (levels D) D.place.here D.place.items after chain kept
  pub fits : WritesFit g (linked chain)
  pub apart : Within g.pages (all_pages (change_at D.names (λ _. after) D.tree.tree) ++ map_pages D.tree.map)

module _ {g : Geometry} {image marks : List ℕ} {D : DirectoryOf g image marks} (E : OneEdit D) where
  open D use {tree, fit, stands, bytes, names, place, located}
  open E use {after, chain, kept, edit, fits, apart}

  abbrev pub the_edit : Edit
  the_edit = record { site = D.place.site; before = D.place.items; after = E.after; chain = E.chain }

  -- the whole tree after it, and the pages then in use
  abbrev pub whole : Items
  whole = filled_all D.located.contexts E.after

  abbrev pub left : List ℕ
  left = all_pages (change_at D.names (λ _. E.after) D.tree.tree) ++ map_pages D.tree.map

  pub tree_is : change_at D.names (λ _. E.after) D.tree.tree ≡ whole
  tree_is = located.change (λ _. after)

  pub left_is : left ≡ all_pages whole ++ map_pages D.tree.map
  left_is = ap (λ (t : Items). all_pages t ++ map_pages tree.map) tree_is

  -- no page of these is another's
  pub clear : (x : ℕ) → count x (around_all D.located.contexts) + count x (own_pages E.after) + count x E.kept + count x (pages E.chain) + count x (map_pages D.tree.map) ≤ 1
  clear x =
      let a : count x (all_pages whole ++ map_pages tree.map) ≤ count x (range g.pages) = rw tree_is at (apart x) in
      omega (arith, a, range_le x g.pages, count_append x (all_pages whole) (map_pages tree.map), all_filled_all x cs after, all_split x after, edit.inner x)
    where
      cs : List Context
      cs = located.contexts

  pub within : (x : ℕ) → count x (all_pages whole) + count x (map_pages D.tree.map) ≤ count x (range g.pages)
  within x =
      let a : count x (all_pages whole ++ map_pages tree.map) ≤ count x (range g.pages) = rw tree_is at (apart x) in
      omega (arith, a, count_append x (all_pages whole) (map_pages tree.map))

  -- ---- the new chain's pages
  abbrev pub image₁ : List ℕ
  image₁ = after_writes g (linked E.chain) image

  abbrev v₁ : View
  v₁ = view_of g image₁

  pub fit₁ : Fit g image₁
  fit₁ = fit_after_writes g (linked chain) fits image fit

  pub bytes₁ : Bytes image₁
  bytes₁ = bytes_after_writes g (linked chain) fits image fit bytes

  stays₁ : (x : ℕ) → count x (pages chain) ≡ 0 → v₁ x ≡ view_of g image x
  stays₁ x h = view_stays g (linked chain) fits image fit x (ap (count x) (pages_linked chain) ∙ h)

  chain₁ : HasPackets v₁ (linked chain)
  chain₁ = after_writes_packets g (linked chain) fits image fit (λ x. omega (arith, clear x, ap (count x) (pages_linked chain)))

  -- ---- the directory's pages that differ, the last first
  abbrev pub control : List ℕ
  control = control_of g.width marks D.tree.map D.place.site

  abbrev pub old : List Write
  old = linked (directory_links g control D.place.items)

  abbrev pub new : List Write
  new = linked (directory_links g control E.after)

  abbrev pub ws₂ : List Write
  ws₂ = backwards (changes old new)

  pub new_fits : WritesFit g new
  new_fits =
      let v = fit.valid in
      let l = control_length g v marks tree.map stands.room place.site in
      directory_fits g v (levels D) control (first_entries g) (control_bytes g v marks tree.map stands.bytes place.site)
      (λ k h. omega (arith, l, holds_first g v k h)) after (edit.shaped (place_shaped D)).entries (edit.holds (place_holds D))
      (λ x. omega (arith, within x, all_filled_all x located.contexts after, all_split x after))

  pub fits₂ : WritesFit g ws₂
  fits₂ = backwards_fit g (changes old new) (changes_fit g old new new_fits)

  abbrev pub image₂ : List ℕ
  image₂ = after_writes g ws₂ image₁

  abbrev v₂ : View
  v₂ = view_of g image₂

  pub fit₂ : Fit g image₂
  fit₂ = fit_after_writes g ws₂ fits₂ image₁ fit₁

  pub bytes₂ : Bytes image₂
  bytes₂ = bytes_after_writes g ws₂ fits₂ image₁ fit₁ bytes₁

  pub pages₂ : (x : ℕ) → count x (write_pages ws₂) ≤ count x (own_pages E.after)
  pages₂ x = omega (arith, count_backwards x (changes old new), changes_less x old new, count_directory g x control after)

  stays₂ : (x : ℕ) → count x (own_pages after) ≡ 0 → v₂ x ≡ v₁ x
  stays₂ x h = view_stays g ws₂ fits₂ image₁ fit₁ x (omega (arith, pages₂ x))

  -- a page that is neither the new chain's nor the directory's is as it was
  pub stays : (x : ℕ) → count x (own_pages E.after) ≡ 0 → count x (pages E.chain) ≡ 0 → view_of g image₂ x ≡ view_of g image x
  stays x h k = stays₂ x h ∙ stays₁ x k

  -- the directory as it stands before its own pages are written
  pub own₁ : HasPackets (view_of g image₁) old
  own₁ = packets_same (view_of g image) v₁ old (λ x j. stays₁ x (omega (arith, clear x, edit.own x, count_directory g x control place.items))) (here_stands D).own

  own₂ : HasPackets v₂ new
  own₂ = changes_stand v₁ v₂ old new (λ x. omega (arith, clear x, count_directory g x control after)) own₁
      (backwards_stand v₂ (changes old new) (after_writes_packets g ws₂ fits₂ image₁ fit₁ (λ x. omega (arith, clear x, pages₂ x))))
      (λ x j k. view_stays g ws₂ fits₂ image₁ fit₁ x (omega (arith, count_backwards x (changes old new))))

  chain₂ : HasPackets v₂ (linked chain)
  chain₂ = packets_same v₁ v₂ (linked chain) (λ x j. stays₂ x (omega (arith, clear x, ap (count x) (pages_linked chain)))) chain₁

  here₂ : DirectoryIn g marks tree.map (one_view v₂) (site_at at_root the_root located.contexts place.items) (above_at the_root located.contexts place.items) after
  here₂ = rw (← located.site_is, ← located.here_is) (record {
    own = own₂;
    below = edit.stands (view_of g image) v₂ (λ x j. stays x (omega (arith, clear x)) (omega (arith, clear x))) (here_stands D).below chain₂;
  })

  root₂ : DirectoryIn g marks tree.map (one_view v₂) at_root the_root whole
  root₂ = place_changed g marks tree.map (view_of g image) v₂ located.contexts at_root the_root place.items after edit.start
      (λ x j. stays x (omega (arith, clear x)) (omega (arith, clear x))) (root_stands D) here₂

  pub parts₂ : HasParts g (views_of g image₂) marks whole D.tree.map
  parts₂ = record {
    own = root₂.own;
    below = root₂.below;
    map = packets_same (view_of g image) v₂ (map_packets tree.map)
        (λ x j. stays x (omega (arith, clear x, count_map x tree.map)) (omega (arith, clear x, count_map x tree.map))) (parts D).map;
  }

  -- ---- the bitmap's pages
  abbrev pub bits : List ℕ
  bits = bitmap_of g (all_pages whole ++ map_pages D.tree.map) D.tree.map

  pub shaped : Shaped g.width 8 whole
  shaped = shaped_changed place.items after located.contexts 8 edit.shaped (root_shaped D)

  pub start_is : start_of whole ≡ 0
  start_is = start_filled_all located.contexts place.items after edit.start ∙ ap start_of located.whole ∙ stands.at_zero

  abbrev pub ws₃ : List Write
  ws₃ = map_writes g bits whole (remap bits D.tree.map)

  pub size : length bits ≡ length marks
  size = length_bitmap (all_pages whole ++ map_pages tree.map) 0 (map_size g tree.map) ∙ sym stands.room

  bits_bytes : Bytes bits
  bits_bytes = bytes_bitmap (all_pages whole ++ map_pages tree.map) 0 (map_size g tree.map)

  pub fits₃ : WritesFit g ws₃
  fits₃ = map_fits g fit.valid whole shaped.is_directory marks bits size bits_bytes v₂ (byte_view g image₂ bytes₂) tree.map stands.map stands.room within parts₂

  abbrev pub image₃ : List ℕ
  image₃ = after_writes g ws₃ image₂

  pages₃ : (x : ℕ) → count x (write_pages ws₃) ≤ count x (own_pages whole) + count x (map_pages tree.map)
  pages₃ x = map_pages_lem g fit.valid whole shaped.is_directory marks bits size bits_bytes v₂ (byte_view g image₂ bytes₂) x tree.map

  parts₃ : HasParts g (views_of g image₃) bits whole (remap bits tree.map)
  parts₃ = map_written g fit.valid whole shaped.is_directory marks bits size bits_bytes v₂ (byte_view g image₂ bytes₂) (view_of g image₃) tree.map stands.map within parts₂
      (after_writes_packets g ws₃ fits₃ image₂ fit₂ (λ x. omega (arith, pages₃ x, within x, all_split x whole, range_le x g.pages)))
      (λ x h. view_stays g ws₃ fits₃ image₂ fit₂ x h)

  abbrev j : Image
  j = record { tree = whole; map = remap bits tree.map }

  used_is : used j ≡ all_pages whole ++ map_pages tree.map
  used_is = ap (λ (l : List ℕ). all_pages whole ++ l) (pages_remap bits tree.map)

  bits_are : bitmap_of g (used j) j.map ≡ bits
  bits_are = ap₂ (λ (us : List ℕ) (n : ℕ). bitmap_from us 0 n) used_is (map_size_lem g bits tree.map)

  well₃ : WellFormed g image₃ j
  well₃ = image_stands g image₃ j (fit_after_writes g ws₃ fits₃ image₂ fit₂) shaped.is_directory start_is shaped.names shaped.entries
      (rw bits_are (map_holds g fit.valid whole shaped.is_directory marks bits size bits_bytes v₂ (byte_view g image₂ bytes₂) tree.map stands.map))
      (rw used_is (λ x. omega (arith, within x, count_append x (all_pages whole) (map_pages tree.map))))
      (rw bits_are parts₃)

  pub edited_is : edited g D.names the_edit D.tree ≡ record { tree = whole; map = remap bits D.tree.map }
  unfolding edited
  edited_is = ap (λ (t : Items). record { tree = t; map = remap (bitmap_of g (all_pages t ++ map_pages tree.map) tree.map) tree.map }) tree_is

  -- ---- all of it
  abbrev pub ws₀ : List Write
  ws₀ = map_writes g marks D.tree.tree D.tree.map

  pub marks_stand : HasPackets (view_of g image) ws₀
  marks_stand = map_standing g (views_of g image) marks tree.tree tree.map stands.map (parts D)

  fits₀ : WritesFit g ws₀
  fits₀ =
      let f = map_fits g fit.valid tree.tree stands.is_directory marks marks refl stands.bytes (view_of g image) (byte_view g image bytes) tree.map stands.map stands.room
      (λ x. omega (arith, stands.apart x, count_append x (all_pages tree.tree) (map_pages tree.map))) (parts D) in
      rw (remap_same g marks tree.map stands.map) at f

  abbrev pub the_writes : List Write
  the_writes = edit_writes g marks the_edit D.tree (edited g D.names the_edit D.tree)

  pub writes_are : the_writes ≡ ws₀ ++ (linked E.chain ++ (ws₂ ++ ws₃))
  unfolding edit_writes
  writes_are =
      ap (λ (k : Image). ws₀ ++ (linked chain ++ (ws₂ ++ map_writes g (bitmap_of g (used k) k.map) k.tree k.map))) edited_is
      ∙ ap (λ (b : List ℕ). ws₀ ++ (linked chain ++ (ws₂ ++ map_writes g b whole (remap bits tree.map)))) bits_are

  -- bitmap bytes that stand need no write
  pub after_is : after_writes g the_writes image ≡ image₃
  after_is =
      ap (λ (ws : List Write). after_writes g ws image) writes_are ∙ after_writes_append g ws₀ (linked chain ++ (ws₂ ++ ws₃)) image
      ∙ ap (after_writes g (linked chain ++ (ws₂ ++ ws₃))) (after_writes_same g ws₀ image bytes marks_stand)
      ∙ after_writes_append g (linked chain) (ws₂ ++ ws₃) image ∙ after_writes_append g ws₂ ws₃ image₁

  all_fit : WritesFit g the_writes
  all_fit = rw writes_are (fits_join g ws₀ (linked chain ++ (ws₂ ++ ws₃)) fits₀ (fits_join g (linked chain) (ws₂ ++ ws₃) fits (fits_join g ws₂ ws₃ fits₂ fits₃)))

  pub edit_done : EditDone g image D.tree (edited g D.names the_edit D.tree) the_writes (after_writes g the_writes image)
  edit_done = record {
    well_formed = rw (after_is, edited_is) well₃;
    are_bytes = rw after_is (bytes_after_writes g ws₃ fits₃ image₂ fit₂ bytes₂);
    sized = length_after_writes g the_writes all_fit image fit;
    map_pages_same = rw edited_is (pages_remap bits tree.map);
    rest = made_rest g the_writes all_fit image fit bytes;
  }
