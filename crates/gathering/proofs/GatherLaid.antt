-- The gathered image of a well-formed image's tree: it has that tree again, its pages hold their entries, every packet of it can be written, and its bytes are well formed.
use Rattle.std.specs.Prelude.{◌≡◌, Bool, List, [], ◌∷◌, ◌++◌, ℕ, zero, suc, ◌+◌, ◌*◌, ◌≤◌, ◌<◌, ltb, length, replicate}
use Rattle.std.proofs.Math.Path.{refl, ap, ap₂}
use Rattle.std.proofs.Common.{◌∙◌, leb-true}
use Rattle.std.proofs.Math.Bool.{true, false}
use Rattle.std.proofs.lemmas.Bool.{false≢true}
use native.Mathlib.Omega.{arith}
use Rattle.std.proofs.lemmas.List.{length-replicate}
use Rattle.geometry.specs.declared.Geometry.{Geometry}
use Rattle.geometry.specs.Geometry.{Valid, Fit, data_capacity, entry_size, first_entries, later_entries, bitmap_size}
use Rattle.geometry.specs.Number.{Bytes}
use Rattle.geometry.specs.NumberLaws.{bytes_append}
use Rattle.packet.specs.Packet.{View, view_of, Write, after_writes}
use Rattle.rules.specs.PageSets.{bit, count, Once, Within}
use Rattle.rules.proofs.PageSetLaws.{count_append, range_le, within_length}
use Rattle.rules.specs.Chain.{one_view, Link, link, pages, first, content, linked}
use Rattle.rules.proofs.ChainLaws.{length_chain_of, content_chain_of, pages_enough}
use Rattle.rules.specs.Tree.{Label, key_of, width, Items, end, page, file, dir, start_of, directory_links, own_pages, inner_pages, all_pages, keys, Map, in_root, in_file, map_pages, Image, used, is_local}
use Rattle.rules.specs.Names.{file_number, directory_number}
use Rattle.rules.specs.Control.{Parent, the_root, most_local, root_control, sub_control}
use Rattle.rules.specs.Bitmap.{byte_for, bitmap_from, map_size, bitmap_of}
use Rattle.rules.proofs.BitmapLaws.{length_bitmap, bytes_bitmap}
use Rattle.rules.specs.WellFormed.{HasPackets, HasBelow, map_packets, IsDirectory, Named, Under, Entries, MapHolds, WellFormed}
use Rattle.rules.specs.Format.{upward}
use Rattle.reading_theorems.specs.PacketLaws.{ByteView, byte_view, packets_left, packets_right}
use Rattle.reading_theorems.specs.SubControlLaws.{length_sub}
use Rattle.editing_theorems.specs.Capacity.{capacity_least, holds_first, later_holds, slots_here, PagesHold}
use Rattle.editing_theorems.specs.AfterWrites.{write_pages, WritesFit, fit_after_writes, after_writes_packets}
use Rattle.editing_theorems.specs.HeldPackets.{pages_linked, count_joined, count_directory, count_map, fits_join, image_stands}
use Rattle.editing_theorems.specs.DirectoryWrites.{directory_fits}
use Rattle.editing_theorems.specs.MapWrites.{sub_bytes, root_bytes, root_length}
use Rattle.editing_theorems.specs.NewChains.{chain_of_fits, length_upward}
use Rattle.gathering.specs.Gather.{Bare, bare_end, bare_file, bare_dir, bare, BareImage, bare_of, fits_here, opens, opened, slots_left, left_after, further}
use Rattle.gathering.specs.Gather.{own_size, file_size, below_size, file_chain, laid, map_needs, gathered_size, gathered_map, gathered_image, below_writes, image_writes}
use Rattle.gathering.proofs.GatherPages.{upward_in, own_laid, count_gathered}
use Rattle.gathering.proofs.GatherLeast.{sub_holds, root_pages_hold, size_least}

-- ---- the keys are the tree's, not the pages'
abbrev pub bare_keys : Bare → List ℕ
bare_keys bare_end = []
bare_keys (bare_file l bs t) = key_of l ∷ bare_keys t
bare_keys (bare_dir l d t) = key_of l ∷ bare_keys t

pub keys_bare : (t : Items) → keys t ≡ bare_keys (bare t)
keys_bare end = refl
keys_bare (page p t) = keys_bare t
keys_bare (file l ls t) = ap (λ (ks : List ℕ). key_of l ∷ ks) (keys_bare t)
keys_bare (dir l d t) = ap (λ (ks : List ℕ). key_of l ∷ ks) (keys_bare t)

-- no entry stands before a directory's first page
none_here : (n : ℕ) (d : Items) → IsDirectory d → slots_here d ≤ n
none_here n end i = absurd i
none_here n (page p d) i = omega arith
none_here n (file l ls d) i = absurd i
none_here n (dir l b d) i = absurd i

-- ---- what is known of a tree without its pages: names, extensions, nesting, bytes; no entry too wide for a page
module _ (g : Geometry) where
  abbrev pub BareEntries : ℕ → Bare → Type 0
  BareEntries levels bare_end = Unit {0}
  BareEntries levels (bare_file l bs t) = Named g.width l × (file_number l.extension ≡ true) × (width l ≤ later_entries g) × Bytes bs × BareEntries levels t
  BareEntries levels (bare_dir l d t) =
      Named g.width l × (directory_number l.extension ≡ true) × (width l ≤ later_entries g) × Once (bare_keys d) × Under levels (λ below. BareEntries below d) × BareEntries levels t

  -- a first page holds no more entries than a later one
  pub first_later : Valid g → first_entries g ≤ later_entries g
  first_later valid = later_holds g valid (first_entries g) (omega (arith, holds_first g valid (first_entries g) (omega arith)))

  module _ (valid : Valid g) (v : View) (bv : ByteView g v) where
    content_bytes : (ls : List Link) → HasPackets v (linked ls) → Bytes (content ls)
    content_bytes [] s = tt
    content_bytes (link p b ∷ ls) s = bytes_append b (content ls) (bv.bytes p b (first ls) s.0) (content_bytes ls s.1)

    -- of a directory that stands
    pub bare_entries : (levels next : ℕ) (here : Parent) (t : Items) → Entries g.width levels t → HasBelow g (one_view v) here t → next ≤ later_entries g → PagesHold next (later_entries g) t
        → slots_here t ≤ later_entries g → BareEntries levels (bare t)
    bare_entries levels next here end w s n c h = tt
    bare_entries levels next here (page p t) w s n c h = bare_entries levels (later_entries g) here t w s (omega arith) c.1 (omega (arith, c.0))
    bare_entries levels next here (file l ls t) w s n c h = (w.0, w.1, omega arith, content_bytes ls s.0, bare_entries levels next here t w.3 s.1 n c (omega arith))
    bare_entries zero next here (dir l d t) w s n c h = absurd w.4
    bare_entries (suc levels) next here (dir l d t) w s n c h =
        let there : Parent = record { name = l.name; start = start_of d } in (
          w.0,
          w.1,
          omega arith,
          rw (keys_bare d) at w.3,
          bare_entries levels (first_entries g) there d w.4 s.1 (first_later valid) (sub_holds g valid v bv here d s.0) (none_here (later_entries g) d w.2),
          bare_entries (suc levels) next here t w.5 s.2 n c (omega arith),
        )

-- ---- an entry's place, whatever the test says
bare_opened : (c : Bool) (q : ℕ) (t : Items) → bare (opened c q t) ≡ bare t
bare_opened true q t = refl
bare_opened false q t = refl

entries_opened : (n : ℕ) (c : Bool) (levels q : ℕ) (t : Items) → Entries n levels t → Entries n levels (opened c q t)
entries_opened n true levels q t w = w
entries_opened n false levels q t w = w

pub below_opened : (g : Geometry) (here : Parent) (c : Bool) (q : ℕ) (t : Items) → below_writes g here (opened c q t) ≡ below_writes g here t
below_opened g here true q t = refl
below_opened g here false q t = refl

pub fits_room : (r : ℕ) (l : Label) → fits_here r l ≡ true → width l ≤ r
unfolding fits_here
fits_room r l e = leb-true (width l) r e

-- n entries follow in the slots left: no page has more than it holds
holds_opened : (c : Bool) (later r q n : ℕ) (l : Label) (t : Items) → fits_here r l ≡ c → width l ≤ later → slots_here t ≡ width l + n → n ≤ slots_left c later r l → PagesHold later later t
    → (slots_here (opened c q t) ≤ r) × PagesHold later later (opened c q t)
holds_opened true later r q n l t e s h k p = (omega (arith, fits_room r l e), p)
holds_opened false later r q n l t e s h k p = (omega arith, (omega arith, p))

-- an image of unused bytes
abbrev pub blank : Geometry → List ℕ
blank g = replicate (g.size * g.pages) 0xFF

pub blank_fit : (g : Geometry) → Valid g → Fit g (blank g)
blank_fit g v = record { valid = v; whole = length-replicate (g.size * g.pages) 0xFF }

module _ (g : Geometry) (valid : Valid g) where
  pub some_capacity : 0 < data_capacity g
  some_capacity = omega (arith, capacity_least g valid)

  file_reads : (a : ℕ) (bs : List ℕ) → content (file_chain g a bs) ≡ bs
  file_reads a bs = content_chain_of (data_capacity g) (upward a (file_size g bs)) bs (rw (length_upward a (file_size g bs)) (pages_enough (data_capacity g) (length bs) some_capacity))

  file_some : (a : ℕ) (bs : List ℕ) → 0 < length (file_chain g a bs)
  file_some a bs = omega (arith, length_chain_of (data_capacity g) (upward a (file_size g bs)) bs, length_upward a (file_size g bs))

  -- ---- the same tree
  pub bare_laid : (r q a : ℕ) (b : Bare) → bare (laid g r q a b) ≡ b
  bare_laid r q a bare_end = refl
  bare_laid r q a (bare_file l bs t) =
      bare_opened (fits_here r l) q (file l (file_chain g a bs) (laid g (left_after g r l) (q + opens (fits_here r l)) (a + file_size g bs) t))
      ∙ ap₂ (bare_file l) (file_reads a bs) (bare_laid (left_after g r l) (q + opens (fits_here r l)) (a + file_size g bs) t)
  bare_laid r q a (bare_dir l d t) =
      let sub = laid g (first_entries g) (a + 1) (a + own_size g d) d in
      let next = a + (own_size g d + below_size g d) in
      bare_opened (fits_here r l) q (dir l (page a sub) (laid g (left_after g r l) (q + opens (fits_here r l)) next t))
      ∙ ap₂ (bare_dir l) (bare_laid (first_entries g) (a + 1) (a + own_size g d) d) (bare_laid (left_after g r l) (q + opens (fits_here r l)) next t)

  pub keys_laid : (r q a : ℕ) (b : Bare) → keys (laid g r q a b) ≡ bare_keys b
  keys_laid r q a b = keys_bare (laid g r q a b) ∙ ap bare_keys (bare_laid r q a b)

  -- ---- the rules that read no view
  pub entries_laid : (levels r q a : ℕ) (b : Bare) → BareEntries g levels b → Entries g.width levels (laid g r q a b)
  entries_laid levels r q a bare_end w = tt
  entries_laid levels r q a (bare_file l bs t) w =
      let rest = laid g (left_after g r l) (q + opens (fits_here r l)) (a + file_size g bs) t in
      entries_opened g.width (fits_here r l) levels q (file l (file_chain g a bs) rest)
      (w.0, w.1, file_some a bs, entries_laid levels (left_after g r l) (q + opens (fits_here r l)) (a + file_size g bs) t w.4)
  entries_laid zero r q a (bare_dir l d t) w = absurd w.4
  entries_laid (suc levels) r q a (bare_dir l d t) w =
      let sub = laid g (first_entries g) (a + 1) (a + own_size g d) d in
      let next = a + (own_size g d + below_size g d) in
      let rest = laid g (left_after g r l) (q + opens (fits_here r l)) next t in
      let o : Once (keys sub) = rw (keys_laid (first_entries g) (a + 1) (a + own_size g d) d) w.3 in
      entries_opened g.width (fits_here r l) (suc levels) q (dir l (page a sub) rest)
      (w.0, w.1, tt, o, entries_laid levels (first_entries g) (a + 1) (a + own_size g d) d w.4, entries_laid (suc levels) (left_after g r l) (q + opens (fits_here r l)) next t w.5)

  -- ---- no page has more entries than it holds
  pub laid_holds : (levels r q a : ℕ) (b : Bare) → BareEntries g levels b → (slots_here (laid g r q a b) ≤ r) × PagesHold (later_entries g) (later_entries g) (laid g r q a b)
  laid_holds levels r q a bare_end w = (omega arith, tt)
  laid_holds levels r q a (bare_file l bs t) w =
      let rest = laid g (left_after g r l) (q + opens (fits_here r l)) (a + file_size g bs) t in
      let i = laid_holds levels (left_after g r l) (q + opens (fits_here r l)) (a + file_size g bs) t w.4 in
      holds_opened (fits_here r l) (later_entries g) r q (slots_here rest) l (file l (file_chain g a bs) rest) refl w.2 (omega arith) i.0 i.1
  laid_holds levels r q a (bare_dir l d t) w =
      let sub = laid g (first_entries g) (a + 1) (a + own_size g d) d in
      let next = a + (own_size g d + below_size g d) in
      let rest = laid g (left_after g r l) (q + opens (fits_here r l)) next t in
      let i = laid_holds levels (left_after g r l) (q + opens (fits_here r l)) next t w.5 in
      holds_opened (fits_here r l) (later_entries g) r q (slots_here rest) l (dir l (page a sub) rest) refl w.2 (omega arith) i.0 i.1

  -- ---- every packet can be written
  -- so many bytes on a page leave room for r entries
  abbrev pub RoomAfter : List ℕ → ℕ → Type 0
  RoomAfter head r = (k : ℕ) → k ≤ r → length head + k * entry_size g ≤ data_capacity g

  -- a directory's page p that begins with these bytes and has r slots left, and its further pages from q up
  pub own_fits : (levels p r q a : ℕ) (head : List ℕ) (b : Bare) → Bytes head → RoomAfter head r → BareEntries g levels b → Within g.pages (p ∷ upward q (further g r b))
      → WritesFit g (linked (directory_links g head (page p (laid g r q a b))))
  own_fits levels p r q a head b c h w n =
      directory_fits g valid levels head r c h (page p (laid g r q a b)) (entries_laid levels r q a b w) (laid_holds levels r q a b w)
      (λ x. omega (arith, n x, ap (count x) (own_laid g r q a b)))

  pub sub_room : (here : Parent) → RoomAfter (sub_control g.width here) (first_entries g)
  sub_room here k h = omega (arith, length_sub g here, holds_first g valid k h)

  pub below_fits : (levels r q a : ℕ) (here : Parent) (b : Bare) → BareEntries g levels b → a + below_size g b ≤ g.pages → WritesFit g (below_writes g here (laid g r q a b))
  below_fits levels r q a here bare_end w n = tt
  below_fits levels r q a here (bare_file l bs t) w n =
      let rest = laid g (left_after g r l) (q + opens (fits_here r l)) (a + file_size g bs) t in
      rw (below_opened g here (fits_here r l) q (file l (file_chain g a bs) rest))
      (fits_join g (linked (file_chain g a bs)) (below_writes g here rest) (chain_of_fits g valid (upward a (file_size g bs)) bs (upward_in a (file_size g bs) g.pages (omega arith)) w.3)
      (below_fits levels (left_after g r l) (q + opens (fits_here r l)) (a + file_size g bs) here t w.4 (omega arith)))
  below_fits zero r q a here (bare_dir l d t) w n = absurd w.4
  below_fits (suc levels) r q a here (bare_dir l d t) w n =
      let sub = laid g (first_entries g) (a + 1) (a + own_size g d) d in
      let next = a + (own_size g d + below_size g d) in
      let rest = laid g (left_after g r l) (q + opens (fits_here r l)) next t in
      let there : Parent = record { name = l.name; start = a } in
      let control = sub_control g.width here in
      let own = linked (directory_links g control (page a sub)) in
      let below = below_writes g there sub in
      rw (below_opened g here (fits_here r l) q (dir l (page a sub) rest))
      (fits_join g own (below ++ below_writes g here rest)
      (own_fits levels a (first_entries g) (a + 1) (a + own_size g d) control d (sub_bytes g here valid) (sub_room here) w.4 (upward_in a (own_size g d) g.pages (omega arith)))
      (fits_join g below (below_writes g here rest) (below_fits levels (first_entries g) (a + 1) (a + own_size g d) there d w.4 (omega arith))
      (below_fits (suc levels) (left_after g r l) (q + opens (fits_here r l)) next here t w.5 (omega arith))))

-- ---- the bitmap tells which pages are in use, not in which order
byte_same : (us ws : List ℕ) → ((x : ℕ) → count x us ≡ count x ws) → (k n : ℕ) → byte_for us k n ≡ byte_for ws k n
byte_same us ws h k zero = refl
byte_same us ws h k (suc n) = ap₂ (λ (c m : ℕ). bit (ltb 0 c) + 2 * m) (h k) (byte_same us ws h (k + 1) n)

pub bitmap_same : (us ws : List ℕ) → ((x : ℕ) → count x us ≡ count x ws) → (k n : ℕ) → bitmap_from us k n ≡ bitmap_from ws k n
unfolding bitmap_from
bitmap_same us ws h k zero = refl
bitmap_same us ws h k (suc n) = ap₂ (λ (c : ℕ) (l : List ℕ). c ∷ l) (byte_same us ws h k 8) (bitmap_same us ws h (k + 8) n)

-- ---- every page of an image has one packet
pub count_below : (g : Geometry) (x : ℕ) (here : Parent) (t : Items) → count x (write_pages (below_writes g here t)) ≡ count x (inner_pages t)
count_below g x here end = refl
count_below g x here (page p t) = count_below g x here t
count_below g x here (file l ls t) = omega (
  arith,
  count_joined x (linked ls) (below_writes g here t),
  ap (count x) (pages_linked ls),
  count_below g x here t,
  count_append x (pages ls) (inner_pages t),
)
count_below g x here (dir l d t) =
    let there : Parent = record { name = l.name; start = start_of d } in
    let control = sub_control g.width here in
    omega (
      arith,
      count_joined x (linked (directory_links g control d)) (below_writes g there d ++ below_writes g here t),
      count_joined x (below_writes g there d) (below_writes g here t),
      count_directory g x control d,
      count_below g x there d,
      count_below g x here t,
      count_append x (own_pages d) (inner_pages d ++ inner_pages t),
      count_append x (inner_pages d) (inner_pages t),
    )

pub count_packets : (g : Geometry) (i : Image) (x : ℕ) → count x (write_pages (image_writes g i)) ≡ count x (used i)
count_packets g i x =
    let control = root_control g.width (bitmap_of g (used i) i.map) i.map in
    let own = linked (directory_links g control i.tree) in
    let below = below_writes g the_root i.tree in
    omega (
      arith,
      count_joined x own (below ++ map_packets i.map),
      count_joined x below (map_packets i.map),
      count_directory g x control i.tree,
      count_below g x the_root i.tree,
      count_map x i.map,
      count_append x (all_pages i.tree) (map_pages i.map),
      count_append x (own_pages i.tree) (inner_pages i.tree),
    )

-- packets that stand as they are listed stand below their directory
below_stands : (g : Geometry) (v : View) (here : Parent) (t : Items) → HasPackets v (below_writes g here t) → HasBelow g (one_view v) here t
below_stands g v here end s = tt
below_stands g v here (page p t) s = below_stands g v here t s
below_stands g v here (file l ls t) s = (packets_left v (linked ls) (below_writes g here t) s, below_stands g v here t (packets_right v (linked ls) (below_writes g here t) s))
below_stands g v here (dir l d t) s =
    let there : Parent = record { name = l.name; start = start_of d } in
    let own = linked (directory_links g (sub_control g.width here) d) in
    let below = below_writes g there d in
    let rest = below_writes g here t in
    let r = packets_right v own (below ++ rest) s in
    (packets_left v own (below ++ rest) s, below_stands g v there d (packets_left v below rest r), below_stands g v here t (packets_right v below rest r))

-- ---- a tree without its pages that can be laid
pub record Layable (g : Geometry) (b : BareImage) : Type 0 where
  pub names : Once (bare_keys b.tree)
  pub entries : BareEntries g 8 b.tree
  pub map : b.local ≡ true → g.pages ≤ most_local
  pub room : gathered_size g b ≤ g.pages

module _ (g : Geometry) (valid : Valid g) (b : BareImage) (able : Layable g b) where
  abbrev i : Image
  i = gathered_image g b

  abbrev needs : ℕ
  needs = map_needs g b.local

  abbrev opens_root : ℕ
  opens_root = further g (first_entries g) b.tree

  abbrev in_use : List ℕ
  in_use = upward 0 (gathered_size g b)

  abbrev pub bits : List ℕ
  bits = bitmap_of g (used i) i.map

  abbrev pub the_writes : List Write
  the_writes = image_writes g i

  pub gathered_within : Within g.pages (used i)
  gathered_within x = omega (arith, count_gathered g b x, upward_in 0 (gathered_size g b) g.pages (omega (arith, able.room)) x)

  -- ---- the bitmap
  map_bytes : (local : Bool) → Within g.pages (upward 1 (map_needs g local)) → WritesFit g (map_packets (gathered_map g local in_use))
  map_bytes true n = tt
  map_bytes false n = chain_of_fits g valid (upward 1 (map_needs g false)) (bitmap_from in_use 0 (bitmap_size g)) n (bytes_bitmap in_use 0 (bitmap_size g))

  map_holds : (local : Bool) → (local ≡ true → g.pages ≤ most_local) → MapHolds g (bitmap_from in_use 0 (map_size g (gathered_map g local in_use))) (gathered_map g local in_use)
  map_holds true h = h refl
  map_holds false h =
      let k = map_needs g false in
      let bs = bitmap_from in_use 0 (bitmap_size g) in (
        omega (arith, length_chain_of (data_capacity g) (upward 1 k) bs, length_upward 1 k),
        content_chain_of (data_capacity g) (upward 1 k) bs (rw (length_upward 1 k, length_bitmap in_use 0 (bitmap_size g)) (pages_enough (data_capacity g) (bitmap_size g) (some_capacity g valid))),
      )

  bits_are : bits ≡ bitmap_from in_use 0 (map_size g i.map)
  bits_are = bitmap_same (used i) in_use (count_gathered g b) 0 (map_size g i.map)

  bits_hold : MapHolds g bits i.map
  unfolding gathered_image
  bits_hold = rw bits_are (map_holds b.local able.map)

  -- ---- every packet of the image can be written
  pub gathered_fits : WritesFit g the_writes
  unfolding gathered_image
  gathered_fits =
      let r = able.room in
      let control = root_control g.width bits i.map in
      let l = root_length g bits i.map valid (length_bitmap (used i) 0 (map_size g i.map)) in
      let c = root_bytes g bits i.map valid (bytes_bitmap (used i) 0 (map_size g i.map)) in
      fits_join g (linked (directory_links g control i.tree)) (below_writes g the_root i.tree ++ map_packets i.map)
      (own_fits g valid 8 0 (first_entries g) (suc needs) (suc needs + opens_root) control b.tree c (λ k h. omega (arith, l, holds_first g valid k h)) able.entries
      (λ x. omega (
        arith,
        gathered_within x,
        count_append x (all_pages i.tree) (map_pages i.map),
        count_append x (own_pages i.tree) (inner_pages i.tree),
        ap (count x) (own_laid g (first_entries g) (suc needs) (suc needs + opens_root) b.tree),
      )))
      (fits_join g (below_writes g the_root i.tree) (map_packets i.map)
      (below_fits g valid 8 (first_entries g) (suc needs) (suc needs + opens_root) the_root b.tree able.entries (omega arith))
      (map_bytes b.local (upward_in 1 needs g.pages (omega arith))))

  -- ---- written over any image of that length, it is well formed
  pub gathered_stands : (image : List ℕ) → Fit g image → WellFormed g (after_writes g the_writes image) i
  unfolding gathered_image
  gathered_stands image fit =
      let v = view_of g (after_writes g the_writes image) in
      let own = linked (directory_links g (root_control g.width bits i.map) i.tree) in
      let below = below_writes g the_root i.tree in
      let all = after_writes_packets g the_writes gathered_fits image fit (λ x. omega (arith, count_packets g i x, gathered_within x, range_le x g.pages)) in
      let rest = packets_right v own (below ++ map_packets i.map) all in
      image_stands g (after_writes g the_writes image) i (fit_after_writes g the_writes gathered_fits image fit) tt refl
      (rw (keys_laid g valid (first_entries g) (suc needs) (suc needs + opens_root) b.tree) able.names)
      (entries_laid g valid 8 (first_entries g) (suc needs) (suc needs + opens_root) b.tree able.entries) bits_hold gathered_within (record {
        own = packets_left v own (below ++ map_packets i.map) all;
        below = below_stands g v the_root i.tree (packets_left v below (map_packets i.map) rest);
        map = packets_right v below (map_packets i.map) rest;
      })

  -- and has that tree again
  pub bare_gathered : bare_of i ≡ b
  unfolding gathered_image
  bare_gathered = ap₂ (λ (t : Bare) (local : Bool). record { tree = t; local = local }) (bare_laid g valid (first_entries g) (suc needs) (suc needs + opens_root) b.tree) (kind b.local)
    where
      kind : (local : Bool) → is_local (gathered_map g local in_use) ≡ local
      kind true = refl
      kind false = refl

-- ---- the tree of a well-formed image can be laid
pub layable : (g : Geometry) (image : List ℕ) (i : Image) → Bytes image → WellFormed g image i → Layable g (bare_of i)
layable g image i bytes w =
    let v = view_of g image in
    let bv = byte_view g image bytes in
    let valid = w.fits.valid in
    record {
      names = rw (keys_bare i.tree) at w.holds.names;
      entries = bare_entries g valid v bv 8 (first_entries g) the_root i.tree w.holds.entries w.holds.packets.below (first_later g valid)
          (root_pages_hold g image i bytes w) (none_here (later_entries g) i.tree w.holds.is_directory);
      map = local_few i.map w.holds.map;
      room = omega (arith, size_least g image i bytes w, within_length g.pages (used i) w.holds.apart);
    }
  where
    local_few : (m : Map) → MapHolds g (bitmap_of g (used i) i.map) m → is_local m ≡ true → g.pages ≤ most_local
    local_few in_root h e = h
    local_few (in_file ls) h e = absurd (false≢true e)
