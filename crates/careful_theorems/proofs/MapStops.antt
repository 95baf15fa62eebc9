-- An image that stands but for its bitmap; and the bitmap's pages written up to any of them: the tree stands as before, and each byte of the bitmap is the old or the new one.
use Rattle.std.specs.Prelude.{◌≡◌, refl, ◌⊎◌, get_or, drop}
use Rattle.std.proofs.Math.Path.{ap, subst}
use Rattle.std.proofs.Common.{ap₂, sym, ◌∙◌, arith, length-append, length-take, length-drop}
use Rattle.std.proofs.Math.Logic.{inl, inr}
use mathlib.Core.List.{List, [], ◌∷◌, ◌++◌}
use Prim.Native.Nat.{ℕ, zero, suc, ◌+◌, ◌≤◌}
use Rattle.std.proofs.Math.ListN.{length, take}
use Rattle.geometry.specs.declared.Geometry.{Geometry}
use Rattle.geometry.specs.Geometry.{Valid, Fit}
use Rattle.geometry.specs.Number.{number_bytes, Bytes}
use Rattle.geometry.specs.NumberLaws.{bytes_append, bytes_take, bytes_drop}
use Rattle.packet.specs.Packet.{View, view_of, Write, write, after_writes}
use Rattle.rules.specs.PageSets.{count, range, Once}
use Rattle.rules.proofs.PageSetLaws.{same, other, hits, count_append, range_le}
use Rattle.rules.specs.Chain.{views_of, Link, link, pages, first, content, linked}
use Rattle.rules.specs.Tree.{Items, directory_links, own_pages, inner_pages, all_pages, Map, in_root, in_file, map_pages, Image, used}
use Rattle.rules.specs.Control.{marker, place_bytes, root_control, the_root}
use Rattle.rules.specs.Bitmap.{refill, remap}
use Rattle.rules.proofs.BitmapLaws.{first_refill, pages_refill, pages_remap}
use Rattle.rules.specs.WellFormed.{HasPackets, map_packets, HasParts, MapHolds, WellFormedWith}
use Rattle.rules.specs.Writes.{map_writes}
use Rattle.reading_theorems.specs.PacketLaws.{byte_view}
use Rattle.reading_theorems.specs.Directory.{all_split}
use Rattle.editing_theorems.specs.AfterWrites.{write_pages, WritesFit, fit_after_writes, bytes_after_writes, view_stays, after_writes_packets}
use Rattle.editing_theorems.specs.HeldPackets.{pages_linked, count_directory, count_map, packets_same, below_same}
use Rattle.editing_theorems.specs.MapWrites.{refill_twice, map_size_lem, map_fits, map_pages_lem, map_holds, map_written}

-- an image's bytes with a tree and any bitmap bytes
pub record MarkedImage (g : Geometry) (image bits : List ℕ) (i : Image) : Type 0 where
  pub fits : Fit g image
  pub are_bytes : Bytes image
  pub holds : WellFormedWith g (views_of g image) bits i

pub fits_take : (g : Geometry) (k : ℕ) (ws : List Write) → WritesFit g ws → WritesFit g (take k ws)
fits_take g zero ws f = tt
fits_take g (suc k) [] f = tt
fits_take g (suc k) (write p b n ∷ ws) f = (f.0, fits_take g k ws f.1)

pub count_take : (x k : ℕ) (ws : List Write) → count x (write_pages (take k ws)) ≤ count x (write_pages ws)
count_take x zero ws = omega arith
count_take x (suc k) [] = omega arith
count_take x (suc k) (write p b n ∷ ws) = omega (arith, count_take x k ws)

-- ---- pages that no chain owns written
pub free_stays : (g : Geometry) (image bits : List ℕ) (i : Image) → MarkedImage g image bits i → (ws : List Write) → WritesFit g ws
    → ((x : ℕ) → 1 ≤ count x (used i) → count x (write_pages ws) ≡ 0) → MarkedImage g (after_writes g ws image) bits i
free_stays g image bits i s ws f h =
    let w = s.holds in
    let v = view_of g image in
    let v' = view_of g (after_writes g ws image) in
    let control = root_control g.width bits i.map in
    let own = linked (directory_links g control i.tree) in
    let stays : (x : ℕ) → 1 ≤ count x (used i) → v' x ≡ v x = λ x j. view_stays g ws f image s.fits x (h x j) in
    let in_use_lem : (x : ℕ) → count x (used i) ≡ count x (own_pages i.tree) + count x (inner_pages i.tree) + count x (map_pages i.map) =
    λ x. omega (arith, count_append x (all_pages i.tree) (map_pages i.map), all_split x i.tree) in
    record {
      fits = fit_after_writes g ws f image s.fits;
      are_bytes = bytes_after_writes g ws f image s.fits s.are_bytes;
      holds = record {
        is_directory = w.is_directory;
        at_zero = w.at_zero;
        names = w.names;
        entries = w.entries;
        map = w.map;
        room = w.room;
        bytes = w.bytes;
        packets = record {
          own = packets_same v v' own (λ x j. stays x (omega (arith, in_use_lem x, count_directory g x control i.tree))) w.packets.own;
          below = below_same g v v' the_root i.tree (λ x j. stays x (omega (arith, in_use_lem x))) w.packets.below;
          map = packets_same v v' (map_packets i.map) (λ x j. stays x (omega (arith, in_use_lem x, count_map x i.map))) w.packets.map;
        };
        apart = w.apart;
      };
    }

-- ---- each byte is that of one list or of the other
abbrev pub Mixed : List ℕ → List ℕ → List ℕ → Type 0
Mixed xs new old = (k : ℕ) → (get_or xs k 0 ≡ get_or new k 0) ⊎ (get_or xs k 0 ≡ get_or old k 0)

mixed_front : (b new rest old : List ℕ) → length b ≤ length new → Mixed rest (drop (length b) new) old → Mixed (take (length b) new ++ rest) new (b ++ old)
mixed_front [] new rest old l h k = h k
mixed_front (y ∷ b) [] rest old l h k = absurd (omega arith)
mixed_front (y ∷ b) (x ∷ new) rest old l h zero = inl refl
mixed_front (y ∷ b) (x ∷ new) rest old l h (suc k) = mixed_front b new rest old (omega arith) h k

-- a bitmap file with k packets filled anew
abbrev pub mix : ℕ → List Link → List ℕ → List Link
mix zero ls new = ls
mix (suc k) [] new = []
mix (suc k) (link p b ∷ ls) new = link p (take (length b) new) ∷ mix k ls (drop (length b) new)

pub first_mix : (k : ℕ) (ls : List Link) (new : List ℕ) → first (mix k ls new) ≡ first ls
first_mix zero ls new = refl
first_mix (suc k) [] new = refl
first_mix (suc k) (link p b ∷ ls) new = refl

pub length_mix : (k : ℕ) (ls : List Link) (new : List ℕ) → length (mix k ls new) ≡ length ls
length_mix zero ls new = refl
length_mix (suc k) [] new = refl
length_mix (suc k) (link p b ∷ ls) new = ap suc (length_mix k ls (drop (length b) new))

pub pages_mix : (k : ℕ) (ls : List Link) (new : List ℕ) → pages (mix k ls new) ≡ pages ls
pages_mix zero ls new = refl
pages_mix (suc k) [] new = refl
pages_mix (suc k) (link p b ∷ ls) new = ap (λ (l : List ℕ). p ∷ l) (pages_mix k ls (drop (length b) new))

size_mix : (k : ℕ) (ls : List Link) (new : List ℕ) → length new ≡ length (content ls) → length (content (mix k ls new)) ≡ length (content ls)
size_mix zero ls new h = refl
size_mix (suc k) [] new h = refl
size_mix (suc k) (link p b ∷ ls) new h =
    let a = length-append b (content ls) in
    let r = size_mix k ls (drop (length b) new) (simp length-drop (omega arith)) in
    omega (arith, length-append (take (length b) new) (content (mix k ls (drop (length b) new))), length-take (length b) new)

mixed_mix : (k : ℕ) (ls : List Link) (new : List ℕ) → length new ≡ length (content ls) → Mixed (content (mix k ls new)) new (content ls)
mixed_mix zero ls new h j = inr refl
mixed_mix (suc k) [] new h j = inr refl
mixed_mix (suc k) (link p b ∷ ls) new h j =
    let a = length-append b (content ls) in
    mixed_front b new (content (mix k ls (drop (length b) new))) (content ls) (omega arith) (mixed_mix k ls (drop (length b) new) (simp length-drop (omega arith))) j

bytes_parts : (a b : List ℕ) → Bytes (a ++ b) → Bytes a × Bytes b
bytes_parts [] b h = (tt, h)
bytes_parts (x ∷ a) b h = let r = bytes_parts a b h.1 in ((h.0, r.0), r.1)

bytes_mix : (k : ℕ) (ls : List Link) (new : List ℕ) → Bytes new → Bytes (content ls) → Bytes (content (mix k ls new))
bytes_mix zero ls new h o = o
bytes_mix (suc k) [] new h o = tt
bytes_mix (suc k) (link p b ∷ ls) new h o =
    bytes_append (take (length b) new) (content (mix k ls (drop (length b) new))) (bytes_take (length b) new h)
    (bytes_mix k ls (drop (length b) new) (bytes_drop (length b) new h) (bytes_parts b (content ls) o).1)

mix_stands : (v w : View) (k : ℕ) (ls : List Link) (new : List ℕ) → Once (pages ls) → HasPackets v (linked ls) → HasPackets w (take k (linked (refill ls new)))
    → ((x : ℕ) → 1 ≤ count x (pages ls) → count x (write_pages (take k (linked (refill ls new)))) ≡ 0 → w x ≡ v x) → HasPackets w (linked (mix k ls new))
mix_stands v w zero ls new o s a h = packets_same v w (linked ls) (λ x j. h x (omega (arith, ap (count x) (pages_linked ls))) refl) s
mix_stands v w (suc k) [] new o s a h = tt
mix_stands v w (suc k) (link p b ∷ ls) new o s a h =
    let rest = drop (length b) new in
    let e : first (refill ls rest) ≡ first (mix k ls rest) = first_refill ls rest ∙ sym (first_mix k ls rest) in (
      rw e at a.0,
      mix_stands v w k ls rest (λ x. omega (arith, o x)) s.1 a.1
          (λ x j z. elim (hits x p) [ same f i ↦ absurd (omega (arith, o x)) | other f i ↦ h x (omega arith) (omega arith) ]),
    )

-- a bitmap file's place does not tell its bits
root_mix : (n k : ℕ) (bits bits' new : List ℕ) (ls : List Link) → root_control n bits' (in_file (mix k ls new)) ≡ root_control n bits (in_file ls)
unfolding root_control
root_mix n k bits bits' new ls = ap₂ (λ (a b : ℕ). marker n ∷ (number_bytes n 0 ++ (0 ∷ place_bytes n a b))) (first_mix k ls new) (length_mix k ls new)

take_once : (k : ℕ) (ws : List Write) → take (suc k) (take 1 ws) ≡ take 1 ws
take_once k [] = refl
take_once zero (w ∷ ws) = refl
take_once (suc k) (w ∷ ws) = refl

-- ---- the bitmap's pages written
map_again : (g : Geometry) (new bits : List ℕ) (t : Items) (m : Map) → length new ≡ length bits → MapHolds g bits m → map_writes g new t (remap new m) ≡ map_writes g new t m
map_again g new bits t in_root r h = refl
map_again g new bits t (in_file ls) r h = ap linked (refill_twice ls new (r ∙ ap length (sym h.1)))

module _ (g : Geometry) (image bits : List ℕ) (t : Items) where
  -- they can be written
  pub map_fit : (m : Map) → MarkedImage g image bits (record { tree = t; map = m }) → (new : List ℕ) → length new ≡ length bits → Bytes new → WritesFit g (map_writes g new t m)
  map_fit m s new room new_bytes =
      let w = s.holds in
      subst (WritesFit g) (map_again g new bits t m room w.map) (map_fits g s.fits.valid t w.is_directory bits new room new_bytes (view_of g image) (byte_view g image s.are_bytes) m w.map w.room
      (λ x. omega (arith, w.apart x, count_append x (all_pages t) (map_pages m))) w.packets)

  -- all of them
  pub map_all : (m : Map) → MarkedImage g image bits (record { tree = t; map = m }) → (new : List ℕ) → length new ≡ length bits → Bytes new
      → MarkedImage g (after_writes g (map_writes g new t m) image) new (record { tree = t; map = remap new m })
  map_all m s new room new_bytes =
      let w = s.holds in
      let valid : Valid g = s.fits.valid in
      let v = view_of g image in
      let bv = byte_view g image s.are_bytes in
      let parts = w.packets in
      let within : (x : ℕ) → count x (all_pages t) + count x (map_pages m) ≤ count x (range g.pages) = λ x. omega (arith, w.apart x, count_append x (all_pages t) (map_pages m)) in
      let again = map_again g new bits t m room w.map in
      let fit : WritesFit g (map_writes g new t (remap new m)) = map_fits g valid t w.is_directory bits new room new_bytes v bv m w.map w.room within parts in
      let ws = map_writes g new t (remap new m) in
      let after = after_writes g ws image in
      let pages₃ : (x : ℕ) → count x (write_pages ws) ≤ count x (own_pages t) + count x (map_pages m) = λ x. map_pages_lem g valid t w.is_directory bits new room new_bytes v bv x m in
      let r : HasParts g (views_of g after) new t (remap new m) = map_written g valid t w.is_directory bits new room new_bytes v bv (view_of g after) m w.map within parts
      (after_writes_packets g ws fit image s.fits (λ x. omega (arith, pages₃ x, within x, all_split x t, range_le x g.pages)))
      (λ x h. view_stays g ws fit image s.fits x h) in
      subst (λ (us : List Write). MarkedImage g (after_writes g us image) new (record { tree = t; map = remap new m })) again (record {
        fits = fit_after_writes g ws fit image s.fits;
        are_bytes = bytes_after_writes g ws fit image s.fits s.are_bytes;
        holds = record {
          is_directory = w.is_directory;
          at_zero = w.at_zero;
          names = w.names;
          entries = w.entries;
          map = map_holds g valid t w.is_directory bits new room new_bytes v bv m w.map;
          room = room ∙ w.room ∙ sym (map_size_lem g new m);
          bytes = new_bytes;
          packets = r;
          apart = λ x. rw (pages_remap new m) (w.apart x);
        };
      })

  -- up to any of them
  pub record MapStop (m : Map) (new after : List ℕ) : Type 0 where
    pub bytes : List ℕ
    pub map : Map
    pub mixed : Mixed bytes new bits
    pub sized : length bytes ≡ length bits
    pub map_pages_same : map_pages map ≡ map_pages m
    pub stands : MarkedImage g after bytes (record { tree = t; map = map })

  pub map_stop : (m : Map) → MarkedImage g image bits (record { tree = t; map = m }) → (new : List ℕ) → length new ≡ length bits → Bytes new
      → (k : ℕ) → MapStop m new (after_writes g (take k (map_writes g new t m)) image)
  unfolding after_writes
  map_stop in_root s new room new_bytes zero = record { bytes = bits; map = in_root; mixed = λ k. inr refl; sized = refl; map_pages_same = refl; stands = s }
  map_stop in_root s new room new_bytes (suc k) =
      let ws = linked (directory_links g (root_control g.width new in_root) t) in
      subst (λ (us : List Write). MapStop in_root new (after_writes g us image)) (sym (take_once k ws)) (record {
        bytes = new;
        map = in_root;
        mixed = λ k. inl refl;
        sized = room;
        map_pages_same = refl;
        stands = map_all in_root s new room new_bytes;
      })
  map_stop (in_file ls) s new room new_bytes k =
      let w = s.holds in
      let valid : Valid g = s.fits.valid in
      let v = view_of g image in
      let bv = byte_view g image s.are_bytes in
      let parts = w.packets in
      let within : (x : ℕ) → count x (all_pages t) + count x (pages ls) ≤ count x (range g.pages) = λ x. omega (arith, w.apart x, count_append x (all_pages t) (pages ls)) in
      let e : length new ≡ length (content ls) = room ∙ ap length (sym w.map.1) in
      let all = linked (refill ls new) in
      let all_fit : WritesFit g all = subst (WritesFit g) (map_again g new bits t (in_file ls) room w.map)
      (map_fits g valid t w.is_directory bits new room new_bytes v bv (in_file ls) w.map w.room within parts) in
      let ws = take k all in
      let fit : WritesFit g ws = fits_take g k all all_fit in
      let after = after_writes g ws image in
      let c : (x : ℕ) → count x (write_pages ws) ≤ count x (pages ls) = λ x. omega (arith, count_take x k all, ap (count x) (pages_linked (refill ls new) ∙ pages_refill ls new)) in
      let clear : (x : ℕ) → count x (own_pages t) + count x (inner_pages t) + count x (pages ls) ≤ 1 = λ x. omega (arith, within x, all_split x t, range_le x g.pages) in
      let bits' = content (mix k ls new) in
      let control = root_control g.width bits (in_file ls) in
      let stays : (x : ℕ) → count x (write_pages ws) ≡ 0 → view_of g after x ≡ v x = λ x h. view_stays g ws fit image s.fits x h in
      let old_bytes : Bytes (content ls) = subst Bytes (sym w.map.1) w.bytes in
      let r : HasParts g (views_of g after) bits' t (in_file (mix k ls new)) = record {
        own = subst (λ (b : List ℕ). HasPackets (view_of g after) (linked (directory_links g b t))) (sym (root_mix g.width k bits bits' new ls))
            (packets_same v (view_of g after) (linked (directory_links g control t)) (λ x j. stays x (omega (arith, c x, clear x, count_directory g x control t))) parts.own);
        below = below_same g v (view_of g after) the_root t (λ x j. stays x (omega (arith, c x, clear x))) parts.below;
        map = mix_stands v (view_of g after) k ls new (λ x. omega (arith, clear x)) parts.map
            (after_writes_packets g ws fit image s.fits (λ x. omega (arith, c x, clear x))) (λ x j h. stays x h);
      } in
      record {
        bytes = bits';
        map = in_file (mix k ls new);
        mixed = subst (Mixed bits' new) w.map.1 (mixed_mix k ls new e);
        sized = size_mix k ls new e ∙ ap length w.map.1;
        map_pages_same = pages_mix k ls new;
        stands = record {
          fits = fit_after_writes g ws fit image s.fits;
          are_bytes = bytes_after_writes g ws fit image s.fits s.are_bytes;
          holds = record {
            is_directory = w.is_directory;
            at_zero = w.at_zero;
            names = w.names;
            entries = w.entries;
            map = (omega (arith, w.map.0, length_mix k ls new), refl);
            room = size_mix k ls new e ∙ ap length w.map.1 ∙ w.room;
            bytes = bytes_mix k ls new new_bytes old_bytes;
            packets = r;
            apart = λ x. rw (pages_mix k ls new) (w.apart x);
          };
        };
      }
