-- Control fields as bytes, and the bitmap's pages written anew: then every packet of the image stands with the new bits.
use Rattle.std.specs.Prelude.{◌≡◌, refl, List, [], ◌∷◌, ◌++◌, ℕ, ◌+◌, ◌-◌, ◌*◌, ◌≤◌, ◌<◌, length, take, drop, replicate}
use Rattle.std.proofs.Common.{ap, ap₂, sym, ◌∙◌, subst, arith, length-append, length-take, drop_at}
use Rattle.std.proofs.lemmas.List.{length-replicate}
use Rattle.geometry.specs.declared.Geometry.{Geometry}
use Rattle.geometry.specs.Geometry.{Valid, control_size}
use Rattle.geometry.specs.Number.{number_bytes, Bytes}
use Rattle.geometry.specs.NumberLaws.{bytes_append, bytes_take, bytes_drop, length_number, number_bytes_lem}
use Rattle.packet.specs.Packet.{View}
use Rattle.rules.specs.PageSets.{count, range, Within}
use Rattle.rules.proofs.PageSetLaws.{hit_same, range_le, range_of}
use Rattle.rules.specs.Chain.{Views, one_view, Link, link, pages, first, content, linked}
use Rattle.rules.specs.Tree.{Items, end, page, file, dir, tokens, token_bytes, token_links, directory_links, own_pages, inner_pages, all_pages, Map, in_root, in_file, map_pages}
use Rattle.rules.specs.Control.{marker, place_bytes, root_control, sub_control, Parent, the_root}
use Rattle.rules.specs.Bitmap.{map_size, refill, remap}
use Rattle.rules.proofs.BitmapLaws.{pages_refill, first_refill, length_refill, content_refill, refill_same}
use Rattle.rules.specs.WellFormed.{HasPackets, HasBelow, HasParts, IsDirectory, MapHolds}
use Rattle.rules.specs.Paths.{Site, at_root, below}
use Rattle.rules.specs.Writes.{control_of, map_writes}
use Rattle.reading_theorems.specs.ByteLaws.{zero_bytes}
use Rattle.reading_theorems.specs.PacketLaws.{ByteView}
use Rattle.reading_theorems.specs.SubControlLaws.{length_sub}
use Rattle.reading_theorems.specs.ControlLaws.{control_size_lem}
use Rattle.reading_theorems.specs.Directory.{own_links, all_split}
use Rattle.editing_theorems.specs.Capacity.{capacity_is}
use Rattle.editing_theorems.specs.AfterWrites.{write_pages, WritesFit}
use Rattle.editing_theorems.specs.HeldPackets.{pages_linked, count_directory, packets_same, below_same}

-- ---- control fields
marker_byte : (n : ℕ) → n ≤ 2 → marker n < 256
unfolding marker
marker_byte n h = omega arith

pub sub_bytes : (g : Geometry) (up : Parent) → Valid g → Bytes (sub_control g.width up)
unfolding sub_control
sub_bytes g up v = (
  marker_byte g.width v.two,
  bytes_append (number_bytes 4 up.name) (0 ∷ number_bytes g.width up.start) (number_bytes_lem 4 up.name) (omega arith, number_bytes_lem g.width up.start),
)

place_bytes_lem : (n start k : ℕ) → Bytes (place_bytes n start k)
place_bytes_lem n start k =
    bytes_append (replicate (4 - 2 * n) 0) (number_bytes n start ++ number_bytes n k) (subst Bytes (zero_bytes (4 - 2 * n)) (number_bytes_lem (4 - 2 * n) 0))
    (bytes_append (number_bytes n start) (number_bytes n k) (number_bytes_lem n start) (number_bytes_lem n k))

pub root_bytes : (g : Geometry) (bits : List ℕ) (m : Map) → Valid g → Bytes bits → Bytes (root_control g.width bits m)
unfolding root_control
root_bytes g bits in_root v b = (
  marker_byte g.width v.two,
  bytes_append (number_bytes g.width 0) (128 ∷ bits) (number_bytes_lem g.width 0) (omega arith, b),
)
root_bytes g bits (in_file ls) v b = (
  marker_byte g.width v.two,
  bytes_append (number_bytes g.width 0) (0 ∷ place_bytes g.width (first ls) (length ls)) (number_bytes_lem g.width 0) (omega arith, place_bytes_lem g.width (first ls) (length ls)),
)

pub root_length : (g : Geometry) (bits : List ℕ) (m : Map) → Valid g → length bits ≡ map_size g m → length (root_control g.width bits m) ≡ control_size g
unfolding root_control
root_length g bits in_root v h = simp (length-append, length_number) (omega (arith, control_size_lem g))
root_length g bits (in_file ls) v h = simp (length-append, length_number, length-replicate) (omega (arith, control_size_lem g, v.two))

-- a bitmap file's place does not tell its bits
pub root_same : (n : ℕ) (bits new : List ℕ) (ls : List Link) → root_control n new (in_file (refill ls new)) ≡ root_control n bits (in_file ls)
unfolding root_control
root_same n bits new ls =
    ap₂ (λ (a b : ℕ). marker n ∷ (number_bytes n 0 ++ (0 ∷ place_bytes n a b))) (first_refill ls new) (length_refill ls new)

-- a directory's, wherever it stands
pub control_length : (g : Geometry) → Valid g → (bits : List ℕ) (m : Map) → length bits ≡ map_size g m → (site : Site) → length (control_of g.width bits m site) ≡ control_size g
control_length g v bits m l at_root = root_length g bits m v l
control_length g v bits m l (below up) = length_sub g up

pub control_bytes : (g : Geometry) → Valid g → (bits : List ℕ) (m : Map) → Bytes bits → (site : Site) → Bytes (control_of g.width bits m site)
control_bytes g v bits m b at_root = root_bytes g bits m v b
control_bytes g v bits m b (below up) = sub_bytes g up v

-- ---- a bitmap file filled anew
pub refill_twice : (ls : List Link) (bits : List ℕ) → length bits ≡ length (content ls) → refill (refill ls bits) bits ≡ refill ls bits
refill_twice ls bits h = ap (refill (refill ls bits)) (sym (content_refill ls bits h)) ∙ refill_same (refill ls bits)

refill_fits : (g : Geometry) → Valid g → (v : View) → ByteView g v → (ls : List Link) (bits : List ℕ) → Bytes bits → Within g.pages (pages ls) → HasPackets v (linked ls)
    → WritesFit g (linked (refill ls bits))
refill_fits g valid v bv [] bits h f s = tt
refill_fits g valid v bv (link p b ∷ ls) bits h f s =
    let r = bv.room p b (first ls) s.0 in (
      record {
        below = range_of p g.pages (omega (arith, f p, hit_same p));
        room = omega (arith, r, length-take (length b) bits, capacity_is g, valid.least, valid.two);
        pointer = rw (first_refill ls (drop (length b) bits)) (bv.pointer p b (first ls) s.0);
        bytes = bytes_take (length b) bits h;
      },
      refill_fits g valid v bv ls (drop (length b) bits) (bytes_drop (length b) bits h) (λ x. omega (arith, f x)) s.1,
    )

-- its own bytes change nothing, and its pages then stand
pub remap_same : (g : Geometry) (bits : List ℕ) (m : Map) → MapHolds g bits m → remap bits m ≡ m
remap_same g bits in_root h = refl
remap_same g bits (in_file ls) h = ap in_file (ap (refill ls) (sym h.1) ∙ refill_same ls)

-- the bitmap's pages with the bytes that they have stand
pub map_standing : (g : Geometry) (vs : Views) (bits : List ℕ) (t : Items) (m : Map) → MapHolds g bits m → HasParts g vs bits t m → HasPackets vs.pages (map_writes g bits t m)
map_standing g vs bits t in_root h s = go (directory_links g (root_control g.width bits in_root) t) s.own
  where
    go : (ls : List Link) → HasPackets vs.pages (linked ls) → HasPackets vs.pages (take 1 (linked ls))
    go [] s = tt
    go (link p b ∷ ls) s = (s.0, tt)
map_standing g vs bits t (in_file ls) h s = let e : refill ls bits ≡ ls = ap (refill ls) (sym h.1) ∙ refill_same ls in rw e s.map

pub map_size_lem : (g : Geometry) (bits : List ℕ) (m : Map) → map_size g (remap bits m) ≡ map_size g m
map_size_lem g bits in_root = refl
map_size_lem g bits (in_file ls) = refl

-- ---- the bitmap's pages written
module _ (g : Geometry) (valid : Valid g) (t : Items) (is_directory : IsDirectory t) (bits new : List ℕ) (room : length new ≡ length bits) (bytes : Bytes new)
    (v : View) (bv : ByteView g v) where
  pub map_fits : (m : Map) → MapHolds g bits m → length bits ≡ map_size g m → ((x : ℕ) → count x (all_pages t) + count x (map_pages m) ≤ count x (range g.pages))
      → HasParts g (one_view v) bits t m → WritesFit g (map_writes g new t (remap new m))
  map_fits in_root h l f s = go t is_directory s.own (λ x. omega (arith, f x, all_split x t))
    where
      go : (t : Items) → IsDirectory t → HasPackets v (linked (directory_links g (root_control g.width bits in_root) t)) → Within g.pages (own_pages t)
          → WritesFit g (take 1 (linked (directory_links g (root_control g.width new in_root) t)))
      go end i s f = absurd i
      go (file l ls t) i s f = absurd i
      go (dir l d t) i s f = absurd i
      go (page p t) i s f =
          let old = root_control g.width bits in_root in
          let control = root_control g.width new in_root in
          let b = token_bytes g.width (tokens t) in
          let next = first (token_links g.width [] (tokens t)) in
          let e₁ = root_length g bits in_root valid l in
          let e₂ = root_length g new in_root valid (room ∙ l) in
          let b' : Bytes b = subst Bytes (drop_at old b (length old) refl) (bytes_drop (length old) (old ++ b) (bv.bytes p (old ++ b) next s.0)) in (
            record {
              below = range_of p g.pages (omega (arith, f p, hit_same p));
              room = omega (arith, bv.room p (old ++ b) next s.0, length-append old b, length-append control b, e₁, e₂, capacity_is g, valid.least, valid.two);
              pointer = bv.pointer p (old ++ b) next s.0;
              bytes = bytes_append control b (root_bytes g new in_root valid bytes) b';
            },
            tt,
          )
  map_fits (in_file ls) h l f s =
      rw (refill_twice ls new (room ∙ ap length (sym h.1))) (refill_fits g valid v bv ls new bytes (λ x. omega (arith, f x)) s.map)

  -- which pages these are
  pub map_pages_lem : (x : ℕ) (m : Map) → count x (write_pages (map_writes g new t (remap new m))) ≤ count x (own_pages t) + count x (map_pages m)
  map_pages_lem x in_root = go (directory_links g (root_control g.width new in_root) t) (own_links g (root_control g.width new in_root) t)
    where
      go : (ls : List Link) → pages ls ≡ own_pages t → count x (write_pages (take 1 (linked ls))) ≤ count x (own_pages t) + 0
      go [] e = omega arith
      go (link p b ∷ ls) e = omega (arith, ap (count x) e)
  map_pages_lem x (in_file ls) = omega (arith, ap (count x) (pages_linked (refill (refill ls new) new) ∙ pages_refill (refill ls new) new ∙ pages_refill ls new))

  pub map_holds : (m : Map) → MapHolds g bits m → MapHolds g new (remap new m)
  map_holds in_root h = h
  map_holds (in_file ls) h = (omega (arith, h.0, length_refill ls new), content_refill ls new (room ∙ ap length (sym h.1)))

  -- where they stand and all else is as before, every packet stands
  pub map_written : (w : View) (m : Map) → MapHolds g bits m → ((x : ℕ) → count x (all_pages t) + count x (map_pages m) ≤ count x (range g.pages))
      → HasParts g (one_view v) bits t m
      → HasPackets w (map_writes g new t (remap new m)) → ((x : ℕ) → count x (write_pages (map_writes g new t (remap new m))) ≡ 0 → w x ≡ v x) → HasParts g (one_view w) new t (remap new m)
  map_written w in_root h f s a k = go t is_directory s.own s.below a k (λ x. omega (arith, f x, all_split x t))
    where
      go : (t : Items) → IsDirectory t → HasPackets v (linked (directory_links g (root_control g.width bits in_root) t)) → HasBelow g (one_view v) the_root t
          → HasPackets w (take 1 (linked (directory_links g (root_control g.width new in_root) t)))
          → ((x : ℕ) → count x (write_pages (take 1 (linked (directory_links g (root_control g.width new in_root) t)))) ≡ 0 → w x ≡ v x)
          → ((x : ℕ) → count x (own_pages t) + count x (inner_pages t) ≤ count x (range g.pages)) → HasParts g (one_view w) new t in_root
      go end i s b a k f = absurd i
      go (file l ls t) i s b a k f = absurd i
      go (dir l d t) i s b a k f = absurd i
      go (page p t) i s b a k f =
          record {
            own = (a.0, packets_same v w (linked (directory_links g [] t)) (λ x j. k x (omega (arith, f x, range_le x g.pages, count_directory g x [] t))) s.1);
            below = below_same g v w the_root t (λ x j. k x (omega (arith, f x, range_le x g.pages))) b;
            map = tt;
          }
  map_written w (in_file ls) h f s a k =
      let e = refill_twice ls new (room ∙ ap length (sym h.1)) in
      let c : (x : ℕ) → count x (write_pages (linked (refill (refill ls new) new))) ≡ count x (pages ls)
      = λ x. ap (count x) (pages_linked (refill (refill ls new) new) ∙ pages_refill (refill ls new) new ∙ pages_refill ls new) in
      let control = root_control g.width bits (in_file ls) in
      record {
        own = rw (root_same g.width bits new ls)
            (packets_same v w (linked (directory_links g control t)) (λ x j. k x (omega (arith, f x, range_le x g.pages, all_split x t, count_directory g x control t, c x))) s.own);
        below = below_same g v w the_root t (λ x j. k x (omega (arith, f x, range_le x g.pages, all_split x t, c x))) s.below;
        map = rw e at a;
      }
