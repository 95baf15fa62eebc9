-- Packets that stand: the pages they take, what leaves them standing, and an image whose view has every packet of a tree.
use Rattle.std.specs.Prelude.{◌≡◌, refl, List, [], ◌∷◌, ◌++◌, ℕ, ◌+◌, ◌≤◌}
use Rattle.std.proofs.Common.{ap, ◌∙◌, arith}
use Rattle.geometry.specs.declared.Geometry.{Geometry}
use Rattle.geometry.specs.Geometry.{Fit}
use Rattle.packet.specs.Packet.{View, Write, write}
use Rattle.rules.specs.PageSets.{count, Once, Within}
use Rattle.rules.proofs.PageSetLaws.{hit_same, count_append}
use Rattle.rules.specs.Chain.{one_view, views_of, Link, link, pages, linked}
use Rattle.rules.specs.Tree.{Items, end, page, file, dir, start_of, directory_links, own_pages, inner_pages, keys, Map, in_root, in_file, map_pages, Image, used}
use Rattle.rules.specs.Control.{sub_control, Parent}
use Rattle.rules.specs.Bitmap.{map_size, bitmap_of}
use Rattle.rules.proofs.BitmapLaws.{length_bitmap, bytes_bitmap}
use Rattle.rules.specs.WellFormed.{HasPackets, HasBelow, HasParts, map_packets, IsDirectory, Entries, MapHolds, WellFormed}
use Rattle.reading_theorems.specs.Directory.{own_links}
use Rattle.editing_theorems.specs.AfterWrites.{write_pages, WritesFit}

-- ---- the pages of packets
pub pages_linked : (ls : List Link) → write_pages (linked ls) ≡ pages ls
pages_linked [] = refl
pages_linked (link p b ∷ ls) = ap (λ (l : List ℕ). p ∷ l) (pages_linked ls)

pub pages_joined : (ws us : List Write) → write_pages (ws ++ us) ≡ write_pages ws ++ write_pages us
pages_joined [] us = refl
pages_joined (write p b n ∷ ws) us = ap (λ (l : List ℕ). p ∷ l) (pages_joined ws us)

pub count_joined : (x : ℕ) (ws us : List Write) → count x (write_pages (ws ++ us)) ≡ count x (write_pages ws) + count x (write_pages us)
count_joined x ws us = ap (count x) (pages_joined ws us) ∙ count_append x (write_pages ws) (write_pages us)

pub count_directory : (g : Geometry) (x : ℕ) (control : List ℕ) (t : Items) → count x (write_pages (linked (directory_links g control t))) ≡ count x (own_pages t)
count_directory g x control t = ap (count x) (pages_linked (directory_links g control t) ∙ own_links g control t)

pub count_map : (x : ℕ) (m : Map) → count x (write_pages (map_packets m)) ≡ count x (map_pages m)
count_map x in_root = refl
count_map x (in_file ls) = ap (count x) (pages_linked ls)

-- ---- packets stay where their pages do
pub packets_same : (v w : View) (ws : List Write) → ((x : ℕ) → 1 ≤ count x (write_pages ws) → w x ≡ v x) → HasPackets v ws → HasPackets w ws
packets_same v w [] h s = tt
packets_same v w (write p b n ∷ ws) h s = (h p (omega (arith, hit_same p)) ∙ s.0, packets_same v w ws (λ x k. h x (omega arith)) s.1)

-- and all below a directory, read in one view
pub below_same : (g : Geometry) (v w : View) (here : Parent) (t : Items) → ((x : ℕ) → 1 ≤ count x (inner_pages t) → w x ≡ v x) → HasBelow g (one_view v) here t → HasBelow g (one_view w) here t
below_same g v w here end h s = tt
below_same g v w here (page p t) h s = below_same g v w here t h s
below_same g v w here (file l ls t) h s =
    let c : (x : ℕ) → count x (pages ls ++ inner_pages t) ≡ count x (pages ls) + count x (inner_pages t) = λ x. count_append x (pages ls) (inner_pages t) in
    (packets_same v w (linked ls) (λ x j. h x (omega (arith, c x, ap (count x) (pages_linked ls)))) s.0, below_same g v w here t (λ x j. h x (omega (arith, c x))) s.1)
below_same g v w here (dir l d t) h s =
    let control = sub_control g.width here in
    let c : (x : ℕ) → count x (inner_pages (dir l d t)) ≡ count x (own_pages d) + (count x (inner_pages d) + count x (inner_pages t)) = λ x. simp count_append in (
      packets_same v w (linked (directory_links g control d)) (λ x j. h x (omega (arith, c x, count_directory g x control d))) s.0,
      below_same g v w (record { name = l.name; start = start_of d }) d (λ x j. h x (omega (arith, c x))) s.1,
      below_same g v w here t (λ x j. h x (omega (arith, c x))) s.2,
    )

pub fits_join : (g : Geometry) (ws us : List Write) → WritesFit g ws → WritesFit g us → WritesFit g (ws ++ us)
fits_join g [] us f h = h
fits_join g (write p b n ∷ ws) us f h = (f.0, fits_join g ws us f.1 h)

pub fits_left : (g : Geometry) (ws us : List Write) → WritesFit g (ws ++ us) → WritesFit g ws
fits_left g [] us f = tt
fits_left g (write p b n ∷ ws) us f = (f.0, fits_left g ws us f.1)

pub fits_right : (g : Geometry) (ws us : List Write) → WritesFit g (ws ++ us) → WritesFit g us
fits_right g [] us f = f
fits_right g (write p b n ∷ ws) us f = fits_right g ws us f.1

-- ---- an image in which every packet of a tree stands, with the bitmap of its pages, is well formed
pub image_stands : (g : Geometry) (image : List ℕ) (i : Image) → Fit g image → IsDirectory i.tree → start_of i.tree ≡ 0 → Once (keys i.tree) → Entries g.width 8 i.tree
    → MapHolds g (bitmap_of g (used i) i.map) i.map → Within g.pages (used i) → HasParts g (views_of g image) (bitmap_of g (used i) i.map) i.tree i.map → WellFormed g image i
image_stands g image i fit d z o w m f s = record {
  fits = fit;
  holds = record {
    is_directory = d;
    at_zero = z;
    names = o;
    entries = w;
    map = m;
    room = length_bitmap (used i) 0 (map_size g i.map);
    bytes = bytes_bitmap (used i) 0 (map_size g i.map);
    packets = s;
    apart = f;
  };
}
