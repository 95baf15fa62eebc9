-- A well-formed image's root and bitmap stand.
use Rattle.std.specs.Prelude.{◌≡◌, refl, List, ℕ, ◌≤◌, length}
use Rattle.std.proofs.Common.{ap, ◌∙◌, arith}
use Rattle.geometry.specs.declared.Geometry.{Geometry}
use Rattle.packet.specs.Packet.{View, view_of}
use Rattle.rules.specs.PageSets.{hit, count, Within}
use Rattle.rules.proofs.PageSetLaws.{hit_same, count_append, range_le, range_of, within_length}
use Rattle.rules.specs.Chain.{views_of, pages}
use Rattle.rules.proofs.ChainLaws.{length_pages}
use Rattle.rules.specs.Tree.{Items, end, page, file, dir, start_of, all_pages, Map, in_root, in_file, map_pages, Image}
use Rattle.rules.specs.Bitmap.{map_size}
use Rattle.rules.specs.WellFormed.{HasPackets, map_packets, IsDirectory, MapHolds, WellFormedWith}
use Rattle.reading_theorems.specs.Directory.{rest_zero}
use Rattle.marks.specs.MapPages.{MapAt, RootHeld}

-- page 0 is the root's
pub zero_taken : (t : Items) → IsDirectory t → start_of t ≡ 0 → 1 ≤ count 0 (all_pages t)
zero_taken end i e = absurd i
zero_taken (file l ls t) i e = absurd i
zero_taken (dir l d t) i e = absurd i
zero_taken (page p t) i e = omega (arith, ap (hit 0) e, hit_same 0)

module _ (g : Geometry) (v : View) (bits : List ℕ) where
  pub map_holds : (m : Map) → MapHolds g bits m → length bits ≡ map_size g m → HasPackets v (map_packets m) → count 0 (map_pages m) ≡ 0 → Within g.pages (map_pages m) → MapAt g v m
  map_holds in_root h r s z f = h
  map_holds (in_file ls) h r s z f = (
    record {
      chain = record {
        some = h.0;
        begins = refl;
        packets = s;
        within = λ x k. range_of x g.pages (omega (arith, f x));
        few = omega (arith, within_length g.pages (pages ls) f, length_pages ls);
        onward = rest_zero ls z;
      };
      once = λ x. omega (arith, f x, range_le x g.pages);
    },
    ap length h.1 ∙ r,
  )

-- of an image that stands with any bitmap bytes
pub root_held : (g : Geometry) (image bits : List ℕ) (i : Image) → WellFormedWith g (views_of g image) bits i → RootHeld g (view_of g image) bits i.tree i.map
root_held g image bits i w = record {
  is_directory = w.is_directory;
  at_zero = w.at_zero;
  room = w.room;
  chain = w.packets.own;
  map = map_holds g (view_of g image) bits i.map w.map w.room w.packets.map
      (omega (arith, w.apart 0, range_le 0 g.pages, zero_taken i.tree w.is_directory w.at_zero, count_append 0 (all_pages i.tree) (map_pages i.map)))
      (λ x. omega (arith, w.apart x, count_append x (all_pages i.tree) (map_pages i.map)));
}
