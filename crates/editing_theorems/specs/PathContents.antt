-- What stands at a path of an accepted image stands in its view, by the rules.
use Rattle.std.specs.Prelude.{◌≡◌, List, [], ◌∷◌, ℕ, zero, suc, ◌*◌, ◌≤◌, ◌<◌, length}
use Rattle.std.proofs.Common.{arith, length-append, eq-eqb, ne_eqb}
use Rattle.geometry.specs.declared.Geometry.{Geometry}
use Rattle.geometry.specs.ChooseLaws.{choose_true, choose_false}
use Rattle.geometry.specs.Geometry.{data_capacity, control_size, first_entries, later_entries, Valid}
use Rattle.packet.specs.Packet.{View}
use Rattle.rules.proofs.PageSetLaws.{same, other, hits}
use Rattle.rules.specs.Chain.{Views, views_of, Link, link, first, content, linked}
use Rattle.rules.specs.Tree.{key_of, Items, end, page, file, dir, start_of, directory_links, Image, used}
use Rattle.rules.specs.Control.{Parent, the_root, root_control, sub_control}
use Rattle.rules.specs.Bitmap.{bitmap_of}
use Rattle.rules.specs.WellFormed.{HasPackets, HasBelow, Entries, WellFormed}
use Rattle.rules.specs.Paths.{Found, nothing, a_file, a_directory, find}
use Rattle.rules.specs.Candidate.{look_up}
use Rattle.reading_theorems.specs.PacketLaws.{ByteView}
use Rattle.reading_theorems.specs.SubControlLaws.{length_sub}
use Rattle.editing_theorems.specs.Capacity.{PagesHold, first_holds}
use Rattle.editing_theorems.specs.DirectoryWrites.{packets_hold}
use Rattle.editing_theorems.specs.MapWrites.{root_length}
use Rattle.editing_theorems.specs.ContextLaws.{Shaped}

pub record DirectoryThere (g : Geometry) (vs : Views) (t : Items) : Type 0 where
  pub levels : ℕ
  pub shaped : Shaped g.width levels t
  pub control : List ℕ
  pub size : length control ≡ control_size g
  pub own : HasPackets vs.pages (linked (directory_links g control t))
  pub here : Parent
  pub below : HasBelow g vs here t

-- a file's chain stands in the view of its extension
abbrev pub FoundIn : Geometry → Views → Found → Type 0
FoundIn g vs nothing = Unit {0}
FoundIn g vs (a_file l ls) = (0 < length ls) × HasPackets (vs.file l.extension) (linked ls)
FoundIn g vs (a_directory l d) = DirectoryThere g vs d

pub find_stands : (g : Geometry) (vs : Views) (levels : ℕ) (here : Parent) (k : ℕ) (t : Items) → Entries g.width levels t → HasBelow g vs here t → FoundIn g vs (find k t)
find_stands g vs levels here k end w s = tt
find_stands g vs levels here k (page p t) w s = find_stands g vs levels here k t w s
find_stands g vs levels here k (file l ls t) w s = elim (hits k (key_of l)) [
  | same e i ↦ simp (eq-eqb k (key_of l) e, choose_true) (w.2, s.0)
  | other e i ↦ simp (ne_eqb k (key_of l) e, choose_false) (find_stands g vs levels here k t w.3 s.1)
]
find_stands g vs zero here k (dir l d t) w s = absurd w.4
find_stands g vs (suc levels) here k (dir l d t) w s =
    elim (hits k (key_of l)) [
      | same e i ↦ simp (eq-eqb k (key_of l) e, choose_true) (record {
        levels = levels;
        shaped = record { is_directory = w.2; names = w.3; entries = w.4 };
        control = sub_control g.width here;
        size = length_sub g here;
        own = s.0;
        here = record { name = l.name; start = start_of d };
        below = s.1;
      })
      | other e i ↦ simp (ne_eqb k (key_of l) e, choose_false) (find_stands g vs (suc levels) here k t w.5 s.2)
    ]

pub path_stands : (g : Geometry) (vs : Views) (ks : List ℕ) (f : Found) → FoundIn g vs f → FoundIn g vs (look_up ks f)
path_stands g vs [] f h = h
path_stands g vs (k ∷ ks) nothing h = tt
path_stands g vs (k ∷ ks) (a_file l ls) h = tt
path_stands g vs (k ∷ ks) (a_directory l d) h = path_stands g vs ks (find k d) (find_stands g vs h.levels h.here k d h.shaped.entries h.below)

-- the root of a well-formed image
pub root_there : (g : Geometry) (image : List ℕ) (i : Image) → WellFormed g image i → DirectoryThere g (views_of g image) i.tree
root_there g image i w =
    let bits = bitmap_of g (used i) i.map in
    record {
      levels = 8;
      shaped = record { is_directory = w.holds.is_directory; names = w.holds.names; entries = w.holds.entries };
      control = root_control g.width bits i.map;
      size = root_length g bits i.map w.fits.valid w.holds.room;
      own = w.holds.packets.own;
      here = the_root;
      below = w.holds.packets.below;
    }

-- no page of a directory that stands has more entries than it holds
pub there_holds : (g : Geometry) → Valid g → (vs : Views) → ByteView g vs.pages → (t : Items) → DirectoryThere g vs t → PagesHold (first_entries g) (later_entries g) t
there_holds g valid vs bv t h = packets_hold g valid vs.pages bv h.control (first_entries g) (λ k m. first_holds g valid k (omega (arith, h.size))) t h.own

-- a chain reads no more bytes than its pages hold
pub content_size : (g : Geometry) (v : View) → ByteView g v → (ls : List Link) → HasPackets v (linked ls) → length (content ls) ≤ length ls * data_capacity g
content_size g v bv [] s = omega arith
content_size g v bv (link p b ∷ ls) s = omega (arith, length-append b (content ls), bv.room p b (first ls) s.0, content_size g v bv ls s.1)
