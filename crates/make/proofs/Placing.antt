-- Where a new directory goes: each refusal in its place, and the place of its entry in the directory above it.
use Rattle.refusals.specs.declared.Refusal.{Refusal}
use Rattle.std.specs.Prelude.{Result, Ok, Err}
use Rattle.refusals.specs.declared.Fault.TheVariants as fault
use mathlib.Core.Path.{◌≡◌, refl, ap, ◌∙◌}
use mathlib.Core.Bool.{true, false}
use mathlib.Core.List.{List}
use Prim.Native.Nat.{ℕ}
use native.Mathlib.Omega.{arith}
use Rattle.geometry.specs.declared.Geometry.{Geometry}
use Rattle.rules.specs.declared.Entry.{Entry}
use Rattle.rules.specs.Result.{ok, err}
use Rattle.rules.specs.Chain.{Views, views_of}
use Rattle.rules.specs.Tree.{Label, Items, Image}
use Rattle.rules.specs.Check.{check}
use Rattle.rules.specs.Paths.{directory_path_of, nothing, a_directory}
use Rattle.rules.specs.Directories.{vacant}
use Rattle.rules.proofs.TargetLaws.{make_target_none, make_target_hidden, make_target_is, make_target_taken}
use Rattle.entries.specs.declared.Slot.{Slot}
use Rattle.lookup.specs.declared.Reached.{Reached}
use Rattle.lookup.specs.declared.Spot.{Spot}
use Rattle.lookup.specs.declared.PathLookup.{PathLookup}
use Rattle.lookup.specs.declared.PathLookup.TheVariants as lookup
use Rattle.lookup.specs.Searches.{HasTree}
use Rattle.lookup.specs.Targets.{PathAbsent, SubdirectoryAt, LooksFor}
use Rattle.lookup.specs.TargetLaws.{looks_for_as}
use Rattle.edit.specs.declared.NewFile.{NewFile}
use Rattle.put.specs.Places.{NewEntryIs}
use Rattle.make.specs.Vacancies.{IsVacant}

is_vacant : vacant nothing ≡ ok tt
unfolding vacant
is_vacant = refl

not_vacant : (l : Label) (d : Items) → vacant (a_directory l d) ≡ err 21 0
unfolding vacant
not_vacant l d = refl

module _ (g : Geometry) (image path : List ℕ) (r : Result PathLookup Refusal) (look : LooksFor g (views_of g image) path r) (i : Image) (accepted : check g (views_of g image) ≡ ok i) where
  abbrev vs : Views
  vs = views_of g image

  pub not_there : (z : Refusal) → r ≡ Err z → IsVacant g image path i (Err z)
  not_there z e = make_target_none path i.tree _ _ (looks_for_as g vs path i r look accepted (Err z) e)

  module _ {d : Reached} {name extension : ℕ} (e : r ≡ Ok (lookup.Absent d name extension)) where
    gap : PathAbsent g (views_of g image) (directory_path_of path) i d name extension
    gap = looks_for_as g vs path i r look accepted (Ok (lookup.Absent d name extension)) e

    pub has_tree : HasTree g (views_of g image) d.start
    has_tree = record { tree = gap.target.place.items; at = gap.directory.tree }

    pub new_hidden : d.hidden ≡ true → IsVacant g image path i (Err (record { 0 = fault.Hidden; 1 = 0 }))
    new_hidden h = make_target_hidden path i.tree gap.target gap.reached (gap.directory.hidden_is ∙ h)

    pub new_place : d.hidden ≡ false → (f : NewFile) → NewEntryIs g image d.start name extension f → IsVacant g image path i (Ok (d, f))
    new_place h f n = record {
      place = record {
        goal = gap.target;
        reached = make_target_is path i.tree gap.target gap.reached (gap.directory.hidden_is ∙ h) (ap vacant gap.absent ∙ is_vacant);
        at = n.at gap.target.to gap.target.place.items gap.name_is gap.extension_is gap.directory.tree gap.absent;
        old = rw gap.absent (record { chain = λ z. absurd (omega (arith, z, n.fresh)); none = λ _. refl });
        pages_are = rw gap.absent refl;
      };
      above = gap.directory;
      fresh = n.fresh;
    }

  module _ (d : Reached) (x : Spot) (q : r ≡ Ok (lookup.At d x)) where
    abbrev s : Slot
    s = x.slot

    abbrev stamps : ℕ
    stamps = x.stamps

    abbrev e : Entry
    e = x.entry

    there : SubdirectoryAt g (views_of g image) (directory_path_of path) i d s stamps e
    there = looks_for_as g vs path i r look accepted (Ok (lookup.At d x)) q

    pub old_hidden : d.hidden ≡ true → IsVacant g image path i (Err (record { 0 = fault.Hidden; 1 = 0 }))
    old_hidden h = make_target_hidden path i.tree there.target there.reached (there.directory.hidden_is ∙ h)

    pub there_already : d.hidden ≡ false → IsVacant g image path i (Err (record { 0 = fault.Exists; 1 = 0 }))
    there_already h = make_target_taken path i.tree there.target there.reached (there.directory.hidden_is ∙ h) 21 0 (ap vacant there.found ∙ not_vacant there.label there.items)
