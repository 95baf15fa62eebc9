-- A making by path: its refusals, and that the directory put in its place is the rule's.
use Rattle.std.specs.Prelude.{Err, Result, Ok}
use Rattle.refusals.specs.declared.Refusal.{Refusal}
use mathlib.Core.Path.{◌≡◌, refl, ap, sym, ◌∙◌, subst}
use mathlib.Core.List.{List}
use Prim.Native.Nat.{ℕ, ◌+◌, ◌<◌}
use native.Mathlib.Omega.{arith}
use lib.ListN.{length, get_or}
use Rattle.geometry.specs.declared.Geometry.{Geometry}
use Rattle.geometry.specs.Geometry.{Fit, control_size}
use Rattle.geometry.specs.NumberLaws.{bytes_from}
use Rattle.packet.specs.Packet.{view_of}
use Rattle.packet.specs.declared.Budget.{Budget}
use Rattle.packet.specs.Budgets.{unlimited}
use Rattle.rules.specs.Chain.{Link, pages}
use Rattle.owners.specs.Owned.{freed}
use Rattle.rules.specs.Owners.{OwnerRecord}
use Rattle.rules.specs.Control.{Parent, sub_control}
use Rattle.rules.specs.Paths.{directory_path_of}
use Rattle.rules.specs.Directories.{make_target, new_directory, make_directory}
use Rattle.rules.specs.Candidate.{Absent, EmptyDirectory}
use Rattle.rules.specs.Demand2.{empty_directory}
use Rattle.reading_theorems.specs.SubControlLaws.{length_sub}
use Rattle.editing_theorems.proofs.PutDone.{PutCall}
use Rattle.editing_theorems.proofs.PutCalls.{a_making}
use Rattle.lookup.specs.declared.Reached.{Reached}
use Rattle.edit.specs.declared.NewFile.{NewFile}
use Rattle.edit.specs.OldChains.{FreesOld}
use Rattle.edit.specs.Plans.{PlainPutting, PutsFile}
use Rattle.volume.specs.Edits.{Answered, TableOf}
use Rattle.put.proofs.RequestPuts as request
use Rattle.make.specs.Vacancies.{Room, IsVacant, Vacant, PathMade}

-- a control field fills its size
pub size_is : (g : Geometry) (w : ℕ) → w ≡ control_size g → w ≡ 6 + g.width
unfolding control_size
size_is g w h = omega (arith, h)

pub control_length : (g : Geometry) (up : Parent) (w : ℕ) → w ≡ control_size g → length (sub_control g.width up) ≡ w
control_length g up w h = length_sub g up ∙ sym h

module _ (g : Geometry) (image : List ℕ) (table : List OwnerRecord) (path : List ℕ) (fit : Fit g image) (T : TableOf g image table) (path_fits : (i : ℕ) → get_or path i 0 < 256) where
  abbrev C : PutCall (directory_path_of path) Absent EmptyDirectory (make_target path) new_directory empty_directory
  C = a_making path (bytes_from path path_fits)

  module _ (r : Result (Reached × NewFile) Refusal) (h : Vacant g image path r) (budget : Budget) where
    pub refuses : (z : Refusal) → r ≡ Err z → PathMade g image path budget image (Err z)
    refuses z e = request.refuses C g image table fit T budget z (λ i c. subst (λ (x : Result (Reached × NewFile) Refusal). IsVacant g image path i x) e (h i c))

    -- ---- the directory at its place, no chain being replaced
    module _ (d : Reached) (f : NewFile) (e : r ≡ Ok (d, f)) where
      room : Room g image path T.tree d f
      room = subst (IsVacant g image path T.tree) e (h T.tree T.accepted)

      none_freed : FreesOld g (view_of g image) f.replaces table table
      none_freed ls o = subst (λ (l : List Link). table ≡ freed (pages l) table) (sym (o.none (omega (arith, room.fresh)))) refl

      module _ (control : List ℕ) (is : control ≡ sub_control g.width (record { name = d.name; start = d.start })) where
        control_is : new_directory g room.place.goal.place ≡ control
        control_is = ap (sub_control g.width) room.above.here_is ∙ sym is

        pub to_make : PlainPutting g image table control f
        to_make = subst (λ (b : List ℕ). PlainPutting g image table b f) control_is (request.to_put C g image table fit T budget f room.place table none_freed)

        pub make_at : (after : List ℕ) (o : Result Budget Refusal) → PutsFile g image table control f budget after o → PathMade g image path budget after o
        make_at after o k = request.put_at_lem C g image table fit T budget f room.place table none_freed after o
            (subst (λ (b : List ℕ). PutsFile g image table b f budget after o) (sym control_is) k)

  module _ (budget : Budget) (b : budget ≡ unlimited) (after : List ℕ) (o : Result Budget Refusal) (h : PathMade g image path budget after o) where
    pub answer_done : (left : Budget) → o ≡ Ok left → Answered image (make_directory g path image) (Ok tt) after
    answer_done left e = request.answer_done C g image table fit T budget b after o h left e

    pub answer_refused : (z : Refusal) → o ≡ Err z → Answered image (make_directory g path image) (Err z) after
    answer_refused z e = request.answer_refused C g image table fit T budget b after o h z e
