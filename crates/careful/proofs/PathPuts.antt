-- A careful put by path: the file put where it goes, over the table of all pages in use.
use Rattle.std.specs.Prelude.{Result, Ok, Err}
use Rattle.refusals.specs.declared.Refusal.{Refusal}
use mathlib.Core.Path.{◌≡◌, refl, sym, ◌∙◌, subst}
use mathlib.Core.List.{List}
use Prim.Native.Nat.{ℕ, ◌<◌}
use lib.ListN.{get_or}
use Rattle.geometry.specs.declared.Geometry.{Geometry}
use Rattle.geometry.specs.Geometry.{Fit}
use Rattle.packet.specs.Packet.{Write}
use Rattle.packet.specs.declared.Budget.{Budget}
use Rattle.rules.specs.Result.{Res, and_then}
use Rattle.rules.proofs.ResultLaws.{ok_inj, then_ok, then_err}
use Rattle.rules.specs.Answers.{refused}
use Rattle.rules.specs.Tree.{Image}
use Rattle.rules.specs.Paths.{Target, a_file}
use Rattle.rules.specs.Put.{put_target}
use Rattle.rules.specs.Owners.{OwnerRecord}
use Rattle.careful_theorems.proofs.CarefulPuts as careful
use Rattle.edit.specs.declared.NewFile.{NewFile}
use Rattle.edit.specs.Plans.{Outcomes}
use Rattle.volume.specs.Edits.{TableOf}
use Rattle.put.specs.Places.{ItemPlace, IsPlaced, Places}
use Rattle.put.proofs.PathPuts.{asked, table_used}
use Rattle.careful.specs.MarkedPuts.{CarefulPutting, careful_put_writes, CarefullyPutsFile, CarefulPathPut}

module _ (g : Geometry) (image : List ℕ) (table : List OwnerRecord) (path bytes : List ℕ) (fit : Fit g image) (T : TableOf g image table) (path_fits : (i : ℕ) → get_or path i 0 < 256) (bytes_fit : (i : ℕ) → get_or bytes i 0 < 256)
    (r : Result NewFile Refusal) (h : Places g image path r) (budget : Budget) where
  abbrev tree : Image
  tree = T.tree

  pub refuses : (z : Refusal) → r ≡ Err z → CarefulPathPut g image path bytes budget image (Err z)
  refuses z e i c = let z : put_target path i.tree ≡ refused z = subst (λ (x : Result NewFile Refusal). IsPlaced g image (put_target path) i x) e (h i c) in (simp (z, then_err), refl)

  module _ (f : NewFile) (e : r ≡ Ok f) where
    place : ItemPlace g image (put_target path) tree f
    place = subst (IsPlaced g image (put_target path) tree) e (h tree T.accepted)

    pub to_put : CarefulPutting g image table bytes f
    to_put =
        let a = asked g image table path bytes fit T path_fits bytes_fit place.goal place.reached in
        record {
          putting = record {
            stands = a_file;
            asked = a;
            at = place.at;
            represents = table_used g image table path bytes fit T path_fits bytes_fit place.goal place.reached;
            clear = careful.clear g image bytes a_file a;
          };
          old = place.old;
          pages_are = place.pages_are;
        }

    pub put_at_lem : (after : List ℕ) (o : Result Budget Refusal) → CarefullyPutsFile g image table bytes f budget after o → CarefulPathPut g image path bytes budget after o
    unfolding to_put
    put_at_lem after o k i c =
        let x = place.goal in
        let same : tree ≡ i = ok_inj (sym T.accepted ∙ c) in
        subst (λ (j : Image). Outcomes g (and_then (put_target path j.tree) (careful_put_writes g bytes j)) image budget after o) same
        (subst (λ (z : Res Target). Outcomes g (and_then z (careful_put_writes g bytes tree)) image budget after o) (sym place.reached)
        (subst (λ (z : Res (List Write)). Outcomes g z image budget after o) (sym (then_ok x (careful_put_writes g bytes tree))) (k to_put)))
