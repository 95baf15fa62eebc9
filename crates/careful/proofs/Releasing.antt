-- A file whose pages are marked: the chain and its entry, then the bitmap without the chain that is replaced, are the three steps of the edit.
use mathlib.Core.Path.{◌≡◌, ap, sym, ◌∙◌, subst}
use mathlib.Core.Bool.{true, false}
use mathlib.Core.List.{List}
use Prim.Native.Nat.{ℕ}
use Rattle.geometry.specs.declared.Geometry.{Geometry}
use Rattle.geometry.specs.Geometry.{Fit}
use Rattle.packet.specs.Packet.{view_of}
use Rattle.packet.specs.declared.Budget.{Budget}
use Rattle.packet.specs.Budgets.{Progress, Open, write_all}
use Rattle.rules.specs.Chain.{pages}
use Rattle.rules.specs.Owners.{OwnerRecord}
use Rattle.owners.specs.Owned.{Represents, ClaimsBelow}
use Rattle.owners.specs.OwnerLaws.{represents_freed}
use Rattle.owners.specs.BitLaws.{marks_none, represents_below}
use Rattle.editing_theorems.specs.EditedImage as es
use Rattle.marks.specs.MapPages.{HasRoot, WritesMap}
use Rattle.edit.specs.declared.Pages.{Pages}
use Rattle.edit.specs.declared.NewFile.{NewFile}
use Rattle.edit.specs.OldChains.{OldChain, HasOld, FreesOld}
use Rattle.edit.specs.StepLaws.{step₂, step₃, two_stopped, two_open, fit_then, has_root, map_is}
use Rattle.careful.specs.MarkedPuts.{MarkedPut}

module _ {g : Geometry} {image : List ℕ} {table : List OwnerRecord} {bytes : List ℕ} {f : NewFile} {p : Pages} {n : ℕ} (budget : Budget) (o : Open budget) (M : MarkedPut g image table bytes f p n) {mid : List ℕ} {rest : Budget}
    (carried : ◌≡◌ {A = Progress} (record { image = mid; budget = rest }) (step₂ M.plan.edit budget)) where
  -- a write was held back
  pub marked_stop : rest.stopped ≡ true → ◌≡◌ {A = Progress} (record { image = mid; budget = rest }) (step₃ M.plan.edit budget)
  marked_stop z = two_stopped M.plan.edit budget o mid rest carried z

  module _ (z : rest.stopped ≡ false) where
    image_is : mid ≡ es.image₂ M.plan.edit
    image_is = two_open M.plan.edit budget o mid rest carried z

    old : OldChain g (view_of g mid) f.replaces M.links
    old = subst (λ (i : List ℕ). OldChain g (view_of g i) f.replaces M.links) (sym image_is) M.old

    pub marked_old : HasOld g (view_of g mid) f.replaces
    marked_old = record { links = M.links; old = old }

    pub marked_fit : Fit g mid × HasRoot g (view_of g mid)
    marked_fit = (fit_then M.plan.edit mid image_is, has_root M.plan.edit mid image_is)

    -- the pages marked get owners, then those of the replaced chain are free
    module _ {claimed u : List OwnerRecord} (c : ClaimsBelow table p.below claimed) (r : FreesOld g (view_of g mid) f.replaces claimed u) where
      kept : Represents u (es.left M.plan.edit)
      kept =
          let E = M.plan.edit in
          subst (λ (t : List OwnerRecord). Represents t (es.left E)) (sym (r M.links old))
          (represents_freed claimed M.all (es.left E) (pages M.links) (represents_below table M.all p.below claimed M.marks c) M.rest)

      pub marked_done : (after : List ℕ) (left : Budget) → WritesMap g u 0 mid rest after left → ◌≡◌ {A = Progress} (record { image = after; budget = left }) (step₃ M.plan.edit budget)
      marked_done after left w =
          let E = M.plan.edit in
          map_is E mid image_is u 0 (marks_none u (es.left E) kept) rest after left w ∙ ap (write_all g (es.ws₃ E)) carried
