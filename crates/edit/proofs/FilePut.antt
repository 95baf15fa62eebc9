-- A plain put of a file: the three steps are the rule's list of page writes.
use Rattle.refusals.specs.declared.Fault.TheVariants as fault
use mathlib.Core.Path.{◌≡◌, refl, ap, sym, ◌∙◌}
use mathlib.Core.Bool.{true, false}
use mathlib.Core.List.{List}
use Prim.Native.Nat.{ℕ}
use native.Mathlib.Omega.{arith}
use lib.ListN.{length}
use Rattle.geometry.specs.declared.Geometry.{Geometry}
use Rattle.geometry.specs.Geometry.{data_capacity, Fit}
use Rattle.packet.specs.Packet.{view_of, Write}
use Rattle.packet.specs.declared.Budget.{Budget}
use Rattle.packet.specs.Budgets.{Progress, Open, write_all}
use Rattle.rules.specs.Result.{Res}
use Rattle.rules.proofs.ResultLaws.{then_ok, then_err}
use Rattle.rules.specs.PageSets.{free_pages}
use Rattle.rules.specs.Chain.{pages_for}
use Rattle.rules.specs.Tree.{used}
use Rattle.rules.specs.Bitmap.{bitmap_of}
use Rattle.rules.specs.Writes.{edited, edit_writes}
use Rattle.rules.specs.Put.{kept_pages}
use Rattle.owners.specs.Owned.{Marks}
use Rattle.owners.specs.BitLaws.{marks_below}
use Rattle.rules.specs.Owners.{OwnerRecord}
use Rattle.editing_theorems.specs.PutLaws as laws
use Rattle.editing_theorems.specs.PutLaws.{Asked}
use Rattle.editing_theorems.specs.EditedImage as es
use Rattle.editing_theorems.specs.EditedImage.{DirectoryOf, OneEdit}
use Rattle.marks.specs.MapPages.{HasRoot, WritesMap}
use Rattle.edit.specs.declared.Pages.{Pages}
use Rattle.edit.specs.declared.NewFile.{NewFile}
use Rattle.std.specs.Prelude.{Ok, Err, Option, Some}
use Rattle.edit.specs.Pages.{Takes}
use Rattle.edit.specs.FilePlans.{full, T', the_edit, edit_is, plan_of, carried_is, left_then}
use Rattle.edit.specs.StepLaws.{step₂, step₃, whole_is, two_stopped, two_open, fit_then, has_root, map_is}
use Rattle.edit.specs.Plans.{change_of, entry_of, Plan, PlainPutting, Outcomes, put_writes}

module _ (g : Geometry) (image : List ℕ) (table : List OwnerRecord) (bytes : List ℕ) (sized : length table ≡ g.pages) (f : NewFile) (P : PlainPutting g image table bytes f) where
  abbrev a : Asked g image bytes P.stands
  a = P.asked

  abbrev writes : Res (List Write)
  writes = put_writes g bytes P.asked.tree (record { to = P.asked.to; place = P.asked.place })

  pub put_full : (n : ℕ) → n ≡ pages_for (data_capacity g) (length bytes) → (r : Option Pages) → Takes table f.extra n r → ((p : Pages) → r ≡ Some p → ⊥) → (budget : Budget)
      → Outcomes g (put_writes g bytes P.asked.tree (record { to = P.asked.to; place = P.asked.place })) image budget image (Err (record { 0 = fault.NoRoom; 1 = 0 }))
  put_full n e r T m budget = (simp (full sized P n e r T m, then_err), refl)

  module _ {n : ℕ} (n_is : n ≡ pages_for (data_capacity g) (length bytes)) {r : Option Pages} (T : Takes table f.extra n r) {p : Pages} (m : r ≡ Some p) where
    abbrev E : OneEdit (laws.directory g image bytes P.stands P.asked)
    E = the_edit sized P n_is T m

    pub plan_is : Plan g image table bytes (change_of f p) (entry_of f p n)
    plan_is = plan_of sized P n_is T m E (record { items_are = refl; after_is = refl; chain_same = refl })

    -- ---- the page writes
    marks_then : Marks table p.below (es.left E)
    marks_then = marks_below table (kept_pages a.to a.tree) (es.left E) p.below P.represents (omega (arith, (T' sized P n_is T m).inside, sized)) (left_then sized P n_is T m)

    module _ (budget : Budget) (o : Open budget) where
      -- what the three steps give is what the rule's list gives
      done : (now : Progress) → now ≡ step₃ E budget → Outcomes g writes image budget now.image (Ok now.budget)
      done now q =
          let i = a.tree in
          let x = laws.the_edit g image bytes P.stands a (free_pages (kept_pages a.to i) g.pages) in
          (edit_writes g (bitmap_of g (used i) i.map) x i (edited g a.to.directories x i), simp (edit_is sized P n_is T m, then_ok), q ∙ sym (whole_is E budget))

      module _ (mid : List ℕ) (rest : Budget) (carried : ◌≡◌ {A = Progress} (record { image = mid; budget = rest }) (step₂ plan_is.edit budget)) where
        h : ◌≡◌ {A = Progress} (record { image = mid; budget = rest }) (step₂ E budget)
        unfolding plan_is
        h = carried_is sized P n_is T m E (record { items_are = refl; after_is = refl; chain_same = refl }) budget _ carried

        -- a write was held back
        pub put_stop : rest.stopped ≡ true → Outcomes g writes image budget mid (Ok rest)
        put_stop z = done (record { image = mid; budget = rest }) (two_stopped E budget o mid rest h z)

        module _ (z : rest.stopped ≡ false) where
          image_is : mid ≡ es.image₂ E
          image_is = two_open E budget o mid rest h z

          pub put_fit : Fit g mid × HasRoot g (view_of g mid)
          put_fit = (fit_then E mid image_is, has_root E mid image_is)

          pub put_done : (after : List ℕ) (left : Budget) → WritesMap g table p.below mid rest after left → Outcomes g writes image budget after (Ok left)
          put_done after left w = done (record { image = after; budget = left }) (map_is E mid image_is table p.below marks_then rest after left w ∙ ap (write_all g (es.ws₃ E)) h)
