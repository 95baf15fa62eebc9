-- An entry taken out of its directory: the last two steps of an edit without a new chain.
use mathlib.Core.Path.{◌≡◌, ap, sym, ◌∙◌, subst}
use mathlib.Core.Bool.{true, false}
use mathlib.Core.List.{List, []}
use Prim.Native.Nat.{ℕ, ◌+◌, ◌-◌}
use Rattle.geometry.specs.declared.Geometry.{Geometry}
use Rattle.geometry.specs.Geometry.{Fit}
use Rattle.packet.specs.Packet.{view_of, after_writes}
use Rattle.packet.specs.declared.Budget.{Budget}
use Rattle.packet.specs.Budgets.{Progress, Open, write_all}
use Rattle.rules.specs.Chain.{Link, linked}
use Rattle.rules.specs.Owners.{OwnerRecord}
use Rattle.owners.specs.BitLaws.{marks_none}
use Rattle.editing_theorems.specs.EditedImage as es
use Rattle.marks.specs.MapPages.{HasRoot, WritesMap}
use Rattle.entries.specs.declared.Slot.{Slot}
use Rattle.writes.specs.declared.Change.{Change}
use Rattle.writes.specs.Changes.{CanChange, Changes}
use Rattle.edit.specs.Plans.{Removal}
use Rattle.edit.specs.ChangeLaws.{can_change, changed_is}
use Rattle.edit.specs.StepLaws.{step₁, step₂, step₃, two_stopped, two_open, fit_then, has_root, map_is}

module _ (g : Geometry) (image : List ℕ) (table : List OwnerRecord) (s : Slot) (stamps : ℕ) (budget : Budget) (o : Open budget) (R : Removal g image table s stamps) where
  abbrev change : Change
  change = record { slot = s; first = s.at - stamps; last = s.at + 1; joins = 0 }

  -- no chain is written first
  same_image : image ≡ es.image₁ R.edit
  unfolding after_writes
  same_image = sym (ap (λ (ls : List Link). after_writes g (linked ls) image) R.none)

  same_start : step₁ R.edit budget ≡ record { image = image; budget = budget }
  unfolding write_all
  same_start = ap (λ (ls : List Link). write_all g (linked ls) (record { image = image; budget = budget })) R.none

  pub remove_can : CanChange g (view_of g image) (record { slot = s; first = s.at - stamps; last = s.at + 1; joins = 0 }) 0
  remove_can = subst (λ (i : List ℕ). CanChange g (view_of g i) change 0) (sym same_image) (can_change R.edit change [] R.entering)

  module _ (mid : List ℕ) (rest : Budget) (h : Changes g (record { slot = s; first = s.at - stamps; last = s.at + 1; joins = 0 }) [] image budget mid rest) where
    changed : ◌≡◌ {A = Progress} (record { image = mid; budget = rest }) (step₂ R.edit budget)
    changed = changed_is R.edit change [] R.entering (record { image = image; budget = budget }) (record { image = mid; budget = rest }) same_image h
        ∙ ap (write_all g (es.ws₂ R.edit)) (sym same_start)

    pub remove_stop : rest.stopped ≡ true → ◌≡◌ {A = Progress} (record { image = mid; budget = rest }) (step₃ R.edit budget)
    remove_stop z = two_stopped R.edit budget o mid rest changed z

    module _ (z : rest.stopped ≡ false) where
      image_is : mid ≡ es.image₂ R.edit
      image_is = two_open R.edit budget o mid rest changed z

      pub remove_fit : Fit g mid × HasRoot g (view_of g mid)
      remove_fit = (fit_then R.edit mid image_is, has_root R.edit mid image_is)

      pub remove_done : (after : List ℕ) (left : Budget) → WritesMap g table 0 mid rest after left → ◌≡◌ {A = Progress} (record { image = after; budget = left }) (step₃ R.edit budget)
      remove_done after left w = map_is R.edit mid image_is table 0 (marks_none table (es.left R.edit) R.kept) rest after left w ∙ ap (write_all g (es.ws₃ R.edit)) changed
