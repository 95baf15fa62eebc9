-- A chain stored and its entry entered: the first two steps of an edit.
use mathlib.Core.Path.{◌≡◌, ap, sym, ◌∙◌, subst}
use mathlib.Core.Bool.{true, false}
use mathlib.Core.List.{List, [], ◌∷◌, ◌++◌, append-nil}
use Prim.Native.Nat.{ℕ}
use lib.ListN.{length}
use Rattle.geometry.specs.declared.Geometry.{Geometry}
use Rattle.geometry.specs.Geometry.{Fit}
use Rattle.packet.specs.Packet.{view_of}
use Rattle.packet.specs.declared.Budget.{Budget}
use Rattle.packet.specs.Budgets.{Progress, Open, write_all}
use Rattle.rules.specs.declared.Entry.{Entry}
use Rattle.rules.specs.Chain.{Link, linked}
use Rattle.rules.specs.Names.{entry_bytes}
use Rattle.rules.specs.Owners.{OwnerRecord}
use Rattle.editing_theorems.specs.EditedImage.{ws₂, image₁, fit₁}
use Rattle.writes.specs.declared.Change.{Change}
use Rattle.writes.specs.Stores.{HasRoom, Stores}
use Rattle.writes.specs.Changes.{CanChange, Changes}
use Rattle.edit.specs.Plans.{Plan}
use Rattle.edit.specs.StepLaws.{step₁, step₂, stopped₁, open₁}
use Rattle.edit.specs.ChangeLaws.{can_change, changed_is}

module _ (g : Geometry) (image : List ℕ) (table : List OwnerRecord) (bytes : List ℕ) (c : Change) (e : Entry) (budget : Budget) (o : Open budget) (P : Plan g image table bytes c e) where
  pub has_room : HasRoom g table e.start (length bytes)
  has_room = record { used = P.used; represents = P.represents; enough = P.enough }

  module _ (mid : List ℕ) (rest : Budget) (S : Stores g table e.start bytes image budget mid rest) where
    abbrev now : Progress
    now = record { image = mid; budget = rest }

    stored : now ≡ step₁ P.edit budget
    unfolding Stores
    stored = S P.used P.represents ∙ ap (λ (ls : List Link). write_all g (linked ls) (record { image = image; budget = budget })) (sym P.chain_is)

    -- a write was held back
    pub carry_stop : rest.stopped ≡ true → now ≡ step₂ P.edit budget
    carry_stop z = stored ∙ sym (stopped₁ P.edit budget o (ap (λ (x : Progress). x.budget.stopped) (sym stored) ∙ z)).0

    module _ (z : rest.stopped ≡ false) where
      image_is : mid ≡ image₁ P.edit
      image_is = ap (λ (x : Progress). x.image) stored ∙ open₁ P.edit budget o (ap (λ (x : Progress). x.budget.stopped) (sym stored) ∙ z)

      pub carry_fit : Fit g mid
      carry_fit = subst (Fit g) (sym image_is) (fit₁ P.edit)

      -- the entry's bytes
      module _ (new : List ℕ) (n : new ≡ entry_bytes g.width e) where
        whole : entry_bytes g.width e ++ [] ≡ new
        whole = append-nil (entry_bytes g.width e) ∙ sym n

        pub carry_can : CanChange g (view_of g mid) c (length new)
        carry_can = subst (λ (i : List ℕ). CanChange g (view_of g i) c (length new)) (sym image_is)
            (subst (λ (b : List ℕ). CanChange g (view_of g (image₁ P.edit)) c (length b)) whole (can_change P.edit c (e ∷ []) P.entering))

        pub carry_done : (after : List ℕ) (left : Budget) → Changes g c new mid rest after left → ◌≡◌ {A = Progress} (record { image = after; budget = left }) (step₂ P.edit budget)
        carry_done after left h =
            changed_is P.edit c (e ∷ []) P.entering now (record { image = after; budget = left }) image_is
            (subst (λ (b : List ℕ). Changes g c b mid rest after left) (sym whole) h)
            ∙ ap (write_all g (ws₂ P.edit)) stored
