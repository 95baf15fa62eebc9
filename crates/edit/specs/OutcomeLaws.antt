-- An edit without a limit: the image that it leaves is the rule's.
use Rattle.refusals.specs.declared.Refusal.{Refusal}
use Rattle.rules.specs.Answers.{refused}
use Rattle.std.specs.Prelude.{Err, Ok, ◌≡◌, List, ℕ}
use Rattle.std.proofs.Common.{ap, sym, ◌∙◌}
use Rattle.geometry.specs.declared.Geometry.{Geometry}
use Rattle.packet.specs.Packet.{Write, after_writes}
use Rattle.packet.specs.declared.Budget.{Budget}
use Rattle.packet.specs.Budgets.{Progress, unlimited}
use Rattle.packet.specs.BudgetLaws.{all_free_lem}
use Rattle.rules.specs.Result.{Res, ok, and_then}
use Rattle.rules.proofs.ResultLaws.{then_ok, then_err}
use Rattle.edit.specs.Plans.{Outcomes}

module _ (g : Geometry) (writes : Res (List Write)) (image : List ℕ) (budget : Budget) (b : budget ≡ unlimited) (after : List ℕ) where
  pub whole_done : (left : Budget) → Outcomes g writes image budget after (Ok left) → and_then writes (λ ws. ok (after_writes g ws image)) ≡ ok after
  whole_done left k =
      let q : after ≡ after_writes g k.0 image = ap (λ (p : Progress). p.image) (k.2 ∙ all_free_lem g k.0 (record { image = image; budget = budget }) (ap (λ (x : Budget). x.limited) b)) in
      let z : and_then writes (λ ws. ok (after_writes g ws image)) ≡ ok (after_writes g k.0 image) = simp (k.1, then_ok) in
      z ∙ ap (λ (x : List ℕ). ok x) (sym q)

  pub whole_refused : (z : Refusal) → Outcomes g writes image budget after (Err z) → and_then writes (λ ws. ok (after_writes g ws image)) ≡ refused z
  whole_refused z k = simp (k.0, then_err)
