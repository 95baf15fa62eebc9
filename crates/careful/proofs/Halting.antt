-- An edit within a limit: the image that it leaves, the writes made and whether any are left are the rule's.
use Rattle.std.specs.Prelude.{Result, Ok, Err}
use Rattle.refusals.specs.declared.Refusal.{Refusal}
use mathlib.Core.Path.{◌≡◌, ap, sym, ◌∙◌}
use mathlib.Core.List.{List}
use Prim.Native.Nat.{ℕ, ◌-◌}
use native.Mathlib.Omega.{arith}
use Rattle.geometry.specs.declared.Geometry.{Geometry}
use Rattle.packet.specs.Packet.{Write}
use Rattle.packet.specs.declared.Budget.{Budget}
use Rattle.packet.specs.Budgets.{Progress, with_limit, write_all}
use Rattle.rules.specs.declared.WriteCount.{WriteCount}
use Rattle.rules.specs.Result.{Res, ok, and_then}
use Rattle.rules.proofs.ResultLaws.{then_ok, then_err}
use Rattle.rules.specs.Answers.{refused, answer_of}
use Rattle.rules.specs.Calls.{Effect}
use Rattle.rules.specs.Careful.{halted_at}
use Rattle.careful_theorems.proofs.HaltLaws.{limited_to, all_spent, halt_tells}
use Rattle.edit.specs.Plans.{Outcomes}
use Rattle.volume.specs.Edits.{effect_of}
use Rattle.careful.specs.Halts.{HasSpent, halt_of}

module _ (g : Geometry) (writes : Res (List Write)) (image : List ℕ) (k : ℕ) (budget : Budget) (b : budget ≡ with_limit k) (after : List ℕ) where
  -- what the writes came to
  came_to : (left : Budget) (o : Outcomes g writes image budget after (Ok left)) → ◌≡◌ {A = Progress} (record { image = after; budget = left }) (write_all g o.0 (limited_to k image))
  came_to left o = o.2 ∙ ap (λ (x : Budget). write_all g o.0 (record { image = image; budget = x })) b

  pub has_spent : (o : Result Budget Refusal) → Outcomes g writes image budget after o → HasSpent o k
  has_spent (Ok left) o = omega (arith, ap (λ (x : Progress). x.budget.left) (came_to left o ∙ all_spent g o.0 image k))
  has_spent (Err r) o = tt

  pub halts_as : (o : Result Budget Refusal) → Outcomes g writes image budget after o → ◌≡◌ {A = Res WriteCount × List ℕ} (answer_of (halt_of o k), after) (effect_of image (and_then writes (λ ws. ok (halted_at g k ws image))))
  halts_as (Ok left) o =
      let t = halt_tells g k o.0 image (record { image = after; budget = left }) (came_to left o) in
      let e : halted_at g k o.0 image ≡ record { answer = record { made = k - left.left; left = left.stopped }; image = after } =
      λ i. record { answer = record { made = t.made_is i; left = t.left_is i }; image = t.image_is i } in
      let z : and_then writes (λ ws. ok (halted_at g k ws image)) ≡ ok (halted_at g k o.0 image) = simp (o.1, then_ok) in
      sym (ap (effect_of image) (z ∙ ap (λ (x : Effect WriteCount). ok x) e))
  halts_as (Err r) o =
      let z : and_then writes (λ ws. ok (halted_at g k ws image)) ≡ refused r = simp (o.0, then_err) in
      ap (λ (x : List ℕ). (refused r, x)) o.1 ∙ sym (ap (effect_of image) z)
