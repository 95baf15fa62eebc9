-- The gathering as the caller sees it: its numbers are small, and the number told is 0 exactly when it is done.
use Rattle.std.specs.Prelude.{Option, Some, None}
use mathlib.Core.Path.{◌≡◌, refl, ap, sym, subst}
use mathlib.Core.Logic.{◌↔◌}
use mathlib.Core.Bool.{Bool, true, false}
use mathlib.Core.List.{List}
use Prim.Native.Nat.{ℕ}
use native.Mathlib.Omega.{arith}
use lib.Dec.{eqb}
use lib.ListN.{length}
use Rattle.geometry.specs.declared.Geometry.{Geometry}
use Rattle.geometry.specs.Geometry.{geometry_of}
use Rattle.geometry.specs.Choose.{choose}
use Rattle.geometry.specs.ChooseLaws.{choose_true, choose_false}
use Rattle.geometry.specs.Number.{Bytes}
use Rattle.geometry.specs.ShapeLaws.{fit_of}
use Rattle.rules.specs.Result.{Res, ok, err}
use Rattle.rules.proofs.ResultLaws.{clash}
use Rattle.rules.specs.Chain.{views_of}
use Rattle.rules.specs.Calls.{shape, in_geometry}
use Rattle.rules.proofs.RefusalLaws.{Refuses, refuses_then, refuses_ok, refuses_within, refuses_with}
use Rattle.rules.proofs.FuelLaws.{check_faults}
use Rattle.gathering.specs.Gather.{gather, gathered, gather_call}
use Rattle.gathering.specs.GatherPromises.{Gathers}
use Rattle.gathering.proofs.GatherDone.{gather_stated}
use Rattle.answers.specs.declared.OwfsAnswer.{OwfsAnswer}
use Rattle.answers.specs.ExportedAnswers.{answer_for, gather_answer}
use Rattle.answers.specs.Small.{Small, DoneSmall}
use Rattle.answers.proofs.CallFaults.{some_pages}

module _ (P N : ℕ) (image second t : List ℕ) where
  -- a refusal is 1, or the check's of an image of at most 65,536 pages
  abbrev Told : Res (Unit {0}) → Type 0
  Told r = Refuses 1 13 131072 r

  gather_faults : (g : Geometry) → geometry_of P N (length image) (length t) ≡ Some g → Refuses 1 13 131072 (gather g image)
  unfolding gather
  gather_faults g e =
      let f = fit_of P N image t g e in
      refuses_then _ _ (refuses_within 1 13 131072 (omega arith) (omega arith) (omega (arith, f.valid.few)) (check_faults g (views_of g image) (some_pages f))) (λ i a. refuses_ok)

  gathered_told : (g : Geometry) (r : Res (List ℕ)) → Refuses 1 13 131072 r → Told (gathered P N image second t g r).0
  gathered_told g (ok copy) h = refuses_ok
  gathered_told g (err n p) h = refuses_with (h.number n p refl) (h.page n p refl)

  shape_told : (s : Option Geometry) → geometry_of P N (length image) (length t) ≡ s → Told (in_geometry s (err 1 0, second, t) (λ g. gathered P N image second t g (gather g image))).0
  shape_told None e = refuses_with (omega arith, omega arith) (omega arith)
  shape_told (Some g) e = gathered_told g (gather g image) (gather_faults g e)

  call_told : Told (gather_call P N image second t).0
  unfolding gather_call
  call_told = go (eqb (length second) (length image))
    where
      go : (b : Bool) → Told (choose b (in_geometry (shape P N image t) (err 1 0, second, t) (λ g. gathered P N image second t g (gather g image))) (err 1 0, second, t)).0
      go true = simp choose_true (shape_told (shape P N image t) refl)
      go false = simp choose_false (refuses_with (omega arith, omega arith) (omega arith))

  small_told : (r : Res (Unit {0})) → Told r → Small DoneSmall r
  small_told (ok u) h = tt
  small_told (err n p) h = h.page n p refl

  pub gather_small : (q : Res (Unit {0})) (after x : List ℕ) → (q, after, x) ≡ gather_call P N image second t → Small DoneSmall q
  gather_small q after x e = subst (Small DoneSmall) (sym (ap (λ (y : Res (Unit {0}) × List ℕ × List ℕ). y.0) e)) (small_told (gather_call P N image second t).0 call_told)

  -- the number told
  number_done : (r : Res (Unit {0})) → Told r → ((answer_for r).number ≡ 0) ↔ (r ≡ ok tt)
  number_done (ok u) h = (λ z. refl, λ z. refl)
  number_done (err n p) h = (λ z. absurd (omega (arith, (h.number n p refl).0, z)), λ z. clash z)

  gathers_said : {Says Said : Type 0} {after : List ℕ} → Says ↔ Said → Gathers P N image second t Said after → Gathers P N image second t Says after
  gathers_said d c = record {
    exactly = (λ a. c.exactly.0 (d.0 a), λ h. d.1 (c.exactly.1 h));
    done = λ g f a. c.done g f (d.0 a);
    refused = λ h. c.refused (λ a. h (d.1 a));
  }

  pub gathers : Bytes image → (r : OwfsAnswer) (after b : List ℕ) → (r, after, b) ≡ gather_answer P N image t second → Gathers P N image second t (r.number ≡ 0) after
  unfolding gather_answer
  gathers bytes r after b e =
      let c = gather_call P N image second t in
      let told : r ≡ answer_for c.0 = ap (λ (x : OwfsAnswer × List ℕ × List ℕ). x.0) e in
      let left : after ≡ c.1 = ap (λ (x : OwfsAnswer × List ℕ × List ℕ). x.1) e in
      rw (left, told) (gathers_said (number_done c.0 call_told) (gather_stated P N image second t bytes))
