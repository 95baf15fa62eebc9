-- A call that may change the image: its numbers are small, and the number told is 0 exactly when it is done.
use Rattle.std.specs.Prelude.{Option, Some, None}
use mathlib.Core.Path.{◌≡◌, refl, ap, sym, ◌∙◌}
use mathlib.Core.Logic.{◌↔◌}
use mathlib.Core.List.{List}
use Prim.Native.Nat.{ℕ, ◌≤◌}
use native.Mathlib.Omega.{arith}
use lib.ListN.{length}
use Rattle.geometry.specs.declared.Geometry.{Geometry}
use Rattle.geometry.specs.Geometry.{geometry_of, Fit}
use Rattle.geometry.specs.ShapeLaws.{fit_of}
use Rattle.rules.specs.Result.{Res, ok, err}
use Rattle.rules.proofs.ResultLaws.{clash}
use Rattle.rules.specs.Calls.{in_geometry, Effect, effect, effective}
use Rattle.rules.specs.CarefulPromises.{IsDone}
use Rattle.answers.specs.Small.{Small}
use Rattle.answers.proofs.CallFaults.{CallFaults}

-- ---- the numbers are small
module _ {A : Type 0} (P N : ℕ) (image t : List ℕ) (few : A → Type 0) (call : Geometry → Res (Effect A)) (faults : CallFaults image call)
    (small : (g : Geometry) → Fit g image → (x : Effect A) → call g ≡ ok x → few x.answer) where
  pub small_effective : Small few (effective P N image t call).0
  small_effective = go (geometry_of P N (length image) (length t)) refl
    where
      one : (g : Geometry) (f : Fit g image) (r : Res (Effect A)) → call g ≡ r → Small few (effect P N image t g r).0
      one g f (ok x) q = small g f x q
      one g f (err n p) q = omega (arith, (faults g f).page n p q, f.valid.few)

      go : (s : Option Geometry) → geometry_of P N (length image) (length t) ≡ s → Small few (in_geometry s (err 1 0, image, t) (λ g. effect P N image t g (call g))).0
      go None e = omega arith
      go (Some g) e = let f = fit_of P N image t g e in one g f (call g) refl

-- ---- a refusal has a number above 0, so the number told is 0 exactly when a call is done
module _ {A : Type 0} (P N : ℕ) (image t : List ℕ) (call : Geometry → Res (Effect A)) (faults : CallFaults image call) where
  pub effective_number : (n p : ℕ) → (effective P N image t call).0 ≡ err n p → 1 ≤ n
  effective_number n p e = go (geometry_of P N (length image) (length t)) refl e
    where
      one : (g : Geometry) (f : Fit g image) (r : Res (Effect A)) → call g ≡ r → (effect P N image t g r).0 ≡ err n p → 1 ≤ n
      one g f (ok x) q h = clash (sym h)
      one g f (err m o) q h = let i : m ≡ n = cc in omega (arith, ((faults g f).number m o q).0)

      go : (s : Option Geometry) → geometry_of P N (length image) (length t) ≡ s → (in_geometry s (err 1 0, image, t) (λ g. effect P N image t g (call g))).0 ≡ err n p → 1 ≤ n
      go None q h = let i : 1 ≡ n = cc in omega arith
      go (Some g) q h = one g (fit_of P N image t g q) (call g) refl h

  pub number_done : (number : Res A → ℕ) → ((x : A) → number (ok x) ≡ 0) → ((n p : ℕ) → number (err n p) ≡ n)
      → (number (effective P N image t call).0 ≡ 0) ↔ IsDone (effective P N image t call).0
  number_done number none same_number = (go (effective P N image t call).0 refl, λ d. ap number d.1 ∙ none d.0)
    where
      go : (r : Res A) → (effective P N image t call).0 ≡ r → number (effective P N image t call).0 ≡ 0 → IsDone (effective P N image t call).0
      go (ok x) e z = (x, e)
      go (err n p) e z = absurd (omega (arith, effective_number n p e, sym (ap number e) ∙ z, same_number n p))
