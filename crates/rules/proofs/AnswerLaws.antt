-- What the exit of a `?` answers: the refusal that it was given.
use Rattle.std.specs.Prelude.{◌≡◌, ℕ, Option, None, Result, Ok, Err}
use Rattle.std.specs.Result.{IsErrAnd}
use Rattle.std.proofs.Common.{ap, ◌∙◌}
use Rattle.refusals.specs.declared.Refusal.{Refusal}
use Rattle.geometry.specs.declared.Geometry.{Geometry}
use Rattle.geometry.specs.Geometry.{fitting}
use Rattle.geometry.specs.ShapeLaws.{refused_of}
use Rattle.rules.specs.Result.{Res, ok, err}
use Rattle.rules.specs.Answers.{refused, answer_of}

pub passed_up : {A : Type 0} (r : Result A Refusal) (x : Refusal) → IsErrAnd r (λ y. y ≡ x) → r ≡ Err x
passed_up (Ok a) x h = absurd h
passed_up (Err y) x h = ap Err h

pub refused_up : {A : Type 0} (r : Result A Refusal) (x : Refusal) → IsErrAnd r (λ y. y ≡ x) → answer_of r ≡ refused x
refused_up r x h = ap answer_of (passed_up r x h)

-- and of a geometry that does not fit: 1
pub misfit_up : {A : Type 0} (r : Result A Refusal) (x : Refusal) (s : Option Geometry) → IsErrAnd r (λ y. y ≡ x) → fitting s ≡ Err x → (s ≡ None) × (answer_of r ≡ err 1 0)
misfit_up {A} r x s h e = let n = refused_of s x e in (n.0, refused_up r x h ∙ ap (λ (y : Refusal). refused {A = A} y) n.1)

-- a refusal is the same whatever would have been answered
pub same_refusal : {A B : Type 0} (n p : ℕ) (x : Refusal) → ◌≡◌ {A = Res A} (err n p) (refused x) → ◌≡◌ {A = Res B} (err n p) (refused x)
same_refusal {A} {B} n p x e = ap other e
  where
    other : Res A → Res B
    other (ok a) = err 0 0
    other (err n p) = err n p
