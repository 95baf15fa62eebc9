-- The answer of a call as plain numbers: the table, the image and what is read are the call's.
use mathlib.Core.Path.{◌≡◌, ap, ◌∙◌}
use mathlib.Core.List.{List}
use Prim.Native.Nat.{ℕ}

-- a call that leaves the table alone, and one that leaves an image or an output too
pub told : {A B : Type 0} (tell : A → B) (q : A) (r : B) (table : List ℕ) (call : A × List ℕ) → (q, table) ≡ call → r ≡ tell q → ◌≡◌ {A = B × List ℕ} (r, table) (tell call.0, call.1)
told {A} {B} tell q r table call e k = ap (λ (y : B). (y, table)) k ∙ ap (λ (y : A × List ℕ). (tell y.0, y.1)) e

pub told_both : {A B : Type 0} (tell : A → B) (q : A) (r : B) (left table : List ℕ) (call : A × List ℕ × List ℕ) → (q, left, table) ≡ call → r ≡ tell q
    → ◌≡◌ {A = B × List ℕ × List ℕ} (r, left, table) (tell call.0, call.1, call.2)
told_both {A} {B} tell q r left table call e k = ap (λ (y : B). (y, left, table)) k ∙ ap (λ (y : A × List ℕ × List ℕ). (tell y.0, y.1, y.2)) e
