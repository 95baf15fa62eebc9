-- An answer of a rule: a value, or a fault's number and the page told (document 01, "Numbers that an answer can carry").
use Rattle.std.specs.Prelude.{◌≡◌, Bool, true, false, ℕ}

pub data Res (A : Type 0) : Type 0 where
  ok : A → Res A
  err : ℕ → ℕ → Res A

-- a value, no fault
abbrev pub IsOk : {A : Type 0} → Res A → Type 0
IsOk {A} r = (a : A) × (r ≡ ok a)

-- the first fault met is the answer. In the rule files `do` joins its lines by these two, so that the order of the lines is the order of the check
unfoldable pub and_then : {A B : Type 0} → Res A → (A → Res B) → Res B
and_then (ok a) f = f a
and_then (err n p) f = err n p

abbrev pub and_after : {A B : Type 0} → Res A → Res B → Res B
and_after r s = and_then r (λ _. s)

-- a test: the fault n, told with the page p, where it does not hold
unfoldable pub refuse_unless : Bool → ℕ → ℕ → Res (Unit {0})
refuse_unless true n p = ok tt
refuse_unless false n p = err n p
