-- The text of `list`: the decimal digits of a number tell it, with no zero in front.
use Rattle.std.specs.Prelude.{◌≡◌, refl, List, [], ◌∷◌, ◌++◌, ℕ, zero, suc, ◌+◌, ◌-◌, ◌*◌, ◌/◌, ◌%◌, ◌^◌, ◌≤◌, ◌<◌, length, get_or}
use Rattle.std.proofs.Common.{ap, ◌∙◌, arith, length-append, lt-ltb, le-ltb}
use Rattle.std.proofs.Math.Decide.{dec_lt}
use Rattle.std.proofs.Math.ListN.{get_or-append}
use Rattle.geometry.specs.ChooseLaws.{choose_true, choose_false}
use Rattle.rules.specs.ListText.{digits, decimal, three_digits}

-- the number that digits tell, the highest first, after those that told a
abbrev pub value_of : ℕ → List ℕ → ℕ
value_of a [] = a
value_of a (c ∷ cs) = value_of (10 * a + (c - 48)) cs

pub value_append : (a : ℕ) (cs : List ℕ) (c : ℕ) → value_of a (cs ++ (c ∷ [])) ≡ 10 * value_of a cs + (c - 48)
value_append a [] c = refl
value_append a (d ∷ cs) c = value_append (10 * a + (d - 48)) cs c

pub digits_one : (k x : ℕ) → x < 10 → digits (suc k) x ≡ (48 + x % 10) ∷ []
unfolding digits
digits_one k x h = simp (lt-ltb x 10 h, choose_true)

pub digits_more : (k x : ℕ) → 10 ≤ x → digits (suc k) x ≡ digits k (x / 10) ++ ((48 + x % 10) ∷ [])
unfolding digits
digits_more k x h = simp (le-ltb x 10 h, choose_false)

pub digits_value : (k x : ℕ) → x < 10 ^ suc k → value_of 0 (digits (suc k) x) ≡ x
digits_value zero x h = ap (value_of 0) (digits_one 0 x (omega arith)) ∙ omega arith
digits_value (suc k) x h = elim (dec_lt x 10) [
  | yes q ↦ ap (value_of 0) (digits_one (suc k) x q) ∙ omega arith
  | no q ↦ ap (value_of 0) (digits_more (suc k) x (omega arith)) ∙ value_append 0 (digits (suc k) (x / 10)) (48 + x % 10) ∙ omega (arith, digits_value k (x / 10) (omega arith))
]

-- there is a digit, and the first is no 0 unless it is the only one
pub digits_some : (k x : ℕ) → 0 < length (digits (suc k) x)
unfolding digits
digits_some k x = simp length-append (omega arith)

pub first_digit : (k x : ℕ) → 0 < x → x < 10 ^ suc k → 48 < get_or (digits (suc k) x) 0 0
first_digit zero x p h = rw (digits_one 0 x (omega arith)) (omega arith)
first_digit (suc k) x p h = elim (dec_lt x 10) [
  | yes q ↦ rw (digits_one (suc k) x q) (omega arith)
  | no q ↦ rw (digits_more (suc k) x (omega arith), get_or-append (digits (suc k) (x / 10)) ((48 + x % 10) ∷ []) 0 0 (digits_some k (x / 10))) (first_digit k (x / 10) (omega arith) (omega arith))
]

-- every byte is a digit
abbrev pub AreDigits : List ℕ → Type 0
AreDigits [] = Unit {0}
AreDigits (c ∷ cs) = (48 ≤ c) × (c ≤ 57) × AreDigits cs

are_append : (cs : List ℕ) (c : ℕ) → AreDigits cs → 48 ≤ c → c ≤ 57 → AreDigits (cs ++ (c ∷ []))
are_append [] c h p q = (p, q, tt)
are_append (d ∷ cs) c h p q = (h.0, h.1, are_append cs c h.2 p q)

pub are_digits : (k x : ℕ) → AreDigits (digits k x)
unfolding digits
are_digits zero x = tt
are_digits (suc k) x = elim (dec_lt x 10) [
  | yes q ↦ rw (digits_one k x q) (omega arith, omega arith, tt)
  | no q ↦ rw (digits_more k x (omega arith)) (are_append (digits k (x / 10)) (48 + x % 10) (are_digits k (x / 10)) (omega arith) (omega arith))
]

pub decimal_value : (x : ℕ) → x < 10 ^ 20 → value_of 0 (decimal x) ≡ x
decimal_value x h = digits_value 19 x h

pub three_value : (x : ℕ) → x < 1000 → value_of 0 (three_digits x) ≡ x
three_value x h = omega arith
