-- Exclusive or, digit by digit: it is associative, flipping one bit is an exclusive or with a power of two, and the three flips of a bit step are one with A001h.
use mathlib.Core.Path.{◌≡◌, refl, sym, ap, ap₂, ◌∙◌}
use Prim.Native.Nat.{ℕ, zero, suc, ◌+◌, ◌-◌, ◌*◌, ◌/◌, ◌%◌, ◌^◌, ◌<◌}
use native.Mathlib.Nat.{mod-lt}
use native.Mathlib.Omega.{arith}
use lib.Arith.{bin_ind, digits_div, digits_mod}
use lib.Pow.{pow-add}
use lib.Bits.{bit_xor, bit_and, differ, xor_step, xor_add_and, and_high}
use lib.Dec.{lit<}
use Rattle.crc16.specs.Crc16.{by_bit, flip_bit}

is_bit : (n : ℕ) → n % 2 < 2
is_bit n = mod-lt n (lit< tt)

differ_bit : (x y : ℕ) → x < 2 → y < 2 → differ x y < 2
differ_bit zero y h k = k
differ_bit (suc x) zero h k = h
differ_bit (suc zero) (suc zero) h k = lit< tt
differ_bit (suc zero) (suc (suc y)) h k = absurd (omega arith)
differ_bit (suc (suc x)) (suc y) h k = absurd (omega arith)

differ_assoc : (x y z : ℕ) → x < 2 → y < 2 → z < 2 → differ (differ x y) z ≡ differ x (differ y z)
differ_assoc zero y z h k l = refl
differ_assoc (suc zero) zero z h k l = refl
differ_assoc (suc zero) (suc zero) zero h k l = refl
differ_assoc (suc zero) (suc zero) (suc zero) h k l = refl
differ_assoc (suc zero) (suc zero) (suc (suc z)) h k l = absurd (omega arith)
differ_assoc (suc zero) (suc (suc y)) z h k l = absurd (omega arith)
differ_assoc (suc (suc x)) y z h k l = absurd (omega arith)

xor_half : (a b : ℕ) → bit_xor a b / 2 ≡ bit_xor (a / 2) (b / 2)
xor_half a b = rw (xor_step a b) (digits_div (bit_xor (a / 2) (b / 2)) (differ_bit (a % 2) (b % 2) (is_bit a) (is_bit b)))

xor_odd : (a b : ℕ) → bit_xor a b % 2 ≡ differ (a % 2) (b % 2)
xor_odd a b = rw (xor_step a b) (digits_mod (bit_xor (a / 2) (b / 2)) (differ_bit (a % 2) (b % 2) (is_bit a) (is_bit b)))

xor_assoc : (a b c : ℕ) → bit_xor (bit_xor a b) c ≡ bit_xor a (bit_xor b c)
xor_assoc =
    bin_ind (λ (n : ℕ). (b c : ℕ) → bit_xor (bit_xor n b) c ≡ bit_xor n (bit_xor b c)) (λ b c. refl)
    (λ n ih b c. xor_step (bit_xor n b) c
    ∙ ap₂ (λ (x y : ℕ). bit_xor x (c / 2) * 2 + differ y (c % 2)) (xor_half n b) (xor_odd n b)
    ∙ ap₂ (λ (x y : ℕ). x * 2 + y) (ih (b / 2) (c / 2)) (differ_assoc (n % 2) (b % 2) (c % 2) (is_bit n) (is_bit b) (is_bit c))
    ∙ sym (ap₂ (λ (x y : ℕ). bit_xor (n / 2) x * 2 + differ (n % 2) y) (xor_half b c) (xor_odd b c))
    ∙ sym (xor_step n (bit_xor b c)))

by_digit : (b x p y : ℕ) → b < 2 → y + b * p * 2 ≡ x + p → by_bit b (x + p) (x - p) ≡ y
by_digit zero x p y k e = omega arith
by_digit (suc zero) x p y k e = omega arith
by_digit (suc (suc b)) x p y k e = absurd (omega arith)

one_bit : (k x : ℕ) → bit_and x (2 ^ k) ≡ (x / 2 ^ k % 2) * 2 ^ k
one_bit k x = ap (bit_and x) (omega (arith, pow-add 2 1 k)) ∙ and_high x 1 k

flip_xor : (k x : ℕ) → flip_bit k x ≡ bit_xor x (2 ^ k)
unfolding flip_bit
flip_xor k x =
    by_digit (x / 2 ^ k % 2) x (2 ^ k) (bit_xor x (2 ^ k)) (is_bit (x / 2 ^ k))
    (ap (λ (y : ℕ). bit_xor x (2 ^ k) + y * 2) (sym (one_bit k x)) ∙ xor_add_and x (2 ^ k))

-- the three flips of a bit step are one exclusive or with A001h
pub flips : (x : ℕ) → flip_bit 15 (flip_bit 13 (flip_bit 0 x)) ≡ bit_xor x 0xA001
flips x = simp flip_xor (xor_assoc (bit_xor x 1) 0x2000 0x8000 ∙ xor_assoc x 1 0xA000)
