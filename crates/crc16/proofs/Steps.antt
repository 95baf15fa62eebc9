-- A bit step by the bit that leaves, and the eight of a byte counted up.
use mathlib.Core.Path.{◌≡◌, refl, sym, ap, ◌∙◌}
use Prim.Native.Nat.{ℕ, suc, ◌+◌, ◌-◌, ◌/◌, ◌%◌, ◌≤◌, ◌<◌}
use native.Mathlib.Nat.{mod-lt}
use native.Mathlib.Omega.{arith}
use lib.Bits.{bit_xor}
use lib.Dec.{lit<}
use Rattle.crc16.specs.Crc16.{bit_step, bit_steps}
use Rattle.crc16.proofs.Bits.{flips}

-- a 1 leaves
pub odd_step : (r : ℕ) → r % 2 ≡ 1 → bit_xor (r / 2) 0xA001 ≡ bit_step r
unfolding bit_step
odd_step r h = rw h (sym (flips (r / 2)))

-- a 0 leaves
pub even_step : (r : ℕ) → (r % 2 ≡ 1 → ⊥) → r / 2 ≡ bit_step r
unfolding bit_step
even_step r h =
    let zero_leaves : r % 2 ≡ 0 = omega (arith, h, mod-lt r {m = 2} (lit< tt)) in
    rw zero_leaves refl

-- k of the eight bit steps of x are done, and r stands in the register
abbrev pub After : ℕ → ℕ → ℕ → Type 0
After x k r = (k ≤ 8) × (bit_steps 8 x ≡ bit_steps (8 - k) r)

pub one_more : (x k r next : ℕ) → k < 8 → After x k r → next ≡ bit_step r → After x (k + 1) next
unfolding bit_steps
one_more x k r next h a e =
    let one_left : 8 - k ≡ suc (8 - (k + 1)) = omega arith in
    (omega arith, a.1 ∙ ap (λ (n : ℕ). bit_steps n r) one_left ∙ sym (ap (bit_steps (8 - (k + 1))) e))

pub all_eight : (x k r : ℕ) → 8 ≤ k → After x k r → r ≡ bit_steps 8 x
unfolding bit_steps
all_eight x k r h a =
    let none_left : 8 - k ≡ 0 = omega arith in
    sym (a.1 ∙ ap (λ (n : ℕ). bit_steps n r) none_left)
