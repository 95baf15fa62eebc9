-- Bytes of a list as numbers and back, for parts of a longer list.
use Rattle.std.specs.Prelude.{◌≡◌, refl, List, [], ◌∷◌, ◌++◌, ℕ, zero, suc, ◌^◌, ◌≤◌, ◌<◌, length, get_or, take, replicate}
use Rattle.std.proofs.Common.{ap, sym, ◌∙◌, subst, arith, length-take-le, take_at}
use Rattle.geometry.specs.Number.{number, number_bytes, Bytes}
use Rattle.geometry.specs.NumberLaws.{length_number, number_of, bytes_of, number_below, bytes_take}

-- the first k bytes are those of the number that they tell
pub number_back : (k : ℕ) (b : List ℕ) → Bytes b → k ≤ length b → number_bytes k (number (take k b)) ≡ take k b
number_back k b h l =
    let e = length-take-le k b l in
    subst (λ (m : ℕ). number_bytes m (number (take k b)) ≡ take k b) e (bytes_of (take k b) (bytes_take k b h))

pub bytes_are : (k x : ℕ) (b : List ℕ) → Bytes b → k ≤ length b → number (take k b) ≡ x → take k b ≡ number_bytes k x
bytes_are k x b h l e = sym (number_back k b h l) ∙ ap (number_bytes k) e

-- the number whose bytes stand in front
pub number_front : (k x : ℕ) (rest : List ℕ) → x < 256 ^ k → number (take k (number_bytes k x ++ rest)) ≡ x
number_front k x rest h = ap number (take_at (number_bytes k x) rest k (length_number k x)) ∙ number_of k x h

pub number_fits : (k : ℕ) (b : List ℕ) → Bytes b → k ≤ length b → number (take k b) < 256 ^ k
number_fits k b h l = subst (λ (m : ℕ). number (take k b) < 256 ^ m) (length-take-le k b l) (number_below (take k b) (bytes_take k b h))

pub byte_at : (i : ℕ) (b : List ℕ) → Bytes b → get_or b i 0 < 256
byte_at i [] h = omega arith
byte_at zero (x ∷ b) h = h.0
byte_at (suc i) (x ∷ b) h = byte_at i b h.1

-- the bytes of 0 are zeros
pub zero_bytes : (k : ℕ) → number_bytes k 0 ≡ replicate k 0
zero_bytes zero = refl
zero_bytes (suc k) = ap (λ (l : List ℕ). 0 ∷ l) (zero_bytes k)

pub zero_number : (n : ℕ) → number (number_bytes n 0) ≡ 0
zero_number zero = refl
zero_number (suc n) = omega (arith, zero_number n)
