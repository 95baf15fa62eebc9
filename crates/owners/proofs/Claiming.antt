-- The record of a page written as two numbers of two bytes, each low byte first.
use mathlib.Core.Path.{◌≡◌, refl, ap}
use mathlib.Core.List.{List, [], ◌∷◌}
use Prim.Native.Nat.{ℕ, zero, suc, ◌+◌, ◌-◌, ◌*◌, ◌/◌, ◌%◌, ◌<◌}
use native.Mathlib.Omega.{arith}
use lib.ListN.{length, set, length-set}
use borrow.Rule.Slice.PartMut.{put_mid}
use Rattle.rules.specs.Owners.{held}
use Rattle.owners.specs.Records.{records_of}
use Rattle.owners.specs.RecordLaws.{record_set}

-- a number below 2^16 as two bytes
abbrev pub two_bytes : ℕ → List ℕ
two_bytes n = n % 256 ∷ n / 256 % 256 ∷ []

-- two bytes copied to a place are two writes
put_two : (i x y : ℕ) (b : List ℕ) → i + 1 < length b → put_mid i 2 b (x ∷ y ∷ []) ≡ set (set b i x) (i + 1) y
put_two i x y [] h = absurd (omega (arith, h))
put_two zero x y (a ∷ []) h = absurd (omega (arith, h))
put_two zero x y (a ∷ c ∷ b) h = refl
put_two (suc i) x y (a ∷ b) h = let e : suc i + 1 ≡ suc (i + 1) = omega arith in rw e (ap (λ (l : List ℕ). a ∷ l) (put_two i x y b (omega (arith, h))))

pub record_put : (p m k : ℕ) (bytes : List ℕ) → 4 * p + 3 < length bytes → m < 65536 → k < 65536 → (x y : List ℕ) → x ≡ two_bytes m → y ≡ two_bytes k
    → records_of (put_mid (4 * p + 2) (4 * p + 4 - (4 * p + 2)) (put_mid (4 * p) (4 * p + 2 - 4 * p) bytes x) y) ≡ set (records_of bytes) p (held m k)
record_put p m k bytes h hm hk x y ex ey =
    let s₁ : 4 * p + 2 - 4 * p ≡ 2 = omega arith in
    let s₂ : 4 * p + 4 - (4 * p + 2) ≡ 2 = omega arith in
    let a₃ : 4 * p + 2 + 1 ≡ 4 * p + 3 = omega arith in
    let em : m / 256 % 256 ≡ m / 256 = omega arith in
    let ek : k / 256 % 256 ≡ k / 256 = omega arith in
    let first = put_two (4 * p) (m % 256) (m / 256) bytes (omega arith) in
    let now = set (set bytes (4 * p) (m % 256)) (4 * p + 1) (m / 256) in
    let second = put_two (4 * p + 2) (k % 256) (k / 256) now (simp length-set (omega arith)) in
    rw (ex, ey, s₁, s₂, em, ek, first, second, a₃) (record_set p m k bytes h)
