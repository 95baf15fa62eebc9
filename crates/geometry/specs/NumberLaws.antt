-- Numbers and their bytes: each gives the other back.
use Rattle.std.specs.Prelude.{◌≡◌, refl, List, [], ◌∷◌, ◌++◌, ℕ, zero, suc, ◌+◌, ◌*◌, ◌/◌, ◌%◌, ◌^◌, ◌<◌, length, get_or, take, drop}
use Rattle.std.proofs.Common.{ap, ap₂, ◌∙◌, pow-suc, arith}
use Rattle.geometry.specs.Number.{number, number_bytes, Bytes}

pub length_number : (n x : ℕ) → length (number_bytes n x) ≡ n
length_number zero x = refl
length_number (suc n) x = ap suc (length_number n (x / 256))

pub number_of : (n x : ℕ) → x < 256 ^ n → number (number_bytes n x) ≡ x
number_of zero x h = omega arith
number_of (suc n) x h = omega (arith, number_of n (x / 256) (omega arith))

pub bytes_of : (bs : List ℕ) → Bytes bs → number_bytes (length bs) (number bs) ≡ bs
bytes_of [] h = refl
bytes_of (b ∷ bs) h =
    let e₁ : (b + 256 * number bs) % 256 ≡ b = omega arith in
    let e₂ : (b + 256 * number bs) / 256 ≡ number bs = omega arith in
    ap₂ (λ (x : ℕ) (l : List ℕ). x ∷ l) e₁ (ap (number_bytes (length bs)) e₂ ∙ bytes_of bs h.1)

pub number_below : (bs : List ℕ) → Bytes bs → number bs < 256 ^ length bs
number_below [] h = omega arith
number_below (b ∷ bs) h = let i : number bs < 256 ^ length bs = number_below bs h.1 in rw (pow-suc 256 (length bs)) (omega arith)

pub number_bytes_lem : (n x : ℕ) → Bytes (number_bytes n x)
number_bytes_lem zero x = tt
number_bytes_lem (suc n) x = (omega arith, number_bytes_lem n (x / 256))

pub bytes_append : (cs bs : List ℕ) → Bytes cs → Bytes bs → Bytes (cs ++ bs)
bytes_append [] bs h k = k
bytes_append (c ∷ cs) bs h k = (h.0, bytes_append cs bs h.1 k)

pub bytes_take : (n : ℕ) (bs : List ℕ) → Bytes bs → Bytes (take n bs)
bytes_take zero bs h = tt
bytes_take (suc n) [] h = tt
bytes_take (suc n) (b ∷ bs) h = (h.0, bytes_take n bs h.1)

pub bytes_drop : (n : ℕ) (bs : List ℕ) → Bytes bs → Bytes (drop n bs)
bytes_drop zero bs h = h
bytes_drop (suc n) [] h = tt
bytes_drop (suc n) (b ∷ bs) h = bytes_drop n bs h.1

-- what is known of every place is known of the list
pub bytes_from : (bs : List ℕ) → ((i : ℕ) → get_or bs i 0 < 256) → Bytes bs
bytes_from [] h = tt
bytes_from (b ∷ bs) h = (h 0, bytes_from bs (λ i. h (suc i)))
