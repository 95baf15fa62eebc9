-- Laws of the owner table as bytes: its length in records, a record read and written, the bytes of records and the records of bytes.
use Rattle.std.specs.Prelude.{◌≡◌, refl, List, [], ◌∷◌, ◌++◌, ℕ, zero, suc, ◌+◌, ◌*◌, ◌/◌, ◌%◌, ◌≤◌, ◌<◌, length, get_or, drop, set, replicate}
use Rattle.std.proofs.Common.{ap, ap₂, ◌∙◌, append-nil, arith}
use Rattle.std.proofs.Math.Decide.{dec_lt}
use Rattle.std.proofs.lemmas.List.{length-replicate}
use Rattle.std.proofs.Math.ListN.{get_or-eq_default, get_or-append}
use Rattle.std.proofs.Math.Seq.{drop-length}
use Rattle.rules.specs.Owners.{OwnerRecord, held, free, record_bytes, table_with}
use Rattle.owners.specs.Owned.{all_free, owner_at}
use Rattle.owners.specs.Records.{records_of, Empty}

-- ---- lengths
pub length_records : (bytes : List ℕ) → length (records_of bytes) ≡ length bytes / 4
unfolding records_of
length_records [] = refl
length_records (a ∷ []) = refl
length_records (a ∷ b ∷ []) = refl
length_records (a ∷ b ∷ c ∷ []) = refl
length_records (a ∷ b ∷ c ∷ d ∷ bytes) = omega (arith, length_records bytes)

-- bytes of just n records
pub length_exact : (n : ℕ) (bytes : List ℕ) → length bytes ≡ 4 * n → length (records_of bytes) ≡ n
length_exact n bytes h = omega (arith, length_records bytes)

-- ---- one record
four : (i : ℕ) → 4 * suc i ≡ suc (suc (suc (suc (4 * i))))
four i = omega arith

four_on : (i k : ℕ) → 4 * suc i + k ≡ suc (suc (suc (suc (4 * i + k))))
four_on i k = omega arith

-- the record at p stands in the four bytes from 4 p on
record_at : (p : ℕ) (bytes : List ℕ) → 4 * p + 3 < length bytes
    → get_or (records_of bytes) p free ≡ held (get_or bytes (4 * p) 0 + 256 * get_or bytes (4 * p + 1) 0) (get_or bytes (4 * p + 2) 0 + 256 * get_or bytes (4 * p + 3) 0)
unfolding records_of
record_at p [] h = absurd (omega (arith, h))
record_at p (a ∷ []) h = absurd (omega (arith, h))
record_at p (a ∷ b ∷ []) h = absurd (omega (arith, h))
record_at p (a ∷ b ∷ c ∷ []) h = absurd (omega (arith, h))
record_at zero (a ∷ b ∷ c ∷ d ∷ bytes) h = refl
record_at (suc p) (a ∷ b ∷ c ∷ d ∷ bytes) h = rw (four_on p 1, four_on p 2, four_on p 3, four p) (record_at p bytes (omega (arith, h)))

-- its owner in the first two of them
pub owner_at_lem : (p : ℕ) (bytes : List ℕ) → 4 * p + 3 < length bytes → owner_at (records_of bytes) p ≡ get_or bytes (4 * p) 0 + 256 * get_or bytes (4 * p + 1) 0
unfolding owner_at
owner_at_lem p bytes h = ap (λ (r : OwnerRecord). r.owner) (record_at p bytes h)

-- four bytes written from 4 p on are the record at p written
pub record_set : (p m k : ℕ) (bytes : List ℕ) → 4 * p + 3 < length bytes
    → records_of (set (set (set (set bytes (4 * p) (m % 256)) (4 * p + 1) (m / 256)) (4 * p + 2) (k % 256)) (4 * p + 3) (k / 256)) ≡ set (records_of bytes) p (held m k)
unfolding records_of
record_set p m k [] h = absurd (omega (arith, h))
record_set p m k (a ∷ []) h = absurd (omega (arith, h))
record_set p m k (a ∷ b ∷ []) h = absurd (omega (arith, h))
record_set p m k (a ∷ b ∷ c ∷ []) h = absurd (omega (arith, h))
record_set zero m k (a ∷ b ∷ c ∷ d ∷ bytes) h =
    let e : m % 256 + 256 * (m / 256) ≡ m = omega arith in
    let f : k % 256 + 256 * (k / 256) ≡ k = omega arith in
    ap₂ (λ (i j : ℕ). held i j ∷ records_of bytes) e f
record_set (suc p) m k (a ∷ b ∷ c ∷ d ∷ bytes) h =
    rw (four_on p 1, four_on p 2, four_on p 3, four p) (ap (λ (rs : List OwnerRecord). held (a + 256 * b) (c + 256 * d) ∷ rs) (record_set p m k bytes (omega (arith, h))))

-- ---- bytes 0 are records of free pages
pub records_zero : (n : ℕ) → records_of (replicate (4 * n) 0) ≡ all_free n
unfolding records_of
records_zero zero = refl
records_zero (suc n) = rw (four n) (ap (λ (rs : List OwnerRecord). held (0 + 256 * 0) (0 + 256 * 0) ∷ rs) (records_zero n))

pub empty_zero : (n : ℕ) (bytes after : List ℕ) → length bytes ≡ 4 * n → after ≡ replicate (length bytes) 0 → Empty n after
empty_zero n bytes after l e = let z : after ≡ replicate (4 * n) 0 = rw l at e in record { sized = ap length z ∙ length-replicate (4 * n) 0; free = ap records_of z ∙ records_zero n }

-- ---- bytes are those of their records
abbrev AreBytes : List ℕ → Type 0
AreBytes bytes = (i : ℕ) → get_or bytes i 0 < 256

bytes_records : (bytes : List ℕ) → AreBytes bytes → record_bytes (records_of bytes) ++ drop (4 * length (records_of bytes)) bytes ≡ bytes
unfolding records_of record_bytes
bytes_records [] h = refl
bytes_records (a ∷ []) h = refl
bytes_records (a ∷ b ∷ []) h = refl
bytes_records (a ∷ b ∷ c ∷ []) h = refl
bytes_records (a ∷ b ∷ c ∷ d ∷ bytes) h =
    let i : a < 256 = h 0 in
    let j : c < 256 = h 2 in
    let ea : (a + 256 * b) % 256 ≡ a = omega arith in
    let eb : (a + 256 * b) / 256 ≡ b = omega arith in
    let ec : (c + 256 * d) % 256 ≡ c = omega arith in
    let ed : (c + 256 * d) / 256 ≡ d = omega arith in
    rw (ea, eb, ec, ed, four (length (records_of bytes))) (ap (λ (l : List ℕ). a ∷ b ∷ c ∷ d ∷ l) (bytes_records bytes (λ k. h (suc (suc (suc (suc k)))))))

bytes_exact : (n : ℕ) (bytes : List ℕ) → AreBytes bytes → length bytes ≡ 4 * n → record_bytes (records_of bytes) ≡ bytes
bytes_exact n bytes h l =
    let k : 4 * length (records_of bytes) ≡ length bytes = omega (arith, length_records bytes) in
    rw (k, drop-length bytes, append-nil) at (bytes_records bytes h)

are_front : (a b : List ℕ) → AreBytes (a ++ b) → AreBytes a
are_front a b h i = elim (dec_lt i (length a)) [
  | yes k ↦ rw (get_or-append a b 0 i k) at (h i)
  | no k ↦ let l : length a ≤ i = omega arith in rw (get_or-eq_default a 0 l) (omega arith)
]

-- the part of a table with its first n records, lent and come back: its records written over the table
pub part_back : (n : ℕ) (part table : List ℕ) → length part ≡ 4 * n → AreBytes (part ++ drop (4 * n) table) → part ++ drop (4 * n) table ≡ table_with (records_of part) table
unfolding table_with
part_back n part table l h =
    let k : length (records_of part) ≡ n = length_exact n part l in
    rw (bytes_exact n part (are_front part (drop (4 * n) table) h) l, k)
