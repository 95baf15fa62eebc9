-- The bitmap: its bits are exactly the pages in use, and bytes with these bits are the bitmap's; a bitmap file filled anew.
use Rattle.std.specs.Prelude.{◌≡◌, refl, Bool, true, false, List, [], ◌∷◌, ◌++◌, ℕ, zero, suc, ◌+◌, ◌*◌, ◌/◌, ◌%◌, ◌^◌, ◌≤◌, ◌<◌, length, get_or, take, drop}
use Rattle.std.proofs.Common.{ap, ap₂, sym, ◌∙◌, arith, length-append, length-drop, take-append-drop, take_at, drop_at, eqb-true, eq-eqb, ne_eqb}
use Rattle.std.proofs.Math.Nat.{div-div-eq-div-mul, pow-succ'}
use Rattle.std.proofs.Math.Decide.{dec_lt}
use Rattle.geometry.specs.declared.Geometry.{Geometry}
use Rattle.geometry.specs.ChooseLaws.{choose_true, choose_false}
use Rattle.geometry.specs.Geometry.{bitmap_size}
use Rattle.geometry.specs.Number.{Bytes}
use Rattle.rules.specs.Result.{ok, refuse_unless}
use Rattle.rules.proofs.ResultLaws.{refuse_inv, refuse_true}
use Rattle.rules.specs.PageSets.{bit, mem}
use Rattle.rules.proofs.PageSetLaws.{same, other, hits}
use Rattle.rules.specs.Chain.{Link, link, pages, first, content}
use Rattle.rules.proofs.ChainLaws.{no_bytes}
use Rattle.rules.specs.Tree.{Map, in_root, in_file, map_pages, Image, used}
use Rattle.rules.specs.Bitmap.{bit_at, lowest_difference, byte_for, bitmap_from, map_size, bitmap_of, refill, remap}
use Rattle.rules.specs.Check.{judge_bits}
use Rattle.rules.specs.WellFormed.{MapHolds, WellFormed}
use Rattle.rules.specs.BitmapLaws.{IsLowest}

bit_le : (b : Bool) → bit b ≤ 1
bit_le true = omega arith
bit_le false = omega arith

pub bit_most : (bits : List ℕ) (x : ℕ) → bit_at bits x ≤ 1
unfolding bit_at
bit_most bits x = omega arith

pub length_bitmap : (used : List ℕ) (k n : ℕ) → length (bitmap_from used k n) ≡ n
unfolding bitmap_from
length_bitmap used k zero = refl
length_bitmap used k (suc n) = ap suc (length_bitmap used (k + 8) n)

pub byte_below : (used : List ℕ) (k n : ℕ) → byte_for used k n < 2 ^ n
byte_below used k zero = omega arith
byte_below used k (suc n) = omega (arith, byte_below used (k + 1) n, bit_le (mem k used))

pub bytes_bitmap : (used : List ℕ) (k n : ℕ) → Bytes (bitmap_from used k n)
unfolding bitmap_from
bytes_bitmap used k zero = tt
bytes_bitmap used k (suc n) = (byte_below used k 8, bytes_bitmap used (k + 8) n)

-- half a number has its higher bits
half : (x j : ℕ) → x / 2 ^ suc j ≡ x / 2 / 2 ^ j
half x j = rw (pow-succ' 2 j) (sym (div-div-eq-div-mul x 2 (2 ^ j)))

byte_bit : (used : List ℕ) (k n j : ℕ) → j < n → byte_for used k n / 2 ^ j % 2 ≡ bit (mem (k + j) used)
byte_bit used k zero j h = absurd (omega arith)
byte_bit used k (suc n) zero h = let e : k + 0 ≡ k = omega arith in rw e (omega (arith, bit_le (mem k used)))
byte_bit used k (suc n) (suc j) h =
    let e₁ : byte_for used k (suc n) / 2 ≡ byte_for used (k + 1) n = omega (arith, bit_le (mem k used)) in
    let e₂ : k + suc j ≡ k + 1 + j = omega arith in
    ap (λ (x : ℕ). x % 2) (half (byte_for used k (suc n)) j ∙ ap (λ (x : ℕ). x / 2 ^ j) e₁)
    ∙ byte_bit used (k + 1) n j (omega arith) ∙ ap (λ (x : ℕ). bit (mem x used)) (sym e₂)

byte_at : (used : List ℕ) (k n j : ℕ) → j < n → get_or (bitmap_from used k n) j 0 ≡ byte_for used (k + 8 * j) 8
unfolding bitmap_from
byte_at used k zero j h = absurd (omega arith)
byte_at used k (suc n) zero h = let e : k + 8 * 0 ≡ k = omega arith in ap (λ (x : ℕ). byte_for used x 8) (sym e)
byte_at used k (suc n) (suc j) h =
    let e : k + 8 * suc j ≡ k + 8 + 8 * j = omega arith in
    byte_at used (k + 8) n j (omega arith) ∙ ap (λ (x : ℕ). byte_for used x 8) (sym e)

-- bit k is 1 exactly when page k is in use
pub bits_bitmap : (used : List ℕ) (n k : ℕ) → k < 8 * n → bit_at (bitmap_from used 0 n) k ≡ bit (mem k used)
unfolding bit_at
bits_bitmap used n k h =
    let e : 0 + 8 * (k / 8) + k % 8 ≡ k = omega arith in
    ap (λ (x : ℕ). x / 2 ^ (k % 8) % 2) (byte_at used 0 n (k / 8) (omega arith))
    ∙ byte_bit used (0 + 8 * (k / 8)) 8 (k % 8) (omega arith) ∙ ap (λ (x : ℕ). bit (mem x used)) e

-- every page of a well-formed image has its bit
page_has_bit : (g : Geometry) (bits : List ℕ) (m : Map) → MapHolds g bits m → g.pages ≤ 8 * map_size g m
unfolding bitmap_size
page_has_bit g bits in_root h = omega (arith, h)
page_has_bit g bits (in_file ls) h = omega arith

pub page_bits : (g : Geometry) (image : List ℕ) (i : Image) → WellFormed g image i → (k : ℕ) → k < g.pages → bit_at (bitmap_of g (used i) i.map) k ≡ bit (mem k (used i))
page_bits g image i w k h = bits_bitmap (used i) (map_size g i.map) k (omega (arith, h, page_has_bit g _ i.map w.holds.map))

lowest_here : (bits used : List ℕ) (k n : ℕ) → (bit_at bits k ≡ bit (mem k used) → ⊥) → IsLowest bits used k (suc n) k
lowest_here bits used k n e = record { low = omega arith; high = omega arith; agree = λ j p q. absurd (omega arith); differs = λ h q. e q }

lowest_later : (bits used : List ℕ) (k n d : ℕ) → bit_at bits k ≡ bit (mem k used) → IsLowest bits used (k + 1) n d → IsLowest bits used k (suc n) d
lowest_later bits used k n d e r = record {
  low = omega (arith, r.low);
  high = omega (arith, r.high);
  agree = λ j p q. elim (hits j k) [ same i z ↦ rw i e | other i z ↦ r.agree j (omega arith) q ];
  differs = λ h q. r.differs (omega arith) q;
}

pub lowest : (bits used : List ℕ) (k n : ℕ) → IsLowest bits used k n (lowest_difference bits used k n)
unfolding lowest_difference
lowest bits used k zero = record { low = omega arith; high = omega arith; agree = λ j p q. absurd (omega arith); differs = λ h q. omega arith }
lowest bits used k (suc n) = elim (hits (bit_at bits k) (bit (mem k used))) [
  | same e i ↦ rw (eq-eqb (bit_at bits k) (bit (mem k used)) e, choose_true) (lowest_later bits used k n _ e (lowest bits used (k + 1) n))
  | other e i ↦ rw (ne_eqb (bit_at bits k) (bit (mem k used)) e, choose_false) (lowest_here bits used k n e)
]

-- it is k + n exactly when all these bits agree
pub difference_agree : (bits used : List ℕ) (k n : ℕ) → lowest_difference bits used k n ≡ k + n → (j : ℕ) → k ≤ j → j < k + n → bit_at bits j ≡ bit (mem j used)
difference_agree bits used k n e j p q = (lowest bits used k n).agree j p (omega (arith, e))

pub agree_difference : (bits used : List ℕ) (k n : ℕ) → ((j : ℕ) → k ≤ j → j < k + n → bit_at bits j ≡ bit (mem j used)) → lowest_difference bits used k n ≡ k + n
agree_difference bits used k n h =
    let r = lowest bits used k n in
    let d = lowest_difference bits used k n in
    elim (dec_lt d (k + n)) [ yes q ↦ absurd (r.differs q (h d r.low q)) | no q ↦ omega (arith, r.high) ]

-- ---- bytes with these bits are the bitmap's
byte_from : (used : List ℕ) (k n x : ℕ) → x < 2 ^ n → ((j : ℕ) → j < n → x / 2 ^ j % 2 ≡ bit (mem (k + j) used)) → x ≡ byte_for used k n
byte_from used k zero x l h = omega arith
byte_from used k (suc n) x l h =
    let e : k + 0 ≡ k = omega arith in
    let a : x / 2 ^ 0 % 2 ≡ bit (mem k used) = h 0 (omega arith) ∙ ap (λ (m : ℕ). bit (mem m used)) e in
    let f : (j : ℕ) → k + suc j ≡ k + 1 + j = λ j. omega arith in
    let r = byte_from used (k + 1) n (x / 2) (omega arith) (λ j i. ap (λ (y : ℕ). y % 2) (sym (half x j)) ∙ h (suc j) (omega arith) ∙ ap (λ (m : ℕ). bit (mem m used)) (f j)) in
    omega arith

bitmap_from_lem : (used raw : List ℕ) (k : ℕ) → Bytes raw → ((i j : ℕ) → i < length raw → j < 8 → get_or raw i 0 / 2 ^ j % 2 ≡ bit (mem (k + 8 * i + j) used))
    → raw ≡ bitmap_from used k (length raw)
unfolding bitmap_from
bitmap_from_lem used [] k b h = refl
bitmap_from_lem used (x ∷ raw) k b h =
    let e : (j : ℕ) → k + 8 * 0 + j ≡ k + j = λ j. omega arith in
    let f : (i j : ℕ) → k + 8 * suc i + j ≡ k + 8 + 8 * i + j = λ i j. omega arith in
    ap₂ (λ (y : ℕ) (l : List ℕ). y ∷ l)
    (byte_from used k 8 x b.0 (λ j q. h 0 j (omega arith) q ∙ ap (λ (m : ℕ). bit (mem m used)) (e j)))
    (bitmap_from_lem used raw (k + 8) b.1 (λ i j p q. h (suc i) j (omega arith) q ∙ ap (λ (m : ℕ). bit (mem m used)) (f i j)))

-- bit j of byte i
pub bit_of : (raw : List ℕ) (i j : ℕ) → j < 8 → bit_at raw (8 * i + j) ≡ get_or raw i 0 / 2 ^ j % 2
unfolding bit_at
bit_of raw i j h =
    let e₁ : (8 * i + j) / 8 ≡ i = omega arith in
    let e₂ : (8 * i + j) % 8 ≡ j = omega arith in
    ap₂ (λ (a b : ℕ). get_or raw a 0 / 2 ^ b % 2) e₁ e₂

-- a bitmap that is judged right is the bitmap of the pages in use, and that one is judged right
pub bits_sound : (raw used : List ℕ) → judge_bits raw used ≡ ok tt → Bytes raw → raw ≡ bitmap_from used 0 (length raw)
unfolding judge_bits
bits_sound raw used e b =
    let d : lowest_difference raw used 0 (8 * length raw) ≡ 0 + 8 * length raw = eqb-true _ _ (refuse_inv _ _ _ _ e) ∙ omega arith in
    let f : (i j : ℕ) → 8 * i + j ≡ 0 + 8 * i + j = λ i j. omega arith in
    bitmap_from_lem used raw 0 b λ i j p q.
    sym (bit_of raw i j q) ∙ difference_agree raw used 0 (8 * length raw) d (8 * i + j) (omega arith) (omega arith) ∙ ap (λ (m : ℕ). bit (mem m used)) (f i j)

pub bits_complete : (used : List ℕ) (n : ℕ) → judge_bits (bitmap_from used 0 n) used ≡ ok tt
unfolding judge_bits
bits_complete used n =
    let raw = bitmap_from used 0 n in
    let d : lowest_difference raw used 0 (8 * length raw) ≡ 0 + 8 * length raw = agree_difference raw used 0 (8 * length raw) (λ j p q. bits_bitmap used n j (omega (arith, length_bitmap used 0 n))) in
    let e : lowest_difference raw used 0 (8 * length raw) ≡ 8 * length raw = omega arith in
    ap (λ (t : Bool). refuse_unless t 13 (lowest_difference raw used 0 (8 * length raw))) (eq-eqb (lowest_difference raw used 0 (8 * length raw)) (8 * length raw) e) ∙ refuse_true 13 (lowest_difference raw used 0 (8 * length raw))

-- ---- a bitmap file filled anew keeps its pages
pub pages_refill : (ls : List Link) (bits : List ℕ) → pages (refill ls bits) ≡ pages ls
pages_refill [] bits = refl
pages_refill (link p b ∷ ls) bits = ap (λ (l : List ℕ). p ∷ l) (pages_refill ls (drop (length b) bits))

pub first_refill : (ls : List Link) (bits : List ℕ) → first (refill ls bits) ≡ first ls
first_refill [] bits = refl
first_refill (link p b ∷ ls) bits = refl

pub length_refill : (ls : List Link) (bits : List ℕ) → length (refill ls bits) ≡ length ls
length_refill [] bits = refl
length_refill (link p b ∷ ls) bits = ap suc (length_refill ls (drop (length b) bits))

-- it then holds these bytes
pub content_refill : (ls : List Link) (bits : List ℕ) → length bits ≡ length (content ls) → content (refill ls bits) ≡ bits
content_refill [] bits h = no_bytes bits (omega arith)
content_refill (link p b ∷ ls) bits h =
    let k : length bits ≡ length b + length (content ls) = h ∙ length-append b (content ls) in
    ap (λ (l : List ℕ). take (length b) bits ++ l) (content_refill ls (drop (length b) bits) (simp length-drop (omega arith))) ∙ take-append-drop (length b) bits

-- its own bytes change nothing
pub refill_same : (ls : List Link) → refill ls (content ls) ≡ ls
refill_same [] = refl
refill_same (link p b ∷ ls) =
    ap₂ (λ (c : List ℕ) (l : List Link). link p c ∷ l) (take_at b (content ls) (length b) refl) (ap (refill ls) (drop_at b (content ls) (length b) refl) ∙ refill_same ls)

pub pages_remap : (bits : List ℕ) (m : Map) → map_pages (remap bits m) ≡ map_pages m
pages_remap bits in_root = refl
pages_remap bits (in_file ls) = pages_refill ls bits
