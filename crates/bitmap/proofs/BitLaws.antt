-- Bits of bytes against the owner table, and what the rule says of them.
use mathlib.Core.Path.{◌≡◌, refl, ap, sym, ◌∙◌}
use mathlib.Core.Bool.{Bool}
use mathlib.Core.List.{List}
use Prim.Native.Nat.{ℕ, ◌+◌, ◌-◌, ◌*◌, ◌/◌, ◌%◌, ◌^◌, ◌≤◌, ◌<◌}
use native.Mathlib.Omega.{arith}
use native.Mathlib.Decide.{dec_lt}
use lib.ListN.{length, get_or}
use borrow.Author.Tests.{eq-eqb, ne_eqb}
use Rattle.rules.specs.Result.{ok, err, refuse_unless}
use Rattle.rules.proofs.ResultLaws.{refuse_true, refuse_false}
use Rattle.rules.specs.PageSets.{bit, mem}
use Rattle.rules.proofs.PageSetLaws.{hits, same, other}
use Rattle.rules.specs.Bitmap.{bit_at, lowest_difference}
use Rattle.rules.proofs.BitmapLaws.{lowest, agree_difference, bit_of}
use Rattle.owners.specs.Owned.{Represents, page_bit}
use Rattle.owners.specs.BitLaws.{marks_none, bit_is as marked}
use Rattle.rules.specs.Check.{judge_bits}
use Rattle.rules.specs.Owners.{OwnerRecord}
use Rattle.std.specs.Prelude.{Option, Some, None}
use Rattle.bitmap.specs.Bits.{ComparesPart, ComparesAll}

-- ---- some bytes of a bitmap, after `at` others
module _ (bytes : List ℕ) (at : ℕ) (table : List OwnerRecord) where
  -- bit j of the bytes is right
  abbrev pub Right : ℕ → Type 0
  Right j = get_or bytes (j / 8) 0 / 2 ^ (j % 8) % 2 ≡ page_bit table 0 (8 * at + j)

  pub right_on : (k : ℕ) → ((j : ℕ) → j < k → Right j) → Right k → (j : ℕ) → j < k + 1 → Right j
  right_on k h e j l = elim (hits j k) [ same i z ↦ rw i e | other i z ↦ h j (omega arith) ]

  module _ (raw used : List ℕ) (stands : (i : ℕ) → i < length bytes → get_or raw (at + i) 0 ≡ get_or bytes i 0) (r : Represents table used) where
    pub used_bit : (j : ℕ) → page_bit table 0 j ≡ bit (mem j used)
    used_bit j = marked table 0 used (marks_none table used r) j

    pub bit_is : (k : ℕ) → k < 8 * length bytes → bit_at raw (8 * at + k) ≡ get_or bytes (k / 8) 0 / 2 ^ (k % 8) % 2
    bit_is k h =
        let e : 8 * at + k ≡ 8 * (at + k / 8) + k % 8 = omega arith in
        ap (bit_at raw) e ∙ bit_of raw (at + k / 8) (k % 8) (omega arith) ∙ ap (λ (x : ℕ). x / 2 ^ (k % 8) % 2) (stands (k / 8) (omega arith))

    agrees : (k : ℕ) → k < 8 * length bytes → Right k → bit_at raw (8 * at + k) ≡ bit (mem (8 * at + k) used)
    agrees k h e = bit_is k h ∙ e ∙ used_bit (8 * at + k)

    agrees_at : (k : ℕ) → k ≤ 8 * length bytes → ((j : ℕ) → j < k → Right j) → (j : ℕ) → 8 * at ≤ j → j < 8 * at + k → bit_at raw j ≡ bit (mem j used)
    agrees_at k l h j p q =
        let e : 8 * at + (j - 8 * at) ≡ j = omega arith in
        rw e at (agrees (j - 8 * at) (omega arith) (h (j - 8 * at) (omega arith)))

  pub part_same : (k : ℕ) → k ≤ 8 * length bytes → 8 * length bytes ≤ k → ((j : ℕ) → j < k → Right j) → ComparesPart bytes at table None
  part_same k l m h raw used s r = record {
    low = omega arith;
    high = omega arith;
    agree = λ j p q. agrees_at raw used s r k l h j p (omega arith);
    differs = λ q e. omega arith;
  }

  pub part_differ : (k : ℕ) → k < 8 * length bytes → ((j : ℕ) → j < k → Right j) → (Right k → ⊥) → ComparesPart bytes at table (Some (8 * at + k))
  part_differ k l h n raw used s r = (
    record {
      low = omega arith;
      high = omega arith;
      agree = λ j p q. agrees_at raw used s r k (omega arith) h j p q;
      differs = λ q e. n (sym (bit_is raw used s r k l) ∙ e ∙ sym (used_bit raw used s r (8 * at + k)));
    },
    omega arith,
  )

-- ---- what the rule says of a whole bitmap
module _ (raw used : List ℕ) where
  pub judged_same : ((j : ℕ) → j < 8 * length raw → bit_at raw j ≡ bit (mem j used)) → judge_bits raw used ≡ ok tt
  unfolding judge_bits
  judged_same h =
      let e : lowest_difference raw used 0 (8 * length raw) ≡ 8 * length raw = agree_difference raw used 0 (8 * length raw) (λ j p q. h j (omega arith)) ∙ omega arith in
      ap (λ (t : Bool). refuse_unless t 13 (lowest_difference raw used 0 (8 * length raw))) (eq-eqb (lowest_difference raw used 0 (8 * length raw)) (8 * length raw) e) ∙ refuse_true 13 (lowest_difference raw used 0 (8 * length raw))

  is_lowest : (d : ℕ) → d < 8 * length raw → ((j : ℕ) → j < d → bit_at raw j ≡ bit (mem j used)) → (bit_at raw d ≡ bit (mem d used) → ⊥) → lowest_difference raw used 0 (8 * length raw) ≡ d
  is_lowest d l h n =
      let r = lowest raw used 0 (8 * length raw) in
      let x = lowest_difference raw used 0 (8 * length raw) in
      elim (dec_lt x d) [
        | yes q ↦ absurd (r.differs (omega arith) (h x q))
        | no q ↦ elim (dec_lt d x) [ yes p ↦ absurd (n (r.agree d (omega arith) p)) | no p ↦ omega arith ]
      ]

  pub judged_differ : (d : ℕ) → d < 8 * length raw → ((j : ℕ) → j < d → bit_at raw j ≡ bit (mem j used)) → (bit_at raw d ≡ bit (mem d used) → ⊥) → judge_bits raw used ≡ err 13 d
  unfolding judge_bits
  judged_differ d l h n =
      let e = is_lowest d l h n in
      let x = lowest_difference raw used 0 (8 * length raw) in
      ap (λ (t : Bool). refuse_unless t 13 x) (ne_eqb x (8 * length raw) (λ q. omega arith)) ∙ refuse_false 13 x ∙ ap (λ (y : ℕ). err 13 y) e

-- the bytes are the whole bitmap
pub judged_all : (bytes : List ℕ) (table : List OwnerRecord) (r : Option ℕ) → ComparesPart bytes 0 table r → ComparesAll bytes table r
judged_all bytes table None h used k =
    let l = h bytes used (λ i q. let e : 0 + i ≡ i = omega arith in rw e refl) k in
    judged_same bytes used (λ j p. l.agree j (omega arith) (omega arith))
judged_all bytes table (Some d) h used k =
    let l = h bytes used (λ i q. let e : 0 + i ≡ i = omega arith in rw e refl) k in
    judged_differ bytes used d (omega (arith, l.1)) (λ j p. l.0.agree j (omega arith) p) (λ e. l.0.differs l.1 e)
