-- Marks surveyed bit by bit: what a mend takes of bits one after the other.
use mathlib.Core.Path.{◌≡◌, refl, ap, ap₂, sym, ◌∙◌, subst}
use mathlib.Core.Bool.{Bool, true, false, not, ◌&&◌, false≢true}
use mathlib.Core.List.{List}
use Prim.Native.Nat.{ℕ, zero, suc, ◌+◌, ◌-◌, ◌*◌, ◌/◌, ◌%◌, ◌^◌, ◌≤◌, ◌<◌}
use native.Mathlib.Omega.{arith}
use native.Mathlib.Decide.{dec_lt}
use lib.Dec.{eqb, ltb, leb}
use lib.ListN.{length, get_or}
use borrow.Author.Tests.{lt-ltb, le-ltb, le-leb, lt-leb, leb-true}
use Rattle.geometry.specs.Choose.{choose}
use Rattle.geometry.specs.ChooseLaws.{choose_true, choose_false}
use Rattle.rules.specs.PageSets.{bit, mem}
use Rattle.rules.specs.Bitmap.{bit_at}
use Rattle.rules.specs.Careful.{mendable, all_mendable, unowned}
use Rattle.rules.specs.Owners.{OwnerRecord}
use Rattle.owners.specs.Owned.{Represents, nonzero, page_bit}
use Rattle.owners.specs.OwnerLaws.{owner_past}
use Rattle.owners.specs.BitLaws.{bit_from}
use Rattle.std.specs.Prelude.{Option, Some, None}
use Rattle.bitmap.specs.Surveys.{SurveyIs, SurveysPart, SurveysAll}
use Rattle.bitmap.proofs.BitLaws.{used_bit, bit_is}

-- ---- one bit
abbrev pub takes : ℕ → ℕ → ℕ → ℕ → Bool
takes N page marked owned = choose (ltb page N) (leb owned marked) (eqb marked 0)

pub inside : (N page marked owned : ℕ) → page < N → ltb marked owned ≡ not (takes N page marked owned)
inside N page marked owned h = rw (lt-ltb page N h, choose_true) (elim (dec_lt marked owned) [
  | yes q ↦ lt-ltb marked owned q ∙ sym (ap not (lt-leb owned marked q))
  | no q ↦ le-ltb marked owned (omega arith) ∙ sym (ap not (le-leb owned marked (omega arith)))
])

pub past : (N page marked owned : ℕ) → N ≤ page → not (eqb marked 0) ≡ not (takes N page marked owned)
past N page marked owned h = rw (le-ltb page N h, choose_false)

pub not_true : (b : Bool) → not b ≡ true → b ≡ false
not_true true e = absurd (false≢true e)
not_true false e = refl

-- a bit that a mend takes is marked if its page has an owner
pub covered : (table : List OwnerRecord) (page marked owned : ℕ) → owned ≡ page_bit table 0 page → takes (length table) page marked owned ≡ true → owned ≤ marked
covered table page marked owned e h = elim (dec_lt page (length table)) [
  | yes q ↦ let k : leb owned marked ≡ true = simp (lt-ltb page (length table) q, choose_true) at h in leb-true owned marked k
  | no q ↦
      let z : owned ≡ 0 = e ∙ bit_from table 0 page (omega arith) ∙ ap nonzero (owner_past table page (omega arith)) in
      omega arith
]

and_false : (a : Bool) → a && false ≡ false
and_false true = refl
and_false false = refl

-- ---- bits one after the other
module _ (N : ℕ) (raw used : List ℕ) where
  and_assoc : (a b c : Bool) → (a && b) && c ≡ a && (b && c)
  and_assoc true b c = refl
  and_assoc false b c = refl

  pub all_joined : (k m n : ℕ) → all_mendable N raw used k (m + n) ≡ all_mendable N raw used k m && all_mendable N raw used (k + m) n
  unfolding all_mendable
  all_joined k zero n =
      let e : k + 0 ≡ k = omega arith in
      let z : 0 + n ≡ n = omega arith in
      rw (e, z) refl
  all_joined k (suc m) n =
      let e : k + 1 + m ≡ k + suc m = omega arith in
      let z : suc m + n ≡ suc (m + n) = omega arith in
      ap (all_mendable N raw used k) z ∙ ap (λ (b : Bool). mendable N raw used k && b) (all_joined (k + 1) m n ∙ ap (λ (j : ℕ). all_mendable N raw used (k + 1) m && all_mendable N raw used j n) e)
      ∙ sym (and_assoc (mendable N raw used k) (all_mendable N raw used (k + 1) m) (all_mendable N raw used (k + suc m) n))

  pub count_joined : (k m n : ℕ) → unowned raw used k (m + n) ≡ unowned raw used k m + unowned raw used (k + m) n
  unfolding unowned
  count_joined k zero n =
      let e : k + 0 ≡ k = omega arith in
      let z : 0 + n ≡ n = omega arith in
      rw (e, z) (omega arith)
  count_joined k (suc m) n =
      let e : k + 1 + m ≡ k + suc m = omega arith in
      let z : suc m + n ≡ suc (m + n) = omega arith in
      ap (unowned raw used k) z ∙ omega (arith, count_joined (k + 1) m n, ap (λ (j : ℕ). unowned raw used j n) e)

  -- one bit more
  all_one : (k : ℕ) → all_mendable N raw used k 1 ≡ mendable N raw used k && true
  unfolding all_mendable
  all_one k = refl

  count_one : (k : ℕ) → unowned raw used k 1 ≡ bit_at raw k - bit (mem k used) + 0
  unfolding unowned
  count_one k = refl

  pub all_more : (k m : ℕ) → all_mendable N raw used k m ≡ true → mendable N raw used (k + m) ≡ true → all_mendable N raw used k (m + 1) ≡ true
  all_more k m a b = all_joined k m 1 ∙ rw (a, all_one (k + m), b) refl

  pub count_more : (k m : ℕ) → unowned raw used k (m + 1) ≡ unowned raw used k m + (bit_at raw (k + m) - bit (mem (k + m) used))
  count_more k m = omega (arith, count_joined k m 1, count_one (k + m))

  -- a bit among them that a mend does not take
  pub one_fails : (k m n : ℕ) → m < n → mendable N raw used (k + m) ≡ false → all_mendable N raw used k n ≡ false
  one_fails k m n h b =
      let e : m + (1 + (n - m - 1)) ≡ n = omega arith in
      let one : all_mendable N raw used (k + m) (1 + (n - m - 1)) ≡ false = all_joined (k + m) 1 (n - m - 1) ∙ rw (all_one (k + m), b) refl in
      ap (all_mendable N raw used k) (sym e) ∙ all_joined k m (1 + (n - m - 1)) ∙ rw one (and_false (all_mendable N raw used k m))

-- ---- the bytes of a part
module _ (bytes : List ℕ) (at : ℕ) (table : List OwnerRecord) (passed : ℕ) where
  -- what is known of the first k bits
  abbrev pub Surveyed : ℕ → ℕ → Type 0
  Surveyed k u = (raw used : List ℕ) → ((i : ℕ) → i < length bytes → get_or raw (at + i) 0 ≡ get_or bytes i 0) → Represents table used → SurveyIs (length table) raw used (8 * at) k passed (Some u)

  pub none : Surveyed 0 passed
  unfolding all_mendable unowned
  none raw used s r = (refl, omega arith)

  module _ (k marked owned : ℕ) (h : k < 8 * length bytes) (m : marked ≡ get_or bytes (k / 8) 0 / 2 ^ (k % 8) % 2) (o : owned ≡ page_bit table 0 (8 * at + k)) where
    same_bit : (raw used : List ℕ) → ((i : ℕ) → i < length bytes → get_or raw (at + i) 0 ≡ get_or bytes i 0) → Represents table used
        → (bit_at raw (8 * at + k) ≡ marked) × (bit (mem (8 * at + k) used) ≡ owned)
    same_bit raw used s r = (bit_is bytes at table raw used s r k h ∙ sym m, sym (o ∙ used_bit bytes at table raw used s r (8 * at + k)))

    is_mendable : (raw used : List ℕ) → ((i : ℕ) → i < length bytes → get_or raw (at + i) 0 ≡ get_or bytes i 0) → Represents table used
        → mendable (length table) raw used (8 * at + k) ≡ takes (length table) (8 * at + k) marked owned
    is_mendable raw used s r = let e = same_bit raw used s r in rw (e.0, e.1) refl

    pub more : (u : ℕ) → Surveyed k u → takes (length table) (8 * at + k) marked owned ≡ true → Surveyed (k + 1) (u + (marked - owned))
    more u a b raw used s r =
        let x = a raw used s r in
        let e = same_bit raw used s r in (
          all_more (length table) raw used (8 * at) k x.0 (is_mendable raw used s r ∙ b),
          omega (arith, x.1, count_more (length table) raw used (8 * at) k, ap₂ (λ (p q : ℕ). p - q) e.0 e.1),
        )

    pub fails : takes (length table) (8 * at + k) marked owned ≡ false → SurveysPart bytes at table passed None
    fails b raw used s r = one_fails (length table) raw used (8 * at) k (8 * length bytes) h (is_mendable raw used s r ∙ b)

-- bytes that are the whole bitmap
pub surveyed_all : (raw : List ℕ) (table : List OwnerRecord) (r : Option ℕ) → SurveysPart raw 0 table 0 r → SurveysAll raw table r
surveyed_all raw table r h used R =
    let z : 8 * 0 ≡ 0 = omega arith in
    subst (λ (k : ℕ). SurveyIs (length table) raw used k (8 * length raw) 0 r) z (h raw used (λ i l. let e : 0 + i ≡ i = omega arith in ap (λ (j : ℕ). get_or raw j 0) e) R)
