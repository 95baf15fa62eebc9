-- Laws of the bits that a table gives a bitmap: without a bound those of the pages that it represents; with one, also those of the free pages below it.
use Rattle.std.specs.Prelude.{◌≡◌, refl, List, ℕ, zero, suc, ◌+◌, ◌≤◌, ◌<◌, ltb, length}
use Rattle.std.proofs.Common.{ap, sym, ◌∙◌, arith, inl, inr, eq-zero-or-pos, lt-ltb, le-ltb}
use Rattle.std.proofs.Math.Decide.{dec_lt}
use Rattle.geometry.specs.ChooseLaws.{choose_true, choose_false}
use Rattle.rules.specs.PageSets.{bit, count, mem, free_pages}
use Rattle.rules.proofs.PageSetLaws.{free_none, free_all, range_above, range_below}
use Rattle.rules.specs.Owners.{OwnerRecord}
use Rattle.owners.specs.Owned.{owner_at, nonzero, Represents, page_bit, Marks, ClaimsBelow}
use Rattle.owners.specs.OwnerLaws.{nonzero_le}

-- no free page below a bound lies at or past it
free_from_lem : (kept : List ℕ) (below x : ℕ) → below ≤ x → count x (free_pages kept below) ≡ 0
free_from_lem kept below x h = elim (eq-zero-or-pos (count x kept)) [ inl z ↦ free_all x kept below z ∙ range_above x below h | inr z ↦ free_none x kept below z ]

module _ (table : List OwnerRecord) where
  pub bit_below : (below p : ℕ) → p < below → page_bit table below p ≡ 1
  unfolding page_bit
  bit_below below p h = rw (lt-ltb p below h, choose_true)

  pub bit_from : (below p : ℕ) → below ≤ p → page_bit table below p ≡ nonzero (owner_at table p)
  unfolding page_bit
  bit_from below p h = rw (le-ltb p below h, choose_false)

  pub bit_le : (below p : ℕ) → page_bit table below p ≤ 1
  bit_le below p = elim (dec_lt p below) [ yes h ↦ omega (arith, bit_below below p h) | no h ↦ omega (arith, bit_from below p (omega arith), nonzero_le (owner_at table p)) ]

  -- without a bound
  pub marks_none : (used : List ℕ) → Represents table used → Marks table 0 used
  marks_none used h x = h x ∙ sym (bit_from 0 x (omega arith))

  -- the free pages below the bound are taken too
  pub marks_below : (kept used : List ℕ) (below : ℕ) → Represents table kept → below ≤ length table → ((x : ℕ) → count x used ≡ count x kept + count x (free_pages kept below)) → Marks table below used
  marks_below kept used below h k e x = elim (dec_lt x below) [
    | yes i ↦ elim (eq-zero-or-pos (count x kept)) [
      | inl z ↦ omega (arith, e x, free_all x kept below z, range_below x below i, bit_below below x i)
      | inr z ↦ omega (arith, e x, h x, nonzero_le (owner_at table x), free_none x kept below z, bit_below below x i)
    ]
    | no i ↦ omega (arith, e x, h x, free_from_lem kept below x (omega arith), bit_from below x (omega arith))
  ]

  -- one page more below the bound
  pub bit_more : (p x : ℕ) → (x ≡ p → ⊥) → page_bit table (p + 1) x ≡ page_bit table p x
  bit_more p x h = elim (dec_lt x p) [
    | yes k ↦ bit_below (p + 1) x (omega arith) ∙ sym (bit_below p x k)
    | no k ↦ elim (dec_lt p x) [
      | yes j ↦ bit_from (p + 1) x (omega arith) ∙ sym (bit_from p x (omega arith))
      | no j ↦ absurd (h (omega arith))
    ]
  ]

  -- a table whose bits these are, with all pages below the bound claimed
  pub represents_below : (used : List ℕ) (below : ℕ) (after : List OwnerRecord) → Marks table below used → ClaimsBelow table below after → Represents after used
  represents_below used below after h c x = h x ∙ sym (c.owned x)

  -- a bit as the rule tells it
  pub bit_is : (below : ℕ) (used : List ℕ) → Marks table below used → (k : ℕ) → page_bit table below k ≡ bit (mem k used)
  bit_is below used h k = sym (ap (λ (x : ℕ). bit (ltb 0 x)) (h k) ∙ small (page_bit table below k) (bit_le below k))
    where
      small : (n : ℕ) → n ≤ 1 → bit (ltb 0 n) ≡ n
      small zero h = refl
      small (suc zero) h = refl
      small (suc (suc n)) h = absurd (omega arith)
