-- Laws of the free pages from a page on: one page further, all of them, how often each stands there, the page set that a table tells.
use Rattle.std.specs.Prelude.{◌≡◌, refl, Bool, ltb, length}
use Rattle.std.proofs.Math.Path.{ap, sym}
use Rattle.std.proofs.Common.{ap₂, ◌∙◌, inl, inr, eq-zero-or-pos, add-one}
use mathlib.Core.List.{List, [], ◌∷◌, ◌++◌, append_assoc, append-nil}
use Prim.Native.Nat.{ℕ, zero, suc, ◌+◌, ◌-◌, ◌≤◌, ◌<◌}
use native.Mathlib.Omega.{arith}
use Rattle.std.proofs.Math.Decide.{dec_lt}
use Rattle.geometry.specs.Choose.{choose}
use Rattle.geometry.specs.ChooseLaws.{choose_true, choose_false}
use Rattle.rules.specs.PageSets.{count, mem, range, Within, free_pages}
use Rattle.rules.proofs.PageSetLaws.{same, other, hits, count_append, mem_true, mem_false, free_none, free_all, free_law, range_below, range_le}
use Rattle.rules.specs.Owners.{OwnerRecord}
use Rattle.owners.specs.Owned.{Represents}
use Rattle.owners.specs.Free.{free_among, free_from, Next, found, none}

module _ (used : List ℕ) where
  -- ---- one page further
  pub from_past : (k N : ℕ) → N ≤ k → free_from used k N ≡ []
  unfolding free_from free_among
  from_past k N h = let e : N - k ≡ 0 = omega arith in ap (free_among used k) e

  from_step : (k N : ℕ) → k < N → free_from used k N ≡ choose (mem k used) [] (k ∷ []) ++ free_from used (k + 1) N
  unfolding free_from free_among
  from_step k N h =
      let e : N - k ≡ suc (N - (k + 1)) = omega arith in
      ap (free_among used k) e ∙ ap (λ (j : ℕ). choose (mem k used) [] (k ∷ []) ++ free_among used j (N - (k + 1))) (sym (add-one k))

  pub from_used : (k N : ℕ) → k < N → 1 ≤ count k used → free_from used k N ≡ free_from used (k + 1) N
  from_used k N h u = from_step k N h ∙ ap (λ (b : Bool). choose b [] (k ∷ []) ++ free_from used (k + 1) N) (mem_true k used u) ∙ ap (λ (l : List ℕ). l ++ free_from used (k + 1) N) (choose_true [] (k ∷ []))

  pub from_free : (k N : ℕ) → k < N → count k used ≡ 0 → free_from used k N ≡ k ∷ free_from used (k + 1) N
  from_free k N h u = from_step k N h ∙ ap (λ (b : Bool). choose b [] (k ∷ []) ++ free_from used (k + 1) N) (mem_false k used u) ∙ ap (λ (l : List ℕ). l ++ free_from used (k + 1) N) (choose_false [] (k ∷ []))

  -- ---- all free pages: those below k, and those from k on
  among_all : (n k : ℕ) → free_pages used k ++ free_among used k n ≡ free_pages used (k + n)
  unfolding free_pages free_among
  among_all zero k = let e : k ≡ k + 0 = omega arith in append-nil (free_pages used k) ∙ ap (free_pages used) e
  among_all (suc n) k =
      let e : suc k + n ≡ k + suc n = omega arith in
      sym (append_assoc (free_pages used k) (choose (mem k used) [] (k ∷ [])) (free_among used (suc k) n)) ∙ among_all n (suc k) ∙ ap (free_pages used) e

  pub from_split : (k N : ℕ) → k ≤ N → free_pages used k ++ free_from used k N ≡ free_pages used N
  unfolding free_from
  from_split k N h = let e : k + (N - k) ≡ N = omega arith in among_all (N - k) k ∙ ap (free_pages used) e

  pub from_all : (N : ℕ) → free_from used 0 N ≡ free_pages used N
  unfolding free_pages
  from_all N = from_split 0 N (omega arith)

  -- ---- how often a page stands there
  from_counts : (x k N : ℕ) → k ≤ N → count x (free_pages used k) + count x (free_from used k N) ≡ count x (free_pages used N)
  from_counts x k N h = sym (count_append x (free_pages used k) (free_from used k N)) ∙ ap (count x) (from_split k N h)

  from_least : (x k N : ℕ) → count x (free_from used k N) ≤ count x (free_pages used N)
  from_least x k N = elim (dec_lt N k) [ yes h ↦ omega (arith, ap (count x) (from_past k N (omega arith))) | no h ↦ omega (arith, from_counts x k N (omega arith)) ]

  -- only pages below N that are not in use, and none twice
  pub from_clear : (x k N : ℕ) → Within N used → count x (free_from used k N) + count x used ≤ count x (range N)
  from_clear x k N w = omega (arith, from_least x k N, free_law x used N w)

  pub from_unused : (x k N : ℕ) → 1 ≤ count x (free_from used k N) → count x used ≡ 0
  from_unused x k N h = elim (eq-zero-or-pos (count x used)) [ inl e ↦ e | inr e ↦ absurd (omega (arith, from_least x k N, free_none x used N e)) ]

  -- no page below k
  pub from_low : (x k N : ℕ) → 1 ≤ count x (free_from used k N) → k ≤ x
  from_low x k N h = elim (dec_lt x k) [
    | no i ↦ omega arith
    | yes i ↦ elim (dec_lt N k) [
      | yes j ↦ absurd (omega (arith, ap (count x) (from_past k N (omega arith))))
      | no j ↦ let u = from_unused x k N h in
          absurd (omega (arith, from_counts x k N (omega arith), free_all x used k u, free_all x used N u, range_below x k i, range_le x N))
    ]
  ]

-- the lowest free page, and those after it
pub first_free : (used : List ℕ) (N q : ℕ) → Next used 0 N q → 1 ≤ length (free_pages used N) → free_pages used N ≡ q ∷ free_from used (q + 1) N
first_free used N q (found h e) k = sym (from_all used N) ∙ e
first_free used N q (none h e) k = absurd (omega (arith, ap length (from_all used N), ap length e))

-- ---- the same pages in use from k on
among_same : (a b : List ℕ) (n k : ℕ) → ((x : ℕ) → k ≤ x → count x a ≡ count x b) → free_among a k n ≡ free_among b k n
unfolding free_among
among_same a b zero k h = refl
among_same a b (suc n) k h = ap₂ (λ (m : ℕ) (l : List ℕ). choose (ltb 0 m) [] (k ∷ []) ++ l) (h k (omega arith)) (among_same a b n (suc k) (λ x i. h x (omega arith)))

pub from_same : (a b : List ℕ) (k N : ℕ) → ((x : ℕ) → k ≤ x → count x a ≡ count x b) → free_from a k N ≡ free_from b k N
unfolding free_from
from_same a b k N h = among_same a b (N - k) k h

-- all that a table represents has the same free pages
pub from_represents : (table : List OwnerRecord) (a b : List ℕ) (k N : ℕ) → Represents table a → Represents table b → free_from a k N ≡ free_from b k N
from_represents table a b k N h i = from_same a b k N (λ x j. h x ∙ sym (i x))

-- a page before them that is taken changes nothing
pub from_taken : (used : List ℕ) (p k N : ℕ) → p < k → free_from (p ∷ used) k N ≡ free_from used k N
from_taken used p k N h = from_same (p ∷ used) used k N (λ x j. elim (hits x p) [ same e i ↦ absurd (omega arith) | other e i ↦ omega arith ])
