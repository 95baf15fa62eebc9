-- Laws of page sets: counts of joined lists, the pigeonhole law, the numbers below n, claimed pages, free pages.
use Rattle.std.specs.Prelude.{◌≡◌, refl, Bool, true, false, not, cond, List, [], ◌∷◌, ◌++◌, ℕ, zero, suc, ◌+◌, ◌≤◌, ◌<◌, T, eqb, length, take, drop}
use Rattle.std.proofs.Common.{ap, subst, sym, ◌∙◌, inl, inr, eq-zero-or-pos, arith, length-append, take-append-drop, eqb-true, ltb-false, eq-eqb, ne_eqb, lt-ltb, le-ltb}
use Rattle.std.proofs.Math.Decide.{dec_lt}
use Rattle.std.proofs.Math.Dec.{eqb_refl}
use Rattle.std.proofs.lemmas.Bool.{eqb-false, not-true}
use Rattle.geometry.specs.Choose.{choose}
use Rattle.geometry.specs.ChooseLaws.{choose_true, choose_false}
use Rattle.rules.specs.PageSets.{bit, hit, count, mem, range, Within, free_pages}

pub hit_same : (x : ℕ) → hit x x ≡ 1
unfolding hit
hit_same x = go (eqb x x) (eqb_refl x)
  where
    go : (b : Bool) → T b → bit b ≡ 1
    go true t = refl
    go false t = absurd t

-- the two cases of a hit, with what each says
pub data Hit (x y : ℕ) : Type 0 where
  same : x ≡ y → hit x y ≡ 1 → Hit x y
  other : (x ≡ y → ⊥) → hit x y ≡ 0 → Hit x y

pub hits : (x y : ℕ) → Hit x y
unfolding hit
hits x y = go (eqb x y) refl
  where
    go : (b : Bool) → eqb x y ≡ b → Hit x y
    go true e = same (eqb-true x y e) (ap bit e)
    go false e = other (eqb-false x y e) (ap bit e)

pub count_append : (x : ℕ) (xs ys : List ℕ) → count x (xs ++ ys) ≡ count x xs + count x ys
count_append x [] ys = omega arith
count_append x (y ∷ xs) ys = omega (arith, count_append x xs ys)

pub count_split : (x k : ℕ) (xs : List ℕ) → count x (take k xs) + count x (drop k xs) ≡ count x xs
count_split x k xs = sym (count_append x (take k xs) (drop k xs)) ∙ ap (count x) (take-append-drop k xs)

-- a list without its first x
abbrev without : ℕ → List ℕ → List ℕ
without x [] = []
without x (y ∷ ys) = cond (eqb x y) ys (y ∷ without x ys)

without_laws : (x : ℕ) (ys : List ℕ) → 1 ≤ count x ys
    → (suc (length (without x ys)) ≡ length ys) × ((z : ℕ) → hit z x + count z (without x ys) ≡ count z ys)
without_laws x [] h = absurd (omega arith)
without_laws x (y ∷ ys) h = go (hits x y) (λ k. without_laws x ys k)
  where
    go : Hit x y → (1 ≤ count x ys → (suc (length (without x ys)) ≡ length ys) × ((z : ℕ) → hit z x + count z (without x ys) ≡ count z ys))
        → (suc (length (without x (y ∷ ys))) ≡ length (y ∷ ys)) × ((z : ℕ) → hit z x + count z (without x (y ∷ ys)) ≡ count z (y ∷ ys))
    go (same e k) ih = rw (eq-eqb x y e) (refl, λ z. ap (λ (w : ℕ). hit z w + count z ys) e)
    go (other e k) ih = let r = ih (omega arith) in rw (ne_eqb x y e) (ap suc r.0, λ z. omega (arith, r.1 z))

-- the pigeonhole law: a list that counts no number more often is no longer
pub pigeon : (xs ys : List ℕ) → ((z : ℕ) → count z xs ≤ count z ys) → length xs ≤ length ys
pigeon [] ys h = omega arith
pigeon (x ∷ xs) ys h =
    let r = without_laws x ys (omega (arith, h x, hit_same x)) in
    let k = pigeon xs (without x ys) (λ z. omega (arith, h z, r.1 z)) in
    omega (arith, r.0)

pub length_range : (n : ℕ) → length (range n) ≡ n
length_range zero = refl
length_range (suc n) = ap suc (length_range n)

pub range_above : (x n : ℕ) → n ≤ x → count x (range n) ≡ 0
range_above x zero h = refl
range_above x (suc n) h = elim (hits x n) [ same e k ↦ omega arith | other e k ↦ omega (arith, range_above x n (omega arith)) ]

pub range_below : (x n : ℕ) → x < n → count x (range n) ≡ 1
range_below x zero h = absurd (omega arith)
range_below x (suc n) h = elim (hits x n) [ same e k ↦ omega (arith, range_above x n (omega arith)) | other e k ↦ omega (arith, range_below x n (omega arith)) ]

pub range_le : (x n : ℕ) → count x (range n) ≤ 1
range_le x zero = omega arith
range_le x (suc n) = elim (hits x n) [ same e k ↦ omega (arith, range_above x n (omega arith)) | other e k ↦ omega (arith, range_le x n) ]

-- a number that is counted is below n
pub range_of : (x n : ℕ) → 1 ≤ count x (range n) → x < n
range_of x n h = elim (dec_lt x n) [ yes k ↦ k | no k ↦ absurd (omega (arith, range_above x n (omega arith))) ]

pub within_length : (n : ℕ) (xs : List ℕ) → Within n xs → length xs ≤ n
within_length n xs h = omega (arith, pigeon xs (range n) h, length_range n)

-- one more page is claimed
pub within_cons : (N p : ℕ) (claimed : List ℕ) → p < N → count p claimed ≡ 0 → Within N claimed → Within N (p ∷ claimed)
within_cons N p claimed h k fit x = go (hits x p)
  where
    go : Hit x p → count x (p ∷ claimed) ≤ count x (range N)
    go (same e i) =
        let at_p : count p (p ∷ claimed) ≤ count p (range N) = omega (arith, range_below p N h, hit_same p) in
        subst (λ (y : ℕ). count y (p ∷ claimed) ≤ count y (range N)) (sym e) at_p
    go (other e i) = omega (arith, fit x)

-- the test whether a page is free
pub free_test : (p : ℕ) (xs : List ℕ) → not (mem p xs) ≡ true → count p xs ≡ 0
free_test p xs e = omega (arith, ltb-false 0 (count p xs) (not-true _ e))

pub free_true : (p : ℕ) (xs : List ℕ) → count p xs ≡ 0 → not (mem p xs) ≡ true
free_true p xs h = ap not (le-ltb 0 (count p xs) (omega arith))

pub mem_true : (p : ℕ) (xs : List ℕ) → 1 ≤ count p xs → mem p xs ≡ true
mem_true p xs h = lt-ltb 0 (count p xs) h

pub mem_false : (p : ℕ) (xs : List ℕ) → count p xs ≡ 0 → mem p xs ≡ false
mem_false p xs h = le-ltb 0 (count p xs) (omega arith)

-- a page in use is not free, any other is
pub free_none : (x : ℕ) (used : List ℕ) (n : ℕ) → 1 ≤ count x used → count x (free_pages used n) ≡ 0
unfolding free_pages
free_none x used zero h = refl
free_none x used (suc n) h = elim (hits x n) [
  | same e i ↦ let k : mem n used ≡ true = lt-ltb 0 (count n used) (rw e at h) in simp (count_append, k, choose_true) (omega (arith, free_none x used n h))
  | other e i ↦ simp (count_append, free_none x used n h) (go e i (mem n used))
]
  where
    go : (x ≡ n → ⊥) → hit x n ≡ 0 → (b : Bool) → 0 + count x (choose b [] (n ∷ [])) ≡ 0
    go e i true = simp choose_true
    go e i false = simp choose_false (omega arith)

pub free_all : (x : ℕ) (used : List ℕ) (n : ℕ) → count x used ≡ 0 → count x (free_pages used n) ≡ count x (range n)
unfolding free_pages
free_all x used zero h = refl
free_all x used (suc n) h = elim (hits x n) [
  | same e i ↦ let k : mem n used ≡ false = le-ltb 0 (count n used) (omega (arith, ap (λ (z : ℕ). count z used) e)) in simp (count_append, k, choose_false) (omega (arith, free_all x used n h))
  | other e i ↦ simp (count_append, free_all x used n h) (go e i (mem n used))
]
  where
    go : (x ≡ n → ⊥) → hit x n ≡ 0 → (b : Bool) → count x (range n) + count x (choose b [] (n ∷ [])) ≡ hit x n + count x (range n)
    go e i true = simp choose_true (omega arith)
    go e i false = simp choose_false (omega arith)

-- free pages and used pages are all pages
pub free_law : (x : ℕ) (used : List ℕ) (N : ℕ) → Within N used → count x (free_pages used N) + count x used ≡ count x (range N)
free_law x used N f = elim (eq-zero-or-pos (count x used))
    [ inl e ↦ omega (arith, free_all x used N e) | inr e ↦ omega (arith, free_none x used N e, f x, range_le x N) ]

pub free_length : (used : List ℕ) (N : ℕ) → Within N used → length (free_pages used N) + length used ≡ N
free_length used N f =
    let h : (x : ℕ) → count x (free_pages used N ++ used) ≡ count x (range N) = λ x. simp count_append (free_law x used N f) in
    omega (arith, pigeon (free_pages used N ++ used) (range N) (λ x. omega (arith, h x)), pigeon (range N) (free_pages used N ++ used) (λ x. omega (arith, h x)), length_range N, length-append (free_pages used N) used)
