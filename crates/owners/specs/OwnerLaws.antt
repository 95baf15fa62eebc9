-- Laws of the owner table: the claimed pages that it represents, one page more and less, the owners of an image, and how many pages have one.
use Rattle.std.specs.Prelude.{◌≡◌, refl, List, [], ◌∷◌, ◌++◌, ℕ, zero, suc, ◌+◌, ◌≤◌, ◌<◌, length, set, replicate}
use Rattle.std.proofs.Common.{ap, subst, sym, ◌∙◌, inl, inr, eq-zero-or-pos, arith, length-set, get_or-set_same, get_or-set_other, eq-eqb, eqb-true}
use mathlib.Core.Bool.{Bool, true, false, not}
use Rattle.std.proofs.Math.Decide.{dec_lt}
use Rattle.std.proofs.lemmas.List.{length-replicate}
use Rattle.std.proofs.lemmas.Bool.{not-false}
use Rattle.rules.specs.PageSets.{count, range, Within}
use Rattle.rules.proofs.PageSetLaws.{hit_same, same, other, hits, count_append, pigeon, range_below, range_of, within_length}
use Rattle.rules.specs.Chain.{pages}
use Rattle.rules.specs.Tree.{Items, end, page, file, dir, own_pages, inner_pages, map_pages, Image, used}
use Rattle.rules.specs.Owners.{file_count, directory_count, OwnerRecord, held, free, own_from, own, own_entries, owners}
use Rattle.owners.specs.Owned.{owner_at, is_owned, nonzero, Represents, freed}

-- ---- 1 for a number above 0
pub nonzero_le : (n : ℕ) → nonzero n ≤ 1
nonzero_le zero = omega arith
nonzero_le (suc n) = omega arith

pub nonzero_pos : (n : ℕ) → 0 < n → nonzero n ≡ 1
nonzero_pos zero h = absurd (omega arith)
nonzero_pos (suc n) h = refl

pub nonzero_zero : (n : ℕ) → nonzero n ≡ 0 → n ≡ 0
nonzero_zero zero h = refl
nonzero_zero (suc n) h = absurd (omega arith)

-- ---- the owner of a page
pub owner_past : (table : List OwnerRecord) (x : ℕ) → length table ≤ x → owner_at table x ≡ 0
unfolding owner_at
owner_past [] x h = refl
owner_past (y ∷ table) zero h = absurd (omega arith)
owner_past (y ∷ table) (suc x) h = owner_past table x (omega arith)

pub owner_set : (table : List OwnerRecord) (p : ℕ) (r : OwnerRecord) → p < length table → owner_at (set table p r) p ≡ r.owner
unfolding owner_at
owner_set table p r h = ap (λ (x : OwnerRecord). x.owner) (get_or-set_same table p r free h)

pub owner_other : (table : List OwnerRecord) (p x : ℕ) (r : OwnerRecord) → (x ≡ p → ⊥) → owner_at (set table p r) x ≡ owner_at table x
unfolding owner_at
owner_other table p x r h = ap (λ (y : OwnerRecord). y.owner) (get_or-set_other table p x r free h)

pub owner_inside : (table : List OwnerRecord) (p : ℕ) → 0 < owner_at table p → p < length table
owner_inside table p h = elim (dec_lt p (length table)) [ yes k ↦ k | no k ↦ absurd (omega (arith, owner_past table p (omega arith))) ]

pub has_owner : (table : List OwnerRecord) (p : ℕ) (r : Bool) → r ≡ is_owned table p → r ≡ true → 0 < owner_at table p
unfolding is_owned
has_owner table p r e q = elim (eq-zero-or-pos (owner_at table p)) [
  | inl z ↦ absurd (mathlib.Core.Bool.true≢false (sym q ∙ e ∙ ap not (eq-eqb (owner_at table p) 0 z)))
  | inr z ↦ z
]

pub no_owner : (table : List OwnerRecord) (p : ℕ) (r : Bool) → r ≡ is_owned table p → r ≡ false → owner_at table p ≡ 0
unfolding is_owned
no_owner table p r e q = eqb-true (owner_at table p) 0 (not-false _ (sym e ∙ q))

-- ---- the claimed pages that a table represents
pub represents_within : (table : List OwnerRecord) (claimed : List ℕ) → Represents table claimed → Within (length table) claimed
represents_within table claimed h x = elim (dec_lt x (length table)) [
  | yes k ↦ omega (arith, h x, nonzero_le (owner_at table x), range_below x (length table) k)
  | no k ↦ omega (arith, h x, ap nonzero (owner_past table x (omega arith)))
]

-- an empty table
pub represents_none : (N : ℕ) → Represents (replicate N free) []
unfolding owner_at
represents_none zero x = refl
represents_none (suc N) zero = refl
represents_none (suc N) (suc x) = represents_none N x

-- the same pages in another order
pub represents_same : (table : List OwnerRecord) (claimed others : List ℕ) → ((x : ℕ) → count x others ≡ count x claimed) → Represents table claimed → Represents table others
represents_same table claimed others e h x = e x ∙ h x

-- one more page
pub represents_set : (table : List OwnerRecord) (claimed : List ℕ) (p : ℕ) (r : OwnerRecord) → Represents table claimed → p < length table → owner_at table p ≡ 0 → 0 < r.owner
    → Represents (set table p r) (p ∷ claimed)
represents_set table claimed p r h i z k x = elim (hits x p) [
  | same e q ↦ (
      let at_p : count p (p ∷ claimed) ≡ nonzero (owner_at (set table p r) p) =
      omega (arith, hit_same p, h p, ap nonzero z, ap nonzero (owner_set table p r i), nonzero_pos r.owner k) in
      subst (λ (y : ℕ). count y (p ∷ claimed) ≡ nonzero (owner_at (set table p r) y)) (sym e) at_p
      )
  | other e q ↦ omega (arith, h x, ap nonzero (owner_other table p x r e))
]

-- a page is free in the table exactly when it is not claimed
pub represents_free : (table : List OwnerRecord) (claimed : List ℕ) (p : ℕ) → Represents table claimed → count p claimed ≡ 0 → owner_at table p ≡ 0
represents_free table claimed p h c = nonzero_zero (owner_at table p) (omega (arith, h p))

pub free_represents : (table : List OwnerRecord) (claimed : List ℕ) (p : ℕ) → Represents table claimed → owner_at table p ≡ 0 → count p claimed ≡ 0
free_represents table claimed p h z = h p ∙ ap nonzero z

-- ---- the owners of a chain, of all entries, of an image
pub length_from : (m k : ℕ) (ps : List ℕ) (table : List OwnerRecord) → length (own_from m k ps table) ≡ length table
length_from m k [] table = refl
length_from m k (p ∷ ps) table = length_from m (suc k) ps (set table p (held m k)) ∙ length-set table p (held m k)

pub length_own : (m : ℕ) (ps : List ℕ) (table : List OwnerRecord) → length (own m ps table) ≡ length table
length_own m ps table = length_from m 0 ps table

pub length_entries : (k : ℕ) (t : Items) (table : List OwnerRecord) → length (own_entries k t table) ≡ length table
length_entries k end table = refl
length_entries k (page p t) table = length_entries k t table
length_entries k (file l ls t) table = length_entries (suc k) t (own (3 + k) (pages ls) table) ∙ length_own (3 + k) (pages ls) table
length_entries k (dir l d t) table =
    length_entries (suc k + (file_count d + directory_count d)) t (own_entries (suc k) d (own (3 + k) (own_pages d) table))
    ∙ length_entries (suc k) d (own (3 + k) (own_pages d) table) ∙ length_own (3 + k) (own_pages d) table

-- pages that are clear of the claimed ones get an owner
pub represents_from : (m n : ℕ) (ps : List ℕ) (table : List OwnerRecord) (claimed : List ℕ) → 0 < m → Represents table claimed
    → ((x : ℕ) → count x ps + count x claimed ≤ count x (range (length table))) → Represents (own_from m n ps table) (ps ++ claimed)
represents_from m n [] table claimed k h c = h
represents_from m n (p ∷ ps) table claimed k h c =
    let i = range_of p (length table) (omega (arith, c p, hit_same p)) in
    let z : owner_at table p ≡ 0 = nonzero_zero (owner_at table p) (omega (arith, c p, h p, hit_same p, range_below p (length table) i)) in
    let l = length-set table p (held m n) in
    let r = represents_from m (suc n) ps (set table p (held m n)) (p ∷ claimed) k (represents_set table claimed p (held m n) h i z k) (λ x. rw l (omega (arith, c x))) in
    λ x. omega (arith, r x, count_append x ps (p ∷ claimed), count_append x ps claimed)

pub represents_own : (m : ℕ) (ps : List ℕ) (table : List OwnerRecord) (claimed : List ℕ) → 0 < m → Represents table claimed
    → ((x : ℕ) → count x ps + count x claimed ≤ count x (range (length table))) → Represents (own m ps table) (ps ++ claimed)
represents_own m ps table claimed k h c = represents_from m 0 ps table claimed k h c

pub represents_entries : (k : ℕ) (t : Items) (table : List OwnerRecord) (claimed : List ℕ) → Represents table claimed
    → ((x : ℕ) → count x (inner_pages t) + count x claimed ≤ count x (range (length table))) → Represents (own_entries k t table) (inner_pages t ++ claimed)
represents_entries k end table claimed h c = h
represents_entries k (page p t) table claimed h c = represents_entries k t table claimed h c
represents_entries k (file l ls t) table claimed h c =
    let c' : (x : ℕ) → count x (pages ls) + count x (inner_pages t) + count x claimed ≤ count x (range (length table)) = λ x. simp count_append at (c x) in
    let a = represents_own (3 + k) (pages ls) table claimed (omega arith) h (λ x. omega (arith, c' x)) in
    let n = length_own (3 + k) (pages ls) table in
    let r = represents_entries (suc k) t (own (3 + k) (pages ls) table) (pages ls ++ claimed) a (λ x. rw n (simp count_append (omega (arith, c' x)))) in
    λ x. simp count_append (omega (arith, simp count_append at (r x)))
represents_entries k (dir l d t) table claimed h c =
    let c' : (x : ℕ) → (count x (own_pages d) + (count x (inner_pages d) + count x (inner_pages t))) + count x claimed ≤ count x (range (length table)) = λ x. simp count_append at (c x) in
    let a = represents_own (3 + k) (own_pages d) table claimed (omega arith) h (λ x. omega (arith, c' x)) in
    let n = length_own (3 + k) (own_pages d) table in
    let r = represents_entries (suc k) d (own (3 + k) (own_pages d) table) (own_pages d ++ claimed) a (λ x. rw n (simp count_append (omega (arith, c' x)))) in
    let o = length_entries (suc k) d (own (3 + k) (own_pages d) table) ∙ n in
    let s = represents_entries (suc k + (file_count d + directory_count d)) t (own_entries (suc k) d (own (3 + k) (own_pages d) table)) (inner_pages d ++ (own_pages d ++ claimed)) r (λ x. rw o (simp count_append (omega (arith, c' x)))) in
    λ x. simp count_append (omega (arith, simp count_append at (s x)))

-- the table of an image whose chains are clear has an owner at just the pages in use
pub represents_owners : (N : ℕ) (i : Image) → Within N (used i) → Represents (owners N i) (used i)
represents_owners N i c =
    let root = own_pages i.tree in
    let map = map_pages i.map in
    let c' : (x : ℕ) → (count x root + count x (inner_pages i.tree)) + count x map ≤ count x (range N) = λ x. simp count_append at (c x) in
    let n₀ = length-replicate {A = OwnerRecord} N free in
    let a = represents_own 2 map (replicate N free) [] (omega arith) (represents_none N) (λ x. rw n₀ (omega (arith, c' x))) in
    let n₁ = length_own 2 map (replicate N free) ∙ n₀ in
    let b = represents_own 1 root (own 2 map (replicate N free)) (map ++ []) (omega arith) a (λ x. rw n₁ (simp count_append (omega (arith, c' x)))) in
    let n₂ = length_own 1 root (own 2 map (replicate N free)) ∙ n₁ in
    let r = represents_entries 0 i.tree (own 1 root (own 2 map (replicate N free))) (root ++ (map ++ [])) b (λ x. rw n₂ (simp count_append (omega (arith, c' x)))) in
    λ x. simp count_append (omega (arith, simp count_append at (r x)))

-- ---- the pages of a table that have an owner
abbrev cons_if : ℕ → ℕ → List ℕ → List ℕ
cons_if zero i xs = xs
cons_if (suc o) i xs = i ∷ xs

abbrev pub taken_from : ℕ → List OwnerRecord → List ℕ
taken_from i [] = []
taken_from i (o ∷ os) = cons_if o.owner i (taken_from (suc i) os)

abbrev pub taken : List OwnerRecord → List ℕ
taken table = taken_from 0 table

cons_other : (o i x : ℕ) (xs : List ℕ) → (x ≡ i → ⊥) → count x (cons_if o i xs) ≡ count x xs
cons_other zero i x xs h = refl
cons_other (suc o) i x xs h = elim (hits x i) [ same e q ↦ absurd (h e) | other e q ↦ omega arith ]

cons_same : (o i : ℕ) (xs : List ℕ) → count i (cons_if o i xs) ≡ nonzero o + count i xs
cons_same zero i xs = omega arith
cons_same (suc o) i xs = omega (arith, hit_same i)

taken_below : (os : List OwnerRecord) (i x : ℕ) → x < i → count x (taken_from i os) ≡ 0
taken_below [] i x h = refl
taken_below (o ∷ os) i x h = cons_other o.owner i x (taken_from (suc i) os) (λ e. omega arith) ∙ taken_below os (suc i) x (omega arith)

taken_at : (os : List OwnerRecord) (i d : ℕ) → count (i + d) (taken_from i os) ≡ nonzero (owner_at os d)
unfolding owner_at
taken_at [] i d = refl
taken_at (o ∷ os) i zero =
    let e : i + 0 ≡ i = omega arith in
    rw e (omega (arith, cons_same o.owner i (taken_from (suc i) os), taken_below os (suc i) i (omega arith)))
taken_at (o ∷ os) i (suc d) =
    let e : i + suc d ≡ suc i + d = omega arith in
    cons_other o.owner i (i + suc d) (taken_from (suc i) os) (λ q. omega arith) ∙ ap (λ (n : ℕ). count n (taken_from (suc i) os)) e ∙ taken_at os (suc i) d

pub represents_taken : (table : List OwnerRecord) → Represents table (taken table)
represents_taken table x = let e : 0 + x ≡ x = omega arith in ap (λ (n : ℕ). count n (taken table)) (sym e) ∙ taken_at table 0 x

-- how many pages have an owner
abbrev pub in_use : List OwnerRecord → ℕ
in_use table = length (taken table)

pub represents_length : (table : List OwnerRecord) (claimed : List ℕ) → Represents table claimed → in_use table ≡ length claimed
represents_length table claimed h =
    let a = pigeon (taken table) claimed (λ x. omega (arith, h x, represents_taken table x)) in
    let b = pigeon claimed (taken table) (λ x. omega (arith, h x, represents_taken table x)) in
    omega arith

pub in_use_le : (table : List OwnerRecord) → in_use table ≤ length table
in_use_le table = within_length (length table) (taken table) (represents_within table (taken table) (represents_taken table))

-- a free page leaves room
pub in_use_room : (table : List OwnerRecord) (p : ℕ) → p < length table → owner_at table p ≡ 0 → in_use table < length table
in_use_room table p h z =
    let k = represents_set table (taken table) p (held 1 0) (represents_taken table) h z (omega arith) in
    omega (arith, represents_length (set table p (held 1 0)) (p ∷ taken table) k, in_use_le (set table p (held 1 0)), length-set table p (held 1 0))

-- ---- pages that are free again
free_set : (table : List OwnerRecord) (p : ℕ) → owner_at (set table p free) p ≡ 0
unfolding owner_at
free_set [] p = refl
free_set (x ∷ table) zero = refl
free_set (x ∷ table) (suc p) = free_set table p

-- a page that is not among them keeps its owner
freed_other : (ps : List ℕ) (table : List OwnerRecord) (x : ℕ) → count x ps ≡ 0 → owner_at (freed ps table) x ≡ owner_at table x
freed_other [] table x h = refl
freed_other (p ∷ ps) table x h = elim (hits x p) [
  | same e i ↦ absurd (omega arith)
  | other e i ↦ freed_other ps (set table p free) x (omega arith) ∙ owner_other table p x free e
]

-- a free page stays free, and each of them is free
freed_free : (ps : List ℕ) (table : List OwnerRecord) (x : ℕ) → owner_at table x ≡ 0 → owner_at (freed ps table) x ≡ 0
freed_free [] table x h = h
freed_free (p ∷ ps) table x h = elim (hits x p) [
  | same e i ↦ freed_free ps (set table p free) x (ap (owner_at (set table p free)) e ∙ free_set table p)
  | other e i ↦ freed_free ps (set table p free) x (owner_other table p x free e ∙ h)
]

freed_none : (ps : List ℕ) (table : List OwnerRecord) (x : ℕ) → 1 ≤ count x ps → owner_at (freed ps table) x ≡ 0
freed_none [] table x h = absurd (omega arith)
freed_none (p ∷ ps) table x h = elim (hits x p) [
  | same e i ↦ freed_free ps (set table p free) x (ap (owner_at (set table p free)) e ∙ free_set table p)
  | other e i ↦ freed_none ps (set table p free) x (omega arith)
]

pub length_freed : (ps : List ℕ) (table : List OwnerRecord) → length (freed ps table) ≡ length table
length_freed [] table = refl
length_freed (p ∷ ps) table = length_freed ps (set table p free) ∙ length-set table p free

-- a table in which some pages are free again represents the pages that are left
pub represents_freed : (table : List OwnerRecord) (used left ps : List ℕ) → Represents table used → ((x : ℕ) → count x left + count x ps ≡ count x used) → Represents (freed ps table) left
represents_freed table used left ps h e x = elim (eq-zero-or-pos (count x ps)) [
  | inl z ↦ omega (arith, e x, h x, ap nonzero (freed_other ps table x z))
  | inr z ↦ omega (arith, e x, h x, nonzero_le (owner_at table x), ap nonzero (freed_none ps table x z))
]
