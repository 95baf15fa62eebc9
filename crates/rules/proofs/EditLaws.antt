-- The edits of a directory: a new entry, a file's chain replaced, an entry removed; what each does to keys, pages and what stands under a key.
use Rattle.std.specs.Prelude.{◌≡◌, refl, Bool, true, false, List, [], ◌∷◌, ◌++◌, ℕ, zero, suc, ◌+◌, ◌-◌, ◌≤◌, length, eqb}
use Rattle.std.proofs.Common.{ap, sym, ◌∙◌, inl, inr, eq-zero-or-pos, arith, eqb-true, eq-eqb, ne_eqb}
use Rattle.geometry.specs.Choose.{choose}
use Rattle.geometry.specs.ChooseLaws.{choose_true, choose_false, on_choose}
use Rattle.rules.specs.PageSets.{bit, hit, count}
use Rattle.rules.proofs.PageSetLaws.{hit_same, same, other, hits, count_append}
use Rattle.rules.specs.Chain.{Link, first, pages}
use Rattle.rules.specs.Tree.{Label, key_of, width, Items, end, page, file, dir, entry, stamp_tokens, tokens, own_pages, inner_pages, all_pages, keys}
use Rattle.rules.specs.Paths.{Found, nothing, a_file, a_directory, find}
use Rattle.rules.specs.Names.{directory_number}
use Rattle.rules.specs.Put.{insert, is_full, new_item, replace}
use Rattle.rules.specs.Delete.{remove}
use Rattle.rules.specs.EditLaws.{all_found, new_entry}

-- ---- an entry's slots
pub width_is : (l : Label) → width l ≡ suc (length l.stamps)
unfolding width
width_is l = refl

pub width_some : (l : Label) → 1 ≤ width l
width_some l = omega (arith, width_is l)

-- ---- what stands under a key
pub directory_no_file : {l m : Label} {d : Items} {ls : List Link} → a_directory l d ≡ a_file m ls → ⊥
directory_no_file {l = l} {m = m} {d = d} {ls = ls} e = let z : ◌≡◌ {A = ℕ} 0 1 = cc in omega arith

pub nothing_no_file : {m : Label} {ls : List Link} → nothing ≡ a_file m ls → ⊥
nothing_no_file {m = m} {ls = ls} e = let z : ◌≡◌ {A = ℕ} 0 1 = cc in omega arith

pub file_label_lem : {l m : Label} {ls ms : List Link} → a_file l ls ≡ a_file m ms → l ≡ m
file_label_lem e = cc

pub file_links : {l m : Label} {ls ms : List Link} → a_file l ls ≡ a_file m ms → ls ≡ ms
file_links e = cc

pub find_none : (k : ℕ) (t : Items) → count k (keys t) ≡ 0 → find k t ≡ nothing
find_none k end h = refl
find_none k (page p t) h = find_none k t h
find_none k (file l ls t) h = elim (hits k (key_of l))
    [ same e i ↦ absurd (omega arith) | other e i ↦ simp (ne_eqb k (key_of l) e, choose_false) (find_none k t (omega arith)) ]
find_none k (dir l d t) h = elim (hits k (key_of l))
    [ same e i ↦ absurd (omega arith) | other e i ↦ simp (ne_eqb k (key_of l) e, choose_false) (find_none k t (omega arith)) ]

pub none_found : (k : ℕ) (t : Items) → find k t ≡ nothing → count k (keys t) ≡ 0
none_found k end e = refl
none_found k (page p t) e = none_found k t e
none_found k (file l ls t) e = elim (hits k (key_of l)) [
  | same q i ↦ absurd (nothing_no_file (sym (simp (eq-eqb k (key_of l) q, choose_true) at e)))
  | other q i ↦ omega (arith, none_found k t (simp (ne_eqb k (key_of l) q, choose_false) at e))
]
none_found k (dir l d t) e = elim (hits k (key_of l)) [
  | same q i ↦ absurd (let r : a_directory l d ≡ nothing = simp (eq-eqb k (key_of l) q, choose_true) at e in let z : ◌≡◌ {A = ℕ} 0 1 = cc in omega arith)
  | other q i ↦ omega (arith, none_found k t (simp (ne_eqb k (key_of l) q, choose_false) at e))
]

-- a file that is found is an entry of the directory, with its pages
pub record FoundFile (k : ℕ) (l : Label) (ls : List Link) (t : Items) : Type 0 where
  pub key_is : k ≡ key_of l
  pub named : 1 ≤ count k (keys t)
  pub among : (x : ℕ) → count x (pages ls) ≤ count x (inner_pages t)

pub found_file : (k : ℕ) (l : Label) (ls : List Link) (t : Items) → find k t ≡ a_file l ls → FoundFile k l ls t
found_file k l ls end e = absurd (nothing_no_file e)
found_file k l ls (page p t) e = let r = found_file k l ls t e in record { key_is = r.key_is; named = r.named; among = r.among }
found_file k l ls (file m c t) e = on_choose _ _ _ _ e
    (λ q z. let i = eqb-true k (key_of m) q in record {
      key_is = i ∙ ap key_of (file_label_lem z);
      named = omega (arith, ap (hit k) i, hit_same k);
      among = λ x. rw (← file_links z) (simp count_append (omega arith));
    })
    (λ q z. let r = found_file k l ls t z in record { key_is = r.key_is; named = omega (arith, r.named); among = λ x. simp count_append (omega (arith, r.among x)) })
found_file k l ls (dir m d t) e = on_choose _ _ _ _ e
    (λ q z. absurd (directory_no_file z))
    (λ q z. let r = found_file k l ls t z in record { key_is = r.key_is; named = omega (arith, r.named); among = λ x. simp count_append (omega (arith, r.among x)) })

-- ---- a new entry
-- what `new` puts in front: an entry with the key k, the pages ps below it, found as `found`
pub record IsEntry (new : Items → Items) (k : ℕ) (ps : List ℕ) (found : Found) : Type 0 where
  pub own_same : (t : Items) → own_pages (new t) ≡ own_pages t
  pub inner_more : (x : ℕ) (t : Items) → count x (inner_pages (new t)) ≡ count x ps + count x (inner_pages t)
  pub keys_more : (x : ℕ) (t : Items) → count x (keys (new t)) ≡ hit x k + count x (keys t)
  pub finds : (j : ℕ) (t : Items) → find j (new t) ≡ choose (eqb j k) found (find j t)

pub file_entry_lem : (l : Label) (ls : List Link) → IsEntry (file l ls) (key_of l) (pages ls) (a_file l ls)
file_entry_lem l ls = record { own_same = λ t. refl; inner_more = λ x t. count_append x (pages ls) (inner_pages t); keys_more = λ x t. refl; finds = λ j t. refl }

pub directory_entry_lem : (l : Label) (d : Items) → IsEntry (dir l d) (key_of l) (all_pages d) (a_directory l d)
directory_entry_lem l d = record { own_same = λ t. refl; inner_more = λ x t. simp count_append (omega arith); keys_more = λ x t. refl; finds = λ j t. refl }

module _ (new : Items → Items) (k : ℕ) (ps : List ℕ) (found : Found) (is : IsEntry new k ps found) (later q : ℕ) where
  pub insert_keys : (next x r : ℕ) (t : Items) → count x (keys (insert new later q next r t)) ≡ hit x k + count x (keys t)
  insert_keys next x zero end = is.keys_more x end
  insert_keys next x (suc r) end = is.keys_more x end
  insert_keys next x zero (page p t) = insert_keys later x next t
  insert_keys next x (suc r) (page p t) = is.keys_more x (page p t)
  insert_keys next x r (file l ls t) = omega (arith, insert_keys next x (r - width l) t)
  insert_keys next x r (dir l d t) = omega (arith, insert_keys next x (r - width l) t)

  pub insert_inner : (next x r : ℕ) (t : Items) → count x (inner_pages (insert new later q next r t)) ≡ count x ps + count x (inner_pages t)
  insert_inner next x zero end = is.inner_more x end
  insert_inner next x (suc r) end = is.inner_more x end
  insert_inner next x zero (page p t) = insert_inner later x next t
  insert_inner next x (suc r) (page p t) = is.inner_more x (page p t)
  insert_inner next x r (file l ls t) = simp count_append (omega (arith, insert_inner next x (r - width l) t))
  insert_inner next x r (dir l d t) = simp count_append (omega (arith, insert_inner next x (r - width l) t))

  -- page q joins the directory's end exactly when no page has space
  pub insert_full : (next r : ℕ) (t : Items) → is_full later next r t ≡ true → own_pages (insert new later q next r t) ≡ own_pages t ++ (q ∷ [])
  insert_full next zero end e = ap (λ (l : List ℕ). q ∷ l) (is.own_same end)
  insert_full next (suc r) end e = absurd (let z : ◌≡◌ {A = ℕ} 0 1 = ap bit e in omega arith)
  insert_full next zero (page p t) e = ap (λ (l : List ℕ). p ∷ l) (insert_full later next t e)
  insert_full next (suc r) (page p t) e = absurd (let z : ◌≡◌ {A = ℕ} 0 1 = ap bit e in omega arith)
  insert_full next r (file l ls t) e = insert_full next (r - width l) t e
  insert_full next r (dir l d t) e = insert_full next (r - width l) t e

  pub insert_room : (next r : ℕ) (t : Items) → is_full later next r t ≡ false → own_pages (insert new later q next r t) ≡ own_pages t
  insert_room next zero end e = absurd (let z : ◌≡◌ {A = ℕ} 1 0 = ap bit e in omega arith)
  insert_room next (suc r) end e = is.own_same end
  insert_room next zero (page p t) e = ap (λ (l : List ℕ). p ∷ l) (insert_room later next t e)
  insert_room next (suc r) (page p t) e = is.own_same (page p t)
  insert_room next r (file l ls t) e = insert_room next (r - width l) t e
  insert_room next r (dir l d t) e = insert_room next (r - width l) t e

  pub insert_own : (next x r : ℕ) (t : Items) → count x (own_pages (insert new later q next r t)) ≡ count x (own_pages t) + count x (choose (is_full later next r t) (q ∷ []) [])
  insert_own next x r t = go (is_full later next r t) refl
    where
      go : (b : Bool) → is_full later next r t ≡ b → count x (own_pages (insert new later q next r t)) ≡ count x (own_pages t) + count x (choose b (q ∷ []) [])
      go true e = rw (choose_true, insert_full next r t e) (count_append x (own_pages t) (q ∷ []))
      go false e = rw (choose_false, insert_room next r t e) (omega arith)

  -- the new entry is found, every other key as before
  pub find_inserted : (next r : ℕ) (t : Items) → count k (keys t) ≡ 0 → find k (insert new later q next r t) ≡ found
  find_inserted next zero end h = is.finds k end ∙ simp (eq-eqb k k refl, choose_true)
  find_inserted next (suc r) end h = is.finds k end ∙ simp (eq-eqb k k refl, choose_true)
  find_inserted next zero (page p t) h = find_inserted later next t h
  find_inserted next (suc r) (page p t) h = is.finds k (page p t) ∙ simp (eq-eqb k k refl, choose_true)
  find_inserted next r (file l ls t) h = elim (hits k (key_of l))
      [ same e i ↦ absurd (omega arith) | other e i ↦ simp (ne_eqb k (key_of l) e, choose_false) (find_inserted next (r - width l) t (omega arith)) ]
  find_inserted next r (dir l d t) h = elim (hits k (key_of l))
      [ same e i ↦ absurd (omega arith) | other e i ↦ simp (ne_eqb k (key_of l) e, choose_false) (find_inserted next (r - width l) t (omega arith)) ]

  pub find_beside_inserted : (j : ℕ) → (j ≡ k → ⊥) → (next r : ℕ) (t : Items) → find j (insert new later q next r t) ≡ find j t
  find_beside_inserted j n next zero end = is.finds j end ∙ simp (ne_eqb j k n, choose_false)
  find_beside_inserted j n next (suc r) end = is.finds j end ∙ simp (ne_eqb j k n, choose_false)
  find_beside_inserted j n next zero (page p t) = find_beside_inserted j n later next t
  find_beside_inserted j n next (suc r) (page p t) = is.finds j (page p t) ∙ simp (ne_eqb j k n, choose_false)
  find_beside_inserted j n next r (file l ls t) = ap (choose (eqb j (key_of l)) (a_file l ls)) (find_beside_inserted j n next (r - width l) t)
  find_beside_inserted j n next r (dir l d t) = ap (choose (eqb j (key_of l)) (a_directory l d)) (find_beside_inserted j n next (r - width l) t)

-- ---- a replaced file
pub replace_keys : (k : ℕ) (new : List Link) (t : Items) → keys (replace k new t) ≡ keys t
replace_keys k new end = refl
replace_keys k new (page p t) = replace_keys k new t
replace_keys k new (file l ls t) = elim (hits k (key_of l))
    [ same e i ↦ simp (eq-eqb k (key_of l) e, choose_true) | other e i ↦ simp (ne_eqb k (key_of l) e, choose_false, replace_keys k new t) ]
replace_keys k new (dir l d t) = ap (λ (xs : List ℕ). key_of l ∷ xs) (replace_keys k new t)

pub replace_own : (k : ℕ) (new : List Link) (t : Items) → own_pages (replace k new t) ≡ own_pages t
replace_own k new end = refl
replace_own k new (page p t) = ap (λ (xs : List ℕ). p ∷ xs) (replace_own k new t)
replace_own k new (file l ls t) = elim (hits k (key_of l))
    [ same e i ↦ simp (eq-eqb k (key_of l) e, choose_true) | other e i ↦ simp (ne_eqb k (key_of l) e, choose_false) (replace_own k new t) ]
replace_own k new (dir l d t) = replace_own k new t

-- the new chain's pages come, the old chain's go
pub replace_inner : (x k : ℕ) (new : List Link) (l : Label) (old : List Link) (t : Items) → find k t ≡ a_file l old
    → count x (inner_pages (replace k new t)) + count x (pages old) ≡ count x (inner_pages t) + count x (pages new)
replace_inner x k new l old end e = absurd (nothing_no_file e)
replace_inner x k new l old (page p t) e = replace_inner x k new l old t e
replace_inner x k new l old (file m c t) e = on_choose _ _ _ _ e
    (λ q z. rw (← file_links z) (simp (q, choose_true, count_append) (omega arith)))
    (λ q z. simp (q, choose_false, count_append) (omega (arith, replace_inner x k new l old t z)))
replace_inner x k new l old (dir m d t) e = on_choose _ _ _ _ e
    (λ q z. absurd (directory_no_file z))
    (λ q z. simp count_append (omega (arith, replace_inner x k new l old t z)))

pub replace_none : (k : ℕ) (new : List Link) (t : Items) → count k (keys t) ≡ 0 → replace k new t ≡ t
replace_none k new end h = refl
replace_none k new (page p t) h = ap (page p) (replace_none k new t h)
replace_none k new (file l ls t) h = elim (hits k (key_of l))
    [ same e i ↦ absurd (omega arith) | other e i ↦ simp (ne_eqb k (key_of l) e, choose_false) (ap (file l ls) (replace_none k new t (omega arith))) ]
replace_none k new (dir l d t) h = ap (dir l d) (replace_none k new t (omega arith))

pub find_replaced : (k : ℕ) (new : List Link) (l : Label) (old : List Link) (t : Items) → find k t ≡ a_file l old → find k (replace k new t) ≡ a_file l new
find_replaced k new l old end e = absurd (nothing_no_file e)
find_replaced k new l old (page p t) e = find_replaced k new l old t e
find_replaced k new l old (file m c t) e = on_choose _ _ _ _ e
    (λ q z. simp (q, choose_true) (ap (λ (n : Label). a_file n new) (file_label_lem z)))
    (λ q z. simp (q, choose_false) (find_replaced k new l old t z))
find_replaced k new l old (dir m d t) e = on_choose _ _ _ _ e
    (λ q z. absurd (directory_no_file z))
    (λ q z. simp (q, choose_false) (find_replaced k new l old t z))

pub find_beside_replaced : (j k : ℕ) (new : List Link) → (j ≡ k → ⊥) → (t : Items) → find j (replace k new t) ≡ find j t
find_beside_replaced j k new n end = refl
find_beside_replaced j k new n (page p t) = find_beside_replaced j k new n t
find_beside_replaced j k new n (file l ls t) = elim (hits k (key_of l)) [
  | same e i ↦ simp (eq-eqb k (key_of l) e, choose_true, ne_eqb j (key_of l) (λ f. n (f ∙ sym e)), choose_false)
  | other e i ↦ simp (ne_eqb k (key_of l) e, choose_false) (ap (choose (eqb j (key_of l)) (a_file l ls)) (find_beside_replaced j k new n t))
]
find_beside_replaced j k new n (dir l d t) = ap (choose (eqb j (key_of l)) (a_directory l d)) (find_beside_replaced j k new n t)

-- ---- a removed entry, whatever it is
pub remove_own : (k : ℕ) (t : Items) → own_pages (remove k t) ≡ own_pages t
remove_own k end = refl
remove_own k (page p t) = ap (λ (xs : List ℕ). p ∷ xs) (remove_own k t)
remove_own k (file l ls t) = elim (hits k (key_of l))
    [ same e i ↦ simp (eq-eqb k (key_of l) e, choose_true) | other e i ↦ simp (ne_eqb k (key_of l) e, choose_false) (remove_own k t) ]
remove_own k (dir l d t) = elim (hits k (key_of l))
    [ same e i ↦ simp (eq-eqb k (key_of l) e, choose_true) | other e i ↦ simp (ne_eqb k (key_of l) e, choose_false) (remove_own k t) ]

pub remove_keys : (x k : ℕ) (t : Items) → 1 ≤ count k (keys t) → hit x k + count x (keys (remove k t)) ≡ count x (keys t)
remove_keys x k end h = absurd (omega arith)
remove_keys x k (page p t) h = remove_keys x k t h
remove_keys x k (file l ls t) h = elim (hits k (key_of l)) [
  | same e i ↦ simp (eq-eqb k (key_of l) e, choose_true) (omega (arith, ap (hit x) e))
  | other e i ↦ simp (ne_eqb k (key_of l) e, choose_false) (omega (arith, remove_keys x k t (omega arith)))
]
remove_keys x k (dir l d t) h = elim (hits k (key_of l)) [
  | same e i ↦ simp (eq-eqb k (key_of l) e, choose_true) (omega (arith, ap (hit x) e))
  | other e i ↦ simp (ne_eqb k (key_of l) e, choose_false) (omega (arith, remove_keys x k t (omega arith)))
]

-- the pages of what was found go
pub remove_inner : (x k : ℕ) (t : Items) → count x (all_found (find k t)) + count x (inner_pages (remove k t)) ≡ count x (inner_pages t)
remove_inner x k end = refl
remove_inner x k (page p t) = remove_inner x k t
remove_inner x k (file l ls t) = elim (hits k (key_of l)) [
  | same e i ↦ simp (eq-eqb k (key_of l) e, choose_true, count_append)
  | other e i ↦ simp (ne_eqb k (key_of l) e, choose_false, count_append) (omega (arith, remove_inner x k t))
]
remove_inner x k (dir l d t) = elim (hits k (key_of l)) [
  | same e i ↦ simp (eq-eqb k (key_of l) e, choose_true, count_append) (omega arith)
  | other e i ↦ simp (ne_eqb k (key_of l) e, choose_false, count_append) (omega (arith, remove_inner x k t))
]

pub remove_none : (k : ℕ) (t : Items) → count k (keys t) ≡ 0 → remove k t ≡ t
remove_none k end h = refl
remove_none k (page p t) h = ap (page p) (remove_none k t h)
remove_none k (file l ls t) h = elim (hits k (key_of l))
    [ same e i ↦ absurd (omega arith) | other e i ↦ simp (ne_eqb k (key_of l) e, choose_false) (ap (file l ls) (remove_none k t (omega arith))) ]
remove_none k (dir l d t) h = elim (hits k (key_of l))
    [ same e i ↦ absurd (omega arith) | other e i ↦ simp (ne_eqb k (key_of l) e, choose_false) (ap (dir l d) (remove_none k t (omega arith))) ]

-- where no key stands twice, the key is gone and no key has come
pub remove_fewer : (x k : ℕ) (t : Items) → count x (keys (remove k t)) ≤ count x (keys t)
remove_fewer x k t = elim (eq-zero-or-pos (count k (keys t))) [ inl z ↦ rw (remove_none k t z) (omega arith) | inr z ↦ omega (arith, remove_keys x k t z) ]

pub find_removed : (k : ℕ) (t : Items) → count k (keys t) ≤ 1 → find k (remove k t) ≡ nothing
find_removed k t h = find_none k (remove k t) (elim (eq-zero-or-pos (count k (keys t))) [
  | inl z ↦ omega (arith, remove_fewer k k t)
  | inr z ↦ omega (arith, remove_keys k k t z, hit_same k)
])

pub find_beside_removed : (j k : ℕ) → (j ≡ k → ⊥) → (t : Items) → find j (remove k t) ≡ find j t
find_beside_removed j k n end = refl
find_beside_removed j k n (page p t) = find_beside_removed j k n t
find_beside_removed j k n (file l ls t) = elim (hits k (key_of l)) [
  | same e i ↦ simp (eq-eqb k (key_of l) e, choose_true, ne_eqb j (key_of l) (λ f. n (f ∙ sym e)), choose_false)
  | other e i ↦ simp (ne_eqb k (key_of l) e, choose_false) (ap (choose (eqb j (key_of l)) (a_file l ls)) (find_beside_removed j k n t))
]
find_beside_removed j k n (dir l d t) = elim (hits k (key_of l)) [
  | same e i ↦ simp (eq-eqb k (key_of l) e, choose_true, ne_eqb j (key_of l) (λ f. n (f ∙ sym e)), choose_false)
  | other e i ↦ simp (ne_eqb k (key_of l) e, choose_false) (ap (choose (eqb j (key_of l)) (a_directory l d)) (find_beside_removed j k n t))
]

pub new_tokens : (l : Label) (ls : List Link) (t : Items) → tokens (new_item l ls t) ≡ stamp_tokens l.stamps (entry (new_entry l ls) ∷ tokens t)
new_tokens l ls t = go (directory_number l.extension)
  where
    go : (b : Bool) → tokens (choose b (dir l (page (first ls) end) t) (file l ls t))
        ≡ stamp_tokens l.stamps (entry (record { name = l.name; extension = l.extension; start = first ls; pages = choose b 0 (length ls) }) ∷ tokens t)
    go true = simp choose_true
    go false = simp choose_false
