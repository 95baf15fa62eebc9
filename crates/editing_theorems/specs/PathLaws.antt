-- What stands at a path: the chains at two paths share no page, and each page of a tree is in a chain at some path.
use Rattle.std.specs.Prelude.{◌≡◌, refl, true, List, [], ◌∷◌, ◌++◌, ℕ, zero, suc, ◌+◌, ◌%◌, ◌≤◌, ◌<◌}
use Rattle.std.proofs.Common.{ap, ap₂, sym, ◌∙◌, inl, inr, eq-zero-or-pos, arith, eqb-true, eq-eqb, ne_eqb}
use Rattle.geometry.specs.ChooseLaws.{choose_true, choose_false, on_choose}
use Rattle.rules.specs.PageSets.{count, Once}
use Rattle.rules.proofs.PageSetLaws.{hit_same, same, other, hits, count_append}
use Rattle.rules.specs.Chain.{Link, pages}
use Rattle.rules.specs.Names.{directory_number}
use Rattle.rules.specs.Tree.{Label, key_of, Items, end, page, file, dir, inner_pages, all_pages, keys}
use Rattle.rules.specs.WellFormed.{Entries}
use Rattle.rules.specs.Paths.{Found, nothing, a_file, a_directory, find}
use Rattle.rules.proofs.EditLaws.{find_none, remove_inner}
use Rattle.rules.specs.EditLaws.{all_found}
use Rattle.rules.specs.Candidate.{look_up, chain_pages}
use Rattle.reading_theorems.specs.Directory.{all_split}
use Rattle.editing_theorems.specs.Contexts.{file_no_directory, nothing_no_directory}

-- ---- one key, two keys
pub find_one : (x k : ℕ) (t : Items) → count x (all_found (find k t)) ≤ count x (inner_pages t)
find_one x k t = omega (arith, remove_inner x k t)

pub find_two : (x k j : ℕ) (t : Items) → (k ≡ j → ⊥) → count x (all_found (find k t)) + count x (all_found (find j t)) ≤ count x (inner_pages t)
find_two x k j end n = omega arith
find_two x k j (page p t) n = find_two x k j t n
find_two x k j (file l ls t) n = elim (hits k (key_of l)) [
  | same e i ↦ simp (eq-eqb k (key_of l) e, choose_true, ne_eqb j (key_of l) (λ f. n (e ∙ sym f)), choose_false, count_append) (omega (arith, find_one x j t))
  | other e i ↦ elim (hits j (key_of l)) [
    | same f i ↦ simp (ne_eqb k (key_of l) e, choose_false, eq-eqb j (key_of l) f, choose_true, count_append) (omega (arith, find_one x k t))
    | other f i ↦ simp (ne_eqb k (key_of l) e, ne_eqb j (key_of l) f, choose_false, count_append) (omega (arith, find_two x k j t n))
  ]
]
find_two x k j (dir l d t) n = elim (hits k (key_of l)) [
  | same e i ↦ simp (eq-eqb k (key_of l) e, choose_true, ne_eqb j (key_of l) (λ f. n (e ∙ sym f)), choose_false, count_append) (omega (arith, find_one x j t))
  | other e i ↦ elim (hits j (key_of l)) [
    | same f i ↦ simp (ne_eqb k (key_of l) e, choose_false, eq-eqb j (key_of l) f, choose_true, count_append) (omega (arith, find_one x k t))
    | other f i ↦ simp (ne_eqb k (key_of l) e, ne_eqb j (key_of l) f, choose_false, count_append) (omega (arith, find_two x k j t n))
  ]
]

-- ---- paths
pub path_within : (x : ℕ) (ks : List ℕ) (f : Found) → count x (chain_pages (look_up ks f)) ≤ count x (all_found f)
path_within x [] nothing = omega arith
path_within x [] (a_file l ls) = omega arith
path_within x [] (a_directory l d) = omega (arith, all_split x d)
path_within x (k ∷ ks) nothing = omega arith
path_within x (k ∷ ks) (a_file l ls) = omega arith
path_within x (k ∷ ks) (a_directory l d) = omega (arith, path_within x ks (find k d), find_one x k d, all_split x d)

pub path_all : (x : ℕ) (ks : List ℕ) (f : Found) → count x (all_found (look_up ks f)) ≤ count x (all_found f)
path_all x [] f = omega arith
path_all x (k ∷ ks) nothing = omega arith
path_all x (k ∷ ks) (a_file l ls) = omega arith
path_all x (k ∷ ks) (a_directory l d) = omega (arith, path_all x ks (find k d), find_one x k d, all_split x d)

-- the chains at two paths have no page in common
pub paths_apart : (x : ℕ) (ks js : List ℕ) (f : Found) → (ks ≡ js → ⊥) → count x (chain_pages (look_up ks f)) + count x (chain_pages (look_up js f)) ≤ count x (all_found f)
paths_apart x [] [] f n = absurd (n refl)
paths_apart x [] (j ∷ js) nothing n = omega arith
paths_apart x [] (j ∷ js) (a_file l ls) n = omega arith
paths_apart x [] (j ∷ js) (a_directory l d) n = omega (arith, path_within x js (find j d), find_one x j d, all_split x d)
paths_apart x (k ∷ ks) [] nothing n = omega arith
paths_apart x (k ∷ ks) [] (a_file l ls) n = omega arith
paths_apart x (k ∷ ks) [] (a_directory l d) n = omega (arith, path_within x ks (find k d), find_one x k d, all_split x d)
paths_apart x (k ∷ ks) (j ∷ js) nothing n = omega arith
paths_apart x (k ∷ ks) (j ∷ js) (a_file l ls) n = omega arith
paths_apart x (k ∷ ks) (j ∷ js) (a_directory l d) n = elim (hits k j) [
  | same e i ↦ rw (← e) (omega (arith, paths_apart x ks js (find k d) (λ f. n (ap₂ (λ (a : ℕ) (l : List ℕ). a ∷ l) e f)), find_one x k d, all_split x d))
  | other e i ↦ omega (arith, path_within x ks (find k d), path_within x js (find j d), find_two x k j d e, all_split x d)
]

pub path_append : (ks js : List ℕ) (f : Found) → look_up (ks ++ js) f ≡ look_up js (look_up ks f)
path_append [] js f = refl
path_append (k ∷ ks) [] nothing = refl
path_append (k ∷ ks) (j ∷ js) nothing = refl
path_append (k ∷ ks) [] (a_file l ls) = refl
path_append (k ∷ ks) (j ∷ js) (a_file l ls) = refl
path_append (k ∷ ks) js (a_directory l d) = path_append ks js (find k d)

-- ---- each page below a directory is in a chain at some path
pub record Owned (x : ℕ) (t : Items) : Type 0 where
  pub head : ℕ
  pub path : List ℕ
  pub named : 1 ≤ count head (keys t)
  pub has : 1 ≤ count x (chain_pages (look_up path (find head t)))

past_file : (x : ℕ) (l : Label) (ls : List Link) (t : Items) → Once (keys (file l ls t)) → Owned x t → Owned x (file l ls t)
past_file x l ls t o r = elim (hits r.head (key_of l)) [
  | same e i ↦ absurd (omega (arith, o r.head, r.named))
  | other e i ↦ record { head = r.head; path = r.path; named = omega (arith, r.named); has = simp (ne_eqb r.head (key_of l) e, choose_false) r.has }
]

past_directory : (x : ℕ) (l : Label) (d t : Items) → Once (keys (dir l d t)) → Owned x t → Owned x (dir l d t)
past_directory x l d t o r = elim (hits r.head (key_of l)) [
  | same e i ↦ absurd (omega (arith, o r.head, r.named))
  | other e i ↦ record { head = r.head; path = r.path; named = omega (arith, r.named); has = simp (ne_eqb r.head (key_of l) e, choose_false) r.has }
]

pub owned : (n x levels : ℕ) (t : Items) → Once (keys t) → Entries n levels t → 1 ≤ count x (inner_pages t) → Owned x t
owned n x levels end o w h = absurd (omega arith)
owned n x levels (page p t) o w h = let r = owned n x levels t o w h in record { head = r.head; path = r.path; named = r.named; has = r.has }
owned n x levels (file l ls t) o w h = elim (eq-zero-or-pos (count x (pages ls))) [
  | inr z ↦ record { head = key_of l; path = []; named = omega (arith, hit_same (key_of l)); has = simp (eq-eqb (key_of l) (key_of l) refl, choose_true) z }
  | inl z ↦ past_file x l ls t o (owned n x levels t (λ y. omega (arith, o y)) w.3 (omega (arith, count_append x (pages ls) (inner_pages t))))
]
owned n x zero (dir l d t) o w h = absurd w.4
owned n x (suc levels) (dir l d t) o w h = elim (eq-zero-or-pos (count x (all_pages d))) [
  | inl z ↦ past_directory x l d t o (owned n x (suc levels) t (λ y. omega (arith, o y)) w.5 (omega (arith, simp count_append at h, all_split x d)))
  | inr z ↦ elim (eq-zero-or-pos (count x (inner_pages d))) [
    | inl y ↦ record {
      head = key_of l;
      path = [];
      named = omega (arith, hit_same (key_of l));
      has = simp (eq-eqb (key_of l) (key_of l) refl, choose_true) (omega (arith, all_split x d));
    }
    | inr y ↦ let r = owned n x levels d w.3 w.4 y in record {
      head = key_of l;
      path = r.head ∷ r.path;
      named = omega (arith, hit_same (key_of l));
      has = simp (eq-eqb (key_of l) (key_of l) refl, choose_true) r.has;
    }
  ]
]

-- ---- a file's key finds no directory
directory_extension : (x : ℕ) → directory_number x ≡ true → x % 128 ≡ 127
unfolding directory_number
directory_extension x e = eqb-true (x % 128) 127 e

-- a key whose extension number is not a directory's
abbrev pub FileKey : ℕ → Type 0
FileKey k = k % 128 < 127

pub no_directory : (n levels k : ℕ) (t : Items) → Entries n levels t → FileKey k → (l : Label) (d : Items) → find k t ≡ a_directory l d → ⊥
no_directory n levels k end w h l d e = nothing_no_directory e
no_directory n levels k (page p t) w h l d e = no_directory n levels k t w h l d e
no_directory n levels k (file m c t) w h l d e = on_choose _ _ _ _ e (λ q z. file_no_directory z) (λ q z. no_directory n levels k t w.3 h l d z)
no_directory n levels k (dir m b t) w h l d e = on_choose _ _ _ _ e
    (λ q z. omega (arith, eqb-true k (key_of m) q, directory_extension m.extension w.1))
    (λ q z. no_directory n levels k t w.5 h l d z)

-- nothing stands below what is found
abbrev pub NothingBelow : Found → Type 0
NothingBelow f = (j : ℕ) (ks : List ℕ) → look_up (j ∷ ks) f ≡ nothing

pub nothing_below : (ks : List ℕ) → look_up ks nothing ≡ nothing
nothing_below [] = refl
nothing_below (k ∷ ks) = refl

-- below a file's key
pub no_below : (n levels k : ℕ) (t : Items) → Entries n levels t → FileKey k → NothingBelow (find k t)
no_below n levels k t w h j ks = go (find k t) refl
  where
    go : (f : Found) → find k t ≡ f → look_up (j ∷ ks) f ≡ nothing
    go nothing e = refl
    go (a_file l ls) e = refl
    go (a_directory l d) e = absurd (no_directory n levels k t w h l d e)

-- below a directory without entries
pub empty_below : (l : Label) (d : Items) → keys d ≡ [] → NothingBelow (a_directory l d)
empty_below l d e j ks = ap (look_up ks) (find_none j d (ap (count j) e)) ∙ nothing_below ks
