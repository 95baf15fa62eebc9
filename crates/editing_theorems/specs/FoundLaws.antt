-- What is found under a key or at a path: that it is there, its entry's bytes, the directory above it.
use Rattle.std.specs.Prelude.{◌≡◌, refl, List, [], ◌∷◌, ◌++◌, ℕ, ◌*◌, ◌/◌, ◌≤◌, ◌<◌, length}
use Rattle.std.proofs.Common.{ap, sym, ◌∙◌, subst, inl, inr, eq-zero-or-pos, suc-mul, mul-div_cancel, arith}
use Rattle.geometry.specs.declared.Geometry.{Geometry}
use Rattle.geometry.specs.Geometry.{entry_size}
use Rattle.rules.specs.PageSets.{count}
use Rattle.rules.specs.Tree.{Label, width, Items, file_entry, directory_entry, keys, Map, in_root, in_file, map_pages}
use Rattle.rules.specs.Paths.{Found, nothing, a_file, a_directory, find}
use Rattle.rules.proofs.EditLaws.{width_is, find_none, none_found}
use Rattle.rules.specs.Candidate.{look_up, chain_pages, found_entry, Exists, SameMap}
use Rattle.reading_theorems.specs.EntryLaws.{entry_size_lem}
use Rattle.editing_theorems.specs.Capacity.{length_slots}
use Rattle.editing_theorems.specs.FullPages.{width_found}
use Rattle.editing_theorems.specs.PathLaws.{path_append}

pub exists_pages : (x : ℕ) (f : Found) → 1 ≤ count x (chain_pages f) → Exists f
exists_pages x nothing h = absurd (omega arith)
exists_pages x (a_file l ls) h = tt
exists_pages x (a_directory l d) h = tt

pub exists_key : (k : ℕ) (t : Items) → 1 ≤ count k (keys t) → Exists (find k t)
exists_key k t h = go (find k t) refl
  where
    go : (f : Found) → find k t ≡ f → Exists f
    go nothing e = absurd (omega (arith, none_found k t e))
    go (a_file l ls) e = tt
    go (a_directory l d) e = tt

pub key_exists : (k : ℕ) (t : Items) → Exists (find k t) → 1 ≤ count k (keys t)
key_exists k t h = elim (eq-zero-or-pos (count k (keys t))) [ inr z ↦ z | inl z ↦ absurd (subst Exists (find_none k t z) h) ]

-- an entry with its stamps has bytes, as many as its slots
pub length_found : (g : Geometry) (f : Found) → length (found_entry g f) ≡ width_found f * entry_size g
length_found g nothing = omega arith
length_found g (a_file l ls) = omega (arith, length_slots g l (file_entry l ls) [])
length_found g (a_directory l d) = omega (arith, length_slots g l (directory_entry l d) [])

slots_some : (g : Geometry) (l : Label) → 1 ≤ width l * entry_size g
slots_some g l = omega (arith, ap (λ (k : ℕ). k * entry_size g) (width_is l), suc-mul (length l.stamps) (entry_size g), entry_size_lem g)

pub entry_some : (g : Geometry) (f : Found) → Exists f → 1 ≤ length (found_entry g f)
entry_some g nothing h = absurd h
entry_some g (a_file l ls) h = omega (arith, length_found g (a_file l ls), slots_some g l)
entry_some g (a_directory l d) h = omega (arith, length_found g (a_directory l d), slots_some g l)

-- so entries with the same bytes take as many slots
pub same_width : (g : Geometry) (f h : Found) → found_entry g f ≡ found_entry g h → width_found f ≡ width_found h
same_width g f h e =
    let z : 0 < entry_size g = omega (arith, entry_size_lem g) in
    sym (mul-div_cancel (width_found f) z) ∙ ap (λ (n : ℕ). n / entry_size g) (sym (length_found g f) ∙ ap length e ∙ length_found g h) ∙ mul-div_cancel (width_found h) z

-- and where there are bytes there is an entry
pub exists_entry : (g : Geometry) (f : Found) → 1 ≤ length (found_entry g f) → Exists f
exists_entry g nothing h = absurd (omega arith)
exists_entry g (a_file l ls) h = tt
exists_entry g (a_directory l d) h = tt

-- the directory above what stands at a path
pub record DirectoryAbove (ks : List ℕ) (k : ℕ) (f : Found) : Type 0 where
  pub label : Label
  pub items : Items
  pub is : look_up ks f ≡ a_directory label items
  pub finds : look_up (ks ++ (k ∷ [])) f ≡ find k items

pub directory_above : (ks : List ℕ) (k : ℕ) (f : Found) → Exists (look_up (ks ++ (k ∷ [])) f) → DirectoryAbove ks k f
directory_above ks k f h = go (look_up ks f) refl (subst Exists (path_append ks (k ∷ []) f) h)
  where
    go : (r : Found) → look_up ks f ≡ r → Exists (look_up (k ∷ []) r) → DirectoryAbove ks k f
    go nothing q x = absurd x
    go (a_file m ms) q x = absurd x
    go (a_directory m d) q x = record { label = m; items = d; is = q; finds = path_append ks (k ∷ []) f ∙ ap (look_up (k ∷ [])) q }

pub same_map : (x : ℕ) (m n : Map) → SameMap m n → count x (map_pages n) ≡ count x (map_pages m)
same_map x in_root in_root h = refl
same_map x in_root (in_file ms) h = absurd h
same_map x (in_file ls) in_root h = absurd h
same_map x (in_file ls) (in_file ms) h = h x

pub last_same : (ts : List ℕ) (j k : ℕ) → ts ++ (j ∷ []) ≡ ts ++ (k ∷ []) → j ≡ k
last_same [] j k e = cc
last_same (t ∷ ts) j k e = let r : ts ++ (j ∷ []) ≡ ts ++ (k ∷ []) = cc in last_same ts j k r
