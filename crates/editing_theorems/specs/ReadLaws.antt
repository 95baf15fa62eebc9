-- What a read answers is what stands at the path; so a put's path then reads the bytes, a deleted path is absent, and every other path reads what it read.
use Rattle.std.specs.Prelude.{◌≡◌, refl, ℕ}
use Rattle.std.proofs.Math.Path.{ap, sym}
use Rattle.std.proofs.Common.{◌∙◌}
use mathlib.Core.List.{List, [], ◌∷◌, ◌++◌}
use Rattle.geometry.specs.declared.Geometry.{Geometry}
use Rattle.rules.specs.Result.{Res, ok, err, and_then}
use Rattle.rules.proofs.ResultLaws.{then_ok, then_err, then_cong}
use Rattle.rules.specs.Tree.{Label, Items, Image}
use Rattle.rules.proofs.TargetLaws.{target_then}
use Rattle.rules.specs.Paths.{Path, path_of, directory_key, file_key, Found, nothing, a_file, a_directory, find, Place, root_place, step_down, directory_at}
use Rattle.rules.specs.Candidate.{look_up, root_label, at_path, directory_keys, target_path, file_path}
use Rattle.rules.specs.Calls.{bytes_of, file_at}
use Rattle.rules.specs.Demand2.{Shown, shown, IsFile, Deleted, PutDone}
use Rattle.editing_theorems.specs.PathLaws.{NothingBelow, nothing_below}
use Rattle.editing_theorems.specs.PathChanges.{same_path}

file_below : (xs : List ℕ) (k : ℕ) (f : Found) → NothingBelow f → look_up (directory_keys xs ++ (k ∷ [])) f ≡ nothing
file_below [] k f h = h k []
file_below (x ∷ xs) k f h = h (directory_key x) (directory_keys xs ++ (k ∷ []))

no_bytes : {f : Found} → f ≡ nothing → bytes_of f ≡ err 15 0
unfolding bytes_of
no_bytes e = ap bytes_of e

-- the directory's names, then the file's key
read_down : (xs : List ℕ) (k : ℕ) (l : Label) (p : Place)
    → and_then (directory_at xs p) (λ d. bytes_of (find k d.items)) ≡ bytes_of (look_up (directory_keys xs ++ (k ∷ [])) (a_directory l p.items))
unfolding directory_at
read_down [] k l p = then_ok _ _
read_down (x ∷ xs) k l p = go (find (directory_key x) p.items) refl (λ m d. read_down xs k m (step_down p x m d))
  where
    go : (f : Found) → find (directory_key x) p.items ≡ f
        → ((m : Label) (d : Items) → and_then (directory_at xs (step_down p x m d)) (λ d. bytes_of (find k d.items)) ≡ bytes_of (look_up (directory_keys xs ++ (k ∷ [])) (a_directory m d)))
        → and_then (directory_at (x ∷ xs) p) (λ d. bytes_of (find k d.items)) ≡ bytes_of (look_up (directory_keys xs ++ (k ∷ [])) (find (directory_key x) p.items))
    go nothing q r = rw q (then_err 15 0 (λ (d : Place). bytes_of (find k d.items)) ∙ sym (no_bytes (nothing_below (directory_keys xs ++ (k ∷ [])))))
    go (a_file m ls) q r = rw q (then_err 15 0 (λ (d : Place). bytes_of (find k d.items)) ∙ sym (no_bytes (file_below xs k (a_file m ls) (λ j ks. refl))))
    go (a_directory m d) q r = rw q (r m d)

-- what a read answers: 14 for a malformed path, else what stands there
pub read_at : (path : List ℕ) (i : Image) → file_at path i ≡ and_then (path_of path) (λ q. bytes_of (at_path (file_path q) i))
unfolding file_at at_path
read_at path i = target_then (path_of path) i.tree _ ∙ then_cong (path_of path) _ _ (λ q e. read_down q.directories (file_key q) root_label (root_place i.tree))

-- two images that show the same at a path read the same there
read_same : (g : Geometry) (path : List ℕ) (i j : Image) → ((q : Path) → path_of path ≡ ok q → shown g (at_path (file_path q) i) ≡ shown g (at_path (file_path q) j))
    → file_at path i ≡ file_at path j
read_same g path i j h = read_at path i ∙ then_cong (path_of path) _ _ (λ q e. ap (λ (s : Shown). s.answer) (h q e)) ∙ sym (read_at path j)

read_found : (path : List ℕ) (q : Path) (i : Image) (f : Found) → path_of path ≡ ok q → at_path (file_path q) i ≡ f → file_at path i ≡ bytes_of f
read_found path q i f p e = read_at path i ∙ ap (λ (r : Res Path). and_then r (λ q. bytes_of (at_path (file_path q) i))) p ∙ then_ok q (λ q. bytes_of (at_path (file_path q) i)) ∙ ap bytes_of e

-- ---- after a put
module _ (g : Geometry) (path bytes image now : List ℕ) (p : PutDone g (path_of path) a_file (λ _. bytes) image now) where
  -- the path reads the bytes
  pub read_put : file_at path p.tree ≡ ok bytes
  unfolding bytes_of
  read_put = read_found path p.at.to p.tree (a_file p.shows.label p.shows.links) p.at.formed p.shows.standing ∙ ap ok p.shows.reads

  -- every other path reads what it read, or answers the refusal that it answered
  pub read_beside_put : (other : List ℕ) → ((q : Path) → path_of other ≡ ok q → file_path q ≡ file_path p.at.to → ⊥) → file_at other p.tree ≡ file_at other p.at.before
  unfolding bytes_of
  read_beside_put other n = read_at other p.tree ∙ then_cong (path_of other) _ _ (λ q e. same_path (file_path q) (target_path p.at.to)
      (λ f. ap (λ (ks : List ℕ). bytes_of (at_path ks p.tree)) f ∙ ap bytes_of p.shows.target_after ∙ sym (ap bytes_of p.shows.target_before) ∙ ap (λ (ks : List ℕ). bytes_of (at_path ks p.at.before)) (sym f))
      (λ m. ap (λ (s : Shown). s.answer) (p.shows.others (file_path q) (n q e) m))) ∙ sym (read_at other p.at.before)

-- ---- after a delete
module _ (g : Geometry) (path image now : List ℕ) (p : Deleted g (path_of path) IsFile image now) where
  pub read_deleted : file_at path p.tree ≡ err 15 0
  read_deleted = read_found path p.at.to p.tree nothing p.at.formed p.shows.gone ∙ no_bytes refl

  pub read_beside_deleted : (other : List ℕ) → ((q : Path) → path_of other ≡ ok q → file_path q ≡ file_path p.at.to → ⊥)
      → file_at other p.tree ≡ file_at other p.at.before
  read_beside_deleted other n = read_same g other p.tree p.at.before (λ q e. p.shows.others (file_path q) (n q e))
