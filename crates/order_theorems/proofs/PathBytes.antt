-- The keys that a file's path gives determine its bytes: paths that differ in any byte lead to different places.
use Rattle.std.specs.Prelude.{◌≡◌, refl, List, [], ◌∷◌, ◌++◌, ℕ, zero, suc, ◌+◌, ◌-◌, ◌*◌, ◌/◌, ◌%◌, ◌≤◌, length, get_or, take, drop}
use Rattle.std.proofs.Common.{ap, ap₂, sym, ◌∙◌, arith, length-drop, length-append, take-append-drop, drop-drop, get_or-drop, length-take-le, leb-true, eqb-true}
use Rattle.geometry.specs.Number.{number, number_bytes, Bytes}
use Rattle.geometry.specs.NumberLaws.{bytes_of, bytes_take, bytes_drop}
use Rattle.geometry.specs.BoolLaws.{both}
use Rattle.rules.specs.Result.{ok}
use Rattle.rules.proofs.ResultLaws.{ok_inj, on_refuse}
use Rattle.rules.specs.Paths.{Path, names_in, path_of, file_key}
use Rattle.rules.specs.Candidate.{directory_keys, file_path}
use Rattle.editing_theorems.specs.FormedPaths.{formed}
use Rattle.editing_theorems.specs.FoundLaws.{last_same}

-- lists that are one with a last member are one
pub front_same : (xs ys : List ℕ) (j k : ℕ) → xs ++ (j ∷ []) ≡ ys ++ (k ∷ []) → xs ≡ ys
front_same [] [] j k e = refl
front_same [] (y ∷ ys) j k e = absurd (omega (arith, ap length e, length-append ys (k ∷ [])))
front_same (x ∷ xs) [] j k e = absurd (omega (arith, ap length e, length-append xs (j ∷ [])))
front_same (x ∷ xs) (y ∷ ys) j k e =
    let h : x ≡ y = cc in
    let t : xs ++ (j ∷ []) ≡ ys ++ (k ∷ []) = cc in
    ap₂ (λ (z : ℕ) (zs : List ℕ). z ∷ zs) h (front_same xs ys j k t)

-- names of four bytes and the extension byte as a path's bytes
abbrev name_bytes : List ℕ → ℕ → List ℕ
name_bytes [] x = x ∷ []
name_bytes (n ∷ ns) x = number_bytes 4 n ++ name_bytes ns x

four_bytes : (b : List ℕ) → Bytes b → 4 ≤ length b → number_bytes 4 (number (take 4 b)) ≡ take 4 b
four_bytes b h l = ap (λ (n : ℕ). number_bytes n (number (take 4 b))) (sym (length-take-le 4 b l)) ∙ bytes_of (take 4 b) (bytes_take 4 b h)

-- k names and one byte give the bytes back
rebuilt : (k : ℕ) (b : List ℕ) → Bytes b → length b ≡ 4 * k + 1 → name_bytes (names_in k b) (get_or b (4 * k) 0) ≡ b
rebuilt zero [] h l = absurd (omega arith)
rebuilt zero (x ∷ []) h l = refl
rebuilt zero (x ∷ y ∷ b) h l = absurd (omega arith)
rebuilt (suc k) b h l =
    let s : 4 * suc k ≡ 4 + 4 * k = omega arith in
    let r = rebuilt k (drop 4 b) (bytes_drop 4 b h) (simp length-drop (omega arith)) in
    let g : get_or b (4 * suc k) 0 ≡ get_or (drop 4 b) (4 * k) 0 = ap (λ (n : ℕ). get_or b n 0) s ∙ sym (get_or-drop 4 b (4 * k) 0) in
    ap₂ (λ (xs ys : List ℕ). xs ++ ys) (four_bytes b h (omega arith)) (ap (name_bytes (names_in k (drop 4 b))) g ∙ r) ∙ take-append-drop 4 b

-- the last of the names
names_last : (k : ℕ) (b : List ℕ) → names_in (suc k) b ≡ names_in k b ++ (number (take 4 (drop (4 * k) b)) ∷ [])
names_last zero b = refl
names_last (suc k) b =
    let s : 4 * suc k ≡ 4 + 4 * k = omega arith in
    ap (λ (ns : List ℕ). number (take 4 b) ∷ ns) (names_last k (drop 4 b)
    ∙ ap (λ (l : List ℕ). names_in k (drop 4 b) ++ (number (take 4 l) ∷ [])) (drop-drop (4 * k) 4 b ∙ ap (λ (n : ℕ). drop n b) (sym s)))

-- the bytes of a path that is well formed
path_bytes : (path : List ℕ) (q : Path) → Bytes path → path_of path ≡ ok q → name_bytes (q.directories ++ (q.name ∷ [])) q.extension ≡ path
unfolding path_of
path_bytes path q h e = on_refuse _ _ _ _ _ e λ t e. on_refuse _ _ _ _ _ e λ t₂ e. on_refuse _ _ _ _ _ e λ t₃ e.
    let l = both _ _ t in
    let m : length path % 4 ≡ 1 = eqb-true _ _ l.0 in
    let n : 5 ≤ length path = leb-true _ _ (both _ _ l.1).0 in
    let k = length path / 4 - 1 in
    let i : 4 * k ≡ length path - 5 = omega arith in
    let j : 4 * suc k ≡ length path - 1 = omega arith in
    let names : names_in k path ++ (number (take 4 (drop (length path - 5) path)) ∷ []) ≡ names_in (suc k) path = ap (λ (a : ℕ). names_in k path ++ (number (take 4 (drop a path)) ∷ [])) (sym i) ∙ sym (names_last k path) in
    ap (λ (r : Path). name_bytes (r.directories ++ (r.name ∷ [])) r.extension) (sym (ok_inj e))
    ∙ ap₂ name_bytes names (ap (λ (a : ℕ). get_or path a 0) (sym j)) ∙ rebuilt (suc k) path h (omega arith)

directories_same : (xs ys : List ℕ) → directory_keys xs ≡ directory_keys ys → xs ≡ ys
directories_same [] [] e = refl
directories_same [] (y ∷ ys) e = absurd (omega (arith, ap length e))
directories_same (x ∷ xs) [] e = absurd (omega (arith, ap length e))
directories_same (x ∷ xs) (y ∷ ys) e =
    let h : x * 128 + 127 ≡ y * 128 + 127 = cc in
    let t : directory_keys xs ≡ directory_keys ys = cc in
    ap₂ (λ (z : ℕ) (zs : List ℕ). z ∷ zs) (omega arith) (directories_same xs ys t)

-- two well-formed paths that lead to one place are one
pub one_path : (path other : List ℕ) (q r : Path) → Bytes path → Bytes other → path_of path ≡ ok q → path_of other ≡ ok r → file_path q ≡ file_path r → path ≡ other
one_path path other q r h k e f s =
    let d = front_same (directory_keys q.directories) (directory_keys r.directories) (file_key q) (file_key r) s in
    let ds : q.directories ≡ r.directories = directories_same q.directories r.directories d in
    let l = last_same (directory_keys r.directories) (file_key q) (file_key r) (ap (λ (ks : List ℕ). ks ++ (file_key q ∷ [])) (sym d) ∙ s) in
    let x = (formed path q e).extension in
    let y = (formed other r f).extension in
    let n : q.name ≡ r.name = omega arith in
    let z : q.extension ≡ r.extension = omega arith in
    sym (path_bytes path q h e) ∙ ap₂ name_bytes (ap₂ (λ (xs : List ℕ) (m : ℕ). xs ++ (m ∷ [])) ds n) z ∙ path_bytes other r k f
