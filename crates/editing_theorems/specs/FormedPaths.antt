-- A well-formed path: its names are valid, its extension is a file's; and a directory's path.
use Rattle.std.specs.Prelude.{◌≡◌, refl, true, List, ℕ, zero, suc, ◌+◌, ◌-◌, ◌*◌, ◌/◌, ◌%◌, ◌^◌, ◌≤◌, ◌<◌, leb, length, take, drop}
use Rattle.std.proofs.Common.{ap, subst, arith, length-drop, drop-drop, leb-true, eqb-true}
use Rattle.geometry.specs.Number.{number, Bytes}
use Rattle.geometry.specs.NumberLaws.{bytes_drop}
use Rattle.rules.specs.Result.{ok}
use Rattle.rules.proofs.ResultLaws.{ok_inj, on_refuse}
use Rattle.rules.specs.Names.{valid_name}
use Rattle.rules.specs.Paths.{Path, names_in, valid_names, path_of, directory_path_of}
use Rattle.geometry.specs.BoolLaws.{both}
use Rattle.reading_theorems.specs.ByteLaws.{number_fits}

pub record Formed (path : List ℕ) (q : Path) : Type 0 where
  pub extension : q.extension ≤ 99
  pub valid : valid_name q.name ≡ true
  pub four : Bytes path → q.name < 256 ^ 4

name_at : (k n : ℕ) (b : List ℕ) → k < n → valid_names (names_in n b) ≡ true → valid_name (number (take 4 (drop (4 * k) b))) ≡ true
name_at k zero b h e = absurd (omega arith)
name_at zero (suc n) b h e = (both _ _ e).0
name_at (suc k) (suc n) b h e =
    let i : 4 * suc k ≡ 4 + 4 * k = omega arith in
    let r = name_at k n (drop 4 b) (omega arith) (both (valid_name (number (take 4 b))) (valid_names (names_in n (drop 4 b))) e).1 in
    rw (i, ← drop-drop (4 * k) 4 b) r

pub formed : (path : List ℕ) (q : Path) → path_of path ≡ ok q → Formed path q
unfolding path_of
formed path q e = on_refuse _ _ _ _ _ e λ g₁ e. on_refuse _ _ _ _ _ e λ g₂ e. on_refuse _ _ _ _ _ e λ g₃ e.
    let l = both _ _ g₁ in
    let m : length path % 4 ≡ 1 = eqb-true _ _ l.0 in
    let n : 5 ≤ length path = leb-true _ _ (both _ _ l.1).0 in
    let i : 4 * (length path / 4 - 1) ≡ length path - 5 = omega arith in
    subst (Formed path) (ok_inj e) (record {
      extension = leb-true _ _ g₃;
      valid = subst (λ (a : ℕ). valid_name (number (take 4 (drop a path))) ≡ true) i (name_at (length path / 4 - 1) (length path / 4) path (omega arith) g₂);
      four = λ b. number_fits 4 (drop (length path - 5) path) (bytes_drop (length path - 5) path b) (simp length-drop (omega arith));
    })

pub record FormedDirectory (path : List ℕ) (q : Path) : Type 0 where
  pub extension : q.extension ≡ 127
  pub few : length q.directories < 8
  pub valid : valid_name q.name ≡ true
  pub four : Bytes path → q.name < 256 ^ 4

names_length : (k : ℕ) (b : List ℕ) → length (names_in k b) ≡ k
names_length zero b = refl
names_length (suc k) b = ap suc (names_length k (drop 4 b))

pub formed_directory : (path : List ℕ) (q : Path) → directory_path_of path ≡ ok q → FormedDirectory path q
unfolding directory_path_of
formed_directory path q e = on_refuse _ _ _ _ _ e λ g₁ e. on_refuse _ _ _ _ _ e λ g₂ e.
    let l = both _ _ g₁ in
    let m : length path % 4 ≡ 0 = eqb-true _ _ l.0 in
    let k = both (leb 4 (length path)) (leb (length path) 32) l.1 in
    let n : 4 ≤ length path = leb-true 4 (length path) k.0 in
    let o : length path ≤ 32 = leb-true (length path) 32 k.1 in
    let i : 4 * (length path / 4 - 1) ≡ length path - 4 = omega arith in
    subst (FormedDirectory path) (ok_inj e) (record {
      extension = refl;
      few = omega (arith, names_length (length path / 4 - 1) path);
      valid = subst (λ (a : ℕ). valid_name (number (take 4 (drop a path))) ≡ true) i (name_at (length path / 4 - 1) (length path / 4) path (omega arith) g₂);
      four = λ b. number_fits 4 (drop (length path - 4) path) (bytes_drop (length path - 4) path b) (simp length-drop (omega arith));
    })
