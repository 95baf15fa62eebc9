-- The cases of a path, as the code meets them.
use mathlib.Core.Path.{◌≡◌, refl, ap, sym, ◌∙◌}
use mathlib.Core.Bool.{Bool, true, false, not, ◌&&◌}
use mathlib.Core.List.{List, [], ◌∷◌, ◌++◌}
use Prim.Native.Nat.{ℕ, zero, suc, ◌+◌, ◌-◌, ◌*◌, ◌/◌, ◌%◌, ◌≤◌, ◌<◌}
use native.Mathlib.Omega.{arith}
use lib.ListN.{length, get_or, take, drop, length-append, length-take, length-drop}
use denote.Ref.{Bor}
use Rattle.std.specs.List.{list_all}
use Rattle.std.specs.Iterator.{AlwaysYields}
use Rattle.std.specs.Slice.Iter.{chunks_exact_steps}
use Rattle.std.specs.declared.slice.ChunksExact.{ChunksExact}
use Rattle.std.proofs.lemmas.Iterator.{YieldsList}
use Rattle.std.proofs.lemmas.List.{drop-take, take-take}
use Rattle.std.proofs.Math.Seq.{take-append_seam, drop-append_seam}
use borrow.Author.Tests.{le-leb, lt-leb, eq-eqb, ne_eqb, not-true, not-false}
use Rattle.geometry.specs.Number.{number}
use Rattle.rules.specs.Result.{ok, err, and_then, refuse_unless}
use Rattle.rules.specs.Names.{valid_name}
use Rattle.rules.specs.Paths.{names_in, valid_names, path_of, directory_path_of}

-- the names of a path's bytes, four bytes each
abbrev pub chunks_in : ℕ → List ℕ → List (List ℕ)
chunks_in zero b = []
chunks_in (suc k) b = take 4 b ∷ chunks_in k (drop 4 b)

pub names_of : (k : ℕ) (b : List ℕ) → list_all (λ c. valid_name (number (take 4 c))) (chunks_in k b) ≡ valid_names (names_in k b)
names_of zero b = refl
names_of (suc k) b =
    ap (λ (c : List ℕ). valid_name (number c) && list_all (λ d. valid_name (number (take 4 d))) (chunks_in k (drop 4 b))) (take-take 4 4 b (omega arith))
    ∙ ap (λ (t : Bool). valid_name (number (take 4 b)) && t) (names_of k (drop 4 b))

-- so many chunks come of the bytes
always : (k : ℕ) (b : List ℕ) (s : ChunksExact ℕ) → s.size ≡ 4 → s.rest.now ≡ take (4 * k) b → 4 * k ≤ length b → AlwaysYields chunks_exact_steps (λ (x : Bor (List ℕ)). x.now) s (chunks_in k b)
always zero b s z e h = λ x j n.
    let l = ap length (sym e ∙ n.1.0) ∙ length-append x.now j.rest.now in
    let m : length (take (4 * 0) b) ≤ 0 = omega (arith, length-take (4 * 0) b) in
    omega (arith, l, m, n.1.1, z)
always (suc k) b s z e h =
    let l : length s.rest.now ≡ 4 + 4 * k = ap length e ∙ (let m = length-take (4 * suc k) b in omega arith) in
    let f : s.rest.now ≡ take (4 + 4 * k) b = e ∙ ap (λ (n : ℕ). take n b) (let m : 4 * suc k ≡ 4 + 4 * k = omega arith in m) in (
      λ j n. omega (arith, l, n.1.0, z),
      λ x j n.
          let size : length x.now ≡ 4 = n.1.1 ∙ z in
          let front : x.now ≡ take 4 b =
          sym (ap (λ (m : ℕ). take m (x.now ++ j.rest.now)) (sym size) ∙ take-append_seam x.now j.rest.now)
          ∙ ap (take 4) (sym n.1.0 ∙ f)
          ∙ take-take 4 (4 + 4 * k) b (omega arith) in
          let rest : j.rest.now ≡ take (4 * k) (drop 4 b) =
          sym (ap (λ (m : ℕ). drop m (x.now ++ j.rest.now)) (sym size) ∙ drop-append_seam x.now j.rest.now)
          ∙ ap (drop 4) (sym n.1.0 ∙ f)
          ∙ drop-take 4 (4 * k) b in
          (front, always k (drop 4 b) j (n.0 ∙ z) rest (omega (arith, length-drop 4 b))),
    )

pub yields : (k : ℕ) (b : List ℕ) (s : ChunksExact ℕ) → s.size ≡ 4 → s.rest.now ≡ take (4 * k) b → 4 * k ≤ length b → YieldsList chunks_exact_steps (λ (x : Bor (List ℕ)). x.now) s (chunks_in k b)
yields k b s z e h = record { runs = always k b s z e h }

pub length_names : (k : ℕ) (b : List ℕ) → length (names_in k b) ≡ k
length_names zero b = refl
length_names (suc k) b = ap suc (length_names k (drop 4 b))

module _ (b : List ℕ) where
  pub odd_length : (length b % 4 ≡ 1 → ⊥) → err 14 0 ≡ path_of b
  unfolding path_of and_then refuse_unless
  odd_length h = simp (path_of, ne_eqb (length b % 4) 1 h)

  module _ (h : length b % 4 ≡ 1) where
    pub too_short : length b < 5 → err 14 0 ≡ path_of b
    unfolding path_of and_then refuse_unless
    too_short k = simp (path_of, eq-eqb (length b % 4) 1 h, lt-leb 5 (length b) k)

    module _ (k : 5 ≤ length b) where
      pub too_long : 37 < length b → err 14 0 ≡ path_of b
      unfolding path_of and_then refuse_unless
      too_long l = simp (path_of, eq-eqb (length b % 4) 1 h, le-leb 5 (length b) k, lt-leb (length b) 37 l)

      module _ (l : length b ≤ 37) (t : Bool) (q : t ≡ valid_names (names_in (length b / 4) b)) where
        pub bad_name : not t ≡ true → err 14 0 ≡ path_of b
        unfolding path_of and_then refuse_unless
        bad_name z = simp (path_of, eq-eqb (length b % 4) 1 h, le-leb 5 (length b) k, le-leb (length b) 37 l, ← q, not-true t z)

        module _ (z : not t ≡ false) where
          pub bad_extension : 99 < get_or b (length b - 1) 0 → err 14 0 ≡ path_of b
          unfolding path_of and_then refuse_unless
          bad_extension m = simp (path_of, eq-eqb (length b % 4) 1 h, le-leb 5 (length b) k, le-leb (length b) 37 l, ← q, not-false t z, lt-leb (get_or b (length b - 1) 0) 99 m)

          pub well_formed_lem : get_or b (length b - 1) 0 ≤ 99 → (x : ℕ) → x ≡ number (take 4 (drop (length b - 5) b))
              → ok (record { directories = names_in (length b / 4 - 1) b; name = x; extension = get_or b (length b - 1) 0 }) ≡ path_of b
          unfolding path_of and_then refuse_unless
          well_formed_lem m x e =
              simp (path_of, eq-eqb (length b % 4) 1 h, le-leb 5 (length b) k, le-leb (length b) 37 l, ← q, not-false t z, le-leb (get_or b (length b - 1) 0) 99 m, ← e)

-- ---- a directory's path
module _ (b : List ℕ) where
  pub uneven_length : (length b % 4 ≡ 0 → ⊥) → err 14 0 ≡ directory_path_of b
  unfolding directory_path_of and_then refuse_unless
  uneven_length h = simp (directory_path_of, ne_eqb (length b % 4) 0 h)

  module _ (h : length b % 4 ≡ 0) where
    pub no_name : length b < 4 → err 14 0 ≡ directory_path_of b
    unfolding directory_path_of and_then refuse_unless
    no_name k = simp (directory_path_of, eq-eqb (length b % 4) 0 h, lt-leb 4 (length b) k)

    module _ (k : 4 ≤ length b) where
      pub nine_names : 32 < length b → err 14 0 ≡ directory_path_of b
      unfolding directory_path_of and_then refuse_unless
      nine_names l = simp (directory_path_of, eq-eqb (length b % 4) 0 h, le-leb 4 (length b) k, lt-leb (length b) 32 l)

      module _ (l : length b ≤ 32) (t : Bool) (q : t ≡ valid_names (names_in (length b / 4) b)) where
        pub bad_directory : not t ≡ true → err 14 0 ≡ directory_path_of b
        unfolding directory_path_of and_then refuse_unless
        bad_directory z = simp (directory_path_of, eq-eqb (length b % 4) 0 h, le-leb 4 (length b) k, le-leb (length b) 32 l, ← q, not-true t z)

        pub directory_formed : not t ≡ false → (x : ℕ) → x ≡ number (take 4 (drop (length b - 4) b))
            → ok (record { directories = names_in (length b / 4 - 1) b; name = x; extension = 127 }) ≡ directory_path_of b
        unfolding directory_path_of and_then refuse_unless
        directory_formed z x e = simp (directory_path_of, eq-eqb (length b % 4) 0 h, le-leb 4 (length b) k, le-leb (length b) 32 l, ← q, not-false t z, ← e)
