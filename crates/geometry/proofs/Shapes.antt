-- The cases of the geometry's rule, and the capacities as the code computes them.
use mathlib.Core.Path.{◌≡◌}
use Prim.Native.Nat.{ℕ, ◌+◌, ◌-◌, ◌*◌, ◌/◌, ◌≤◌, ◌<◌}
use native.Mathlib.Omega.{arith}
use borrow.Author.Tests.{le-leb, lt-leb, eq-eqb, ne_eqb}
use Rattle.geometry.specs.declared.Geometry.{Geometry}
use Rattle.std.specs.Prelude.{Some, None}
use Rattle.geometry.specs.ChooseLaws.{choose_true, choose_false}
use Rattle.geometry.specs.Geometry.{geometry_of, right, width_for, data_capacity, entry_size, control_size, first_entries, later_entries}

module _ (P N i o : ℕ) where
  pub small_page : P < 32 → None ≡ geometry_of P N i o
  unfolding geometry_of right
  small_page h = simp (geometry_of, right, lt-leb 32 P h, choose_false)

  module _ (a : 32 ≤ P) where
    pub large_page : 256 < P → None ≡ geometry_of P N i o
    unfolding geometry_of right
    large_page h = simp (geometry_of, right, le-leb 32 P a, lt-leb P 256 h, choose_false)

    module _ (b : P ≤ 256) where
      pub few_pages : N < 2 → None ≡ geometry_of P N i o
      unfolding geometry_of right
      few_pages h = simp (geometry_of, right, le-leb 32 P a, le-leb P 256 b, lt-leb 2 N h, choose_false)

      module _ (c : 2 ≤ N) where
        pub many_pages : 65535 < N → None ≡ geometry_of P N i o
        unfolding geometry_of right
        many_pages h = simp (geometry_of, right, le-leb 32 P a, le-leb P 256 b, le-leb 2 N c, lt-leb N 65535 h, choose_false)

        module _ (d : N ≤ 65535) where
          pub wrong_image : (i ≡ P * N → ⊥) → None ≡ geometry_of P N i o
          unfolding geometry_of right
          wrong_image h = simp (geometry_of, right, le-leb 32 P a, le-leb P 256 b, le-leb 2 N c, le-leb N 65535 d, ne_eqb i (P * N) h, choose_false)

          module _ (e : i ≡ P * N) where
            pub short_table : o < 4 * N → None ≡ geometry_of P N i o
            unfolding geometry_of right
            short_table h = simp (geometry_of, right, le-leb 32 P a, le-leb P 256 b, le-leb 2 N c, le-leb N 65535 d, eq-eqb i (P * N) e, lt-leb (4 * N) o h, choose_false)

            pub fitting : (w : ℕ) → 4 * N ≤ o → w ≡ width_for N → Some (record { size = P; pages = N; width = w }) ≡ geometry_of P N i o
            unfolding geometry_of right
            fitting w h k = simp (geometry_of, right, le-leb 32 P a, le-leb P 256 b, le-leb 2 N c, le-leb N 65535 d, eq-eqb i (P * N) e, le-leb (4 * N) o h, choose_true, k)

pub narrow : (N : ℕ) → N ≤ 256 → 1 ≡ width_for N
unfolding width_for
narrow N h = simp (width_for, le-leb N 256 h, choose_true)

pub broad : (N : ℕ) → 256 < N → 2 ≡ width_for N
unfolding width_for
broad N h = simp (width_for, lt-leb N 256 h, choose_false)

module _ (g : Geometry) (d k e : ℕ) (hd : d ≡ data_capacity g) (he : e ≡ entry_size g) where
  pub first_is : k ≡ control_size g → (d - k) / e ≡ first_entries g
  unfolding data_capacity control_size first_entries
  first_is hk = let x : d - k ≡ g.size - (9 + 2 * g.width) = omega arith in rw (x, he)

  pub later_is : d / e ≡ later_entries g
  unfolding data_capacity later_entries
  later_is = let x : d ≡ g.size - (3 + g.width) = omega arith in rw (x, he)
