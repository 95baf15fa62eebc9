-- Sizes that are right are a geometry's.
use Rattle.std.specs.Prelude.{◌≡◌, refl, Option, Some, None, Ok, Err, List, ℕ, ◌*◌, ◌≤◌, leb, length}
use Rattle.std.proofs.Common.{ap, subst, arith, leb-true, le-leb, eqb-true, eq-eqb}
use Rattle.geometry.specs.declared.Geometry.{Geometry}
use Rattle.geometry.specs.BoolLaws.{both}
use Rattle.geometry.specs.ChooseLaws.{choose_true, on_choose}
use Rattle.geometry.specs.Geometry.{width_for, right, geometry_of, fitting, Valid, Fit}
use Rattle.refusals.specs.declared.Refusal.{Refusal}
use Rattle.refusals.specs.declared.Fault.TheVariants.{Sizes}

width_one : (N : ℕ) → 1 ≤ width_for N
unfolding width_for
width_one N = on_choose (leb N 256) 1 2 (width_for N) refl (λ t e. omega (arith, e)) (λ t e. omega (arith, e))

width_two : (N : ℕ) → width_for N ≤ 2
unfolding width_for
width_two N = on_choose (leb N 256) 1 2 (width_for N) refl (λ t e. omega (arith, e)) (λ t e. omega (arith, e))

-- what a geometry that was made has
pub record Sized (i o : ℕ) (g : Geometry) : Type 0 where
  pub valid : Valid g
  pub whole : i ≡ g.size * g.pages
  pub room : 4 * g.pages ≤ o

pub sized_of : (P N i o : ℕ) (g : Geometry) → geometry_of P N i o ≡ Some g → Sized i o g
unfolding geometry_of right
sized_of P N i o g e = on_choose _ _ _ _ e
    (λ t e.
    let r₁ = both _ _ t in
    let r₂ = both _ _ r₁.1 in
    let r₃ = both _ _ r₂.1 in
    let r₄ = both _ _ r₃.1 in
    let r₅ = both _ _ r₄.1 in
    let j : record { size = P; pages = N; width = width_for N } ≡ g = cc in
    subst (Sized i o) j (record {
      valid = record {
        least = leb-true 32 P r₁.0;
        most = leb-true P 256 r₂.0;
        some = leb-true 2 N r₃.0;
        few = leb-true N 65535 r₄.0;
        wide = refl;
        one = width_one N;
        two = width_two N;
      };
      whole = eqb-true i (P * N) r₅.0;
      room = leb-true (4 * N) o r₅.1;
    }))
    (λ t e. absurd (let z : ◌≡◌ {A = ℕ} 0 1 = cc in omega arith))

pub fit_of : (P N : ℕ) (image table : List ℕ) (g : Geometry) → geometry_of P N (length image) (length table) ≡ Some g → Fit g image
fit_of P N image table g e = let s = sized_of P N (length image) (length table) g e in record { valid = s.valid; whole = s.whole }

-- the geometry of these sizes, whatever owner table was lent; one of four bytes a page is enough
pub geometry_is : (P N i o : ℕ) (g : Geometry) → geometry_of P N i o ≡ Some g → g ≡ record { size = P; pages = N; width = width_for N }
unfolding geometry_of
geometry_is P N i o g e = on_choose _ _ _ _ e (λ t e. cc) (λ t e. absurd (let z : ◌≡◌ {A = ℕ} 0 1 = cc in omega arith))

pub least_table : (P N i o : ℕ) (g : Geometry) → geometry_of P N i o ≡ Some g → geometry_of P N i (4 * N) ≡ Some g
unfolding geometry_of right
least_table P N i o g e =
    let z : g ≡ record { size = P; pages = N; width = width_for N } = geometry_is P N i o g e in
    let s : Sized i o (record { size = P; pages = N; width = width_for N }) = subst (Sized i o) z (sized_of P N i o g e) in
    rw z (simp (
      le-leb 32 P s.valid.least,
      le-leb P 256 s.valid.most,
      le-leb 2 N s.valid.some,
      le-leb N 65535 s.valid.few,
      eq-eqb i (P * N) s.whole,
      le-leb (4 * N) (4 * N) (omega arith),
      choose_true,
    ))

-- what was made of a geometry, and what was refused
pub made_of : (x : Option Geometry) (g : Geometry) → fitting x ≡ Ok g → x ≡ Some g
made_of (Some h) g e = let i : h ≡ g = cc in ap Some i
made_of None g e = absurd (let z : ◌≡◌ {A = ℕ} 0 1 = cc in omega arith)

pub refused_of : (x : Option Geometry) (r : Refusal) → fitting x ≡ Err r → (x ≡ None) × (r ≡ record { 0 = Sizes; 1 = 0 })
refused_of (Some h) r e = absurd (let z : ◌≡◌ {A = ℕ} 0 1 = cc in omega arith)
refused_of None r e = (refl, cc)
