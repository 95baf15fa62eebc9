-- Blanks are left out of a name byte by byte, and no text is long.
use Rattle.std.specs.Prelude.{◌≡◌, Bool, true, List, [], ◌∷◌, ◌++◌, eqb, length, get_or}
use Rattle.std.proofs.Math.Path.{refl}
use Rattle.std.proofs.Math.Bool.{false}
use Prim.Native.Nat.{ℕ, zero, suc, ◌≤◌, ◌/◌}
use native.Mathlib.Omega.{arith}
use Rattle.std.proofs.Math.Decide.{dec_lt}
use Rattle.std.proofs.Common.{length-append}
use borrow.Author.Tests.{eq-eqb, ne_eqb, eqb-false}
use Rattle.geometry.specs.declared.Geometry.{Geometry}
use Rattle.geometry.specs.Choose.{choose}
use Rattle.geometry.specs.ChooseLaws.{choose_true, choose_false}
use Rattle.geometry.specs.Number.{number_bytes}
use Rattle.rules.specs.declared.Totals.{Totals}
use Rattle.rules.specs.declared.Line.{Line}
use Rattle.rules.specs.Result.{err}
use Rattle.rules.proofs.DigitLaws.{digits_one, digits_more}
use Rattle.rules.specs.ListText.{digits, without_blanks, line_text, totals_text, refusal_text}

pub blank_dropped : (c : ℕ) → c ≡ 32 → without_blanks (c ∷ []) ≡ []
unfolding without_blanks
blank_dropped c h = simp (eq-eqb c 32 h, choose_true)

pub other_kept : (c : ℕ) → (c ≡ 32 → ⊥) → without_blanks (c ∷ []) ≡ c ∷ []
unfolding without_blanks
other_kept c h = simp (ne_eqb c 32 h, choose_false)

pub blanks_cons : (c : ℕ) (cs : List ℕ) → without_blanks (c ∷ cs) ≡ without_blanks (c ∷ []) ++ without_blanks cs
unfolding without_blanks
blanks_cons c cs = go (eqb c 32)
  where
    go : (t : Bool) → choose t (without_blanks cs) (c ∷ without_blanks cs) ≡ choose t [] (c ∷ []) ++ without_blanks cs
    go true = unfold choose in refl
    go false = unfold choose in refl

-- none is left
pub no_blank : (s : List ℕ) (i : ℕ) → get_or (without_blanks s) i 0 ≡ 32 → ⊥
unfolding without_blanks
no_blank [] i h = omega arith
no_blank (c ∷ cs) i h = go (eqb c 32) refl i (no_blank cs) h
  where
    go : (t : Bool) → eqb c 32 ≡ t → (i : ℕ) → ((j : ℕ) → get_or (without_blanks cs) j 0 ≡ 32 → ⊥) → get_or (choose t (without_blanks cs) (c ∷ without_blanks cs)) i 0 ≡ 32 → ⊥
    go true e i f h = unfold choose in f i h
    go false e zero f h = unfold choose in eqb-false c 32 e h
    go false e (suc i) f h = unfold choose in f i h

pub blanks_short : (s : List ℕ) → length (without_blanks s) ≤ length s
unfolding without_blanks
blanks_short [] = omega arith
blanks_short (c ∷ cs) = go (eqb c 32) (blanks_short cs)
  where
    go : (t : Bool) → length (without_blanks cs) ≤ length cs → length (choose t (without_blanks cs) (c ∷ without_blanks cs)) ≤ suc (length cs)
    go true h = unfold choose in omega arith
    go false h = unfold choose in omega arith

pub digits_short : (k x : ℕ) → length (digits k x) ≤ k
unfolding digits
digits_short zero x = omega arith
digits_short (suc k) x = elim (dec_lt x 10) [
  | yes q ↦ rw (digits_one k x q) (omega arith)
  | no q ↦ rw (digits_more k x (omega arith)) (simp length-append (omega (arith, digits_short k (x / 10))))
]

pub line_short : (x : Line) → length (line_text x) ≤ 100
unfolding line_text
line_short x =
    simp length-append (omega (arith, digits_short 20 x.level, blanks_short (number_bytes 4 x.name), digits_short 20 x.start, digits_short 20 x.pages, digits_short 20 x.length))

pub totals_short : (g : Geometry) (t : Totals) → length (totals_text g t) ≤ 200
unfolding totals_text
totals_short g t =
    simp length-append (omega (arith, digits_short 20 g.size, digits_short 20 g.pages, digits_short 20 t.used, digits_short 20 t.files, digits_short 20 t.directories))

pub refusal_short : (n p : ℕ) → length (refusal_text (err n p)) ≤ 60
unfolding refusal_text
refusal_short n p = simp length-append (omega (arith, digits_short 20 n, digits_short 20 p))
