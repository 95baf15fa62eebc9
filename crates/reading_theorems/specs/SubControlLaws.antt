-- A subdirectory's control field: what is written is read, and what is read right is what would be written.
use Rattle.std.specs.Prelude.{◌≡◌, refl, Bool, true, ◌&&◌, List, [], ◌∷◌, ◌++◌, ℕ, zero, suc, ◌+◌, ◌%◌, ◌^◌, ◌≤◌, ◌<◌, length, get_or, take, drop}
use Rattle.std.proofs.Common.{ap, ap₂, ◌∙◌, arith, length-append, length-drop, drop_at, take-add, drop-cons, leb-true, eqb-true, le-leb, eq-eqb}
use Rattle.geometry.specs.declared.Geometry.{Geometry}
use Rattle.geometry.specs.Geometry.{entry_size, control_size}
use Rattle.geometry.specs.Number.{number, number_bytes, Bytes}
use Rattle.geometry.specs.NumberLaws.{length_number, number_of, bytes_drop}
use Rattle.rules.specs.Result.{ok}
use Rattle.rules.proofs.ResultLaws.{on_refuse, then_ok, refuse_true}
use Rattle.rules.specs.Control.{marker, Parent, sub_control, whole_entries, back_reference, sub_page}
use Rattle.reading_theorems.specs.ByteLaws.{bytes_are, number_front}
use Rattle.geometry.specs.BoolLaws.{both}
use Rattle.reading_theorems.specs.ControlLaws.{control_size_lem, whole_inv}

-- the directory above has a name and a start page that fit
pub record AboveFits (n : ℕ) (up : Parent) : Type 0 where
  pub four : up.name < 256 ^ 4
  pub start : up.start < 256 ^ n

pub length_sub : (g : Geometry) (up : Parent) → length (sub_control g.width up) ≡ control_size g
unfolding sub_control control_size
length_sub g up = simp length_number (omega arith)

sub_marker : (n : ℕ) (up : Parent) (rest : List ℕ) → get_or (sub_control n up ++ rest) 0 0 ≡ marker n
unfolding sub_control
sub_marker n up rest = refl

pub sub_reference : (n : ℕ) (up : Parent) (rest : List ℕ) → AboveFits n up → back_reference n up (sub_control n up ++ rest) ≡ true
unfolding sub_control
sub_reference n up rest f =
    let e₁ : number (number_bytes 4 up.name) ≡ up.name = number_of 4 up.name f.four in
    let e₂ = number_front n up.start rest f.start in
    ap₂ (λ (x y : Bool). x && y) (eq-eqb _ _ e₁) (eq-eqb _ _ e₂)

pub sub_written : (g : Geometry) (up : Parent) (p : ℕ) (rest : List ℕ) → AboveFits g.width up
    → sub_page g up zero p (sub_control g.width up ++ rest) ≡ whole_entries g p rest
unfolding sub_page
sub_written g up p rest f =
    let b = sub_control g.width up ++ rest in
    let l : control_size g ≤ length b = simp length-append (omega (arith, length_sub g up)) in
    simp (
      le-leb (control_size g) (length b) l,
      sub_marker g.width up rest,
      eq-eqb (marker g.width) (marker g.width) refl,
      sub_reference g.width up rest f,
      drop_at (sub_control g.width up) rest (control_size g) (length_sub g up),
      refuse_true,
      then_ok,
    )

cut_sub : (n : ℕ) (b : List ℕ) → 6 + n ≤ length b → take (6 + n) b ≡ get_or b 0 0 ∷ (take 4 (drop 1 b) ++ (get_or b 5 0 ∷ take n (drop 6 b)))
cut_sub n [] h = absurd (omega arith)
cut_sub n (x ∷ b) h =
    let e : 6 + n ≡ suc (4 + suc n) = omega arith in
    rw e (ap (λ (l : List ℕ). x ∷ l) (take-add 4 (suc n) b ∙ ap (λ (l : List ℕ). take 4 b ++ take (suc n) l) (drop-cons b 4 0 (omega arith))))

pub sub_cut : (g : Geometry) (up : Parent) (b : List ℕ) → Bytes b → control_size g ≤ length b → get_or b 0 0 ≡ marker g.width
    → number (take 4 (drop 1 b)) ≡ up.name → get_or b 5 0 ≡ 0
    → number (take g.width (drop 6 b)) ≡ up.start → take (control_size g) b ≡ sub_control g.width up
unfolding sub_control
sub_cut g up b bytes l m e₁ e₂ e₃ =
    let n = g.width in
    let k : 6 + n ≤ length b = omega (arith, control_size_lem g) in
    let q₁ : take 4 (drop 1 b) ≡ number_bytes 4 up.name = bytes_are 4 up.name (drop 1 b) (bytes_drop 1 b bytes) (simp length-drop (omega arith)) e₁ in
    let q₃ : take n (drop 6 b) ≡ number_bytes n up.start = bytes_are n up.start (drop 6 b) (bytes_drop 6 b bytes) (simp length-drop (omega arith)) e₃ in
    ap (λ (i : ℕ). take i b) (control_size_lem g) ∙ cut_sub n b k
    ∙ ap₂ (λ (x : ℕ) (y : List ℕ). x ∷ (y ++ (get_or b 5 0 ∷ take n (drop 6 b)))) m q₁
    ∙ ap₂ (λ (x : ℕ) (y : List ℕ). marker n ∷ (number_bytes 4 up.name ++ (x ∷ y))) e₂ q₃

-- what a subdirectory's first page that passes begins with
pub sub_sound : (g : Geometry) (up : Parent) (p : ℕ) (b : List ℕ) → Bytes b → sub_page g up zero p b ≡ ok tt
    → (take (control_size g) b ≡ sub_control g.width up) × (length (drop (control_size g) b) % entry_size g ≡ 0)
unfolding sub_page
sub_sound g up p b bytes e = on_refuse _ _ _ _ _ e λ g₁ e. on_refuse _ _ _ _ _ e λ g₂ e. on_refuse _ _ _ _ _ e λ g₃ e.
    let r = both _ _ g₃ in
    let s = both _ _ r.1 in
    let c = sub_cut g up b bytes (leb-true _ _ g₁) (eqb-true _ _ g₂) (eqb-true _ _ r.0) (eqb-true _ _ s.0) (eqb-true _ _ s.1) in
    (c, whole_inv g p (drop (control_size g) b) e)
