-- Texts written one after the other, and what each writer adds to what was written before.
use mathlib.Core.Path.{◌≡◌, refl, sym, ap, subst, ◌∙◌}
use mathlib.Core.List.{List, [], ◌∷◌, ◌++◌, append_assoc}
use Prim.Native.Nat.{ℕ, suc, ◌+◌, ◌-◌, ◌/◌, ◌%◌, ◌≤◌, ◌<◌}
use native.Mathlib.Omega.{arith}
use lib.ListN.{length, take, get_or, set, length-append}
use lib.Seq.{set_out, take_all}
use Rattle.std.proofs.lemmas.List.{take_more}
use Rattle.geometry.specs.Number.{number_bytes}
use Rattle.rules.proofs.DigitLaws.{digits_one, digits_more}
use Rattle.rules.specs.ListText.{digits, without_blanks}
use Rattle.text.specs.Placed.{placed, Written}
use Rattle.text.specs.PlacedLaws.{placed_append}
use Rattle.text.specs.TextLaws.{blanks_cons}

pub nothing : {at : ℕ} {o : List ℕ} → Written at [] o at o
unfolding placed
nothing = record { position = omega arith; output = refl }

pub and_then_lem : {at r e : ℕ} {s t o p q : List ℕ} → Written at s o r p → Written r t p e q → Written at (s ++ t) o e q
and_then_lem {at} {r} {e} {s} {t} {o} {p} {q} a b = record {
  position = omega (arith, length-append s t);
  output = b.output ∙ rw (a.position, a.output) (sym (placed_append at s t o));
}

-- a byte inside the output, and one past its end
pub inside : (at c : ℕ) (o : List ℕ) → Written at (c ∷ []) o (at + 1) (set o at c)
unfolding placed
inside at c o = record { position = refl; output = refl }

pub outside : (at c : ℕ) (o : List ℕ) → length o ≤ at → Written at (c ∷ []) o (at + 1) o
unfolding placed
outside at c o h = record { position = refl; output = sym (set_out o at c h) }

-- one more of the bytes, and of a name's
pub byte_more : {at r e : ℕ} {o p q : List ℕ} (b : List ℕ) (i : ℕ) → i < length b → Written at (take i b) o r p → Written r (get_or b i 0 ∷ []) p e q → Written at (take (i + 1) b) o e q
byte_more b i h w v = rw (take_more b i 0 h) (and_then_lem w v)

blanks_append : (s t : List ℕ) → without_blanks (s ++ t) ≡ without_blanks s ++ without_blanks t
unfolding without_blanks
blanks_append [] t = refl
blanks_append (c ∷ s) t =
    blanks_cons c (s ++ t)
    ∙ ap (λ (u : List ℕ). without_blanks (c ∷ []) ++ u) (blanks_append s t)
    ∙ sym (append_assoc (without_blanks (c ∷ [])) (without_blanks s) (without_blanks t))
    ∙ ap (λ (u : List ℕ). u ++ without_blanks t) (sym (blanks_cons c s))

pub name_more : {at r e : ℕ} {o p q : List ℕ} (b : List ℕ) (i : ℕ) → i < length b → Written at (without_blanks (take i b)) o r p → Written r (without_blanks (get_or b i 0 ∷ [])) p e q
    → Written at (without_blanks (take (i + 1) b)) o e q
name_more b i h w v = rw (take_more b i 0 h, blanks_append (take i b) (get_or b i 0 ∷ [])) (and_then_lem w v)

pub name_none : {at : ℕ} {o : List ℕ} → Written at (without_blanks []) o at o
unfolding without_blanks
name_none = nothing

-- the four bytes of a name, all of them
le_bytes : (x : ℕ) → ◌≡◌ {A = List ℕ} (x % 256 ∷ (x / 256 % 256 ∷ (x / 65536 % 256 ∷ (x / 16777216 % 256 ∷ [])))) (number_bytes 4 x)
le_bytes x =
    let e : x / 65536 % 256 ≡ x / 256 / 256 % 256 = omega arith in
    let f : x / 16777216 % 256 ≡ x / 256 / 256 / 256 % 256 = omega arith in
    rw (e, f)

pub name_all : {at r : ℕ} {o p : List ℕ} (x : ℕ) (bs : List ℕ) (i : ℕ) → bs ≡ x % 256 ∷ (x / 256 % 256 ∷ (x / 65536 % 256 ∷ (x / 16777216 % 256 ∷ []))) → 4 ≤ i
    → Written at (without_blanks (take i bs)) o r p → Written at (without_blanks (number_bytes 4 x)) o r p
name_all {at} {r} {o} {p} x bs i e h w =
    let l : length bs ≡ 4 = ap length e in
    subst (λ (cs : List ℕ). Written at (without_blanks cs) o r p) (take_all i bs (omega arith) ∙ e ∙ le_bytes x) w

-- the digits of a number, as the code meets them
pub no_digit : (k x : ℕ) → k ≡ 0 → digits k x ≡ []
unfolding digits
no_digit k x e = rw e

module _ (k x : ℕ) (h : k ≡ 0 → ⊥) where
  pub one_digit : x < 10 → digits k x ≡ (48 + x % 10) ∷ []
  one_digit l = let e : suc (k - 1) ≡ k = omega arith in rw e at (digits_one (k - 1) x l)

  pub one_digit_more : 10 ≤ x → digits k x ≡ digits (k - 1) (x / 10) ++ ((48 + x % 10) ∷ [])
  one_digit_more l = let e : suc (k - 1) ≡ k = omega arith in rw e at (digits_more (k - 1) x l)
