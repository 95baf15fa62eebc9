-- Names byte by byte, as the code reads them.
use mathlib.Core.Path.{◌≡◌, refl, sym, ap, ◌∙◌}
use mathlib.Core.Bool.{Bool, true, false, ◌&&◌, ◌||◌}
use mathlib.Core.List.{List, [], ◌∷◌}
use Prim.Native.Nat.{ℕ, ◌+◌, ◌-◌, ◌/◌, ◌%◌, ◌≤◌, ◌<◌}
use native.Mathlib.Numerals.{add-one}
use native.Mathlib.Omega.{arith}
use lib.Dec.{ltb, eqb}
use Rattle.std.specs.Char.{is_ascii_uppercase, is_ascii_digit}
use Rattle.std.specs.List.{list_any, list_all}
use lib.ListN.{length, get_or, take, drop, drop_of_length-le, length-drop}
use lib.Seq.{drop-cons, take_all}
use borrow.Author.Tests.{lt-ltb, le-ltb, eq-eqb, ne_eqb, eqb-true, eqb-false}
use Rattle.geometry.specs.ChooseLaws.{choose_true, choose_false}
use Rattle.geometry.specs.Number.{number_bytes}
use Rattle.rules.specs.PageSets.{hit, count, mem}
use Rattle.rules.specs.Names.{signs, name_byte, blanks, name_tail, valid_name}

here : (c x : ℕ) → x ≡ c → hit c x ≡ 1
unfolding hit
here c x e = simp (hit, eq-eqb c x (sym e))

elsewhere : (c x : ℕ) → (x ≡ c → ⊥) → hit c x ≡ 0
unfolding hit
elsewhere c x e = simp (hit, ne_eqb c x (λ q. e (sym q)))

-- a list searched for a number
sought : (c : ℕ) (xs : List ℕ) → list_any (λ x. eqb x c) xs ≡ mem c xs
sought c [] = sym (le-ltb 0 0 (omega arith))
sought c (x ∷ xs) = by_test (sought c xs) (eqb x c) refl
  where
    by_test : list_any (λ y. eqb y c) xs ≡ mem c xs → (t : Bool) → eqb x c ≡ t → (eqb x c || list_any (λ y. eqb y c) xs) ≡ ltb 0 (hit c x + count c xs)
    by_test rest true e =
        let k : 0 < hit c x + count c xs = omega (arith, here c x (eqb-true x c e)) in
        ap (λ (t : Bool). t || list_any (λ y. eqb y c) xs) e ∙ sym (lt-ltb 0 (hit c x + count c xs) k)
    by_test rest false e =
        let k : count c xs ≡ hit c x + count c xs = omega (arith, elsewhere c x (eqb-false x c e)) in
        ap (λ (t : Bool). t || list_any (λ y. eqb y c) xs) e ∙ rest ∙ ap (ltb 0) k

-- a name byte's three tests
module _ (c : ℕ) where
  pub capital : is_ascii_uppercase c ≡ true → true ≡ name_byte c
  unfolding name_byte
  capital e = ap (λ (t : Bool). t || (is_ascii_digit c || mem c signs)) (sym e)

  pub digit : is_ascii_digit c ≡ true → true ≡ name_byte c
  unfolding name_byte
  digit e = by_test (is_ascii_uppercase c)
    where
      by_test : (t : Bool) → true ≡ (t || (is_ascii_digit c || mem c signs))
      by_test true = refl
      by_test false = ap (λ (t : Bool). t || mem c signs) (sym e)

  pub sign : is_ascii_uppercase c ≡ false → is_ascii_digit c ≡ false → list_any (λ x. eqb x c) signs ≡ name_byte c
  unfolding name_byte
  sign e f =
      sought c signs
      ∙ ap (λ (t : Bool). t || mem c signs) (sym f)
      ∙ ap (λ (t : Bool). t || (is_ascii_digit c || mem c signs)) (sym e)

-- blanks alone
pub all_blanks : (bs : List ℕ) → list_all (λ x. eqb x 32) bs ≡ blanks bs
all_blanks [] = refl
all_blanks (b ∷ bs) = ap (λ (t : Bool). eqb b 32 && t) (all_blanks bs)

-- a tail from a place on
module _ (bs : List ℕ) (i : ℕ) (h : i < length bs) (t : Bool) (q : t ≡ name_byte (get_or bs i 0)) where
  pub tail_more : t ≡ true → name_tail (drop i bs) ≡ name_tail (drop (i + 1) bs)
  tail_more e = rw (add-one i, drop-cons bs i 0 h) (simp (← q, e, choose_true))

  pub tail_blank : (r : Bool) → t ≡ false → r ≡ blanks (take (length bs - i) (drop i bs)) → r ≡ name_tail (drop i bs)
  tail_blank r e f =
      let all : take (length bs - i) (drop i bs) ≡ drop i bs = take_all (length bs - i) (drop i bs) (let l = length-drop i bs in omega arith) in
      f ∙ ap blanks all ∙ sym (rw (drop-cons bs i 0 h) (simp (← q, e, choose_false)))

pub tail_end : (bs : List ℕ) (i : ℕ) → length bs ≤ i → true ≡ name_tail (drop i bs)
tail_end bs i h = rw (drop_of_length-le bs h)

-- the four bytes of a name
pub le_bytes : (x : ℕ) → ◌≡◌ {A = List ℕ} (x % 256 ∷ (x / 256 % 256 ∷ (x / 65536 % 256 ∷ (x / 16777216 % 256 ∷ [])))) (number_bytes 4 x)
le_bytes x =
    let e : x / 65536 % 256 ≡ x / 256 / 256 % 256 = omega arith in
    let f : x / 16777216 % 256 ≡ x / 256 / 256 / 256 % 256 = omega arith in
    rw (e, f)

module _ (x : ℕ) (bs : List ℕ) (b : bs ≡ number_bytes 4 x) (t : Bool) (q : t ≡ name_byte (get_or bs 0 0)) where
  first_is : t ≡ name_byte (x % 256)
  first_is = q ∙ ap (λ (cs : List ℕ). name_byte (get_or cs 0 0)) b

  pub name_begins : (r : Bool) → t ≡ true → r ≡ name_tail (take 3 (drop 1 bs)) → r ≡ valid_name x
  unfolding valid_name
  name_begins r e f =
      f
      ∙ ap (λ (cs : List ℕ). name_tail (take 3 (drop 1 cs))) b
      ∙ ap (λ (u : Bool). u && name_tail (number_bytes 3 (x / 256))) (sym (sym first_is ∙ e))

  pub name_not : t ≡ false → t ≡ valid_name x
  unfolding valid_name
  name_not e = e ∙ ap (λ (u : Bool). u && name_tail (number_bytes 3 (x / 256))) (sym (sym first_is ∙ e))
