-- In an output with room for every text the text of a dump is printed whole, whatever of a longer dump the input leaves out.
use mathlib.Core.Path.{◌≡◌, refl, ap, sym, ◌∙◌, subst}
use mathlib.Core.List.{List, ◌++◌}
use Prim.Native.Nat.{ℕ, ◌≤◌}
use native.Mathlib.Omega.{arith}
use lib.ListN.{length, take, drop, length-append}
use lib.Seq.{length-take-le}
use Rattle.rules.specs.Result.{Res, ok}
use Rattle.rules.proofs.ResultLaws.{clash, ok_inj}
use Rattle.rules.specs.ListText.{list_text, text_call}
use Rattle.std.specs.Prelude.{Option, None, Some, unwrap_or}
use Rattle.dump.specs.PrintResult.{print_result}
use Rattle.dump.specs.TextFits.{text_front, room_enough}
use Rattle.list.specs.Input.{IsPrefixLen, IsRead, PrintsText}

module _ (front out after : List ℕ) (r : Option ℕ) (h : 102600 ≤ length out) (e : (print_result r, after) ≡ text_call front out) where
  whole : ◌≡◌ {A = Res ℕ × List ℕ} (print_result r, after) (ok (length (list_text front)), list_text front ++ drop (length (list_text front)) out)
  whole = e ∙ room_enough front out h

  tells : (s : Option ℕ) → r ≡ s → print_result s ≡ ok (length (list_text front))
  tells s i = subst (λ (x : Option ℕ). print_result x ≡ ok (length (list_text front))) i (ap (λ (x : Res ℕ × List ℕ). x.0) whole)

  pub never_short : {C : Type 0} → r ≡ None → C
  never_short i = clash (tells None i)

  -- the front of a dump that the input holds has the dump's text
  pub laid : (input : List ℕ) (k n : ℕ) → 65537 ≤ length input → front ≡ take k input → r ≡ Some n → IsPrefixLen n after × PrintsText input k out n after
  laid input k n f i j =
      let l : n ≡ length (list_text front) = ok_inj (tells (Some n) j) in
      let t : after ≡ list_text front ++ drop n out = ap (λ (x : Res ℕ × List ℕ). x.1) whole ∙ ap (λ (m : ℕ). list_text front ++ drop m out) (sym l) in
      let m : n ≤ length after = omega (arith, ap length t, length-append (list_text front) (drop n out), l) in
      let same : (dump : List ℕ) → IsRead dump input k → list_text front ≡ list_text dump = λ dump q. ap list_text (i ∙ q) ∙ text_front (length input) dump f in
      ((m, sym (length-take-le n after m)), λ dump q. (l ∙ ap length (same dump q), t ∙ ap (λ (x : List ℕ). x ++ drop n out) (same dump q)))

  pub laid_or : (input : List ℕ) (k n : ℕ) → 65537 ≤ length input → front ≡ take k input → n ≡ unwrap_or r 0 → IsPrefixLen n after × PrintsText input k out n after
  laid_or input k n f i j = go r refl
    where
      go : (o : Option ℕ) → r ≡ o → IsPrefixLen n after × PrintsText input k out n after
      go (Some m) q = laid input k n f i (q ∙ ap Some (sym (j ∙ ap (λ (o : Option ℕ). unwrap_or o 0) q)))
      go None q = never_short q
