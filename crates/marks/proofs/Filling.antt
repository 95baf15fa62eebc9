-- Bits summed to a byte, and bytes written one after the other.
use mathlib.Core.Path.{◌≡◌, refl, ap, ap₂, sym, ◌∙◌}
use mathlib.Core.List.{List, [], ◌∷◌, ◌++◌}
use Prim.Native.Nat.{ℕ, ◌+◌, ◌*◌, ◌<◌}
use native.Mathlib.Omega.{arith}
use native.Mathlib.Numerals.{add-one}
use lib.ListN.{length, take, set}
use lib.Seq.{take-suc-set}
use Rattle.owners.specs.Owned.{page_bit}
use Rattle.owners.specs.BitLaws.{bit_le}
use Rattle.marks.specs.Marks.{byte_marks, marks_from}
use Rattle.marks.specs.MarkLaws.{marks_append}
use Rattle.rules.specs.Owners.{OwnerRecord}

module _ (t : List OwnerRecord) (below : ℕ) where
  -- four bits
  pub four : (k a b c d r : ℕ) → a ≡ page_bit t below k → b ≡ page_bit t below (k + 1) → c ≡ page_bit t below (k + 2) → d ≡ page_bit t below (k + 3)
      → r ≡ a + 2 * b + 4 * c + 8 * d → (r ≡ byte_marks t below k 4) × (r < 16)
  four k a b c d r e f g h s =
      let i : k + 1 + 1 ≡ k + 2 = omega arith in
      let j : k + 1 + 1 + 1 ≡ k + 3 = omega arith in
      let c₂ : c ≡ page_bit t below (k + 1 + 1) = g ∙ ap (page_bit t below) (sym i) in
      let d₂ : d ≡ page_bit t below (k + 1 + 1 + 1) = h ∙ ap (page_bit t below) (sym j) in
      (omega arith, omega (arith, bit_le t below k, bit_le t below (k + 1), bit_le t below (k + 2), bit_le t below (k + 3)))

  -- and four more
  pub eight : (k a b : ℕ) → a ≡ byte_marks t below k 4 → b ≡ byte_marks t below (k + 4) 4 → a + 16 * b ≡ byte_marks t below k 8
  eight k a b e f =
      let i : k + 1 + 1 + 1 + 1 ≡ k + 4 = omega arith in
      let g : b ≡ byte_marks t below (k + 1 + 1 + 1 + 1) 4 = f ∙ ap (λ (x : ℕ). byte_marks t below x 4) (sym i) in
      omega arith

  -- the bytes written so far
  pub filled_on : (bytes : List ℕ) (k i b : ℕ) → i < length bytes → take i bytes ≡ marks_from t below k i → b ≡ byte_marks t below (k + 8 * i) 8
      → take (i + 1) (set bytes i b) ≡ marks_from t below k (i + 1)
  unfolding marks_from
  filled_on bytes k i b h e f =
      ap (λ (x : ℕ). take x (set bytes i b)) (add-one i) ∙ take-suc-set bytes i b h ∙ ap₂ (λ (xs : List ℕ) (y : ℕ). xs ++ (y ∷ [])) e f ∙ sym (marks_append t below i 1 k)

  pub none_filled : (bytes : List ℕ) (k : ℕ) → take 0 bytes ≡ marks_from t below k 0
  unfolding marks_from
  none_filled bytes k = refl
