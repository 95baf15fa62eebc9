-- The marks of a careful edit: a bitmap depends on which pages are in use alone, so that a put marks the pages in use and the new ones, and an edit that takes no page marks nothing.
use Rattle.std.specs.Prelude.{◌≡◌, Bool}
use Rattle.std.proofs.Math.Path.{refl, ap₂}
use Rattle.std.proofs.Common.{sym, ◌∙◌, arith}
use mathlib.Core.List.{List, ◌++◌, ◌∷◌}
use Prim.Native.Nat.{ℕ, zero, suc, ◌+◌, ◌*◌, ◌≤◌}
use Rattle.std.proofs.Math.Decide.{dec_lt}
use Rattle.geometry.specs.declared.Geometry.{Geometry}
use Rattle.rules.specs.PageSets.{bit, count, mem}
use Rattle.rules.proofs.PageSetLaws.{mem_true, mem_false, count_append}
use Rattle.rules.specs.Tree.{Image, used}
use Rattle.rules.specs.Bitmap.{byte_for, bitmap_from, map_size, bitmap_of}
use Rattle.rules.specs.Careful.{both_marked}

same_members : (us vs : List ℕ) → ((x : ℕ) → 1 ≤ count x us → 1 ≤ count x vs) → ((x : ℕ) → 1 ≤ count x vs → 1 ≤ count x us) → (x : ℕ) → mem x us ≡ mem x vs
same_members us vs a b x = elim (dec_lt 0 (count x us)) [
  | yes q ↦ mem_true x us (omega arith) ∙ sym (mem_true x vs (a x (omega arith)))
  | no q ↦ mem_false x us (omega arith) ∙ sym (mem_false x vs (none x (omega arith)))
]
  where
    none : (x : ℕ) → count x us ≡ 0 → count x vs ≡ 0
    none x z = elim (dec_lt 0 (count x vs)) [ yes q ↦ absurd (omega (arith, b x (omega arith))) | no q ↦ omega arith ]

module _ (us vs : List ℕ) (h : (x : ℕ) → mem x us ≡ mem x vs) where
  byte_same : (k n : ℕ) → byte_for us k n ≡ byte_for vs k n
  byte_same k zero = refl
  byte_same k (suc n) = ap₂ (λ (t : Bool) (b : ℕ). bit t + 2 * b) (h k) (byte_same (k + 1) n)

  bitmap_same : (k n : ℕ) → bitmap_from us k n ≡ bitmap_from vs k n
  unfolding bitmap_from
  bitmap_same k zero = refl
  bitmap_same k (suc n) = ap₂ (λ (b : ℕ) (l : List ℕ). b ∷ l) (byte_same k 8) (bitmap_same (k + 8) n)

-- no new page: the marks are the bitmap as it stands
pub marks_stand : (g : Geometry) (i j : Image) → ((x : ℕ) → 1 ≤ count x (used j) → 1 ≤ count x (used i)) → both_marked g i j ≡ bitmap_of g (used i) i.map
unfolding both_marked
marks_stand g i j h = bitmap_same (used i ++ used j) (used i) (same_members (used i ++ used j) (used i)
    (λ x k. elim (dec_lt 0 (count x (used i))) [ yes q ↦ omega arith | no q ↦ h x (omega (arith, count_append x (used i) (used j))) ])
    (λ x k. omega (arith, count_append x (used i) (used j)))) 0 (map_size g i.map)

-- the pages in use and the new ones
pub marks_new : (g : Geometry) (i j : Image) (kept new : List ℕ) → ((x : ℕ) → count x (used j) ≡ count x kept + count x new) → ((x : ℕ) → count x kept ≤ count x (used i))
    → both_marked g i j ≡ bitmap_of g (used i ++ new) i.map
unfolding both_marked
marks_new g i j kept new h k = bitmap_same (used i ++ used j) (used i ++ new) (same_members (used i ++ used j) (used i ++ new)
    (λ x l. omega (arith, count_append x (used i) (used j), count_append x (used i) new, h x, k x))
    (λ x l. omega (arith, count_append x (used i) (used j), count_append x (used i) new, h x, k x))) 0 (map_size g i.map)
