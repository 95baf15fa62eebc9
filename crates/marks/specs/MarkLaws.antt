-- The bytes of a table and a bound are the bitmap of the pages whose bits they give.
use Rattle.std.specs.Prelude.{◌≡◌, length}
use Rattle.std.proofs.Math.Path.{refl, ap₂}
use Rattle.std.proofs.Common.{ap, arith}
use mathlib.Core.List.{List, ◌∷◌, ◌++◌}
use Prim.Native.Nat.{ℕ, zero, suc, ◌+◌, ◌*◌, ◌^◌, ◌<◌}
use Rattle.geometry.specs.Number.{Bytes}
use Rattle.rules.specs.Bitmap.{byte_for, bitmap_from}
use Rattle.rules.specs.Owners.{OwnerRecord}
use Rattle.owners.specs.Owned.{Marks}
use Rattle.owners.specs.BitLaws.{bit_is, bit_le}
use Rattle.marks.specs.Marks.{byte_marks, marks_from}

module _ (table : List OwnerRecord) (below : ℕ) (used : List ℕ) (h : Marks table below used) where
  byte_is : (n k : ℕ) → byte_marks table below k n ≡ byte_for used k n
  byte_is zero k = refl
  byte_is (suc n) k = ap₂ (λ (x y : ℕ). x + 2 * y) (bit_is table below used h k) (byte_is n (k + 1))

  pub marks_are : (n k : ℕ) → marks_from table below k n ≡ bitmap_from used k n
  unfolding marks_from bitmap_from
  marks_are zero k = refl
  marks_are (suc n) k = ap₂ (λ (x : ℕ) (xs : List ℕ). x ∷ xs) (byte_is 8 k) (marks_are n (k + 8))

pub length_marks : (table : List OwnerRecord) (below n k : ℕ) → length (marks_from table below k n) ≡ n
unfolding marks_from
length_marks table below zero k = refl
length_marks table below (suc n) k = ap suc (length_marks table below n (k + 8))

-- bytes one after the other
pub marks_append : (table : List OwnerRecord) (below a b k : ℕ) → marks_from table below k (a + b) ≡ marks_from table below k a ++ marks_from table below (k + 8 * a) b
unfolding marks_from
marks_append table below zero b k =
    let e : k + 8 * 0 ≡ k = omega arith in
    let f : 0 + b ≡ b = omega arith in
    rw (e, f) refl
marks_append table below (suc a) b k =
    let e : k + 8 * suc a ≡ k + 8 + 8 * a = omega arith in
    let f : suc a + b ≡ suc (a + b) = omega arith in
    rw (e, f) (ap (λ (xs : List ℕ). byte_marks table below k 8 ∷ xs) (marks_append table below a b (k + 8)))

-- each is a byte
mark_below : (table : List OwnerRecord) (below n k : ℕ) → byte_marks table below k n < 2 ^ n
mark_below table below zero k = omega arith
mark_below table below (suc n) k = omega (arith, mark_below table below n (k + 1), bit_le table below k)

pub bytes_marks : (table : List OwnerRecord) (below n k : ℕ) → Bytes (marks_from table below k n)
unfolding marks_from
bytes_marks table below zero k = tt
bytes_marks table below (suc n) k = (mark_below table below 8 k, bytes_marks table below n (k + 8))
