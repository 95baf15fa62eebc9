-- A part that was lent and filled, said of the whole.
use mathlib.Core.Path.{◌≡◌, refl, ap, ◌∙◌}
use mathlib.Core.List.{List, ◌++◌, [], ◌∷◌}
use Prim.Native.Nat.{ℕ, ◌+◌, ◌-◌, ◌*◌, ◌^◌, ◌≤◌, ◌<◌}
use native.Mathlib.Nat.{add-sub_cancel_left}
use native.Mathlib.Omega.{arith}
use lib.ListN.{length, take, drop, length-drop}
use lib.Seq.{length-take-le, drop-drop}
use Rattle.geometry.specs.Number.{number, number_bytes}
use Rattle.geometry.specs.NumberLaws.{length_number}
use Rattle.geometry.specs.Page.{overwritten}

number_split : (l : List ℕ) → 2 ≤ length l → number (take 4 l) ≡ number (take 2 l) + 65536 * number (take 2 (drop 2 l))
number_split [] h = absurd (omega arith)
number_split (x ∷ []) h = absurd (omega arith)
number_split (x ∷ y ∷ l) h = omega arith

-- a number of four bytes, read as two pairs
pub four_bytes : (at n x y : ℕ) (b : List ℕ) → at + n ≤ length b → (x ≡ number (take 2 (drop at b))) × (x < 65536) → (y ≡ number (take 2 (drop (at + 2) b))) × (y < 65536) → n ≡ 4
    → (x + 65536 * y ≡ number (take n (drop at b))) × (x + 65536 * y < 256 ^ n)
four_bytes at n x y b h e f k =
    let s = number_split (drop at b) (simp length-drop (omega arith)) in
    rw k (omega (arith, ap (λ (l : List ℕ). number (take 2 l)) (drop-drop 2 at b)), omega arith)

module _ (at k : ℕ) (b last : List ℕ) where
  filled : (xs : List ℕ) → length xs ≡ k → last ≡ xs → take at b ++ (last ++ drop (at + k - at) (drop at b)) ≡ overwritten at xs b
  unfolding overwritten
  filled xs e f = rw (add-sub_cancel_left at k, f, e)

pub bytes_put : (at : ℕ) (xs b last : List ℕ) → last ≡ xs → take at b ++ (last ++ drop (at + length xs - at) (drop at b)) ≡ overwritten at xs b
bytes_put at xs b last e = filled at (length xs) b last xs refl e

pub number_put : (at n x : ℕ) (b last : List ℕ) → at + n ≤ length b → last ≡ number_bytes (length (take (at + n - at) (drop at b))) x
    → take at b ++ (last ++ drop (at + n - at) (drop at b)) ≡ overwritten at (number_bytes n x) b
number_put at n x b last h e = filled at n b last (number_bytes n x) (length_number n x) (e ∙ ap (λ (k : ℕ). number_bytes k x) size)
  where
    size : length (take (at + n - at) (drop at b)) ≡ n
    size = rw (add-sub_cancel_left at n) (length-take-le n (drop at b) (simp length-drop (omega arith)))
