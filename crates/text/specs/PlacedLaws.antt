-- Laws of a text laid into an output: two texts one after the other, the output's length, no output, an output with room.
use Rattle.std.specs.Prelude.{◌≡◌, refl, List, [], ◌∷◌, ◌++◌, ℕ, suc, ◌+◌, ◌≤◌, length, drop, set}
use Rattle.std.proofs.Common.{ap, ◌∙◌, arith, le_of_suc-le-suc, length-set}
use Rattle.text.specs.Placed.{placed}

pub placed_append : (at : ℕ) (s t out : List ℕ) → placed at (s ++ t) out ≡ placed (at + length s) t (placed at s out)
unfolding placed
placed_append at [] t out = let e : at + 0 ≡ at = omega arith in rw e
placed_append at (c ∷ s) t out = let e : at + suc (length s) ≡ suc at + length s = omega arith in rw e (placed_append (suc at) s t (set out at c))

pub placed_length : (at : ℕ) (s out : List ℕ) → length (placed at s out) ≡ length out
unfolding placed
placed_length at [] out = refl
placed_length at (c ∷ s) out = placed_length (suc at) s (set out at c) ∙ length-set out at c

-- an empty output stays so
pub placed_none : (at : ℕ) (s : List ℕ) → placed at s [] ≡ []
unfolding placed
placed_none at [] = refl
placed_none at (c ∷ s) = placed_none (suc at) s

-- what stands in front of the position stays
placed_behind : (at x : ℕ) (s out : List ℕ) → placed (suc at) s (x ∷ out) ≡ x ∷ placed at s out
unfolding placed
placed_behind at x [] out = refl
placed_behind at x (c ∷ s) out = placed_behind (suc at) x s (set out at c)

-- an output with room holds the whole text, and behind it what it held
pub placed_whole : (s out : List ℕ) → length s ≤ length out → placed 0 s out ≡ s ++ drop (length s) out
unfolding placed
placed_whole [] out h = refl
placed_whole (c ∷ s) [] h = absurd (omega (arith, h))
placed_whole (c ∷ s) (x ∷ out) h = placed_behind 0 c s out ∙ ap (λ (l : List ℕ). c ∷ l) (placed_whole s out (le_of_suc-le-suc h))
