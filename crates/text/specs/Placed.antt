-- For contracts: a text laid into an output.
use Rattle.std.specs.Prelude.{◌≡◌, List, [], ◌∷◌, ℕ, suc, ◌+◌, length, set}

-- a text laid into an output from a position on; what lies past the output's end is dropped
unfoldable pub placed : ℕ → List ℕ → List ℕ → List ℕ
placed at [] out = out
placed at (c ∷ cs) out = placed (suc at) cs (set out at c)

-- what a writer tells and leaves: the position after the text, and the output with the text in it
pub record Written (at : ℕ) (text before : List ℕ) (next : ℕ) (after : List ℕ) : Type 0 where
  pub position : next ≡ at + length text
  pub output : after ≡ placed at text before
