-- What the program prints for the dump on its standard input, of which it reads no more than its input holds.
use Rattle.std.specs.Prelude.{◌≡◌, List, ◌++◌, ℕ, ◌≤◌, length, take, drop}
use Rattle.rules.specs.ListText.{list_text}

-- the first n bytes of a list are in it, and n of them
abbrev pub IsPrefixLen : ℕ → List ℕ → Type 0
IsPrefixLen n xs = (n ≤ length xs) × (n ≡ length (take n xs))

-- the first n bytes of the input are the dump's: all of them, or as many as the input holds
abbrev pub IsRead : List ℕ → List ℕ → ℕ → Type 0
IsRead dump input n = take n input ≡ take (length input) dump

-- of every dump that was read so: its text stands in front of the output, r bytes long
abbrev pub PrintsText : List ℕ → ℕ → List ℕ → ℕ → List ℕ → Type 0
PrintsText input n out r after = (dump : List ℕ) → IsRead dump input n → (r ≡ length (list_text dump)) × (after ≡ list_text dump ++ drop r out)
