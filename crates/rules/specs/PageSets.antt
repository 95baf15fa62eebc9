-- Sets of pages, as lists in which each page's number is counted: below N and no page twice is one inequality of counts.
use Rattle.std.specs.Prelude.{Bool, true, false, List, [], ◌∷◌, ◌++◌, ℕ, zero, suc, ◌+◌, ◌≤◌, eqb, ltb}
use Rattle.geometry.specs.Choose.{choose}

-- 1 where the test holds
abbrev pub bit : Bool → ℕ
bit true = 1
bit false = 0

unfoldable pub hit : ℕ → ℕ → ℕ
hit x y = bit (eqb x y)

-- how often x stands in a list
abbrev pub count : ℕ → List ℕ → ℕ
count x [] = 0
count x (y ∷ ys) = hit x y + count x ys

-- x stands in a list
abbrev pub mem : ℕ → List ℕ → Bool
mem x xs = ltb 0 (count x xs)

-- the numbers below n
abbrev pub range : ℕ → List ℕ
range zero = []
range (suc n) = n ∷ range n

-- every number of the list is below n, and none stands in it twice
abbrev pub Within : ℕ → List ℕ → Type 0
Within n xs = (x : ℕ) → count x xs ≤ count x (range n)

-- no number stands in the list twice
abbrev pub Once : List ℕ → Type 0
Once xs = (x : ℕ) → count x xs ≤ 1

-- the pages below n that are not in use, rising
unfoldable pub free_pages : List ℕ → ℕ → List ℕ
free_pages used zero = []
free_pages used (suc n) = free_pages used n ++ choose (mem n used) [] (n ∷ [])
