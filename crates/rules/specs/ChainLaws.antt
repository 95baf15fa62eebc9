-- A chain behind its first link.
use mathlib.Core.List.{List, [], ◌∷◌}
use Rattle.rules.specs.Chain.{Link}

-- the links behind the first
abbrev pub rest : List Link → List Link
rest [] = []
rest (l ∷ ls) = ls
