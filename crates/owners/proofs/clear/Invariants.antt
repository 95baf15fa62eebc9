-- The loop: the bytes passed are 0, the others as they were.
use mathlib.Core.Path.{◌≡◌}
use mathlib.Core.List.{◌++◌}
use lib.ListN.{length, replicate, drop}
use Rattle.owners.proofs.clear.Given as goal

abbrev pub invariant-loop-at : goal.invariant-loop-at
invariant-loop-at l = (length l.table ≡ length l.initial.table) × (l.table ≡ replicate l.at 0 ++ drop l.at l.initial.table)
