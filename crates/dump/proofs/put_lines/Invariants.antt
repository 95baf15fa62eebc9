-- The invariant: the output has the lines of the first k entries from `at` on, and they end at `next`. The measure: the lines still to come.
-- Where there is no line at k, the first k lines are all.
use Prim.Native.Nat.{◌-◌}
use mathlib.Core.Path.{◌≡◌}
use lib.ListN.{length}
use Rattle.dump.specs.Prints.{lines_in}
use Rattle.dump.proofs.Laying.{Laid}
use Rattle.dump.proofs.put_lines.Given as goal

abbrev pub invariant-loop-line : goal.invariant-loop-line
invariant-loop-line l = (length l.out ≡ length l.initial.out) × Laid l.g l.image l.at l.initial.out l.k l.next l.out

abbrev pub decreases-loop-line : goal.decreases-loop-line
decreases-loop-line l = length (lines_in l.g l.image) - l.k
