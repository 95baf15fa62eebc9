-- The loop: the bytes so far are the bitmap's.
use mathlib.Core.Path.{◌≡◌}
use lib.ListN.{take}
use Rattle.owners.specs.Records.{records_of}
use Rattle.marks.specs.Marks.{marks_from}
use Rattle.marks.proofs.fill.Given as goal

abbrev pub invariant-loop-i : goal.invariant-loop-i
invariant-loop-i l = take l.i l.bytes ≡ marks_from (records_of l.table) l.below l.k l.i
