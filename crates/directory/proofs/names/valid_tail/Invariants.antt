-- The invariant: the bytes passed were name bytes, so that the bytes left are a tail exactly when all are.
-- From the first byte that is no name byte on, all must be blanks.
use Rattle.std.proofs.Common.{◌≡◌, drop}
use Rattle.rules.specs.Names.{name_tail}
use Rattle.directory.proofs.names.valid_tail.Given as goal

abbrev pub invariant-loop-i : goal.invariant-loop-i
invariant-loop-i l = name_tail l.bytes ≡ name_tail (drop l.i l.bytes)
