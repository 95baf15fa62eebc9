-- The invariant: the bytes passed are written from `at` on, and end at `next`.
use Rattle.std.proofs.Common.{take}
use Rattle.text.specs.Placed.{Written}
use Rattle.text.proofs.put_bytes.Given as goal

abbrev pub invariant-loop-c : goal.invariant-loop-c
invariant-loop-c l = Written l.at (take l.c-index l.bytes) l.initial.out l.next l.out
