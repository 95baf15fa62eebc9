-- The invariant: the bytes passed are written from `at` on without blanks, and end at `next`.
use Rattle.std.proofs.Common.{take, ◌≤◌, ◌+◌}
use Rattle.rules.specs.ListText.{without_blanks}
use Rattle.text.specs.Placed.{Written}
use Rattle.text.proofs.put_name.Given as goal

abbrev pub invariant-loop-c : goal.invariant-loop-c
invariant-loop-c l = record {
  written : Written l.at (without_blanks (take l.c-index l.c-items)) l.initial.out l.next l.out;
  room : l.next ≤ l.at + l.c-index;
}
