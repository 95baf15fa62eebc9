-- Invariant: of the eight bit steps `counter` are done, and the others of r give what all eight give.
use lib.Bits.{bit_xor}
use Rattle.crc16.proofs.Steps.{After}
use Rattle.crc16.proofs.byte_step.Given as goal

abbrev pub invariant-loop : goal.invariant-loop
invariant-loop l = After (bit_xor l.byte l.register) l.counter l.r
