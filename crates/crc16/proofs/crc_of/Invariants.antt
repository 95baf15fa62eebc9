-- Invariant: the bytes before place byte-index are in the register, and the rest is still to come.
use mathlib.Core.Path.{◌≡◌}
use lib.ListN.{drop}
use Rattle.crc16.specs.Crc16.{crc16}
use Rattle.crc16.proofs.crc_of.Given as goal

abbrev pub invariant-loop-byte : goal.invariant-loop-byte
invariant-loop-byte l = crc16 l.start l.bytes ≡ crc16 l.register (drop l.byte-index l.bytes)
