-- From the last byte down: the value is the number of the bytes seen, in front of which the others still stand.
use Rattle.geometry.proofs.Numbers.{Read}
use Rattle.geometry.proofs.read_number.Given as goal

abbrev pub invariant-loop-byte : goal.invariant-loop-byte
invariant-loop-byte l = Read l.bytes l.byte-iterator.iter.rest.now l.value
