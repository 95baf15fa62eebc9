-- The invariant: the bytes written, followed by the bytes of what is left of the number, are the whole number's.
use mathlib.Core.Path.{◌≡◌}
use mathlib.Core.List.{◌++◌}
use Prim.Native.Nat.{◌-◌}
use lib.ListN.{length, take}
use Rattle.geometry.specs.Number.{number_bytes}
use Rattle.geometry.proofs.write_number.Given as goal

abbrev pub invariant-loop-byte : goal.invariant-loop-byte
invariant-loop-byte l = number_bytes (length l.bytes) l.x ≡ take l.byte-index l.bytes ++ number_bytes (length l.bytes - l.byte-index) l.rest
