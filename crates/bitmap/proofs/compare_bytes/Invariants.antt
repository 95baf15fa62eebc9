-- The loop: every bit passed is right.
use Prim.Native.Nat.{ℕ, ◌<◌}
use Rattle.owners.specs.Records.{records_of}
use Rattle.bitmap.proofs.BitLaws.{Right}
use Rattle.bitmap.proofs.compare_bytes.Given as goal

abbrev pub invariant-loop-k : goal.invariant-loop-k
invariant-loop-k l = (j : ℕ) → j < l.k → Right l.bytes l.at (records_of l.table) j
