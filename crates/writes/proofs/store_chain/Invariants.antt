-- The loop over the full packets, and the last one: what is left of the bytes gives the whole, and nothing was held back yet. The bytes that are left fall.
use mathlib.Core.Path.{◌≡◌}
use mathlib.Core.List.{List}
use Prim.Native.Nat.{ℕ}
use lib.ListN.{length}
use Rattle.owners.specs.Records.{records_of}
use Rattle.owners.specs.Owned.{Represents}
use Rattle.writes.proofs.Storing.{Storing, stored}
use Rattle.writes.proofs.store_chain.Given as goal

abbrev pub invariant-loop-rest : goal.invariant-loop-rest
invariant-loop-rest l = record {
  sized : length l.image ≡ length l.initial.image;
  storing : (used : List ℕ) → Represents (records_of l.table) used → Storing l.g (stored l.g used l.from l.bytes l.initial.image l.initial.left) (records_of l.table) l.rest l.image l.left l.page;
}

abbrev pub decreases-loop-rest : goal.decreases-loop-rest
decreases-loop-rest l = length l.rest
