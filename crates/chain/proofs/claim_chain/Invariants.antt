-- The loop: whatever answers what is left of the chain answers the whole. Each page claimed was free, so the pages that can still be claimed fall.
use mathlib.Core.Path.{◌≡◌}
use mathlib.Core.List.{List}
use Prim.Native.Nat.{ℕ, ◌+◌, ◌-◌, ◌*◌}
use lib.ListN.{length}
use Rattle.packet.specs.Packet.{view_of}
use Rattle.owners.specs.Owned.{Represents}
use Rattle.owners.specs.Records.{records_of}
use Rattle.directory.specs.Faults.{test_of}
use Rattle.chain.proofs.Claiming.{Held}
use Rattle.chain.proofs.claim_chain.Given as goal

abbrev pub invariant-loop-g : goal.invariant-loop-g
invariant-loop-g l = (length l.table ≡ 4 * l.g.pages) ×
    ((claimed : List ℕ) → Represents (records_of l.initial.table) claimed → Held l.g (view_of l.g l.image) (test_of l.g l.kind) l.owner l.from l.start (records_of l.initial.table) claimed (records_of l.table) l.c)

abbrev pub decreases-loop-g : goal.decreases-loop-g
decreases-loop-g l = l.g.pages + 1 - l.c.count
