-- The loop over a bitmap's chain. The invariant: whatever the chain is, a mend takes the bits of the pages passed, and their marks without an owner are counted.
-- The measure: N less the pages passed.
use mathlib.Core.List.{List}
use Prim.Native.Nat.{ℕ, ◌-◌}
use lib.ListN.{length}
use Rattle.owners.specs.Records.{records_of}
use Rattle.packet.specs.Packet.{view_of}
use Rattle.rules.specs.Chain.{Link, content}
use Rattle.owners.specs.Owned.{Represents}
use Rattle.chain.specs.KnownChain.{ChainAt}
use Rattle.bitmap.proofs.Surveying.{Surveying}
use Rattle.bitmap.proofs.survey_chain.Given as goal

abbrev pub invariant-loop-unowned : goal.invariant-loop-unowned
invariant-loop-unowned l = (ls : List Link) → ChainAt l.g (view_of l.g l.image) l.start ls → (used : List ℕ) → Represents (records_of l.table) used
    → Surveying l.g (view_of l.g l.image) (length (records_of l.table)) (content ls) used (length ls) l.c l.unowned

abbrev pub decreases-loop-unowned : goal.decreases-loop-unowned
decreases-loop-unowned l = l.g.pages - l.c.count
