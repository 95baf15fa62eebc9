-- The loop over a bitmap's chain. The invariant: whatever the chain is, the bits of the pages passed agree, so that those to come decide.
-- The measure: N less the pages passed.
use mathlib.Core.List.{List}
use Prim.Native.Nat.{ℕ, ◌-◌}
use lib.ListN.{length}
use Rattle.owners.specs.Records.{records_of}
use Rattle.packet.specs.Packet.{view_of}
use Rattle.rules.specs.Chain.{Link, content}
use Rattle.owners.specs.Owned.{Represents}
use Rattle.bitmap.proofs.Comparing.{Comparing}
use Rattle.chain.specs.KnownChain.{ChainAt}
use Rattle.bitmap.proofs.compare_chain.Given as goal

abbrev pub invariant-loop-bit : goal.invariant-loop-bit
invariant-loop-bit l = (ls : List Link) → ChainAt l.g (view_of l.g l.image) l.start ls → (used : List ℕ) → Represents (records_of l.table) used
    → Comparing l.g (view_of l.g l.image) (content ls) used (length ls) l.c

abbrev pub decreases-loop-bit : goal.decreases-loop-bit
decreases-loop-bit l = l.g.pages - l.c.count
