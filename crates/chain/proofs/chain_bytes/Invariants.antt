-- The loop over a chain. The invariant: the bytes passed and those of the pages to come are all. The measure: N less the pages passed.
use mathlib.Core.List.{List}
use Prim.Native.Nat.{◌-◌}
use lib.ListN.{length}
use Rattle.packet.specs.Packet.{view_of}
use Rattle.rules.specs.Chain.{Link, content}
use Rattle.chain.specs.KnownChain.{ChainAt}
use Rattle.chain.proofs.Following.{ReadTo}
use Rattle.chain.proofs.chain_bytes.Given as goal

abbrev pub invariant-loop-g : goal.invariant-loop-g
invariant-loop-g l = (ls : List Link) → ChainAt l.g (view_of l.g l.image) l.start ls → ReadTo l.g (view_of l.g l.image) (length ls) (content ls) l.c

abbrev pub decreases-loop-g : goal.decreases-loop-g
decreases-loop-g l = l.g.pages - l.c.count
