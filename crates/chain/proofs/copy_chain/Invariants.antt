-- The loop over a chain. The invariant: the output has the bytes of the pages passed at its front and is else as before. The measure: N less the pages passed.
use mathlib.Core.Path.{◌≡◌}
use mathlib.Core.List.{List}
use Prim.Native.Nat.{◌-◌}
use lib.ListN.{length}
use Rattle.packet.specs.Packet.{view_of}
use Rattle.rules.specs.Chain.{Link, content}
use Rattle.chain.specs.KnownChain.{ChainAt}
use Rattle.chain.proofs.Reading.{Copying}
use Rattle.chain.proofs.copy_chain.Given as goal

abbrev pub invariant-loop-g : goal.invariant-loop-g
invariant-loop-g l = (length l.out ≡ length l.initial.out) × ((ls : List Link) → ChainAt l.g (view_of l.g l.image) l.start ls → Copying l.g (view_of l.g l.image) (length ls) (content ls) l.initial.out l.out l.c)

abbrev pub decreases-loop-g : goal.decreases-loop-g
decreases-loop-g l = l.g.pages - l.c.count
