-- The loop's invariant: the bytes in the buffer and those of the packets ahead give the chain that is to be laid. Its measure: the pages that the cursor has not counted.
use mathlib.Core.Path.{◌≡◌}
use mathlib.Core.List.{List}
use Prim.Native.Nat.{◌-◌, ◌≤◌}
use lib.ListN.{length}
use Rattle.packet.specs.Packet.{view_of}
use Rattle.rules.specs.Chain.{Link}
use Rattle.chain.specs.KnownChain.{ChainAt}
use Rattle.runs.proofs.RunLaws.{Running}
use Rattle.runs.proofs.copy_run.Given as goal

abbrev pub invariant-loop-next : goal.invariant-loop-next
invariant-loop-next l =
    (length l.second ≡ length l.initial.second) × (length l.buffer ≡ 256) × (l.f.held ≤ l.capacity)
    × ((ls : List Link) → ChainAt l.g (view_of l.g l.image) l.start ls → Running l.g (view_of l.g l.image) l.to l.initial.second ls l.second l.buffer l.f l.c)

abbrev pub decreases-loop-next : goal.decreases-loop-next
decreases-loop-next l = l.g.pages - l.c.count
