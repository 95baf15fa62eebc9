-- Page by page. The invariant: whatever chain stands there, what is left of its entries decides. The measure: the pages to come.
use mathlib.Core.List.{List}
use Prim.Native.Nat.{◌≤◌}
use lib.ListN.{length, take}
use Rattle.geometry.specs.Geometry.{control_size}
use Rattle.packet.specs.Packet.{view_of}
use Rattle.rules.specs.PageSets.{mem}
use Rattle.rules.specs.Chain.{Link}
use Rattle.chain.specs.KnownChain.{ChainAt}
use Rattle.entries.specs.EntrySlots.{chain_keys}
use Rattle.entries.specs.TokensAt.{pages_ahead}
use Rattle.entries.proofs.Looking.{Looking}
use Rattle.entries.proofs.is_repeated.Given as goal

abbrev pub invariant-loop-g : goal.invariant-loop-g
invariant-loop-g l = (ls : List Link) → ChainAt l.g (view_of l.g l.image) l.start ls → l.m ≤ length (chain_keys l.g (control_size l.g) ls)
    → Looking l.g (view_of l.g l.image) l.key (mem l.key (take l.m (chain_keys l.g (control_size l.g) ls))) l.slot l.left

abbrev pub decreases-loop-g : goal.decreases-loop-g
decreases-loop-g l = pages_ahead l.g l.slot
