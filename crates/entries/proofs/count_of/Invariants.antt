-- Page by page. The invariant: the entries counted and those to come are all. The measure: the pages to come.
use mathlib.Core.List.{List}
use Rattle.packet.specs.Packet.{view_of}
use Rattle.rules.specs.Chain.{Link}
use Rattle.chain.specs.KnownChain.{ChainAt}
use Rattle.entries.specs.TokensAt.{pages_ahead}
use Rattle.entries.proofs.Counting.{Counting}
use Rattle.entries.proofs.count_of.Given as goal

abbrev pub invariant-loop-later : goal.invariant-loop-later
invariant-loop-later l = (ls : List Link) → ChainAt l.g (view_of l.g l.image) l.start ls → Counting l.g (view_of l.g l.image) ls l.slot l.n

abbrev pub decreases-loop-later : goal.decreases-loop-later
decreases-loop-later l = pages_ahead l.g l.slot
