-- Page by page. The invariant: the pages before are full, and a new entry goes to the rest as it goes to the whole. The measure: the pages to come.
use Rattle.packet.specs.Packet.{view_of}
use Rattle.rules.specs.Chain.{views_of}
use Rattle.rules.specs.Tree.{Items}
use Rattle.entries.specs.TokensAt.{pages_ahead}
use Rattle.lookup.specs.Searches.{TreeAt}
use Rattle.lookup.proofs.Filling.{Filling}
use Rattle.lookup.proofs.space.find_space.Given as goal

abbrev pub invariant-loop-slot : goal.invariant-loop-slot
invariant-loop-slot l = (t : Items) → TreeAt l.g (views_of l.g l.image) l.start t → Filling l.g (view_of l.g l.image) t l.slot l.room

abbrev pub decreases-loop-slot : goal.decreases-loop-slot
decreases-loop-slot l = pages_ahead l.g l.slot
