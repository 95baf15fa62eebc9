-- The loop's invariant: what is found from a place on, with the stamps passed right before it, is what is found in the whole. Its measure: the entries ahead, pages to come counted as full.
use Rattle.packet.specs.Packet.{view_of}
use Rattle.rules.specs.Chain.{views_of}
use Rattle.rules.specs.Tree.{Items}
use Rattle.entries.specs.TokensAt.{entries_ahead}
use Rattle.lookup.specs.Searches.{TreeAt}
use Rattle.lookup.proofs.Finding.{Finding}
use Rattle.lookup.proofs.find_place.Given as goal

abbrev pub invariant-loop-at : goal.invariant-loop-at
invariant-loop-at l = (t : Items) → TreeAt l.g (views_of l.g l.image) l.start t → Finding l.g (view_of l.g l.image) l.key t l.slot l.stamps

abbrev pub decreases-loop-at : goal.decreases-loop-at
decreases-loop-at l = entries_ahead l.g l.slot
