-- The loop's invariant: the pages opened so far and those that the entries ahead open are all. Its measure: the entries ahead, pages to come counted as full.
use Rattle.geometry.specs.Geometry.{first_entries}
use Rattle.rules.specs.Chain.{views_of}
use Rattle.rules.specs.Tree.{Items}
use Rattle.entries.specs.TokensAt.{entries_ahead}
use Rattle.gathering.specs.Gather.{bare, further}
use Rattle.gathering.proofs.GatherLaid.{BareEntries}
use Rattle.listing.specs.KnownTree.{DirectoryAt}
use Rattle.layout.proofs.Counting.{Counting}
use Rattle.layout.proofs.further_pages.Given as goal

abbrev pub invariant-loop-here : goal.invariant-loop-here
invariant-loop-here l =
    (t : Items) → DirectoryAt l.g (views_of l.g l.image) l.levels l.start t → Counting l.g l.image l.levels (further l.g (first_entries l.g) (bare t)) (BareEntries l.g l.levels (bare t)) l.slot l.stamps l.room

abbrev pub decreases-loop-here : goal.decreases-loop-here
decreases-loop-here l = entries_ahead l.g l.slot
