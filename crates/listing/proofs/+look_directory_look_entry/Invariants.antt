-- The loop's invariant: whatever answers what is ahead in a directory answers the whole. Its measure: the entries ahead, pages to come counted as full.
-- Of the two functions that call each other, a subdirectory has a level less.
use Prim.Native.Nat.{◌+◌, ◌*◌}
use Rattle.rules.specs.Chain.{views_of}
use Rattle.rules.specs.Tree.{Items}
use Rattle.entries.specs.TokensAt.{entries_ahead}
use Rattle.listing.specs.KnownTree.{DirectoryAt}
use Rattle.listing.proofs.Ahead.{Ahead}
use Rattle.listing.proofs.+look_directory_look_entry.Given as goal

abbrev pub invariant-look_directory-loop-at : goal.invariant-look_directory-loop-at
invariant-look_directory-loop-at l =
    (t : Items) → DirectoryAt l.g (views_of l.g l.image) l.levels l.start t → Ahead l.g (views_of l.g l.image) l.levels l.level l.k t l.slot l.left

abbrev pub decreases-look_directory-loop-at : goal.decreases-look_directory-loop-at
decreases-look_directory-loop-at l = entries_ahead l.g l.slot

-- levels left; an entry of a directory comes before its own directory
abbrev pub decreases-look_directory : goal.decreases-look_directory
decreases-look_directory l = 2 * l.levels + 1

abbrev pub decreases-look_entry : goal.decreases-look_entry
decreases-look_entry l = 2 * l.levels
