-- The loop's invariant: the page at hand is in the buffer, and what is still to be written gives the whole. Its measure: the entries ahead, pages to come counted as full.
-- Of the two functions that call each other, a subdirectory has a level less.
use mathlib.Core.Path.{◌≡◌}
use Prim.Native.Nat.{◌+◌, ◌*◌, ◌≤◌}
use lib.ListN.{length}
use Rattle.geometry.specs.Geometry.{first_entries}
use Rattle.packet.specs.Packet.{after_writes}
use Rattle.rules.specs.Chain.{views_of}
use Rattle.rules.specs.Tree.{Items}
use Rattle.entries.specs.TokensAt.{entries_ahead}
use Rattle.gathering.specs.Gather.{bare, below_size, further as furtherOf}
use Rattle.gathering.proofs.GatherLaid.{BareEntries}
use Rattle.gathering.proofs.GatherOrder.{pass_writes}
use Rattle.listing.specs.KnownTree.{DirectoryAt}
use Rattle.layout.specs.Layout.{parent_of, Holding}
use Rattle.layout.proofs.Laying.{Laying}
use Rattle.layout.proofs.+lay_directory_lay_entry.Given as goal

abbrev pub invariant-lay_directory-loop-here : goal.invariant-lay_directory-loop-here
invariant-lay_directory-loop-here l =
    (length l.second ≡ length l.initial.second) × Holding l.g l.buffer l.w × ((t : Items) → DirectoryAt l.g (views_of l.g l.image) l.levels l.start t
    → Laying l.g l.image l.levels (parent_of l.name l.at) (after_writes l.g (pass_writes l.g (parent_of l.name l.at) l.head l.at (first_entries l.g) l.further l.chain (bare t)) l.initial.second) (l.chain + below_size l.g (bare t))
    (BareEntries l.g l.levels (bare t) × (l.further + furtherOf l.g (first_entries l.g) (bare t) ≤ l.chain)) l.second l.buffer l.w l.slot l.stamps)

abbrev pub decreases-lay_directory-loop-here : goal.decreases-lay_directory-loop-here
decreases-lay_directory-loop-here l = entries_ahead l.g l.slot

-- levels left; an entry of a directory comes before its own directory
abbrev pub decreases-lay_directory : goal.decreases-lay_directory
decreases-lay_directory l = 2 * l.levels + 1

abbrev pub decreases-lay_entry : goal.decreases-lay_entry
decreases-lay_entry l = 2 * l.levels
