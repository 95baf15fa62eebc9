-- The loop's invariant: whatever answers what is left of a directory's entries answers the whole. Its measure: the entries to go.
-- Of the two functions that call each other, levels left and entries left fall together.
use mathlib.Core.Path.{◌≡◌}
use mathlib.Core.List.{List}
use lib.ListN.{length}
use Prim.Native.Nat.{ℕ, ◌+◌, ◌-◌, ◌*◌, ◌≤◌}
use Rattle.owners.specs.Records.{records_of}
use Rattle.packet.specs.Packet.{view_of}
use Rattle.rules.specs.Chain.{views_of, Link}
use Rattle.owners.specs.Owned.{Represents}
use Rattle.chain.specs.KnownChain.{ChainAt, KnownChain}
use Rattle.walk.proofs.Left.{Left}
use Rattle.walk.proofs.+walk_directory_walk_entry.Given as goal

abbrev pub invariant-walk_directory-loop-at : goal.invariant-walk_directory-loop-at
invariant-walk_directory-loop-at l =
    (length l.table ≡ 4 * l.g.pages) × KnownChain l.g (view_of l.g l.image) l.start × (l.left ≤ l.count)
    × ((claimed : List ℕ) (ls : List Link) → Represents (records_of l.initial.table) claimed → ChainAt l.g (view_of l.g l.image) l.start ls
    → Left l.g (views_of l.g l.image) l.levels l.name l.start l.initial.so_far (records_of l.initial.table) claimed ls (records_of l.table) l.so_far l.slot (l.count - l.left))

abbrev pub decreases-walk_directory-loop-at : goal.decreases-walk_directory-loop-at
decreases-walk_directory-loop-at l = l.left

-- levels left first, then entries left
abbrev pub decreases-walk_directory : goal.decreases-walk_directory
decreases-walk_directory l = (l.levels + 1) * 16777216

abbrev pub decreases-walk_entry : goal.decreases-walk_entry
decreases-walk_entry l = l.levels * 16777216 + l.left
