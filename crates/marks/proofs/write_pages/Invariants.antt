-- The loop: the writes that are left give the whole, and nothing was held back yet. The pages that can still be passed fall.
use mathlib.Core.Path.{◌≡◌}
use mathlib.Core.List.{List}
use Prim.Native.Nat.{◌-◌}
use lib.ListN.{length}
use Rattle.owners.specs.Records.{records_of}
use Rattle.packet.specs.Packet.{view_of}
use Rattle.rules.specs.Chain.{Link}
use Rattle.marks.specs.MapPages.{MapFileAt}
use Rattle.marks.proofs.MapFile.{Writing, file_written}
use Rattle.marks.proofs.write_pages.Given as goal

abbrev pub invariant-loop-left : goal.invariant-loop-left
invariant-loop-left l = (length l.image ≡ length l.initial.image) × (length l.buffer ≡ length l.initial.buffer)
    × ((ls : List Link) → MapFileAt l.g (view_of l.g l.initial.image) l.start ls → Writing l.g (records_of l.table) l.below (length ls) (file_written l.g (records_of l.table) l.below ls l.initial.image l.initial.left) l.image l.left l.c)

abbrev pub decreases-loop-left : goal.decreases-loop-left
decreases-loop-left l = l.g.pages - l.c.count
