-- Page by page. The invariant: whatever is the next entry from the place on is the next entry of all. The measure: the pages to come.
use Rattle.packet.specs.Packet.{view_of}
use Rattle.std.specs.Prelude.{Option}
use Rattle.entries.specs.declared.Slot.{Slot}
use Rattle.entries.specs.TokensAt.{InDirectory, pages_ahead, IsNextEntry}
use Rattle.entries.proofs.Slot.next_entry.Given as goal

abbrev pub invariant-loop-slot : goal.invariant-loop-slot
invariant-loop-slot l = InDirectory l.g (view_of l.g l.image) l.slot × ((r : Option Slot) → IsNextEntry l.g (view_of l.g l.image) l.slot r → IsNextEntry l.g (view_of l.g l.image) l.initial.slot r)

abbrev pub decreases-loop-slot : goal.decreases-loop-slot
decreases-loop-slot l = pages_ahead l.g l.slot
