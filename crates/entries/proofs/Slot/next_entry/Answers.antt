use Rattle.entries.proofs.Places.{slot_few}
use Rattle.entries.proofs.Stepping.{page_answer, last_answer, entry_here, entry_end, page_in, entry_on}
use Rattle.entries.proofs.Slot.next_entry.Goals as goal

pub loop-slot-init : goal.loop-slot-init
loop-slot-init c = (c.requires.in_directory, λ r n. n)

pub returns-then-slot : goal.returns-then-slot
returns-then-slot c =
    c.loop-slot.invariant.1 _ (entry_here _ _ _ c.if-slot.true)

pub next_page-requires : goal.next_page-requires
next_page-requires c = record { fit = c.requires.fit; in_directory = c.loop-slot.invariant.0 }

pub returns-in_err-slot : goal.returns-in_err-slot
returns-in_err-slot c =
    let n = last_answer _ _ _ _ c.next_page.ensures c.in_err-slot.was in
    rw c.from_residual.ensures (c.loop-slot.invariant.1 _ (entry_end _ _ _ c.if-slot.false n))

pub loop-slot-smaller : goal.loop-slot-smaller
loop-slot-smaller c =
    (page_answer _ _ _ _ c.next_page.ensures _ c.in_ok-slot.was).less

pub loop-slot-preserved : goal.loop-slot-preserved
loop-slot-preserved c =
    let i = c.loop-slot.invariant in
    let n = page_answer _ _ _ _ c.next_page.ensures _ c.in_ok-slot.was in
    let d = page_in n i.0 in
    (d, λ r a. i.1 r (entry_on n c.if-slot.false (slot_few c.requires.fit.valid d.ahead.at_slot.fits) r a))
