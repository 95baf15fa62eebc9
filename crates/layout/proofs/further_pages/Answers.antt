use native.Mathlib.Omega.{arith}
use Rattle.entries.proofs.Stepping.{entry_answer, end_answer, entry_in, past_less}
use Rattle.entries.proofs.ItemLaws.{plain_answer}
use Rattle.layout.proofs.Counting.{count_first, count_in, count_done, opened_few, few_stamps, count_stamp, slots_fit, count_entry}
use Rattle.layout.proofs.further_pages.Goals as goal

pub later_entries-later-requires : goal.later_entries-later-requires
later_entries-later-requires c = c.requires.fit.0.valid

pub first_entries-requires : goal.first_entries-requires
first_entries-requires c = c.requires.fit.0.valid

pub first-slot-requires : goal.first-slot-requires
first-slot-requires c =
    let d = c.requires.known_entries.stands.chained in record { fit = c.requires.fit.0; known_chain = record { links = d.links; chain = d.chain } }

pub loop-here-init : goal.loop-here-init
loop-here-init c =
    let s = c.requires.fit in
    λ t st. count_first s.0 s.1 t c.first-slot.ensures st _ c.first_entries.ensures

pub next_entry-requires : goal.next_entry-requires
next_entry-requires c =
    let s = c.requires in record { fit = s.fit.0; in_directory = count_in s.fit.0 s.fit.1 (c.loop-here.invariant s.known_entries.tree s.known_entries.stands) }

pub returns : goal.returns
returns c =
    let s = c.requires.fit in
    λ t st. count_done s.0 s.1 (c.loop-here.invariant t st) (end_answer _ _ _ _ c.next_entry.ensures c.in_default.is)

pub past-slot-requires : goal.past-slot-requires
past-slot-requires c =
    (entry_answer _ _ _ _ c.next_entry.ensures _ c.in-Some.is).under

pub item-requires : goal.item-requires
item-requires c =
    let s = c.requires in
    let n = entry_answer _ _ _ _ c.next_entry.ensures _ c.in-Some.is in record { fit = s.fit.0; in_directory = (entry_in n (count_in s.fit.0 s.fit.1 (c.loop-here.invariant s.known_entries.tree s.known_entries.stands)), n.under) }

pub overflow_add-stamps : goal.overflow_add-stamps
overflow_add-stamps c =
    let s = c.requires in
    let n = entry_answer _ _ _ _ c.next_entry.ensures _ c.in-Some.is in
    omega (arith, few_stamps s.fit.0 s.fit.1 (c.loop-here.invariant s.known_entries.tree s.known_entries.stands) n)

pub loop-here-smaller-in_default-item : goal.loop-here-smaller-in_default-item
loop-here-smaller-in_default-item c =
    past_less (entry_answer _ _ _ _ c.next_entry.ensures _ c.in-Some.is) _ c.past-slot.ensures

pub loop-here-preserved-in_default-item : goal.loop-here-preserved-in_default-item
loop-here-preserved-in_default-item c =
    let s = c.requires.fit in
    let n = entry_answer _ _ _ _ c.next_entry.ensures _ c.in-Some.is in
    λ t st. count_stamp s.0 s.1 (c.loop-here.invariant t st) n c.item.result c.item.ensures c.in_default-item.is _ c.past-slot.ensures

pub overflow_add-stamps-in-Some : goal.overflow_add-stamps-in-Some
overflow_add-stamps-in-Some c =
    let s = c.requires in
    let n = entry_answer _ _ _ _ c.next_entry.ensures _ c.in-Some.is in
    omega (arith, few_stamps s.fit.0 s.fit.1 (c.loop-here.invariant s.known_entries.tree s.known_entries.stands) n)

pub take_slots-room-requires : goal.take_slots-room-requires
take_slots-room-requires c =
    let s = c.requires in
    let l = c.loop-here.invariant s.known_entries.tree s.known_entries.stands in
    let n = entry_answer _ _ _ _ c.next_entry.ensures _ c.in-Some.is in
    let e = plain_answer _ _ _ c.item.result c.item.ensures _ c.in-Plain.is in
    (omega (arith, slots_fit s.fit.0 s.fit.1 l n e.0 e.1 s.known_entries.fitting, c.later_entries-later.ensures), opened_few s.fit.0 s.fit.1 l s.known_entries.few)

pub loop-here-smaller : goal.loop-here-smaller
loop-here-smaller c =
    past_less (entry_answer _ _ _ _ c.next_entry.ensures _ c.in-Some.is) _ c.past-slot.ensures

pub loop-here-preserved : goal.loop-here-preserved
loop-here-preserved c =
    let s = c.requires.fit in
    let n = entry_answer _ _ _ _ c.next_entry.ensures _ c.in-Some.is in
    let e = plain_answer _ _ _ c.item.result c.item.ensures _ c.in-Plain.is in
    λ t st. count_entry s.0 s.1 (c.loop-here.invariant t st) n e.0 e.1 _ _ c.later_entries-later.ensures c.take_slots-room.ensures _ c.past-slot.ensures
