use Rattle.entries.proofs.Stepping.{page_answer, last_answer}
use Rattle.lookup.proofs.Filling.{fill_first, fill_in, has_space, no_space, fill_on}
use Rattle.lookup.proofs.space.find_space.Goals as goal

pub first-slot-requires : goal.first-slot-requires
first-slot-requires c =
    let s = c.requires in
    let d = s.has_tree.at.stands.chained in record { fit = s.fit; known_chain = record { links = d.links; chain = d.chain } }

pub loop-slot-init : goal.loop-slot-init
loop-slot-init c = λ t d. fill_first c.first-slot.ensures d c.first_entries-room.ensures

pub returns-then-slot-room : goal.returns-then-slot-room
returns-then-slot-room c =
    λ t d. has_space (c.loop-slot.invariant t d) c.if-slot-room.true

pub next_page-requires : goal.next_page-requires
next_page-requires c =
    let s = c.requires in record { fit = s.fit; in_directory = fill_in (c.loop-slot.invariant s.has_tree.tree s.has_tree.at) }

pub returns-in_default : goal.returns-in_default
returns-in_default c =
    let n = last_answer _ _ _ _ c.next_page.ensures c.in_default.is in
    λ t d. let i = c.loop-slot.invariant t d in no_space i c.if-slot-room.false (n _ i.ahead)

pub loop-slot-smaller : goal.loop-slot-smaller
loop-slot-smaller c =
    (page_answer _ _ _ _ c.next_page.ensures _ c.in-Some.is).less

pub loop-slot-preserved : goal.loop-slot-preserved
loop-slot-preserved c =
    let n = page_answer _ _ _ _ c.next_page.ensures _ c.in-Some.is in
    λ t d. let i = c.loop-slot.invariant t d in fill_on i c.if-slot-room.false (n.ahead _ i.ahead) c.later_entries-room.ensures
