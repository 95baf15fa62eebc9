use Rattle.entries.proofs.Stepping.{page_answer, last_answer}
use Rattle.entries.proofs.Looking.{look_first, searched, look_found, look_done, look_some, look_on}
use borrow.Author.Rules.{rules}
use Rattle.entries.proofs.is_repeated.Goals as goal

pub first-slot-requires : goal.first-slot-requires
first-slot-requires c = let s = c.requires in record { fit = s.fit; known_chain = record { links = s.has_entries.0.links; chain = s.has_entries.0.chain } }

pub loop-g-init : goal.loop-g-init
loop-g-init c = λ ls d n. look_first _ _ ls (c.first-slot.ensures ls d) n

pub page_of-page-requires : goal.page_of-page-requires
page_of-page-requires c =
    let s = c.requires in record { fit = s.fit; page_lt_pages = (c.loop-g.invariant _ s.has_entries.0.chain s.has_entries.0.enough).ahead.at_slot.fits.inside }

pub overflow_add-slot : goal.overflow_add-slot
overflow_add-slot c =
    let s = c.requires in
    let r = (c.loop-g.invariant _ s.has_entries.0.chain s.has_entries.0.enough).ahead.at_slot.fits.room in
    let k = s.fit.valid.most in
    search rules

pub page_has-requires : goal.page_has-requires
page_has-requires c =
    let s = c.requires in
    let r = searched s.fit (c.loop-g.invariant _ s.has_entries.0.chain s.has_entries.0.enough) _ c.page_of-page.ensures _ c.min.ensures in record { valid = s.fit.valid; m_in_bounds = (r.0, r.1, s.has_entries.1) }

pub returns-then-page_has : goal.returns-then-page_has
returns-then-page_has c =
    λ ls d n. look_found c.requires.fit (c.loop-g.invariant ls d n) _ c.page_of-page.ensures _ c.min.ensures _ c.page_has.ensures c.if-page_has.true

pub returns-then-left-count : goal.returns-then-left-count
returns-then-left-count c =
    λ ls d n. look_done c.requires.fit (c.loop-g.invariant ls d n) _ c.page_of-page.ensures _ c.min.ensures _ c.page_has.ensures c.if-page_has.false c.if-left-count.true

pub next_page-requires : goal.next_page-requires
next_page-requires c =
    let s = c.requires in
    let i = c.loop-g.invariant _ s.has_entries.0.chain s.has_entries.0.enough in record { fit = s.fit; in_directory = record { ts = i.ts; ahead = i.ahead } }

pub returns-in_default : goal.returns-in_default
returns-in_default c =
    let x = last_answer _ _ _ _ c.next_page.ensures c.in_default.is in
    λ ls d n.
    let i = c.loop-g.invariant ls d n in
    absurd (look_some c.requires.fit i _ c.page_of-page.ensures _ c.min.ensures _ c.page_has.ensures c.if-page_has.false c.if-left-count.false (x _ i.ahead))

pub loop-g-smaller : goal.loop-g-smaller
loop-g-smaller c =
    (page_answer _ _ _ _ c.next_page.ensures _ c.in-Some.is).less

pub loop-g-preserved : goal.loop-g-preserved
loop-g-preserved c =
    let x = page_answer _ _ _ _ c.next_page.ensures _ c.in-Some.is in
    λ ls d n.
    let i = c.loop-g.invariant ls d n in
    look_on c.requires.fit i _ c.page_of-page.ensures _ c.min.ensures _ c.page_has.ensures c.if-page_has.false c.if-left-count.false (x.ahead _ i.ahead)
