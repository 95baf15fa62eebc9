use mathlib.Core.Path.{sym, ◌∙◌}
use native.Mathlib.Omega.{arith}
use Rattle.rules.specs.Chain.{views_of}
use Rattle.entries.proofs.Stepping.{entry_answer, end_answer, entry_in, past_less}
use Rattle.entries.proofs.ItemLaws.{plain_answer}
use Rattle.listing.proofs.Lines.{looks_head, looks_file, some_level, has_directory, looks_below}
use Rattle.listing.proofs.Ahead.{ahead_first, ahead_in, ahead_stamp, ahead_part, ahead_found, ahead_past, ahead_done}
use borrow.Author.Rules.{rules}
use Rattle.listing.proofs.+look_directory_look_entry.Goals as goal

pub look_directory-first-slot-requires : goal.look_directory-first-slot-requires
look_directory-first-slot-requires t c =
    let s = c.requires in
    let d = s.level_bound.1.stands.chained in record { fit = s.fit; known_chain = record { links = d.links; chain = d.chain } }

pub look_directory-loop-at-init : goal.look_directory-loop-at-init
look_directory-loop-at-init t c = λ tree st. ahead_first _ _ c.first-slot.ensures st

pub look_directory-next_entry-requires : goal.look_directory-next_entry-requires
look_directory-next_entry-requires t c =
    let s = c.requires in record { fit = s.fit; in_directory = ahead_in (c.loop-at.invariant s.level_bound.1.tree s.level_bound.1.stands) }

pub look_directory-returns : goal.look_directory-returns
look_directory-returns t c =
    λ tree st. ahead_done (c.loop-at.invariant tree st) (end_answer _ _ _ _ c.next_entry.ensures c.in_default.is)

pub look_directory-past-slot-requires : goal.look_directory-past-slot-requires
look_directory-past-slot-requires t c =
    (entry_answer _ _ _ _ c.next_entry.ensures _ c.in-Some.is).under

pub look_directory-item-requires : goal.look_directory-item-requires
look_directory-item-requires t c =
    let s = c.requires in
    let n = entry_answer _ _ _ _ c.next_entry.ensures _ c.in-Some.is in record { fit = s.fit; in_directory = (entry_in n (ahead_in (c.loop-at.invariant s.level_bound.1.tree s.level_bound.1.stands)), n.under) }

pub look_directory-loop-at-smaller-in_default-item : goal.look_directory-loop-at-smaller-in_default-item
look_directory-loop-at-smaller-in_default-item t c =
    past_less (entry_answer _ _ _ _ c.next_entry.ensures _ c.in-Some.is) _ c.past-slot.ensures

pub look_directory-loop-at-preserved-in_default-item : goal.look_directory-loop-at-preserved-in_default-item
look_directory-loop-at-preserved-in_default-item t c =
    let n = entry_answer _ _ _ _ c.next_entry.ensures _ c.in-Some.is in
    λ tree st. ahead_stamp (c.loop-at.invariant tree st) n c.item.result c.item.ensures c.in_default-item.is _ c.past-slot.ensures

pub look_directory-look_entry-requires : goal.look_directory-look_entry-requires
look_directory-look_entry-requires t c =
    let s = c.requires in
    let n = entry_answer _ _ _ _ c.next_entry.ensures _ c.in-Some.is in
    let e = plain_answer _ _ _ c.item.result c.item.ensures _ c.in-Plain.is in
    (omega (arith, c.decreases), (s.fit, (s.level_bound.0, ahead_part (c.loop-at.invariant s.level_bound.1.tree s.level_bound.1.stands) n e.0 e.1)))

pub look_directory-returns-in_err-left : goal.look_directory-returns-in_err-left
look_directory-returns-in_err-left t c =
    let n = entry_answer _ _ _ _ c.next_entry.ensures _ c.in-Some.is in
    let e = plain_answer _ _ _ c.item.result c.item.ensures _ c.in-Plain.is in
    λ tree st. rw c.from_residual.ensures (ahead_found (c.loop-at.invariant tree st) n e.0 e.1 _ c.look_entry.ensures _ c.in_err-left.was)

pub look_directory-loop-at-smaller : goal.look_directory-loop-at-smaller
look_directory-loop-at-smaller t c =
    past_less (entry_answer _ _ _ _ c.next_entry.ensures _ c.in-Some.is) _ c.past-slot.ensures

pub look_directory-loop-at-preserved : goal.look_directory-loop-at-preserved
look_directory-loop-at-preserved t c =
    let n = entry_answer _ _ _ _ c.next_entry.ensures _ c.in-Some.is in
    let e = plain_answer _ _ _ c.item.result c.item.ensures _ c.in-Plain.is in
    λ tree st. ahead_past (c.loop-at.invariant tree st) n e.0 e.1 _ c.look_entry.ensures _ c.in_ok-left.was _ c.past-slot.ensures

pub look_entry-entry_line-requires : goal.look_entry-entry_line-requires
look_entry-entry_line-requires t c =
    let s = c.requires in record { fit = s.fit; has_part = s.level_bound.1 }

pub look_entry-returns-then-k-eq0 : goal.look_entry-returns-then-k-eq0
look_entry-returns-then-k-eq0 t c =
    let a = c.args in
    looks_head a.g (views_of a.g a.image.now) a.levels a.level a.e a.k _ c.if-k-eq0.true c.entry_line.ensures

pub look_entry-returns : goal.look_entry-returns
look_entry-returns t c =
    let a = c.args in
    looks_file a.g (views_of a.g a.image.now) a.levels a.level a.e (sym c.is_directory.ensures ∙ c.if-is_directory.false) a.k c.if-k-eq0.false

pub look_entry-overflow_sub-levels : goal.look_entry-overflow_sub-levels
look_entry-overflow_sub-levels t c =
    let a = c.args in
    let k = some_level _ _ a.levels a.level a.e (sym c.is_directory.ensures ∙ c.if-is_directory.true) c.requires.level_bound.1 in
    omega arith

pub look_entry-overflow_add-level : goal.look_entry-overflow_add-level
look_entry-overflow_add-level t c =
    let k = c.requires.level_bound.0 in
    search rules

pub look_entry-look_directory-requires : goal.look_entry-look_directory-requires
look_entry-look_directory-requires t c =
    let a = c.args in
    let s = c.requires in
    let k = some_level _ _ a.levels a.level a.e (sym c.is_directory.ensures ∙ c.if-is_directory.true) s.level_bound.1 in
    (omega (arith, c.decreases), (s.fit, (omega (arith, s.level_bound.0), has_directory _ _ a.levels a.level a.e (sym c.is_directory.ensures ∙ c.if-is_directory.true) s.level_bound.1)))

pub look_entry-returns-then-is_directory : goal.look_entry-returns-then-is_directory
look_entry-returns-then-is_directory t c =
    let a = c.args in
    looks_below _ _ a.levels a.level a.e (sym c.is_directory.ensures ∙ c.if-is_directory.true) a.k c.look_directory.result c.if-k-eq0.false
    c.look_directory.ensures
