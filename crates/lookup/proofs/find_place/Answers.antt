use mathlib.Core.Path.{sym, ◌∙◌}
use native.Mathlib.Omega.{arith}
use Rattle.entries.proofs.Stepping.{entry_answer, end_answer, entry_in, past_less}
use Rattle.entries.proofs.ItemLaws.{plain_answer}
use Rattle.lookup.proofs.Finding.{find_first, find_in, find_next, few_stamps, find_stamp, found, find_on, not_found}
use Rattle.lookup.proofs.find_place.Goals as goal

pub first-slot-requires : goal.first-slot-requires
first-slot-requires c =
    let s = c.requires in
    let d = s.has_tree.at.stands.chained in record { fit = s.fit; known_chain = record { links = d.links; chain = d.chain } }

pub loop-at-init : goal.loop-at-init
loop-at-init c = λ t d. find_first _ c.first-slot.ensures d

pub next_entry-requires : goal.next_entry-requires
next_entry-requires c =
    let s = c.requires in record { fit = s.fit; in_directory = find_in (c.loop-at.invariant s.has_tree.tree s.has_tree.at) }

pub returns : goal.returns
returns c =
    λ t d. not_found (c.loop-at.invariant t d) (end_answer _ _ _ _ c.next_entry.ensures c.in_default.is)

pub past-slot-requires : goal.past-slot-requires
past-slot-requires c =
    (entry_answer _ _ _ _ c.next_entry.ensures _ c.in-Some.is).under

pub item-requires : goal.item-requires
item-requires c =
    let s = c.requires in
    let n = entry_answer _ _ _ _ c.next_entry.ensures _ c.in-Some.is in record { fit = s.fit; in_directory = (entry_in n (find_in (c.loop-at.invariant s.has_tree.tree s.has_tree.at)), n.under) }

pub overflow_add-stamps : goal.overflow_add-stamps
overflow_add-stamps c =
    let s = c.requires in
    let n = entry_answer _ _ _ _ c.next_entry.ensures _ c.in-Some.is in
    let k = few_stamps (find_next (c.loop-at.invariant s.has_tree.tree s.has_tree.at) n) s.fit n.under in
    omega arith

pub loop-at-smaller-in_default-item : goal.loop-at-smaller-in_default-item
loop-at-smaller-in_default-item c =
    past_less (entry_answer _ _ _ _ c.next_entry.ensures _ c.in-Some.is) _ c.past-slot.ensures

pub loop-at-preserved-in_default-item : goal.loop-at-preserved-in_default-item
loop-at-preserved-in_default-item c =
    let n = entry_answer _ _ _ _ c.next_entry.ensures _ c.in-Some.is in
    λ t d. find_stamp (find_next (c.loop-at.invariant t d) n) c.item.result c.item.ensures c.in_default-item.is _ c.past-slot.ensures

pub returns-then-key_of-key : goal.returns-then-key_of-key
returns-then-key_of-key c =
    let n = entry_answer _ _ _ _ c.next_entry.ensures _ c.in-Some.is in
    let e = plain_answer _ _ _ c.item.result c.item.ensures _ c.in-Plain.is in
    λ t d. found (find_next (c.loop-at.invariant t d) n) e.0 e.1 (sym c.key_of.ensures ∙ c.if-key_of-key.true) n.under

pub loop-at-smaller : goal.loop-at-smaller
loop-at-smaller c =
    past_less (entry_answer _ _ _ _ c.next_entry.ensures _ c.in-Some.is) _ c.past-slot.ensures

pub loop-at-preserved : goal.loop-at-preserved
loop-at-preserved c =
    let n = entry_answer _ _ _ _ c.next_entry.ensures _ c.in-Some.is in
    let e = plain_answer _ _ _ c.item.result c.item.ensures _ c.in-Plain.is in
    λ t d. find_on (find_next (c.loop-at.invariant t d) n) e.0 e.1 (λ h. c.if-key_of-key.false (c.key_of.ensures ∙ h)) _ c.past-slot.ensures
