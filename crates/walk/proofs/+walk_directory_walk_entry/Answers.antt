use mathlib.Core.Path.{refl, ap, sym, ◌∙◌}
use mathlib.Core.List.{[]}
use native.Mathlib.Omega.{arith}
use Rattle.refusals.specs.declared.Fault.TheVariants.{Extension}
use Rattle.rules.specs.Answers.{answer_of}
use Rattle.rules.proofs.AnswerLaws.{passed_up}
use Rattle.owners.specs.Records.{records_of}
use Rattle.owners.specs.RecordLaws.{length_exact}
use Rattle.rules.specs.Chain.{views_of}
use Rattle.entries.proofs.Stepping.{entry_answer, end_answer, entry_in}
use Rattle.entries.proofs.ItemLaws.{plain_answer}
use Rattle.walk.proofs.Parts.{totals_fit, below_some, below_ready, entry_refused, file_entry_lem, entry_below, entry_directory}
use Rattle.walk.proofs.Left.{witness, some_to_go, left_in, left_known, left_stamp, left_loose, left_refused, left_entry, left_done, left_first}
use Rattle.walk.proofs.Directories.{refused_directory, is_claimed, pages_few, claimed_known, whole_done, whole_refused}
use Rattle.walk.proofs.+walk_directory_walk_entry.Goals as goal

pub walk_directory-overflow_add-so_far : goal.walk_directory-overflow_add-so_far
walk_directory-overflow_add-so_far t c =
    let s = c.requires in
    let n = pages_few (is_claimed _ _ _ _ _ c.claim_chain.ensures c.in_ok-chain.was (length_exact _ _ s.table_len.0) s.table_len.1) in
    let f = s.fit.valid.few in
    let u = s.table_len.1.used_is in
    omega arith

pub walk_directory-count_of-count-requires : goal.walk_directory-count_of-count-requires
walk_directory-count_of-count-requires t c =
    let s = c.requires in record { fit = s.fit; known_chain = (claimed_known (is_claimed _ _ _ _ _ c.claim_chain.ensures c.in_ok-chain.was (length_exact _ _ s.table_len.0) s.table_len.1)).0 }

pub walk_directory-first-slot-requires : goal.walk_directory-first-slot-requires
walk_directory-first-slot-requires t c =
    let s = c.requires in record { fit = s.fit; known_chain = (claimed_known (is_claimed _ _ _ _ _ c.claim_chain.ensures c.in_ok-chain.was (length_exact _ _ s.table_len.0) s.table_len.1)).0 }

pub walk_directory-loop-at-init : goal.walk_directory-loop-at-init
walk_directory-loop-at-init t c =
    let s = c.requires in
    let k = claimed_known (is_claimed _ _ _ _ _ c.claim_chain.ensures c.in_ok-chain.was (length_exact _ _ s.table_len.0) s.table_len.1) in
    (c.claim_chain.auto.table ∙ s.table_len.0, k.0, omega arith, λ claimed ls r d. left_first _ _ _ _ c.first-slot.ensures d (omega arith) r k.1)

pub walk_directory-next_entry-requires : goal.walk_directory-next_entry-requires
walk_directory-next_entry-requires t c =
    let i = c.loop-at.invariant in record { fit = c.requires.fit; in_directory = left_in (witness i.1 i.3) }

pub walk_directory-shape_of-table : goal.walk_directory-shape_of-table
walk_directory-shape_of-table t c =
    c.loop-at.invariant.0 ∙ sym c.requires.table_len.0

pub walk_directory-returns : goal.walk_directory-returns
walk_directory-returns t c =
    let s = c.requires in
    let i = c.loop-at.invariant in
    let n = end_answer _ _ _ _ c.next_entry.ensures c.in_default.is in
    whole_done (views_of _ _) (is_claimed _ _ _ _ _ c.claim_chain.ensures c.in_ok-chain.was (length_exact _ _ s.table_len.0) s.table_len.1) c.args.levels c.args.name _ _
    (λ others ls r d. left_done (i.3 others ls r d) n)

pub walk_directory-past-slot-requires : goal.walk_directory-past-slot-requires
walk_directory-past-slot-requires t c =
    (entry_answer _ _ _ _ c.next_entry.ensures _ c.in-Some.is).under

pub walk_directory-overflow_sub-left : goal.walk_directory-overflow_sub-left
walk_directory-overflow_sub-left t c =
    let i = c.loop-at.invariant in
    let n = entry_answer _ _ _ _ c.next_entry.ensures _ c.in-Some.is in
    some_to_go _ _ c.count_of-count.ensures.0 i.1 i.3 n i.2

pub walk_directory-item-requires : goal.walk_directory-item-requires
walk_directory-item-requires t c =
    let i = c.loop-at.invariant in
    let n = entry_answer _ _ _ _ c.next_entry.ensures _ c.in-Some.is in record { fit = c.requires.fit; in_directory = (entry_in n (left_in (witness i.1 i.3)), n.under) }

pub walk_directory-shape_of-table-then-slot : goal.walk_directory-shape_of-table-then-slot
walk_directory-shape_of-table-then-slot t c =
    c.loop-at.invariant.0 ∙ sym c.requires.table_len.0

pub walk_directory-returns-then-slot : goal.walk_directory-returns-then-slot
walk_directory-returns-then-slot t c =
    let s = c.requires in
    let i = c.loop-at.invariant in
    let n = entry_answer _ _ _ _ c.next_entry.ensures _ c.in-Some.is in
    whole_refused (views_of _ _) (is_claimed _ _ _ _ _ c.claim_chain.ensures c.in_ok-chain.was (length_exact _ _ s.table_len.0) s.table_len.1) c.args.levels c.args.name (Extension, c.in-Some.at.page)
    (λ others ls r d. left_loose (i.3 others ls r d) n c.item.result c.item.ensures c.in_default-item.is c.past-slot.ensures [] c.if-slot.true)

pub walk_directory-loop-at-smaller-in_default-item : goal.walk_directory-loop-at-smaller-in_default-item
walk_directory-loop-at-smaller-in_default-item t c =
    let i = c.loop-at.invariant in
    let n = entry_answer _ _ _ _ c.next_entry.ensures _ c.in-Some.is in
    let o = some_to_go _ _ c.count_of-count.ensures.0 i.1 i.3 n i.2 in
    omega arith

pub walk_directory-loop-at-preserved-in_default-item : goal.walk_directory-loop-at-preserved-in_default-item
walk_directory-loop-at-preserved-in_default-item t c =
    let i = c.loop-at.invariant in
    let n = entry_answer _ _ _ _ c.next_entry.ensures _ c.in-Some.is in
    let o = some_to_go _ _ c.count_of-count.ensures.0 i.1 i.3 n i.2 in (
      i.0,
      i.1,
      omega (arith, i.2),
      λ claimed ls r d. left_stamp (i.3 claimed ls r d) n c.item.result c.item.ensures c.in_default-item.is c.past-slot.ensures _ c.if-slot.false (omega (arith, i.2)),
    )

pub walk_directory-walk_entry-requires : goal.walk_directory-walk_entry-requires
walk_directory-walk_entry-requires t c =
    let i = c.loop-at.invariant in
    let l = witness i.1 i.3 in
    let m = c.count_of-count.ensures in
    let n = entry_answer _ _ _ _ c.next_entry.ensures _ c.in-Some.is in
    let e = plain_answer _ _ _ c.item.result c.item.ensures _ c.in-Plain.is in
    let o = some_to_go _ _ m.0 i.1 i.3 n i.2 in
    (omega (arith, c.decreases, i.2, m.1), (c.requires.fit, (i.0, left_known l, l.good_totals, record { some = o; most = i.2; few = m.1 }, e.1)))

pub walk_directory-shape_of-table-in_err-so_far : goal.walk_directory-shape_of-table-in_err-so_far
walk_directory-shape_of-table-in_err-so_far t c =
    c.walk_entry.auto.table ∙ c.loop-at.invariant.0 ∙ sym c.requires.table_len.0

pub walk_directory-returns-in_err-so_far : goal.walk_directory-returns-in_err-so_far
walk_directory-returns-in_err-so_far t c =
    let s = c.requires in
    let i = c.loop-at.invariant in
    let n = entry_answer _ _ _ _ c.next_entry.ensures _ c.in-Some.is in
    let e = plain_answer _ _ _ c.item.result c.item.ensures _ c.in-Plain.is in
    rw (passed_up c.from_residual-in_err-so_far.result _ c.from_residual-in_err-so_far.ensures.1)
    (whole_refused (views_of _ _) (is_claimed _ _ _ _ _ c.claim_chain.ensures c.in_ok-chain.was (length_exact _ _ s.table_len.0) s.table_len.1) c.args.levels c.args.name _
    (λ others ls r d. left_refused (i.3 others ls r d) n e.0 e.1 _ _ c.walk_entry.ensures _ c.in_err-so_far.was))

pub walk_directory-loop-at-smaller : goal.walk_directory-loop-at-smaller
walk_directory-loop-at-smaller t c =
    let i = c.loop-at.invariant in
    let n = entry_answer _ _ _ _ c.next_entry.ensures _ c.in-Some.is in
    let o = some_to_go _ _ c.count_of-count.ensures.0 i.1 i.3 n i.2 in
    omega arith

pub walk_directory-loop-at-preserved : goal.walk_directory-loop-at-preserved
walk_directory-loop-at-preserved t c =
    let i = c.loop-at.invariant in
    let n = entry_answer _ _ _ _ c.next_entry.ensures _ c.in-Some.is in
    let e = plain_answer _ _ _ c.item.result c.item.ensures _ c.in-Plain.is in
    let o = some_to_go _ _ c.count_of-count.ensures.0 i.1 i.3 n i.2 in (
      c.walk_entry.auto.table ∙ i.0,
      i.1,
      omega (arith, i.2),
      λ claimed ls r d. left_entry (i.3 claimed ls r d) n e.0 e.1 _ _ c.walk_entry.ensures (length_exact _ _ i.0) _ c.in_ok-so_far.was _ _ c.past-slot.ensures (omega (arith, i.2)),
    )

pub walk_directory-returns-in_err-chain : goal.walk_directory-returns-in_err-chain
walk_directory-returns-in_err-chain t c =
    λ claimed h.
    rw (passed_up c.from_residual.result _ c.from_residual.ensures.1)
    (refused_directory _ _ _ _ _ _ _ _ _ c.claim_chain.ensures c.args.levels c.args.name _ c.in_err-chain.was claimed h)

pub walk_entry-overflow_sub-parent : goal.walk_entry-overflow_sub-parent
walk_entry-overflow_sub-parent t c =
    c.requires.table_len.3.most

pub walk_entry-judge_entry-requires : goal.walk_entry-judge_entry-requires
walk_entry-judge_entry-requires t c = record { fit = c.requires.fit; has_entries = (c.requires.table_len.1, c.requires.table_len.4) }

pub walk_entry-returns-in_err-judge_entry : goal.walk_entry-returns-in_err-judge_entry
walk_entry-returns-in_err-judge_entry t c =
    λ claimed seen h m.
    let a = c.args in
    rw (passed_up c.from_residual.result _ c.from_residual.ensures.1)
    (entry_refused a.g (views_of a.g a.image.now) a.levels a.parent.name a.parent.start claimed a.page seen a.e _
    (ap answer_of (sym c.in_err-judge_entry.was) ∙ c.judge_entry.ensures seen m))

pub walk_entry-walk_file-requires : goal.walk_entry-walk_file-requires
walk_entry-walk_file-requires t c =
    let s = c.requires in record { fit = s.fit; table_len = (s.table_len.0, s.table_len.2) }

pub walk_entry-returns-then-not-is_directory : goal.walk_entry-returns-then-not-is_directory
walk_entry-returns-then-not-is_directory t c =
    λ claimed seen h m.
    let a = c.args in
    file_entry_lem a.g (views_of a.g a.image.now) a.levels a.parent.name a.parent.start claimed a.page seen a.e
    (ap answer_of (sym c.in_ok-judge_entry.was) ∙ c.judge_entry.ensures seen m)
    (sym c.is_directory.ensures ∙ c.if-not-is_directory.true) a.totals (records_of a.table.now) c.walk_file.result
    (records_of c.walk_file.new.table) (c.walk_file.ensures claimed h)

pub walk_entry-returns-in_err-judge_below : goal.walk_entry-returns-in_err-judge_below
walk_entry-returns-in_err-judge_below t c =
    λ claimed seen h m.
    let a = c.args in
    rw (passed_up c.from_residual-in_err-judge_below.result _ c.from_residual-in_err-judge_below.ensures.1)
    (entry_below a.g (views_of a.g a.image.now) a.levels a.parent.name a.parent.start claimed a.page seen a.e
    (ap answer_of (sym c.in_ok-judge_entry.was) ∙ c.judge_entry.ensures seen m)
    (sym c.is_directory.ensures ∙ c.if-not-is_directory.false) _ (ap answer_of (sym c.in_err-judge_below.was) ∙ c.judge_below.ensures))

pub walk_entry-overflow_add-owner : goal.walk_entry-overflow_add-owner
walk_entry-overflow_add-owner t c =
    let s = c.requires in
    let k = totals_fit _ _ _ s.table_len.2 (length_exact _ _ s.table_len.0) s.fit.valid.few in
    omega arith

pub walk_entry-overflow_add-owner-2 : goal.walk_entry-overflow_add-owner-2
walk_entry-overflow_add-owner-2 t c =
    let s = c.requires in
    let k = totals_fit _ _ _ s.table_len.2 (length_exact _ _ s.table_len.0) s.fit.valid.few in
    omega arith

pub walk_entry-overflow_add-inside : goal.walk_entry-overflow_add-inside
walk_entry-overflow_add-inside t c =
    let s = c.requires in
    let k = totals_fit _ _ _ s.table_len.2 (length_exact _ _ s.table_len.0) s.fit.valid.few in
    omega arith

pub walk_entry-overflow_sub-levels : goal.walk_entry-overflow_sub-levels
walk_entry-overflow_sub-levels t c =
    let k = below_some _ _ _ (ap answer_of (sym c.in_ok-judge_below.was) ∙ c.judge_below.ensures) in
    omega arith

pub walk_entry-walk_directory-requires : goal.walk_entry-walk_directory-requires
walk_entry-walk_directory-requires t c =
    let s = c.requires in
    let k = below_some _ _ _ (ap answer_of (sym c.in_ok-judge_below.was) ∙ c.judge_below.ensures) in
    (omega (arith, c.decreases, s.table_len.3.some), (s.fit, (s.table_len.0, below_ready _ _ _ s.table_len.2 (length_exact _ _ s.table_len.0) s.fit.valid.few)))

pub walk_entry-returns : goal.walk_entry-returns
walk_entry-returns t c =
    λ claimed seen h m.
    let a = c.args in
    entry_directory a.g (views_of a.g a.image.now) a.levels a.parent.name a.parent.start claimed a.page seen a.e
    (ap answer_of (sym c.in_ok-judge_entry.was) ∙ c.judge_entry.ensures seen m)
    (sym c.is_directory.ensures ∙ c.if-not-is_directory.false) (ap answer_of (sym c.in_ok-judge_below.was) ∙ c.judge_below.ensures) a.totals _
    (records_of a.table.now) refl c.walk_directory.result (records_of c.walk_directory.new.table) (c.walk_directory.ensures claimed h)
