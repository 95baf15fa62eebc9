-- The scan begins with an empty table and page 0's control field. Done, its table has the owners of the tree's pages, with which the bitmap is compared: 13 for the lowest bit that differs.
use mathlib.Core.Path.{ap, sym, ◌∙◌}
use Rattle.rules.specs.Answers.{answer_of}
use Rattle.rules.proofs.AnswerLaws.{passed_up}
use Rattle.volume.proofs.ScanLaws.{root_refused, check_refused}
use Rattle.volume.proofs.CheckLaws.{scan_done, scan_fault, table_differs, table_same}
use Rattle.volume.proofs.judge.Goals as goal

pub returns-in_err-root : goal.returns-in_err-root
returns-in_err-root c =
    let e = ap answer_of (sym c.in_err-root.was) ∙ c.root_of.ensures in
    rw (passed_up c.from_residual.result _ c.from_residual.ensures.1) (check_refused _ _ _ _ (root_refused _ _ _ e))

pub scan-requires : goal.scan-requires
scan-requires c = record { fit = c.requires.fit; empty = (c.requires.empty, ap answer_of (sym c.in_ok-root.was) ∙ c.root_of.ensures) }

pub returns-in_err-totals : goal.returns-in_err-totals
returns-in_err-totals c =
    rw (passed_up c.from_residual-in_err-totals.result _ c.from_residual-in_err-totals.ensures.1) (scan_fault _ _ _ _ _ c.scan.ensures c.in_err-totals.was)

pub compare-requires : goal.compare-requires
compare-requires c =
    let k = scan_done _ _ _ _ _ c.scan.ensures c.in_ok-totals.was in
    record { fit = c.requires.fit; root_value = (ap answer_of (sym c.in_ok-root.was) ∙ c.root_of.ensures, (k.scanned, k.scan_is)) }

pub returns-in-Some : goal.returns-in-Some
returns-in-Some c =
    let k = scan_done _ _ _ _ _ c.scan.ensures c.in_ok-totals.was in
    table_differs _ _ _ _ k _ c.compare.ensures _ c.in-Some.is

pub returns : goal.returns
returns c =
    let k = scan_done _ _ _ _ _ c.scan.ensures c.in_ok-totals.was in
    table_same _ _ _ _ k _ c.compare.ensures c.in_default.is
