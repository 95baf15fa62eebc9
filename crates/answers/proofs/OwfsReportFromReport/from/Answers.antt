-- Limit and greatest are read back from their bits as they were stored.
use mir.Syntax.{w32}
use mir.Val.{SFits}
use mir.Facts.{to_z-of_z}
use native.Mathlib.Omega.{arith}
use Rattle.answers.specs.ExportedReports.{report_for}
use Rattle.answers.proofs.OwfsReportFromReport.from.Goals as goal

pub returns : goal.returns
unfolding report_for
returns c =
    let report = c.args.report in
    let f : SFits w32 report.limit = record { sfits = omega arith } in
    let g : SFits w32 report.greatest = record { sfits = omega arith } in
    simp (to_z-of_z f, to_z-of_z g, c.from.ensures, c.tell_knee-knee.ensures, c.tell_version-number.ensures)
