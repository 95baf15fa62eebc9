-- Limit and greatest are read back from their bits as they were stored.
use mir.Syntax.{w32}
use mir.Val.{SFits}
use mir.Facts.{to_z-of_z}
use native.Mathlib.Omega.{arith}
use Rattle.answers.specs.ExportedReports.{report_of}
use Rattle.answers.proofs.ReportFromOwfsReport.from.Goals as goal

pub returns : goal.returns
unfolding report_of
returns c =
    let told = c.args.told in
    let f : SFits w32 told.limit = record { sfits = omega arith } in
    let g : SFits w32 told.greatest = record { sfits = omega arith } in
    simp (to_z-of_z f, to_z-of_z g, c.version_of.ensures)
