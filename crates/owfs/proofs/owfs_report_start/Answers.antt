-- The library's report as numbers; the limit is handed on as it came.
use mathlib.Core.Path.{ap, ◌∙◌}
use lib.IntN.{ℤ}
use mir.Facts.{to_z-of_z}
use Rattle.reports.specs.Reports.{started}
use Rattle.answers.proofs.ReportTelling.{start_stated}
use Rattle.owfs.proofs.owfs_report_start.Goals as goal

pub returns : goal.returns
returns c =
    let same = ap (λ (z : ℤ). started z c.args.margin) (to_z-of_z c.ranges.limit) in
    let s = start_stated c.args.limit c.args.margin _ _ (c.start.ensures.value ∙ same) c.from.ensures in record { value = s.0; tells = s.1 }
