-- The library's report with the version that is asked for, as numbers; the limit is handed on as it came.
use mathlib.Core.Path.{ap, ◌∙◌}
use lib.IntN.{ℤ}
use mir.Facts.{to_z-of_z}
use Rattle.reports.specs.Reports.{started_with}
use Rattle.answers.proofs.ReportTelling.{start_weighted_stated}
use Rattle.owfs.proofs.owfs_report_start_weighted.Goals as goal

pub returns : goal.returns
returns c =
    let a = c.args in
    let same = ap (λ (z : ℤ). started_with z a.margin c.asked_version-asked.result) (to_z-of_z c.ranges.limit) in
    let s = start_weighted_stated a.limit a.margin a.version a.knee _ _ _ c.asked_version-asked.ensures (c.start_weighted.ensures.value ∙ same) c.from.ensures in
    record { value = s.0; tells_with = s.1 }
