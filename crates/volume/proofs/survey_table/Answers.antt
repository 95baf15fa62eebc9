-- The scan begins with an empty table and page 0's control field. Done, its table has the owners of the tree's pages, against which the marks are surveyed.
use mathlib.Core.Path.{ap, sym, ◌∙◌}
use Rattle.owners.specs.Records.{records_of}
use Rattle.owners.specs.RecordLaws.{length_exact, empty_zero}
use Rattle.rules.specs.Answers.{answer_of}
use Rattle.rules.proofs.ResultLaws.{clash}
use Rattle.volume.proofs.ScanLaws.{root_refused}
use Rattle.volume.proofs.CheckLaws.{scan_done}
use Rattle.volume.proofs.SurveyLaws.{no_scan, table_surveyed}
use Rattle.volume.proofs.survey_table.Goals as goal

pub scan-requires : goal.scan-requires
scan-requires c =
    let s = c.requires in
    record { fit = s.fit; empty = (empty_zero c.args.g.pages c.args.table.now _ s.table_len c.clear.ensures, ap answer_of (sym c.in-Ok.is) ∙ c.root_of.ensures) }

pub survey-requires : goal.survey-requires
survey-requires c =
    let k = scan_done _ _ _ _ _ c.scan.ensures c.in-Ok-scan.is in
    record { fit = c.requires.fit; root_value = (ap answer_of (sym c.in-Ok.is) ∙ c.root_of.ensures, (k.scanned, k.scan_is)) }

pub returns-in_default : goal.returns-in_default
returns-in_default c =
    λ s e. clash (sym (root_refused _ _ _ (ap answer_of (sym c.in_default.is) ∙ c.root_of.ensures)) ∙ e)

pub returns-in_default-scan : goal.returns-in_default-scan
returns-in_default-scan c =
    no_scan _ _ c.scan.result (records_of c.scan.new.table) _ c.scan.ensures c.in_default-scan.is

pub returns : goal.returns
returns c =
    let k = scan_done _ _ _ _ _ c.scan.ensures c.in-Ok-scan.is in
    table_surveyed _ _ _ _ k (length_exact _ _ (c.scan.auto.table ∙ c.clear.auto.table ∙ c.requires.table_len)) c.survey.result c.survey.ensures
