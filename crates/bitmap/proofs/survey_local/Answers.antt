-- The four bytes of a local bitmap are the whole bitmap, and none stand before them.
use Rattle.owners.specs.Records.{records_of}
use Rattle.bitmap.proofs.SurveyLaws.{surveyed_all}
use Rattle.bitmap.proofs.survey_local.Goals as goal

pub returns : goal.returns
returns c =
    let a = c.args in
    surveyed_all a.bytes.now (records_of a.table.now) c.survey_bytes.result c.survey_bytes.ensures
