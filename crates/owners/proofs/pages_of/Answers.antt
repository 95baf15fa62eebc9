-- A table has a record for each four bytes.
use mathlib.Core.Path.{sym}
use Rattle.owners.specs.RecordLaws.{length_records}
use Rattle.owners.proofs.pages_of.Goals as goal

pub returns : goal.returns
returns c = sym (length_records _)
