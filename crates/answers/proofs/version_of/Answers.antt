-- 0 is a report without weight; any other number is as when it is asked for.
use native.Mathlib.Omega.{arith}
use Rattle.answers.proofs.ReportTelling.{version_none, version_some}
use Rattle.answers.proofs.version_of.Goals as goal

pub returns-in-0 : goal.returns-in-0
returns-in-0 c = version_none _ _ c.in-0.is

pub returns-in_default : goal.returns-in_default
returns-in_default c = version_some c.args.number _ _ (omega arith) c.asked_version.ensures
