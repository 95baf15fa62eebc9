-- No number but 1 and 2 is a version's.
use native.Mathlib.Omega.{arith}
use Rattle.answers.proofs.ReportTelling.{asked_one, asked_two, asked_none}
use Rattle.answers.proofs.asked_version.Goals as goal

pub returns-in-1 : goal.returns-in-1
returns-in-1 c = asked_one _ _ c.in-1.is

pub returns-in-2 : goal.returns-in-2
returns-in-2 c = asked_two _ _ c.in-2.is

pub returns-in_default : goal.returns-in_default
returns-in_default c = asked_none c.args.number _ (omega arith) (omega arith)
