-- Totals and a refusal are the two cases of `totals_for`: 0 with the three totals, or number and page with zeros.
-- Totals below 65536 and a page below 131072 keep their value in 32 bits.
use native.Mathlib.Omega.{arith}
use Rattle.rules.specs.Answers.{answer_of}
use Rattle.answers.specs.Small.{TotalsSmall}
use Rattle.answers.proofs.Telling.{small_as}
use Rattle.answers.proofs.tell.Goals as goal

pub overflow_cast-result : goal.overflow_cast-result
overflow_cast-result c =
    omega (arith, small_as TotalsSmall answer_of _ _ c.requires c.in-Ok.is)

pub overflow_cast-result-in-Ok : goal.overflow_cast-result-in-Ok
overflow_cast-result-in-Ok c =
    omega (arith, small_as TotalsSmall answer_of _ _ c.requires c.in-Ok.is)

pub overflow_cast-result-in-Ok-2 : goal.overflow_cast-result-in-Ok-2
overflow_cast-result-in-Ok-2 c =
    omega (arith, small_as TotalsSmall answer_of _ _ c.requires c.in-Ok.is)

pub overflow_cast-result-in-Err : goal.overflow_cast-result-in-Err
overflow_cast-result-in-Err c =
    omega (arith, small_as TotalsSmall answer_of _ _ c.requires c.in-Err.is)

pub returns-in-Ok : goal.returns-in-Ok
returns-in-Ok c =
    rw c.in-Ok.is

pub returns-in-Err : goal.returns-in-Err
returns-in-Err c = rw (c.in-Err.is, c.from.ensures, c.number.ensures)
