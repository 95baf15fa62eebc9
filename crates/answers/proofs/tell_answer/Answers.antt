-- A done edit has no number to tell but 0; of a refusal only the page can be long, and it is below 131072.
use native.Mathlib.Omega.{arith}
use Rattle.rules.specs.Answers.{answer_of}
use Rattle.answers.specs.Small.{DoneSmall}
use Rattle.answers.proofs.Telling.{small_as}
use Rattle.answers.proofs.tell_answer.Goals as goal

pub overflow_cast-result : goal.overflow_cast-result
overflow_cast-result c =
    omega (arith, small_as DoneSmall answer_of _ _ c.requires c.in-Err.is)

pub returns-in-Ok : goal.returns-in-Ok
returns-in-Ok c = rw c.in-Ok.is

pub returns-in-Err : goal.returns-in-Err
returns-in-Err c = rw (c.in-Err.is, c.from.ensures, c.number.ensures)
