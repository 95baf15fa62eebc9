-- Level, start page and page count of a line are below 65536 and its length below 2^24, so that they stay what they are in 32 bits.
-- Name, extension and attribute were never longer. A refusal has zeros in the place of a line, as `entry_for` says.
use native.Mathlib.Omega.{arith}
use Rattle.rules.specs.Answers.{answer_of}
use Rattle.answers.specs.Small.{LineSmall}
use Rattle.answers.proofs.Telling.{small_as}
use Rattle.answers.proofs.tell_entry.Goals as goal

pub overflow_cast-result : goal.overflow_cast-result
overflow_cast-result c =
    omega (arith, small_as LineSmall answer_of _ _ c.requires c.in-Ok.is)

pub overflow_cast-result-in-Ok : goal.overflow_cast-result-in-Ok
overflow_cast-result-in-Ok c =
    omega (arith, small_as LineSmall answer_of _ _ c.requires c.in-Ok.is)

pub overflow_cast-result-in-Ok-2 : goal.overflow_cast-result-in-Ok-2
overflow_cast-result-in-Ok-2 c =
    omega (arith, small_as LineSmall answer_of _ _ c.requires c.in-Ok.is)

pub overflow_cast-result-in-Ok-3 : goal.overflow_cast-result-in-Ok-3
overflow_cast-result-in-Ok-3 c =
    omega (arith, small_as LineSmall answer_of _ _ c.requires c.in-Ok.is)

pub overflow_cast-result-in-Err : goal.overflow_cast-result-in-Err
overflow_cast-result-in-Err c =
    omega (arith, small_as LineSmall answer_of _ _ c.requires c.in-Err.is)

pub returns-in-Ok : goal.returns-in-Ok
returns-in-Ok c =
    rw (c.in-Ok.is, c.from.ensures, c.from-in-Ok.ensures)

pub returns-in-Err : goal.returns-in-Err
returns-in-Err c = rw (c.in-Err.is, c.from-in-Err.ensures, c.number.ensures)
