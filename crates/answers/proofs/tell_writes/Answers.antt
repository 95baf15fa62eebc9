-- No more writes are made than a number of 32 bits allows, so their number goes over as it is; a refusal goes over with none made and none left.
use mathlib.Core.Path.{refl}
use native.Mathlib.Omega.{arith}
use Rattle.rules.specs.Answers.{answer_of}
use Rattle.answers.specs.Small.{WritesSmall}
use Rattle.answers.proofs.Telling.{small_as}
use Rattle.answers.proofs.tell_writes.Goals as goal

pub overflow_cast-result : goal.overflow_cast-result
overflow_cast-result c =
    omega (arith, small_as WritesSmall answer_of _ _ c.requires c.in-Ok.is)

pub overflow_cast-result-in-Err : goal.overflow_cast-result-in-Err
overflow_cast-result-in-Err c =
    omega (arith, small_as WritesSmall answer_of _ _ c.requires c.in-Err.is)

pub returns-in-Ok : goal.returns-in-Ok
returns-in-Ok c =
    rw (c.in-Ok.is, c.from.ensures) refl

pub returns-in-Err : goal.returns-in-Err
returns-in-Err c = rw (c.in-Err.is, c.from-in-Err.ensures, c.number.ensures)
