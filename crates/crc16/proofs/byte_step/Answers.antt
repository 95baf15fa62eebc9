use mathlib.Core.Path.{◌∙◌}
use native.Mathlib.Omega.{arith}
use Rattle.crc16.specs.Crc16.{byte_step}
use Rattle.crc16.proofs.Steps.{odd_step, even_step, one_more, all_eight}
use Rattle.crc16.proofs.byte_step.Goals as goal
use Rattle.crc16.proofs.byte_step.Goals.{then-r-eq1, else-r-eq1}

pub loop-preserved : goal.loop-preserved
loop-preserved c =
    one_more _ _ _ _ (omega (arith, c.loop-test.true)) c.loop.invariant
    (elim c.if-r-eq1.branch [ then-r-eq1 w ↦ w.r-is ∙ odd_step _ w.if-r-eq1.true | else-r-eq1 w ↦ w.r-is ∙ even_step _ w.if-r-eq1.false ])

pub returns : goal.returns
unfolding byte_step
returns c =
    all_eight _ _ _ c.loop-test.false c.loop.invariant
