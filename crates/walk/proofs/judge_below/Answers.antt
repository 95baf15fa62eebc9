-- The three tests of a subdirectory's entry, in their order.
use Rattle.walk.proofs.Parts.{below_deep, below_counted, below_none, below_good}
use Rattle.walk.proofs.judge_below.Goals as goal

pub returns-then-levels-eq0 : goal.returns-then-levels-eq0
returns-then-levels-eq0 c = below_deep _ _ c.args.e c.if-levels-eq0.true

pub returns-then-e-ne0 : goal.returns-then-e-ne0
returns-then-e-ne0 c = below_counted _ _ c.args.e c.if-levels-eq0.false c.if-e-ne0.true

pub returns-then-e-eq0 : goal.returns-then-e-eq0
returns-then-e-eq0 c = below_none _ _ c.args.e c.if-levels-eq0.false c.if-e-ne0.false c.if-e-eq0.true

pub returns : goal.returns
returns c = below_good _ _ c.args.e c.if-levels-eq0.false c.if-e-ne0.false c.if-e-eq0.false
