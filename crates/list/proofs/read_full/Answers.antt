-- What was read stands at the front, in the order in which it came.
use Rattle.std.proofs.Common.{rules}
use Rattle.list.proofs.Filled.{read_more}
use Rattle.list.proofs.read_full.Goals as goal

pub loop-at-preserved : goal.loop-at-preserved
loop-at-preserved g c =
    let held = c.loop-at.invariant in
    (search rules, search rules, read_more _ _ _ c.loop-at.at c.in_ok-got.got _ c.loop-at.input c.read.new.buf held.0 c.in_ok-got.ensures.bound.0 held.2 c.in_ok-got.ensures.bytes.0)
