use native.Mathlib.Omega.{arith}
use Rattle.owners.specs.Records.{records_of}
use Rattle.marks.proofs.Filling.{none_filled, filled_on}
use Rattle.marks.proofs.fill.Goals as goal

pub loop-i-init : goal.loop-i-init
loop-i-init c = let a = c.args in none_filled (records_of a.table.now) a.below a.bytes.now a.k

pub loop-i-preserved : goal.loop-i-preserved
loop-i-preserved c =
    let a = c.args in
    let l = c.loop-i in
    filled_on (records_of a.table.now) a.below l.bytes a.k l.i _ (omega arith) l.invariant c.byte_of.ensures
