use native.Mathlib.Omega.{arith}
use Rattle.geometry.proofs.Numbers.{write_more}
use Rattle.geometry.proofs.write_number.Goals as goal

pub loop-byte-preserved : goal.loop-byte-preserved
loop-byte-preserved c = write_more _ _ _ _ (omega arith) c.loop-byte.invariant
