-- No bytes take one page; the quotient is small enough to add one.
use native.Mathlib.Omega.{arith}
use Rattle.writes.proofs.Storing.{no_bytes, quotient_small}
use Rattle.writes.proofs.pages_for.Goals as goal

pub returns-then-bytes-eq0 : goal.returns-then-bytes-eq0
returns-then-bytes-eq0 c = no_bytes _ _ c.if-bytes-eq0.true

pub overflow_add-result : goal.overflow_add-result
overflow_add-result c = omega (arith, quotient_small c.args.capacity c.args.bytes)
