use native.Mathlib.Omega.{arith}
use Rattle.geometry.proofs.Numbers.{read_fits}
use Rattle.geometry.proofs.read_number.Goals as goal

pub overflow_mul-value : goal.overflow_mul-value
overflow_mul-value c = omega (arith, read_fits _ _ _ c.requires c.loop-byte.invariant)

pub overflow_add-value : goal.overflow_add-value
overflow_add-value c = omega (arith, read_fits _ _ _ c.requires c.loop-byte.invariant)
