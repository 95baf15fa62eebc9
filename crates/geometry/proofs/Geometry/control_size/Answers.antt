-- Six bytes and a page number of one or two: 7 or 8.
use native.Mathlib.Omega.{arith}
use Rattle.geometry.specs.Geometry.{control_size}
use Rattle.geometry.proofs.Geometry.control_size.Goals as goal

pub returns : goal.returns
unfolding control_size
returns c = omega arith
