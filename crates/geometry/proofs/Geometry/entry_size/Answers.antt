-- Five bytes of name and extension, and two page numbers of one or two bytes each: 7 or 9.
use native.Mathlib.Omega.{arith}
use Rattle.geometry.specs.Geometry.{entry_size}
use Rattle.geometry.proofs.Geometry.entry_size.Goals as goal

pub returns : goal.returns
unfolding entry_size
returns c = omega arith
