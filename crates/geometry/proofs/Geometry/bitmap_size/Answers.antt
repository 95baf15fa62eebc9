-- A bit a page, eight to a byte, rounded up: the code's sum is the definition's.
use mathlib.Core.Path.{refl}
use Rattle.geometry.specs.Geometry.{bitmap_size}
use Rattle.geometry.proofs.Geometry.bitmap_size.Goals as goal

pub returns : goal.returns
unfolding bitmap_size
returns c = refl
