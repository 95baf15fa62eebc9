-- A packet has three bytes besides data and pointer; P is at least 32, so the difference is exact.
use mathlib.Core.Path.{refl}
use native.Mathlib.Omega.{arith}
use Rattle.geometry.specs.Geometry.{data_capacity}
use Rattle.geometry.proofs.Geometry.data_capacity.Goals as goal

pub overflow_sub-result-2 : goal.overflow_sub-result-2
unfolding data_capacity
overflow_sub-result-2 c = omega arith

pub returns : goal.returns
unfolding data_capacity
returns c = refl
