-- A packet's data has at least 27 bytes, more than a control field, so the difference is the room for entries; it is divided by an entry's size.
use native.Mathlib.Omega.{arith}
use Rattle.geometry.specs.Geometry.{data_capacity}
use Rattle.geometry.proofs.Shapes.{first_is}
use Rattle.geometry.proofs.Geometry.first_entries.Goals as goal

pub overflow_sub-result : goal.overflow_sub-result
unfolding data_capacity
overflow_sub-result c = omega arith

pub returns : goal.returns
returns c = first_is _ _ _ _ c.data_capacity.ensures c.entry_size.ensures.0 c.control_size.ensures.0
