-- A continuation page has no control field: all its data capacity is divided by an entry's size.
use Rattle.geometry.proofs.Shapes.{later_is}
use Rattle.geometry.proofs.Geometry.later_entries.Goals as goal

pub returns : goal.returns
returns c = later_is _ _ 0 _ c.data_capacity.ensures c.entry_size.ensures.0
