-- The walk of a directory, begun at page 0 with eight levels below it and no entry met. The owner numbers suffice:
-- with more than 65,532 pages the bitmap file has taken one.
use native.Mathlib.Omega.{arith}
use Rattle.directory.specs.Faults.{test_of}
use Rattle.volume.proofs.walk_root.Goals as goal

pub walk_directory-requires : goal.walk_directory-requires
walk_directory-requires c =
    let s = c.requires in record { fit = s.fit; table_len = (s.table_len.0, record { used_is = s.table_len.1; below = omega arith; spare = λ i. omega (arith, s.table_len.2 i); some = omega arith; few = λ i. omega arith }) }

pub returns : goal.returns
unfolding test_of
returns c = λ claimed h. c.walk_directory.ensures claimed h
