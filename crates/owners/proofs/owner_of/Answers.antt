-- The first two bytes of the page's record.
use native.Mathlib.Omega.{arith}
use Rattle.owners.specs.RecordLaws.{owner_at_lem}
use Rattle.owners.proofs.owner_of.Goals as goal

pub returns : goal.returns
returns c = omega (arith, owner_at_lem _ _ c.requires)
