-- In the table its number decides; past it there is no owner.
use native.Mathlib.Omega.{arith}
use Rattle.owners.specs.RecordLaws.{length_records}
use Rattle.owners.proofs.Finding.{owned_in, owned_past}
use Rattle.owners.proofs.is_owned.Goals as goal

pub owner_of-requires : goal.owner_of-requires
owner_of-requires c = omega (arith, c.if-page-pages_of.true, c.pages_of.ensures, length_records c.args.table.now)

pub returns-then-page-pages_of : goal.returns-then-page-pages_of
returns-then-page-pages_of c = owned_in _ _ _ c.owner_of.ensures

pub returns : goal.returns
returns c = owned_past _ _ (omega (arith, c.if-page-pages_of.false, c.pages_of.ensures))
