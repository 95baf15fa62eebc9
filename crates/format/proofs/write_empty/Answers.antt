-- `emptied` has two cases, by where the bitmap is to stand; each is what one of the two writers leaves.
use mathlib.Core.Bool.{true, false}
use Rattle.format.proofs.Emptying.{emptied_as}
use Rattle.format.proofs.write_empty.Goals as goal

pub returns-then-local : goal.returns-then-local
returns-then-local c =
    emptied_as c.args.g _ true _ _ c.if-local.true c.write_local.ensures

pub returns-else-local : goal.returns-else-local
returns-else-local c =
    emptied_as c.args.g _ false _ _ c.if-local.false c.write_file.ensures
