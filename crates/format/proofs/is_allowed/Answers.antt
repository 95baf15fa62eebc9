-- A local bitmap has 32 bits, so it is allowed for N up to 32; a bitmap file is allowed always.
use Rattle.format.proofs.Emptying.{allowed_local, allowed_file}
use Rattle.format.proofs.is_allowed.Goals as goal

pub returns-then-local : goal.returns-then-local
returns-then-local c = allowed_local c.args.g _ c.if-local.true

pub returns : goal.returns
returns c = allowed_file c.args.g _ c.if-local.false
