-- The front, the new bytes and the rest are put one after the other; each begins where the one before ends, and the output's other bytes stay.
use mathlib.Core.Path.{sym}
use native.Mathlib.Omega.{arith}
use lib.Seq.{length-take-le}
use Rattle.writes.proofs.Cutting.{splice_is}
use Rattle.writes.proofs.splice.Goals as goal

pub slice_bounds-put_bytes-end : goal.slice_bounds-put_bytes-end
slice_bounds-put_bytes-end c =
    sym (length-take-le c.args.from c.args.bytes.now (omega (arith, c.requires)))

pub put_bytes-requires : goal.put_bytes-requires
put_bytes-requires c =
    omega (arith, length-take-le c.args.from c.args.bytes.now (omega (arith, c.requires)), c.requires)

pub returns : goal.returns
returns c =
    splice_is c.args.bytes.now c.args.new.now c.args.out.now _ _ _ c.args.from c.args.to c.requires.0 c.requires.1 c.put_bytes.ensures
    c.put_bytes-2.ensures c.put_bytes-3.ensures
