-- The name's four bytes, the lowest first, one after the other without blanks: what is left out of each is what is left out of the whole.
use Rattle.std.proofs.Common.{arith}
use Rattle.text.proofs.Steps.{name_none, name_more, name_all}
use Rattle.text.proofs.put_name.Goals as goal

pub loop-c-init : goal.loop-c-init
loop-c-init c = record { written = name_none; room = omega arith }

pub put_visible-next-requires : goal.put_visible-next-requires
put_visible-next-requires c = omega (arith, c.loop-c.invariant.room)

pub loop-c-preserved : goal.loop-c-preserved
loop-c-preserved c =
    let i = c.loop-c.invariant in
    let n = c.put_visible-next.ensures in
    record { written = name_more c.to_le_bytes-c-items.result c.loop-c.c-index (omega arith) i.written n.0; room = omega (arith, i.room, n.1) }

pub returns : goal.returns
returns c =
    let i = c.loop-c.invariant in
    (name_all c.args.name c.to_le_bytes-c-items.result c.loop-c.c-index c.to_le_bytes-c-items.ensures (omega arith) i.written, omega (arith, i.room))
