use Rattle.std.proofs.Common.{arith, length-take}
use Rattle.text.proofs.Steps.{nothing, byte_more}
use Rattle.text.proofs.put_bytes.Goals as goal

pub loop-c-init : goal.loop-c-init
loop-c-init c = nothing

pub put_byte-next-requires : goal.put_byte-next-requires
put_byte-next-requires c = omega (arith, c.loop-c.invariant.position, length-take c.loop-c.c-index c.args.bytes.now)

pub loop-c-preserved : goal.loop-c-preserved
loop-c-preserved c = byte_more c.args.bytes.now c.loop-c.c-index (omega arith) c.loop-c.invariant c.put_byte-next.ensures
