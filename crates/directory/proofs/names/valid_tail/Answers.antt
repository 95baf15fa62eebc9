use Rattle.std.proofs.Common.{sym, ◌∙◌, arith}
use Rattle.directory.proofs.NameLaws.{tail_more, tail_blank}
use Rattle.directory.proofs.names.valid_tail.Goals as goal

pub returns-then-not-name_byte : goal.returns-then-not-name_byte
returns-then-not-name_byte c =
    tail_blank c.args.bytes.now c.loop-i.i (omega arith) _ c.name_byte.ensures _ c.if-not-name_byte.true c.all_blank.ensures ∙ sym c.loop-i.invariant

pub loop-i-preserved : goal.loop-i-preserved
loop-i-preserved c = c.loop-i.invariant ∙ tail_more c.args.bytes.now c.loop-i.i (omega arith) _ c.name_byte.ensures c.if-not-name_byte.false
