-- The lower four bits, and sixteen times the upper four: together the rule's byte, below 256.
use Rattle.owners.specs.Records.{records_of}
use Rattle.marks.proofs.Filling.{eight}
use Rattle.marks.proofs.byte_of.Goals as goal

pub returns : goal.returns
returns c =
    let a = c.args in
    eight (records_of a.table.now) a.below a.k _ _ c.four_bits.ensures.0 c.four_bits-2.ensures.0
