-- Each bit is at most 1, so that the sum of the four by their weights is the rule's number of them, below 16.
use mathlib.Core.Path.{refl}
use Rattle.owners.specs.Records.{records_of}
use Rattle.marks.proofs.Filling.{four}
use Rattle.marks.proofs.four_bits.Goals as goal

pub returns : goal.returns
returns c =
    let a = c.args in
    four (records_of a.table.now) a.below a.k _ _ _ _ _ c.bit-first.ensures.0 c.bit-second.ensures.0 c.bit-third.ensures.0 c.bit-fourth.ensures.0 refl
