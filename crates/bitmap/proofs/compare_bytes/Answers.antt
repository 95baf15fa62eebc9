use mathlib.Core.Path.{sym, ◌∙◌}
use native.Mathlib.Omega.{arith}
use Rattle.owners.specs.Records.{records_of}
use Rattle.bitmap.proofs.BitLaws.{right_on, part_same, part_differ}
use Rattle.bitmap.proofs.compare_bytes.Goals as goal

pub loop-k-init : goal.loop-k-init
loop-k-init c = λ j h. absurd (omega arith)

pub returns-then-bit_of-bit : goal.returns-then-bit_of-bit
returns-then-bit_of-bit c =
    let a = c.args in
    let l = c.loop-k in
    part_differ a.bytes.now _ (records_of a.table.now) l.k c.loop-k-test.true l.invariant (λ e. c.if-bit_of-bit.true (c.bit_of.ensures ∙ e ∙ sym c.bit.ensures.0))

pub loop-k-preserved : goal.loop-k-preserved
loop-k-preserved c =
    let a = c.args in
    let l = c.loop-k in
    right_on a.bytes.now _ (records_of a.table.now) l.k l.invariant (sym c.bit_of.ensures ∙ c.if-bit_of-bit.false ∙ c.bit.ensures.0)

pub returns : goal.returns
returns c =
    let a = c.args in
    let l = c.loop-k in
    part_same a.bytes.now _ (records_of a.table.now) l.k l.auto.k-end c.loop-k-test.false l.invariant
