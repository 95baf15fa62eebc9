use mathlib.Core.Path.{◌≡◌, sym, ◌∙◌, subst}
use Prim.Native.Nat.{ℕ, ◌*◌}
use native.Mathlib.Omega.{arith}
use lib.ListN.{length}
use borrow.Author.Tests.{not-false}
use Rattle.owners.specs.Records.{records_of}
use Rattle.bitmap.proofs.SurveyLaws.{Surveyed, none, more, fails, covered, not_true}
use Rattle.bitmap.proofs.survey_bytes.Goals as goal

pub loop-k-init : goal.loop-k-init
loop-k-init c = let a = c.args in record { few = omega arith; surveyed = none a.bytes.now a.at (records_of a.table.now) a.passed }

pub returns-then-is_uncovered : goal.returns-then-is_uncovered
returns-then-is_uncovered c =
    let e = c.pages_of-pages.ensures in
    let a = c.args in
    fails a.bytes.now a.at (records_of a.table.now) a.passed c.loop-k.k _ _ c.loop-k-test.true c.bit_of-marked.ensures c.bit-owned.ensures.0
    (not_true _ (sym (rw e at c.is_uncovered.ensures) ∙ c.if-is_uncovered.true))

pub overflow_sub-unowned : goal.overflow_sub-unowned
overflow_sub-unowned c =
    let e = c.pages_of-pages.ensures in
    let a = c.args in
    covered (records_of a.table.now) _ _ _ c.bit-owned.ensures.0 (not-false _ (sym (rw e at c.is_uncovered.ensures) ∙ c.if-is_uncovered.false))

pub overflow_add-unowned : goal.overflow_add-unowned
overflow_add-unowned c =
    let l = c.loop-k in
    omega (arith, l.invariant.few, l.auto.k-end, c.requires.0, c.requires.1, c.requires.2, c.bit_of-marked.ensures)

pub loop-k-preserved : goal.loop-k-preserved
loop-k-preserved c =
    let e = c.pages_of-pages.ensures in
    let a = c.args in
    let l = c.loop-k in
    record {
      few = omega (arith, l.invariant.few, c.bit_of-marked.ensures);
      surveyed = more a.bytes.now a.at (records_of a.table.now) a.passed l.k _ _ c.loop-k-test.true c.bit_of-marked.ensures c.bit-owned.ensures.0 l.unowned l.invariant.surveyed
          (not-false _ (sym (rw e at c.is_uncovered.ensures) ∙ c.if-is_uncovered.false));
    }

pub returns : goal.returns
returns c =
    let a = c.args in
    let l = c.loop-k in
    let e : l.k ≡ 8 * length a.bytes.now = omega (arith, l.auto.k-end, c.loop-k-test.false) in
    subst (λ (k : ℕ). Surveyed a.bytes.now a.at (records_of a.table.now) a.passed k l.unowned) e l.invariant.surveyed
