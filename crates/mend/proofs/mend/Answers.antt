-- Refusal 1 leaves image and table as they are. Else `mend_in` works on the first N records of the table, and what is behind them stays: that is `mend_call`.
-- `Mends`, what the call promises of its image, holds of every answer of it.
use Rattle.rules.specs.Result.{Res}
use Rattle.rules.proofs.AnswerLaws.{misfit_up}
use mathlib.Core.Path.{ap, sym, ◌∙◌}
use Prim.Native.Nat.{ℕ}
use native.Mathlib.Omega.{arith}
use lib.Seq.{length-take-le}
use Rattle.geometry.specs.ShapeLaws.{made_of, sized_of, fit_of}
use Rattle.careful_theorems.proofs.CarefulCalls.{mend_invalid}
use Rattle.mend.proofs.Mending.{mend_left, mend_is}
use Rattle.mend.proofs.mend.Goals as goal

pub overflow_mul-end : goal.overflow_mul-end
overflow_mul-end c =
    let a = c.args in
    omega (arith, (sized_of a.size a.pages _ _ _ (made_of _ _ (sym c.new.ensures ∙ c.in_ok-g.was))).valid.few)

pub slice_bounds-mend_in-end : goal.slice_bounds-mend_in-end
slice_bounds-mend_in-end c =
    let a = c.args in
    (sized_of a.size a.pages _ _ _ (made_of _ _ (sym c.new.ensures ∙ c.in_ok-g.was))).room

pub slice_bounds-mend_in-end-2 : goal.slice_bounds-mend_in-end-2
slice_bounds-mend_in-end-2 c =
    let a = c.args in
    sym (length-take-le _ _ (sized_of a.size a.pages _ _ _ (made_of _ _ (sym c.new.ensures ∙ c.in_ok-g.was))).room)

pub mend_in-requires : goal.mend_in-requires
mend_in-requires c =
    let a = c.args in
    let e = made_of _ _ (sym c.new.ensures ∙ c.in_ok-g.was) in record { fit = fit_of a.size a.pages a.image.now a.table.now _ e; table_len = length-take-le _ a.table.now (sized_of a.size a.pages _ _ _ e).room }

pub returns-in_err-g : goal.returns-in_err-g
returns-in_err-g c =
    let a = c.args in
    let m = misfit_up c.from_residual.result _ _ c.from_residual.ensures.1 (sym c.new.ensures ∙ c.in_err-g.was) in
    let e = ap (λ (x : Res ℕ). (x, a.image.now, a.table.now)) m.1 ∙ sym (mend_invalid a.size a.pages a.image.now a.table.now m.0) in record {
      table_after = e;
      mends = mend_is a.size a.pages a.image.now a.table.now (λ i. (c.slice_known-1.given i).fits) c.from_residual.result a.image.now a.table.now e;
    }

pub returns : goal.returns
returns c =
    let a = c.args in
    let f = made_of _ _ (sym c.new.ensures ∙ c.in_ok-g.was) in
    let part = c.mend_in.new.table in
    let l = c.mend_in.auto.table ∙ length-take-le _ a.table.now (sized_of a.size a.pages _ _ _ f).room in
    let e = mend_left a.size a.pages a.image.now a.table.now _ f part l (λ i. (c.type_inv.table i).fits) c.mend_in.result _ c.mend_in.ensures in record {
      table_after = e;
      mends = mend_is a.size a.pages a.image.now a.table.now (λ i. (c.slice_known-1.given i).fits) c.mend_in.result _ _ e;
    }
