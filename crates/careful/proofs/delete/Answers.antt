-- Refusal 1 leaves image and table as they are. Else `delete_in` works on the first N records of the table, and what is behind them stays: that is `careful_delete_call`.
-- `CarefullyDeletes`, what the call promises of its image, holds of every answer of it.
use Rattle.rules.specs.declared.WriteCount.{WriteCount}
use Rattle.rules.specs.Result.{Res}
use Rattle.rules.proofs.AnswerLaws.{misfit_up}
use mathlib.Core.Path.{ap, sym, ◌∙◌}
use native.Mathlib.Omega.{arith}
use lib.Seq.{length-take-le}
use Rattle.geometry.specs.ShapeLaws.{made_of, sized_of, fit_of}
use Rattle.careful_theorems.proofs.CarefulCalls.{careful_delete_invalid}
use Rattle.careful.proofs.Deleting.{deleted, delete_is}
use Rattle.careful.proofs.delete.Goals as goal

pub overflow_mul-end : goal.overflow_mul-end
overflow_mul-end c =
    let a = c.args in
    omega (arith, (sized_of a.size a.pages _ _ _ (made_of _ _ (sym c.new.ensures ∙ c.in_ok-g.was))).valid.few)

pub slice_bounds-delete_in-end : goal.slice_bounds-delete_in-end
slice_bounds-delete_in-end c =
    let a = c.args in
    (sized_of a.size a.pages _ _ _ (made_of _ _ (sym c.new.ensures ∙ c.in_ok-g.was))).room

pub slice_bounds-delete_in-end-2 : goal.slice_bounds-delete_in-end-2
slice_bounds-delete_in-end-2 c =
    let a = c.args in
    sym (length-take-le _ _ (sized_of a.size a.pages _ _ _ (made_of _ _ (sym c.new.ensures ∙ c.in_ok-g.was))).room)

pub delete_in-requires : goal.delete_in-requires
delete_in-requires c =
    let a = c.args in
    let e = made_of _ _ (sym c.new.ensures ∙ c.in_ok-g.was) in record { fit = fit_of a.size a.pages a.image.now a.table.now _ e; table_len = length-take-le _ a.table.now (sized_of a.size a.pages _ _ _ e).room }

pub returns-in_err-g : goal.returns-in_err-g
returns-in_err-g c =
    let a = c.args in
    let m = misfit_up c.from_residual.result _ _ c.from_residual.ensures.1 (sym c.new.ensures ∙ c.in_err-g.was) in
    let e = ap (λ (x : Res WriteCount). (x, a.image.now, a.table.now)) m.1 ∙ sym (careful_delete_invalid a.size a.pages a.image.now a.table.now m.0 a.allowed a.path.now) in record {
      table_after = e;
      carefully_deletes = delete_is a.size a.pages a.image.now a.table.now a.path.now a.allowed (λ i. (c.slice_known-1.given i).fits) c.from_residual.result a.image.now a.table.now e;
    }

pub returns : goal.returns
returns c =
    let a = c.args in
    let f = made_of _ _ (sym c.new.ensures ∙ c.in_ok-g.was) in
    let part = c.delete_in.new.table in
    let l = c.delete_in.auto.table ∙ length-take-le _ a.table.now (sized_of a.size a.pages _ _ _ f).room in
    let e = deleted a.size a.pages a.image.now a.table.now a.path.now a.allowed _ f part l (λ i. (c.type_inv.table i).fits) c.delete_in.result _ c.delete_in.ensures in record {
      table_after = e;
      carefully_deletes = delete_is a.size a.pages a.image.now a.table.now a.path.now a.allowed (λ i. (c.slice_known-1.given i).fits) c.delete_in.result _ _ e;
    }
