-- Refusal 1 leaves the table. Else the check fills the first N records, or leaves them 0, and the bytes behind them stay: that is `check_call`.
-- That it answers 0 exactly for a well-formed image, `Accepts`, is a theorem about `check_call`.
use mathlib.Core.Path.{refl, ap, sym, ◌∙◌}
use native.Mathlib.Omega.{arith}
use lib.Seq.{length-take-le}
use Rattle.geometry.specs.ShapeLaws.{made_of, sized_of, fit_of}
use Rattle.std.specs.Prelude.{Err}
use Rattle.rules.specs.declared.Totals.{Totals}
use Rattle.rules.specs.Result.{Res}
use Rattle.rules.proofs.AnswerLaws.{misfit_up}
use Rattle.rules.proofs.CallLaws.{check_invalid}
use Rattle.volume.proofs.CheckLaws.{checked, accepts}
use Rattle.volume.proofs.check.Goals as goal

pub overflow_mul-end : goal.overflow_mul-end
overflow_mul-end c =
    omega (arith, (sized_of _ _ _ _ _ (made_of _ _ (sym c.new.ensures ∙ c.in-Ok.is))).valid.few)

pub slice_bounds-check_table-end : goal.slice_bounds-check_table-end
slice_bounds-check_table-end c =
    (sized_of _ _ _ _ _ (made_of _ _ (sym c.new.ensures ∙ c.in-Ok.is))).room

pub slice_bounds-check_table-end-in-Ok : goal.slice_bounds-check_table-end-in-Ok
slice_bounds-check_table-end-in-Ok c =
    let z = sized_of _ _ _ _ _ (made_of _ _ (sym c.new.ensures ∙ c.in-Ok.is)) in
    sym (length-take-le _ _ z.room)

pub check_table-requires : goal.check_table-requires
check_table-requires c =
    let a = c.args in
    let e = made_of _ _ (sym c.new.ensures ∙ c.in-Ok.is) in record { fit = fit_of _ _ a.image.now a.table.now _ e; table_len = length-take-le _ a.table.now (sized_of _ _ _ _ _ e).room }

pub returns-in-Err : goal.returns-in-Err
returns-in-Err c =
    let a = c.args in
    let m = misfit_up (Err c.in-Err.refusal) c.in-Err.refusal _ refl (sym c.new.ensures ∙ c.in-Err.is) in
    let e = ap (λ (x : Res Totals). (x, a.table.now)) m.1 ∙ sym (check_invalid a.size a.pages a.image.now a.table.now m.0) in record {
      table_after = e;
      accepts = accepts a.size a.pages a.image.now a.table.now (λ i. (c.shared_slice_known-1.given i).fits) (Err c.in-Err.refusal) a.table.now e;
    }

pub returns-in-Ok : goal.returns-in-Ok
returns-in-Ok c =
    let a = c.args in
    let f = made_of _ _ (sym c.new.ensures ∙ c.in-Ok.is) in
    let part = c.check_table.new.table in
    let l = c.check_table.auto.table ∙ length-take-le _ a.table.now (sized_of _ _ _ _ _ f).room in
    let e = checked a.size a.pages a.image.now a.table.now _ f c.check_table.result part l (λ i. (c.slice_known-in-Ok-1.given i).fits)
    c.check_table.ensures in record { table_after = e; accepts = accepts a.size a.pages a.image.now a.table.now (λ i. (c.shared_slice_known-1.given i).fits) c.check_table.result _ e }
