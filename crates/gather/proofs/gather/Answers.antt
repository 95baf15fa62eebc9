-- A second image of another length, and sizes that are not right, are 1 and change nothing. Else the second image and the first N records of the table are left by `gather_in`, the bytes behind them stay: that is `gather_call`.
-- `Gathers` holds of whatever `gather_call` answers, as the image has bytes only.
use Rattle.std.specs.Prelude.{Err}
use Rattle.refusals.specs.declared.Fault.TheVariants as fault
use mathlib.Core.Path.{ap, sym, ◌∙◌}
use Rattle.rules.specs.Result.{Res}
use Rattle.rules.proofs.AnswerLaws.{misfit_up}
use native.Mathlib.Omega.{arith}
use lib.Seq.{length-take-le}
use Rattle.geometry.specs.ShapeLaws.{made_of, sized_of, fit_of}
use Rattle.volume.proofs.EditLaws.{fit_same}
use Rattle.gather.proofs.Calling.{other_length, invalid, gather_left, gather_is}
use Rattle.gather.proofs.gather.Goals as goal

pub returns-then-second-image : goal.returns-then-second-image
returns-then-second-image c =
    let a = c.args in
    let e = other_length a.size a.pages a.image.now a.second.now a.table.now c.if-second-image.true in record {
      table_after = e;
      gathers = gather_is a.size a.pages a.image.now a.second.now a.table.now (λ i. (c.shared_slice_known-1.given i).fits) (Err (record { 0 = fault.Sizes; 1 = 0 })) a.second.now a.table.now e;
    }

pub overflow_mul-end : goal.overflow_mul-end
overflow_mul-end c =
    let a = c.args in
    let e = made_of _ _ (sym c.new.ensures ∙ c.in_ok-g.was) in
    omega (arith, (sized_of a.size a.pages _ _ _ e).valid.few)

pub slice_bounds-gather_in-end : goal.slice_bounds-gather_in-end
slice_bounds-gather_in-end c =
    let a = c.args in
    let e = made_of _ _ (sym c.new.ensures ∙ c.in_ok-g.was) in
    (sized_of a.size a.pages _ _ _ e).room

pub slice_bounds-gather_in-end-2 : goal.slice_bounds-gather_in-end-2
slice_bounds-gather_in-end-2 c =
    let a = c.args in
    let e = made_of _ _ (sym c.new.ensures ∙ c.in_ok-g.was) in
    sym (length-take-le _ _ (sized_of a.size a.pages _ _ _ e).room)

pub gather_in-requires : goal.gather_in-requires
gather_in-requires c =
    let a = c.args in
    let e = made_of _ _ (sym c.new.ensures ∙ c.in_ok-g.was) in
    let f = fit_of a.size a.pages a.image.now a.table.now _ e in record { fit = f; fit_2 = fit_same _ a.image.now a.second.now f c.if-second-image.false; table_len = length-take-le _ a.table.now (sized_of a.size a.pages _ _ _ e).room }

pub returns-in_err-g : goal.returns-in_err-g
returns-in_err-g c =
    let a = c.args in
    let m = misfit_up c.from_residual.result _ _ c.from_residual.ensures.1 (sym c.new.ensures ∙ c.in_err-g.was) in
    let e = ap (λ (x : Res (Unit {0})). (x, a.second.now, a.table.now)) m.1 ∙ invalid a.size a.pages a.image.now a.second.now a.table.now c.if-second-image.false m.0 in record {
      table_after = e;
      gathers = gather_is a.size a.pages a.image.now a.second.now a.table.now (λ i. (c.shared_slice_known-1.given i).fits) c.from_residual.result a.second.now a.table.now e;
    }

pub returns : goal.returns
returns c =
    let a = c.args in
    let e = made_of _ _ (sym c.new.ensures ∙ c.in_ok-g.was) in
    let part = c.gather_in.new.table in
    let l = c.gather_in.auto.table ∙ length-take-le _ a.table.now (sized_of a.size a.pages _ _ _ e).room in
    let k = gather_left a.size a.pages a.image.now a.second.now a.table.now c.if-second-image.false _ e part l
    (λ i. (c.type_inv.table i).fits) c.gather_in.result c.gather_in.new.second c.gather_in.ensures in record {
      table_after = k;
      gathers = gather_is a.size a.pages a.image.now a.second.now a.table.now (λ i. (c.shared_slice_known-1.given i).fits) c.gather_in.result c.gather_in.new.second _ k;
    }
