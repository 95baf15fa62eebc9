-- Refusal 1 leaves image and table. Else what `put_in` leaves in the first N records of the table, with the bytes behind them, is `put_call`.
-- `Puts` is a theorem about `put_call` for an image, a path and a content that are bytes, as slices are.
use Rattle.rules.specs.Result.{Res}
use Rattle.rules.proofs.AnswerLaws.{misfit_up}
use mathlib.Core.Path.{ap, sym, ◌∙◌}
use native.Mathlib.Omega.{arith}
use lib.Seq.{length-take-le}
use Rattle.geometry.specs.ShapeLaws.{made_of, sized_of, fit_of}
use Rattle.rules.proofs.CallLaws.{put_invalid}
use Rattle.put.proofs.Calling.{putted, put_is}
use Rattle.put.proofs.put.Goals as goal

pub overflow_mul-end : goal.overflow_mul-end
overflow_mul-end c =
    let a = c.args in
    omega (arith, (sized_of a.size a.pages _ _ _ (made_of _ _ (sym c.new.ensures ∙ c.in_ok-g.was))).valid.few)

pub slice_bounds-put_in-end : goal.slice_bounds-put_in-end
slice_bounds-put_in-end c =
    let a = c.args in
    (sized_of a.size a.pages _ _ _ (made_of _ _ (sym c.new.ensures ∙ c.in_ok-g.was))).room

pub slice_bounds-put_in-end-2 : goal.slice_bounds-put_in-end-2
slice_bounds-put_in-end-2 c =
    let a = c.args in
    sym (length-take-le _ _ (sized_of a.size a.pages _ _ _ (made_of _ _ (sym c.new.ensures ∙ c.in_ok-g.was))).room)

pub put_in-requires : goal.put_in-requires
put_in-requires c =
    let a = c.args in
    let e = made_of _ _ (sym c.new.ensures ∙ c.in_ok-g.was) in record { fit = fit_of a.size a.pages a.image.now a.table.now _ e; table_len = length-take-le _ a.table.now (sized_of a.size a.pages _ _ _ e).room }

pub returns-in_err-g : goal.returns-in_err-g
returns-in_err-g c =
    let a = c.args in
    let m = misfit_up c.from_residual.result _ _ c.from_residual.ensures.1 (sym c.new.ensures ∙ c.in_err-g.was) in
    let e = ap (λ (x : Res (Unit {0})). (x, a.image.now, a.table.now)) m.1 ∙ sym (put_invalid a.size a.pages a.image.now a.table.now m.0 a.path.now a.bytes.now) in record {
      table_after = e;
      puts = put_is a.size a.pages a.image.now a.table.now a.path.now a.bytes.now (λ i. (c.slice_known-1.given i).fits)
          (λ i. (c.shared_slice_known-1.given i).fits) (λ i. (c.shared_slice_known-2-1.given i).fits) c.from_residual.result a.image.now
          a.table.now e;
    }

pub returns : goal.returns
returns c =
    let a = c.args in
    let f = made_of _ _ (sym c.new.ensures ∙ c.in_ok-g.was) in
    let part = c.put_in.new.table in
    let l = c.put_in.auto.table ∙ length-take-le _ a.table.now (sized_of a.size a.pages _ _ _ f).room in
    let e = putted a.size a.pages a.image.now a.table.now a.path.now a.bytes.now _ f part l (λ i. (c.type_inv.table i).fits) c.put_in.result _ c.put_in.ensures in record {
      table_after = e;
      puts = put_is a.size a.pages a.image.now a.table.now a.path.now a.bytes.now (λ i. (c.slice_known-1.given i).fits)
          (λ i. (c.shared_slice_known-1.given i).fits) (λ i. (c.shared_slice_known-2-1.given i).fits) c.put_in.result _ _ e;
    }
