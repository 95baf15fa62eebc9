-- Three ways out, each a case of `list_call`: a geometry that does not fit (1, the table untouched), the check's refusal, and the line of the image that the check accepted.
-- The table is the check's. `TellsTree` follows from the equation.
use Rattle.rules.specs.declared.Line.{Line}
use mathlib.Core.Path.{ap, sym, ◌∙◌}
use Rattle.rules.specs.Result.{Res}
use Rattle.rules.proofs.AnswerLaws.{misfit_up, refused_up}
use native.Mathlib.Omega.{arith}
use lib.Seq.{length-take-le}
use Rattle.geometry.specs.ShapeLaws.{made_of, sized_of, fit_of}
use Rattle.rules.proofs.CallLaws.{list_invalid}
use Rattle.query.proofs.Calling.{list_fault, is_accepted, list_done, lists_tree}
use Rattle.query.proofs.list.Goals as goal

pub overflow_mul-end : goal.overflow_mul-end
overflow_mul-end c =
    let a = c.args in
    omega (arith, (sized_of a.size a.pages _ _ _ (made_of _ _ (sym c.new.ensures ∙ c.in_ok-g.was))).valid.few)

pub slice_bounds-check_table-end : goal.slice_bounds-check_table-end
slice_bounds-check_table-end c =
    let a = c.args in
    (sized_of a.size a.pages _ _ _ (made_of _ _ (sym c.new.ensures ∙ c.in_ok-g.was))).room

pub slice_bounds-check_table-end-2 : goal.slice_bounds-check_table-end-2
slice_bounds-check_table-end-2 c =
    let a = c.args in
    sym (length-take-le _ _ (sized_of a.size a.pages _ _ _ (made_of _ _ (sym c.new.ensures ∙ c.in_ok-g.was))).room)

pub check_table-requires : goal.check_table-requires
check_table-requires c =
    let a = c.args in
    let e = made_of _ _ (sym c.new.ensures ∙ c.in_ok-g.was) in record { fit = fit_of a.size a.pages a.image.now a.table.now _ e; table_len = length-take-le _ a.table.now (sized_of a.size a.pages _ _ _ e).room }

pub entry_of-requires : goal.entry_of-requires
entry_of-requires c =
    let a = c.args in
    let e = made_of _ _ (sym c.new.ensures ∙ c.in_ok-g.was) in record {
      fit = fit_of a.size a.pages a.image.now a.table.now _ e;
      has_image = is_accepted a.size a.pages a.image.now a.table.now _ e c.check_table.result
          c.check_table.new.table c.check_table.ensures _ c.in_ok-check_table.was;
    }

pub returns-in_err-g : goal.returns-in_err-g
returns-in_err-g c =
    let a = c.args in
    let m = misfit_up c.from_residual.result _ _ c.from_residual.ensures.1 (sym c.new.ensures ∙ c.in_err-g.was) in
    let e = ap (λ (x : Res Line). (x, a.table.now)) m.1 ∙ sym (list_invalid a.size a.pages a.image.now a.table.now m.0 a.position) in record {
      table_after = e;
      tells_tree = lists_tree a.size a.pages a.image.now a.table.now (λ i. (c.shared_slice_known-1.given i).fits) a.position c.from_residual.result a.table.now e;
    }

pub returns-in_err-check_table : goal.returns-in_err-check_table
returns-in_err-check_table c =
    let a = c.args in
    let f = made_of _ _ (sym c.new.ensures ∙ c.in_ok-g.was) in
    let l = c.check_table.auto.table ∙ length-take-le _ a.table.now (sized_of a.size a.pages _ _ _ f).room in
    let up = refused_up c.from_residual-in_err-check_table.result _ c.from_residual-in_err-check_table.ensures.1 in
    let e = list_fault a.size a.pages a.image.now a.table.now _ f c.check_table.result c.check_table.new.table
    c.check_table.ensures l (λ i. (c.type_inv.table i).fits) _ c.in_err-check_table.was _ up a.position in record {
      table_after = e;
      tells_tree = lists_tree a.size a.pages a.image.now a.table.now (λ i. (c.shared_slice_known-1.given i).fits) a.position
          c.from_residual-in_err-check_table.result _ e;
    }

pub returns : goal.returns
returns c =
    let a = c.args in
    let f = made_of _ _ (sym c.new.ensures ∙ c.in_ok-g.was) in
    let l = c.check_table.auto.table ∙ length-take-le _ a.table.now (sized_of a.size a.pages _ _ _ f).room in
    let e = list_done a.size a.pages a.image.now a.table.now _ f c.check_table.result c.check_table.new.table
    c.check_table.ensures l (λ i. (c.type_inv.table i).fits) _ c.in_ok-check_table.was a.position c.entry_of.result
    c.entry_of.ensures in record { table_after = e; tells_tree = lists_tree a.size a.pages a.image.now a.table.now (λ i. (c.shared_slice_known-1.given i).fits) a.position c.entry_of.result _ e }
