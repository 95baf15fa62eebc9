-- An image whose geometry fits has at most 65,535 pages, so four times as many zeros have room for its owner table. The answer is the check's: its refusal, or its totals.
-- A geometry that does not fit is 1.
use mathlib.Core.Path.{ap, sym, ◌∙◌}
use Rattle.geometry.specs.ShapeLaws.{made_of, refused_of}
use Rattle.rules.specs.Answers.{refused}
use Rattle.rules.proofs.AnswerLaws.{passed_up}
use native.Mathlib.Omega.{arith}
use Rattle.packet.proofs.Fronts.{zeros_front}
use Rattle.dump.proofs.Judging.{checks_invalid, fits, room, checks_refused, checks_done}
use Rattle.dump.proofs.check_image.Goals as goal

pub overflow_mul-end : goal.overflow_mul-end
overflow_mul-end c =
    let a = c.args in
    omega (arith, room a.size a.pages a.image.now _ (made_of _ _ (sym c.new.ensures ∙ c.in_ok-g.was)))

pub slice_bounds-table-end : goal.slice_bounds-table-end
slice_bounds-table-end c =
    let a = c.args in
    room a.size a.pages a.image.now _ (made_of _ _ (sym c.new.ensures ∙ c.in_ok-g.was))

pub slice_bounds-check_table-end : goal.slice_bounds-check_table-end
slice_bounds-check_table-end c =
    let a = c.args in
    sym (zeros_front _ 262140 (room a.size a.pages a.image.now _ (made_of _ _ (sym c.new.ensures ∙ c.in_ok-g.was))))

pub check_table-requires : goal.check_table-requires
check_table-requires c =
    let a = c.args in
    let e = made_of _ _ (sym c.new.ensures ∙ c.in_ok-g.was) in record { fit = fits a.size a.pages a.image.now _ e; table_len = zeros_front _ 262140 (room a.size a.pages a.image.now _ e) }

pub returns-in_err-g : goal.returns-in_err-g
returns-in_err-g c =
    let a = c.args in
    let n = refused_of _ _ (sym c.new.ensures ∙ c.in_err-g.was) in
    rw (passed_up c.from_residual.result _ c.from_residual.ensures.1)
    (checks_invalid a.size a.pages a.image.now _ n.0 (ap refused n.1))

pub returns-in_err-totals : goal.returns-in_err-totals
returns-in_err-totals c =
    let a = c.args in
    rw (passed_up c.from_residual-in_err-totals.result _ c.from_residual-in_err-totals.ensures.1)
    (checks_refused a.size a.pages a.image.now _ (made_of _ _ (sym c.new.ensures ∙ c.in_ok-g.was)) _ _ c.check_table.ensures _ c.in_err-totals.was)

pub returns : goal.returns
returns c =
    let a = c.args in
    checks_done a.size a.pages a.image.now _ (made_of _ _ (sym c.new.ensures ∙ c.in_ok-g.was)) _ _ c.check_table.ensures _ c.in_ok-totals.was
