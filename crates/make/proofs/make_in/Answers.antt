-- The check's fault first; else the make, and then the table of the image as it stands.
use Rattle.rules.proofs.AnswerLaws.{passed_up}
use mathlib.Core.Path.{ap, ◌∙◌}
use Rattle.owners.specs.Records.{records_of}
use Rattle.packet.specs.declared.Budget.{Budget}
use Rattle.volume.proofs.EditLaws.{fit_same, fault_leaves, table_of}
use Rattle.make.proofs.Calling.{make_fault}
use Rattle.make.proofs.PathMakes.{answer_done, answer_refused}
use Rattle.make.proofs.make_in.Goals as goal

pub make_path-outcome-requires : goal.make_path-outcome-requires
make_path-outcome-requires c =
    let a = c.args in
    let T = table_of a.g a.image.now c.check_table.result (records_of c.check_table.new.table) c.check_table.ensures
    (λ i. (c.slice_known-1.given i).fits) _ c.in_ok-check_table.was in record { fit = c.requires.fit; table_len = (c.check_table.auto.table ∙ c.requires.table_len, T, ap (λ (x : Budget). x.stopped) c.unlimited.ensures) }

pub check_table-requires-2 : goal.check_table-requires-2
check_table-requires-2 c =
    let s = c.requires in record { fit = fit_same _ _ _ s.fit c.make_path-outcome.auto.image; table_len = c.make_path-outcome.auto.table ∙ c.check_table.auto.table ∙ s.table_len }

pub returns-in_err-check_table : goal.returns-in_err-check_table
returns-in_err-check_table c =
    let a = c.args in
    rw (passed_up c.from_residual.result _ c.from_residual.ensures.1)
    (fault_leaves a.g a.image.now c.check_table.result (records_of c.check_table.new.table) c.check_table.ensures _
    (make_fault a.g a.path.now a.image.now) _ c.in_err-check_table.was)

pub returns : goal.returns
returns c =
    let a = c.args in
    let T = table_of a.g a.image.now c.check_table.result (records_of c.check_table.new.table) c.check_table.ensures
    (λ i. (c.slice_known-1.given i).fits) _ c.in_ok-check_table.was in
    record {
      answers = answer_done a.g a.image.now _ a.path.now c.requires.fit T
          (λ i. (c.shared_slice_known-1.given i).fits) _ c.unlimited.ensures _ _ c.make_path-outcome.ensures _ c.in_ok-outcome.was;
      check = c.check_table-2.result;
      checked = c.check_table-2.ensures;
    }

pub returns-in_err-outcome : goal.returns-in_err-outcome
returns-in_err-outcome c =
    let a = c.args in
    let T = table_of a.g a.image.now c.check_table.result (records_of c.check_table.new.table) c.check_table.ensures
    (λ i. (c.slice_known-1.given i).fits) _ c.in_ok-check_table.was in
    record {
      answers = rw (passed_up c.from_residual-in_err-outcome.result _ c.from_residual-in_err-outcome.ensures.1) (answer_refused a.g a.image.now _ a.path.now c.requires.fit T
          (λ i. (c.shared_slice_known-1.given i).fits) _ c.unlimited.ensures _ _ c.make_path-outcome.ensures _ c.in_err-outcome.was);
      check = c.check_table-2.result;
      checked = c.check_table-2.ensures;
    }
