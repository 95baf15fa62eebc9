-- The check refuses, and the second image is as it was; or the copy is laid, and the last check leaves its table.
use Rattle.rules.proofs.AnswerLaws.{passed_up}
use Rattle.geometry.specs.NumberLaws.{bytes_from}
use Rattle.gather.proofs.Calling.{fault_left, has_image, copied}
use borrow.Author.Rules.{rules}
use Rattle.gather.proofs.gather_in.Goals as goal

pub copy-requires : goal.copy-requires
copy-requires c =
    let a = c.args in
    let s = c.requires in record {
      fit = (s.fit, bytes_from a.image.now (λ i. (c.shared_slice_known-1.given i).fits));
      fit_2 = s.fit_2;
      table_len = (search rules, has_image a.g a.image.now a.second.now _ _ c.check_table.ensures _ c.in_ok-check_table.was);
    }

pub returns-in_err-check_table : goal.returns-in_err-check_table
returns-in_err-check_table c =
    let a = c.args in
    let s = c.requires in
    rw (passed_up c.from_residual.result _ c.from_residual.ensures.1)
    (fault_left a.g a.image.now a.second.now _ _ c.check_table.ensures _ c.in_err-check_table.was)

pub returns : goal.returns
returns c =
    let a = c.args in
    let s = c.requires in
    copied a.g a.image.now a.second.now _ _ c.check_table.ensures _ c.in_ok-check_table.was _ c.copy.ensures c.check_table-2.result _ c.check_table-2.ensures
