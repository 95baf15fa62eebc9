-- The library's delete, its answer told as numbers.
use Rattle.geometry.specs.NumberLaws.{bytes_from}
use Rattle.rules.specs.Answers.{answer_of}
use Rattle.rules.specs.Calls.{delete_call}
use Rattle.answers.specs.ExportedAnswers.{answer_for, delete_answer}
use Rattle.answers.proofs.CallLaws.{told_both}
use Rattle.answers.proofs.SmallLaws.{delete_small}
use Rattle.answers.proofs.TreeLaws.{deletes}
use Rattle.owfs.proofs.owfs_delete.Goals as goal

pub tell_answer-requires : goal.tell_answer-requires
tell_answer-requires c =
    delete_small _ _ _ _ _ _ _ _ c.delete.ensures.table_after

pub returns : goal.returns
unfolding delete_answer
returns c =
    let a = c.args in
    let image_bytes = bytes_from a.image.now (λ i. (c.slice_known-1.given i).fits) in
    let call = delete_call a.size a.pages a.image.now a.owners.now a.path.now in
    let e = told_both answer_for (answer_of c.delete.result) c.tell_answer.result _ _ call c.delete.ensures.table_after c.tell_answer.ensures in record {
      owners_after = e;
      deletes = deletes a.size a.pages a.image.now a.owners.now image_bytes a.path.now c.tell_answer.result _ _ e;
    }
