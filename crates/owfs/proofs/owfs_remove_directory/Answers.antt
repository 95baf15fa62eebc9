-- The library's removal, its answer told as numbers.
use Rattle.geometry.specs.NumberLaws.{bytes_from}
use Rattle.rules.specs.Answers.{answer_of}
use Rattle.rules.specs.Directories.{remove_call}
use Rattle.answers.specs.ExportedAnswers.{answer_for, remove_answer}
use Rattle.answers.proofs.CallLaws.{told_both}
use Rattle.answers.proofs.SmallLaws.{remove_small}
use Rattle.answers.proofs.TreeLaws.{removes}
use Rattle.owfs.proofs.owfs_remove_directory.Goals as goal

pub tell_answer-requires : goal.tell_answer-requires
tell_answer-requires c =
    remove_small _ _ _ _ _ _ _ _ c.remove.ensures.table_after

pub returns : goal.returns
unfolding remove_answer
returns c =
    let a = c.args in
    let image_bytes = bytes_from a.image.now (λ i. (c.slice_known-1.given i).fits) in
    let call = remove_call a.size a.pages a.image.now a.owners.now a.path.now in
    let e = told_both answer_for (answer_of c.remove.result) c.tell_answer.result _ _ call c.remove.ensures.table_after c.tell_answer.ensures in record {
      owners_after = e;
      removes = removes a.size a.pages a.image.now a.owners.now image_bytes a.path.now c.tell_answer.result _ _ e;
    }
