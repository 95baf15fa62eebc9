-- The library's making, its answer told as numbers.
use Rattle.geometry.specs.NumberLaws.{bytes_from}
use Rattle.rules.specs.Answers.{answer_of}
use Rattle.rules.specs.Directories.{make_call}
use Rattle.answers.specs.ExportedAnswers.{answer_for, make_answer}
use Rattle.answers.proofs.CallLaws.{told_both}
use Rattle.answers.proofs.SmallLaws.{make_small}
use Rattle.answers.proofs.TreeLaws.{makes}
use Rattle.owfs.proofs.owfs_make_directory.Goals as goal

pub tell_answer-requires : goal.tell_answer-requires
tell_answer-requires c =
    make_small _ _ _ _ _ _ _ _ c.make.ensures.table_after

pub returns : goal.returns
unfolding make_answer
returns c =
    let a = c.args in
    let image_bytes = bytes_from a.image.now (λ i. (c.slice_known-1.given i).fits) in
    let call = make_call a.size a.pages a.image.now a.owners.now a.path.now in
    let e = told_both answer_for (answer_of c.make.result) c.tell_answer.result _ _ call c.make.ensures.table_after c.tell_answer.ensures in record {
      owners_after = e;
      makes = makes a.size a.pages a.image.now a.owners.now image_bytes a.path.now (bytes_from a.path.now (λ i. (c.shared_slice_known-1.given i).fits)) c.tell_answer.result _ _ e;
    }
