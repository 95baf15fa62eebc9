-- The library's put, its answer told as numbers.
use Rattle.geometry.specs.NumberLaws.{bytes_from}
use Rattle.rules.specs.Answers.{answer_of}
use Rattle.rules.specs.Calls.{put_call}
use Rattle.answers.specs.ExportedAnswers.{answer_for, put_answer}
use Rattle.answers.proofs.CallLaws.{told_both}
use Rattle.answers.proofs.SmallLaws.{put_small}
use Rattle.answers.proofs.TreeLaws.{puts}
use Rattle.owfs.proofs.owfs_put.Goals as goal

pub tell_answer-requires : goal.tell_answer-requires
tell_answer-requires c =
    put_small _ _ _ _ _ _ _ _ _ c.put.ensures.table_after

pub returns : goal.returns
unfolding put_answer
returns c =
    let a = c.args in
    let image_bytes = bytes_from a.image.now (λ i. (c.slice_known-1.given i).fits) in
    let path_bytes = bytes_from a.path.now (λ i. (c.shared_slice_known-1.given i).fits) in
    let new_bytes = bytes_from a.bytes.now (λ i. (c.shared_slice_known-2-1.given i).fits) in
    let call = put_call a.size a.pages a.image.now a.owners.now a.path.now a.bytes.now in
    let e = told_both answer_for (answer_of c.put.result) c.tell_answer.result _ _ call c.put.ensures.table_after c.tell_answer.ensures in record {
      owners_after = e;
      puts = puts a.size a.pages a.image.now a.owners.now image_bytes a.path.now a.bytes.now path_bytes new_bytes c.tell_answer.result _ _ e;
    }
