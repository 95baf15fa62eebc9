-- The library's gathering, its answer told as numbers.
use Rattle.geometry.specs.NumberLaws.{bytes_from}
use Rattle.rules.specs.Answers.{answer_of}
use Rattle.gathering.specs.Gather.{gather_call}
use Rattle.answers.specs.ExportedAnswers.{answer_for, gather_answer}
use Rattle.answers.proofs.CallLaws.{told_both}
use Rattle.answers.proofs.GatherTelling.{gather_small, gathers}
use Rattle.owfs.proofs.owfs_gather.Goals as goal

pub tell_answer-requires : goal.tell_answer-requires
tell_answer-requires c =
    gather_small _ _ _ _ _ _ _ _ c.gather.ensures.table_after

pub returns : goal.returns
unfolding gather_answer
returns c =
    let a = c.args in
    let image_bytes = bytes_from a.image.now (λ i. (c.shared_slice_known-1.given i).fits) in
    let call = gather_call a.size a.pages a.image.now a.copy.now a.owners.now in
    let e = told_both answer_for (answer_of c.gather.result) c.tell_answer.result _ _ call c.gather.ensures.table_after c.tell_answer.ensures in record {
      owners_after = e;
      gathers = gathers a.size a.pages a.image.now a.copy.now a.owners.now image_bytes c.tell_answer.result _ _ e;
    }
