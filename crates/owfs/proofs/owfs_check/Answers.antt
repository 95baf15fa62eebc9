-- The library's check, its answer told as numbers: totals of an accepted image, and the page of a fault, fit 32 bits. Its number is 0 exactly when the image is accepted.
use Rattle.geometry.specs.NumberLaws.{bytes_from}
use Rattle.rules.specs.Answers.{answer_of}
use Rattle.rules.specs.Calls.{check_call}
use Rattle.answers.specs.ExportedAnswers.{totals_for, check_answer}
use Rattle.answers.proofs.CallLaws.{told}
use Rattle.answers.proofs.SmallLaws.{check_small}
use Rattle.answers.proofs.TreeLaws.{accepts_tree}
use Rattle.owfs.proofs.owfs_check.Goals as goal

pub tell-requires : goal.tell-requires
tell-requires c =
    check_small _ _ _ _ _ _ c.check.ensures.table_after

pub returns : goal.returns
unfolding check_answer
returns c =
    let a = c.args in
    let image_bytes = bytes_from a.image.now (λ i. (c.shared_slice_known-1.given i).fits) in
    let call = check_call a.size a.pages a.image.now a.owners.now in
    let e = told totals_for (answer_of c.check.result) c.tell.result _ call c.check.ensures.table_after c.tell.ensures in record {
      owners_after = e;
      accepts = accepts_tree a.size a.pages a.image.now a.owners.now image_bytes c.tell.result _ e;
    }
