-- The library's mend: no more marks are cleared than a bitmap has, so their number fits 32 bits.
use Rattle.geometry.specs.NumberLaws.{bytes_from}
use Rattle.rules.specs.Answers.{answer_of}
use Rattle.rules.specs.Careful.{mend_call}
use Rattle.answers.specs.ExportedAnswers.{mended_for, mend_answer}
use Rattle.answers.proofs.CallLaws.{told_both}
use Rattle.answers.proofs.CarefulAnswers.{mend_small, mends}
use Rattle.owfs.proofs.owfs_mend.Goals as goal

pub tell_mended-requires : goal.tell_mended-requires
tell_mended-requires c =
    mend_small _ _ _ _ _ _ _ c.mend.ensures.table_after

pub returns : goal.returns
unfolding mend_answer
returns c =
    let a = c.args in
    let image_bytes = bytes_from a.image.now (λ i. (c.slice_known-1.given i).fits) in
    let call = mend_call a.size a.pages a.image.now a.owners.now in
    let e = told_both mended_for (answer_of c.mend.result) c.tell_mended.result _ _ call c.mend.ensures.table_after c.tell_mended.ensures in record {
      owners_after = e;
      mends = mends a.size a.pages a.image.now a.owners.now image_bytes c.tell_mended.result _ _ e;
    }
