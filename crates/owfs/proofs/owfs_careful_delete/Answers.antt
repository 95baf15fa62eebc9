-- The library's careful delete: no more writes are made than are allowed, so their number fits 32 bits.
use native.Mathlib.Omega.{arith}
use Rattle.geometry.specs.NumberLaws.{bytes_from}
use Rattle.rules.specs.Answers.{answer_of}
use Rattle.rules.specs.Careful.{careful_delete_call}
use Rattle.answers.specs.ExportedAnswers.{writes_for, careful_delete_answer}
use Rattle.answers.proofs.CallLaws.{told_both}
use Rattle.answers.proofs.CarefulAnswers.{careful_delete_small, carefully_deletes}
use Rattle.owfs.proofs.owfs_careful_delete.Goals as goal

pub tell_writes-requires : goal.tell_writes-requires
tell_writes-requires c =
    let a = c.args in
    careful_delete_small a.size a.pages a.image.now a.owners.now a.allowed (omega (arith, c.ranges.allowed)) _ _ _ _ c.delete.ensures.table_after

pub returns : goal.returns
unfolding careful_delete_answer
returns c =
    let a = c.args in
    let image_bytes = bytes_from a.image.now (λ i. (c.slice_known-1.given i).fits) in
    let call = careful_delete_call a.size a.pages a.image.now a.owners.now a.allowed a.path.now in
    let e = told_both writes_for (answer_of c.delete.result) c.tell_writes.result _ _ call c.delete.ensures.table_after c.tell_writes.ensures in record {
      owners_after = e;
      carefully_deletes = carefully_deletes a.size a.pages a.image.now a.owners.now image_bytes a.allowed a.path.now c.tell_writes.result _ _ e;
    }
