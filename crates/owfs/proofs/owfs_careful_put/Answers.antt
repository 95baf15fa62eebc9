-- The library's careful put: no more writes are made than are allowed, so their number fits 32 bits.
use native.Mathlib.Omega.{arith}
use Rattle.geometry.specs.NumberLaws.{bytes_from}
use Rattle.rules.specs.Answers.{answer_of}
use Rattle.rules.specs.Careful.{careful_put_call}
use Rattle.answers.specs.ExportedAnswers.{writes_for, careful_put_answer}
use Rattle.answers.proofs.CallLaws.{told_both}
use Rattle.answers.proofs.CarefulAnswers.{careful_put_small, carefully_puts}
use Rattle.owfs.proofs.owfs_careful_put.Goals as goal

pub tell_writes-requires : goal.tell_writes-requires
tell_writes-requires c =
    let a = c.args in
    careful_put_small a.size a.pages a.image.now a.owners.now a.allowed (omega (arith, c.ranges.allowed)) _ _ _ _ _ c.put.ensures.table_after

pub returns : goal.returns
unfolding careful_put_answer
returns c =
    let a = c.args in
    let image_bytes = bytes_from a.image.now (λ i. (c.slice_known-1.given i).fits) in
    let path_bytes = bytes_from a.path.now (λ i. (c.shared_slice_known-1.given i).fits) in
    let new_bytes = bytes_from a.bytes.now (λ i. (c.shared_slice_known-2-1.given i).fits) in
    let call = careful_put_call a.size a.pages a.image.now a.owners.now a.allowed a.path.now a.bytes.now in
    let e = told_both writes_for (answer_of c.put.result) c.tell_writes.result _ _ call c.put.ensures.table_after c.tell_writes.ensures in record {
      owners_after = e;
      carefully_puts = carefully_puts a.size a.pages a.image.now a.owners.now image_bytes a.allowed a.path.now a.bytes.now path_bytes new_bytes c.tell_writes.result _ _ e;
    }
