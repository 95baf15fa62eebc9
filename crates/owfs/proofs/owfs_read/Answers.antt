-- The library's read: a file has fewer bytes than an image, so the length told fits 32 bits.
use Rattle.geometry.specs.NumberLaws.{bytes_from}
use Rattle.rules.specs.Answers.{answer_of}
use Rattle.rules.specs.Calls.{read_call}
use Rattle.answers.specs.ExportedAnswers.{length_for, read_answer}
use Rattle.answers.proofs.CallLaws.{told_both}
use Rattle.answers.proofs.SmallLaws.{read_small}
use Rattle.answers.proofs.TreeLaws.{reads_tree}
use Rattle.owfs.proofs.owfs_read.Goals as goal

pub tell_length-requires : goal.tell_length-requires
tell_length-requires c =
    read_small _ _ _ _ _ _ _ _ _ c.read.ensures.table_after

pub returns : goal.returns
unfolding read_answer
returns c =
    let a = c.args in
    let image_bytes = bytes_from a.image.now (λ i. (c.shared_slice_known-1.given i).fits) in
    let call = read_call a.size a.pages a.image.now a.owners.now a.path.now a.out.now in
    let e = told_both length_for (answer_of c.read.result) c.tell_length.result _ _ call c.read.ensures.table_after c.tell_length.ensures in record {
      owners_after = e;
      tells_tree = reads_tree a.size a.pages a.image.now a.owners.now image_bytes a.path.now a.out.now c.tell_length.result _ _ e;
    }
