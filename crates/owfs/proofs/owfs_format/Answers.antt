-- The library's format, its answer told as numbers; any number but 0 asks for a local bitmap.
use Rattle.geometry.specs.NumberLaws.{bytes_from}
use Rattle.rules.specs.Answers.{answer_of}
use Rattle.rules.specs.Calls.{format_call}
use Rattle.answers.specs.ExportedAnswers.{answer_for, format_answer, asks_local}
use Rattle.answers.proofs.CallLaws.{told_both}
use Rattle.answers.proofs.SmallLaws.{format_small}
use Rattle.answers.proofs.TreeLaws.{formats}
use Rattle.owfs.proofs.owfs_format.Goals as goal

pub tell_answer-requires : goal.tell_answer-requires
tell_answer-requires c =
    format_small _ _ _ _ _ _ _ _ c.format.ensures.table_after

pub returns : goal.returns
unfolding format_answer
returns c =
    let a = c.args in
    let image_bytes = bytes_from a.image.now (λ i. (c.slice_known-1.given i).fits) in
    let call = format_call a.size a.pages a.image.now a.owners.now (asks_local a.local) in
    let e = told_both answer_for (answer_of c.format.result) c.tell_answer.result _ _ call c.format.ensures.table_after c.tell_answer.ensures in record {
      owners_after = e;
      formats = formats a.size a.pages a.image.now a.owners.now image_bytes a.local c.tell_answer.result _ _ e;
    }
