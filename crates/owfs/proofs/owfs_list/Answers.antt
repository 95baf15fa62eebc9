-- The library's listing, its line told as numbers, which fit 32 bits.
use Rattle.geometry.specs.NumberLaws.{bytes_from}
use Rattle.rules.specs.Answers.{answer_of}
use Rattle.rules.specs.Calls.{list_call}
use Rattle.answers.specs.ExportedAnswers.{entry_for, list_answer}
use Rattle.answers.proofs.CallLaws.{told}
use Rattle.answers.proofs.SmallLaws.{list_small}
use Rattle.answers.proofs.TreeLaws.{lists_tree}
use Rattle.owfs.proofs.owfs_list.Goals as goal

pub tell_entry-requires : goal.tell_entry-requires
tell_entry-requires c =
    list_small _ _ _ _ _ _ _ c.list.ensures.table_after

pub returns : goal.returns
unfolding list_answer
returns c =
    let a = c.args in
    let image_bytes = bytes_from a.image.now (λ i. (c.shared_slice_known-1.given i).fits) in
    let call = list_call a.size a.pages a.image.now a.owners.now a.position in
    let e = told entry_for (answer_of c.list.result) c.tell_entry.result _ call c.list.ensures.table_after c.tell_entry.ensures in record {
      owners_after = e;
      tells_tree = lists_tree a.size a.pages a.image.now a.owners.now image_bytes a.position c.tell_entry.result _ e;
    }
