-- The library's add of the report that the numbers are, its answer as numbers.
use Rattle.geometry.specs.NumberLaws.{bytes_from}
use Rattle.answers.proofs.ReportTelling.{add_stated, handed_stated}
use Rattle.owfs.proofs.owfs_report_add.Goals as goal

pub returns : goal.returns
returns c =
    let a = c.args in
    let file_bytes = bytes_from a.file.now (λ i. (c.shared_slice_known-1.given i).fits) in
    let s = add_stated a.report a.file.now _ _ _ file_bytes c.from.ensures c.add.ensures.value c.tell_added.ensures in record { value = s.0; adds = s.1.0; adds_weighted = s.1.1; report_value = handed_stated a.report a.file.now _ s.0 }
