-- The file is put where it goes, over the table of all pages in use.
use Rattle.rules.proofs.AnswerLaws.{passed_up}
use Rattle.owners.specs.Records.{records_of}
use Rattle.careful.proofs.PathPuts.{refuses, to_put, put_at_lem}
use Rattle.careful.proofs.put_path.Goals as goal

pub place_file-requires : goal.place_file-requires
place_file-requires c =
    let T = c.requires.table_len.1 in record { fit = c.requires.fit; has_image = record { image = T.tree; accepted = T.accepted } }

pub put_file-requires : goal.put_file-requires
put_file-requires c =
    let a = c.args in
    let p = c.requires in
    let put = to_put a.g a.image.now (records_of a.table.now) a.path.now a.bytes.now p.fit p.table_len.1
    (λ i. (c.shared_slice_known-1.given i).fits) (λ i. (c.shared_slice_known-2-1.given i).fits) _ c.place_file.ensures a.budget _ c.in_ok-file.was in record { fit = p.fit; table_len = (p.table_len.0, put, p.table_len.2) }

pub returns-in_err-file : goal.returns-in_err-file
returns-in_err-file c =
    let a = c.args in
    let p = c.requires in
    rw (passed_up c.from_residual.result _ c.from_residual.ensures.1)
    (refuses a.g a.image.now (records_of a.table.now) a.path.now a.bytes.now p.fit p.table_len.1
    (λ i. (c.shared_slice_known-1.given i).fits) (λ i. (c.shared_slice_known-2-1.given i).fits)
    _ c.place_file.ensures a.budget _ c.in_err-file.was)

pub returns : goal.returns
returns c =
    let a = c.args in
    let p = c.requires in
    put_at_lem a.g a.image.now (records_of a.table.now) a.path.now a.bytes.now p.fit p.table_len.1
    (λ i. (c.shared_slice_known-1.given i).fits) (λ i. (c.shared_slice_known-2-1.given i).fits)
    _ c.place_file.ensures a.budget _ c.in_ok-file.was _ c.put_file.result c.put_file.ensures
