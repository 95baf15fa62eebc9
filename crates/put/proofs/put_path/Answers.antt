-- The file is put where it goes, once the chain that it replaces is free.
use mathlib.Core.Path.{◌∙◌}
use Rattle.owners.specs.Records.{records_of}
use Rattle.put.proofs.PathPuts.{refuses, has_old, to_put, put_at_lem}
use Rattle.put.proofs.put_path.Goals as goal

pub place_file-requires : goal.place_file-requires
place_file-requires c =
    let T = c.requires.table_len.1 in record { fit = c.requires.fit; has_image = record { image = T.tree; accepted = T.accepted } }

pub release_old-requires : goal.release_old-requires
release_old-requires c =
    let a = c.args in
    let p = c.requires in
    let old = has_old a.g a.image.now (records_of a.table.now) a.path.now a.bytes.now p.fit p.table_len.1
    (λ i. (c.shared_slice_known-1.given i).fits) (λ i. (c.shared_slice_known-2-1.given i).fits) _ c.place_file.ensures a.budget _ c.in-Ok.is in record { fit = p.fit; has_old = (old, p.table_len.0) }

pub put_file-requires : goal.put_file-requires
put_file-requires c =
    let a = c.args in
    let p = c.requires in
    let put = to_put a.g a.image.now (records_of a.table.now) a.path.now a.bytes.now p.fit p.table_len.1
    (λ i. (c.shared_slice_known-1.given i).fits) (λ i. (c.shared_slice_known-2-1.given i).fits)
    _ c.place_file.ensures a.budget _ c.in-Ok.is _ c.release_old.ensures in record { fit = p.fit; table_len = (c.release_old.auto.table ∙ p.table_len.0, put, p.table_len.2) }

pub returns-in-Err : goal.returns-in-Err
returns-in-Err c =
    let a = c.args in
    let p = c.requires in
    refuses a.g a.image.now (records_of a.table.now) a.path.now a.bytes.now p.fit p.table_len.1
    (λ i. (c.shared_slice_known-1.given i).fits) (λ i. (c.shared_slice_known-2-1.given i).fits)
    _ c.place_file.ensures a.budget _ c.in-Err.is

pub returns-in-Ok : goal.returns-in-Ok
returns-in-Ok c =
    let a = c.args in
    let p = c.requires in
    put_at_lem a.g a.image.now (records_of a.table.now) a.path.now a.bytes.now p.fit p.table_len.1
    (λ i. (c.shared_slice_known-1.given i).fits) (λ i. (c.shared_slice_known-2-1.given i).fits)
    _ c.place_file.ensures a.budget _ c.in-Ok.is _ c.release_old.ensures _ c.put_file.result c.put_file.ensures
