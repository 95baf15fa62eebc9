-- By the kind of the source's bitmap.
use Rattle.gather.proofs.Copying.{has_kind}
use mathlib.Core.Bool.{true, false}
use Rattle.gather.proofs.copy.Goals as goal

pub copy_local-requires : goal.copy_local-requires
copy_local-requires c =
    let a = c.args in
    let s = c.requires in record { fit = s.fit; fit_2 = s.fit_2; table_len = (s.table_len.0, has_kind a.g a.image.now s.fit.0 s.fit.1 s.table_len.1 _ true c.is_local.ensures c.if-is_local.true) }

pub copy_with_file-requires : goal.copy_with_file-requires
copy_with_file-requires c =
    let a = c.args in
    let s = c.requires in record { fit = s.fit; fit_2 = s.fit_2; table_len = (s.table_len.0, has_kind a.g a.image.now s.fit.0 s.fit.1 s.table_len.1 _ false c.is_local.ensures c.if-is_local.false) }
