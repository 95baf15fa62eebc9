-- The control field is filled, then the directory is put where it goes.
use Rattle.rules.proofs.AnswerLaws.{passed_up}
use mathlib.Core.Path.{sym, ◌∙◌}
use native.Mathlib.Omega.{arith}
use Rattle.owners.specs.Records.{records_of}
use Rattle.packet.proofs.Fronts.{zeros_front, front_room, front_size, front_read}
use Rattle.make.proofs.PathMakes.{size_is, control_length, refuses, to_make, make_at}
use Rattle.make.proofs.make_path.Goals as goal

pub place_directory-requires : goal.place_directory-requires
place_directory-requires c =
    let T = c.requires.table_len.1 in record { fit = c.requires.fit; has_image = record { image = T.tree; accepted = T.accepted } }

pub control_size-size-requires : goal.control_size-size-requires
control_size-size-requires c =
    c.requires.fit.valid

pub slice_bounds-control-end : goal.slice_bounds-control-end
slice_bounds-control-end c = omega (arith, c.control_size-size.ensures.2)

pub slice_bounds-put_control-end : goal.slice_bounds-put_control-end
slice_bounds-put_control-end c =
    sym (zeros_front c.control_size-size.result 8 (omega (arith, c.control_size-size.ensures.2)))

pub put_control-requires : goal.put_control-requires
put_control-requires c = (
  zeros_front c.control_size-size.result 8 (omega (arith, c.control_size-size.ensures.2)) ∙ size_is c.args.g _ c.control_size-size.ensures.0,
  c.requires.fit.valid.two,
)

pub slice_bounds-control-end-2 : goal.slice_bounds-control-end-2
slice_bounds-control-end-2 c =
    front_room _ _ _ _ c.put_control.ensures (control_length c.args.g _ _ c.control_size-size.ensures.0)

pub slice_bounds-put_file-end : goal.slice_bounds-put_file-end
slice_bounds-put_file-end c =
    front_size _ _ _ _ c.put_control.ensures (control_length c.args.g _ _ c.control_size-size.ensures.0)

pub put_file-requires : goal.put_file-requires
put_file-requires c =
    let a = c.args in
    let p = c.requires in
    let n = front_read _ _ _ _ c.put_control.ensures (control_length a.g _ _ c.control_size-size.ensures.0) in
    let made = to_make a.g a.image.now (records_of a.table.now) a.path.now p.fit p.table_len.1 (λ i. (c.shared_slice_known-1.given i).fits)
    c.place_directory.result c.place_directory.ensures a.budget _ _ c.in_ok-above.was _ n in record { fit = p.fit; table_len = (p.table_len.0, made, p.table_len.2) }

pub returns-in_err-above : goal.returns-in_err-above
returns-in_err-above c =
    let a = c.args in
    let p = c.requires in
    rw (passed_up c.from_residual.result _ c.from_residual.ensures.1)
    (refuses a.g a.image.now (records_of a.table.now) a.path.now p.fit p.table_len.1 (λ i. (c.shared_slice_known-1.given i).fits)
    c.place_directory.result c.place_directory.ensures a.budget _ c.in_err-above.was)

pub returns : goal.returns
returns c =
    let a = c.args in
    let p = c.requires in
    let n = front_read _ _ _ _ c.put_control.ensures (control_length a.g _ _ c.control_size-size.ensures.0) in
    make_at a.g a.image.now (records_of a.table.now) a.path.now p.fit p.table_len.1 (λ i. (c.shared_slice_known-1.given i).fits)
    c.place_directory.result c.place_directory.ensures a.budget _ _ c.in_ok-above.was _ n _ c.put_file.result c.put_file.ensures
