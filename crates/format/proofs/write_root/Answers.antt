-- A control field has 6 + n bytes, at most 8: it is the front of the array, and every page has room for it. The packet written has that front as its data.
use mathlib.Core.Path.{sym}
use Prim.Native.Nat.{◌+◌, ◌≤◌}
use native.Mathlib.Omega.{arith}
use Rattle.packet.proofs.Fronts.{zeros_front, front_room, front_size, front_written}
use Rattle.format.proofs.Fields.{length_field, front_fits, control_room}
use Rattle.format.proofs.write_root.Goals as goal

pub slice_bounds-fill_control-end : goal.slice_bounds-fill_control-end
slice_bounds-fill_control-end c =
    let w : 6 + c.args.g.width ≤ 8 = omega (arith, c.requires.fit.valid.two) in
    sym (zeros_front _ 8 w)

pub fill_control-requires : goal.fill_control-requires
fill_control-requires c =
    let w : 6 + c.args.g.width ≤ 8 = omega (arith, c.requires.fit.valid.two) in
    (zeros_front _ 8 w, c.requires.fit.valid.two, c.requires.control_bound.0, c.requires.control_bound.1)

pub slice_bounds-field-end-2 : goal.slice_bounds-field-end-2
slice_bounds-field-end-2 c =
    front_room _ _ _ _ c.fill_control.ensures (length_field c.args.g.width _ _ c.requires.control_bound.1)

pub slice_bounds-write_page-end : goal.slice_bounds-write_page-end
slice_bounds-write_page-end c =
    front_size _ _ _ _ c.fill_control.ensures (length_field c.args.g.width _ _ c.requires.control_bound.1)

pub write_page-requires : goal.write_page-requires
write_page-requires c = record {
  fit = c.requires.fit;
  p_lt_pages = (
    omega (arith, c.requires.fit.valid.some),
    front_fits _ _ _ _ c.fill_control.ensures (length_field c.args.g.width _ _ c.requires.control_bound.1)
        c.args.g c.requires.fit.valid (control_room c.args.g c.requires.fit.valid),
  );
}

pub returns : goal.returns
returns c =
    front_written _ _ _ _ c.fill_control.ensures (length_field c.args.g.width _ _ c.requires.control_bound.1) c.args.g _ _ _ _ c.write_page.ensures
