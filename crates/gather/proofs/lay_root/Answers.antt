-- A blank image, the control field, then the pass from the root.
use mathlib.Core.Path.{ap, sym, ◌∙◌}
use Prim.Native.Nat.{ℕ}
use native.Mathlib.Omega.{arith}
use lib.ListN.{length, replicate, length-replicate}
use Rattle.packet.proofs.Fronts.{zeros_front, front_room, front_size, front_read}
use Rattle.reading_theorems.specs.ControlLaws.{control_size_lem}
use Rattle.volume.proofs.EditLaws.{fit_same}
use Rattle.gather.proofs.Copying.{field_length, known_root_entries, known_root, root_few, root_laid}
use Rattle.gather.proofs.lay_root.Goals as goal

pub slice_bounds-fill_control-end : goal.slice_bounds-fill_control-end
slice_bounds-fill_control-end c =
    sym (zeros_front c.control_size-size.result 8 (omega (arith, c.control_size-size.ensures.2)))

pub fill_control-requires : goal.fill_control-requires
fill_control-requires c =
    let s = c.requires in
    (zeros_front c.control_size-size.result 8 (omega (arith, c.control_size-size.ensures.2)) ∙ c.control_size-size.ensures.0 ∙ control_size_lem c.args.g, s.fit.0.valid.two, s.control_bound.0, s.control_bound.1)

pub further_pages-further-requires : goal.further_pages-further-requires
further_pages-further-requires c =
    let a = c.args in
    let s = c.requires in record { fit = s.fit; known_entries = known_root_entries a.g a.image.now s.fit.0 s.fit.1 _ s.control_bound.2 }

pub slice_bounds-head-end-2 : goal.slice_bounds-head-end-2
slice_bounds-head-end-2 c =
    let a = c.args in
    let s = c.requires in
    front_room _ _ _ _ c.fill_control.ensures (field_length a.g a.control a.four.now s.control_bound.1 ∙ sym c.control_size-size.ensures.0)

pub slice_bounds-lay_directory-end : goal.slice_bounds-lay_directory-end
slice_bounds-lay_directory-end c =
    let a = c.args in
    let s = c.requires in
    front_size _ _ _ _ c.fill_control.ensures (field_length a.g a.control a.four.now s.control_bound.1 ∙ sym c.control_size-size.ensures.0)

pub overflow_add-from : goal.overflow_add-from
overflow_add-from c =
    let a = c.args in
    let s = c.requires in
    omega (arith, root_few a.g a.image.now s.fit.0 s.fit.1 _ s.control_bound.2 _ c.further_pages-further.ensures, s.fit.0.valid.few)

pub lay_directory-requires : goal.lay_directory-requires
lay_directory-requires c =
    let a = c.args in
    let s = c.requires in
    let n = field_length a.g a.control a.four.now s.control_bound.1 ∙ sym c.control_size-size.ensures.0 in
    let r = front_read _ _ _ _ c.fill_control.ensures n in record {
      fit = s.fit;
      fit_2 = fit_same _ _ _ s.fit_2 (ap length c.blank.ensures ∙ length-replicate (length a.second.now) 255);
      levels_bound = (omega arith, known_root a.g a.image.now s.fit.0 s.fit.1 _ s.control_bound.2 _ c.further_pages-further.ensures _ (ap length r ∙ field_length a.g a.control a.four.now s.control_bound.1));
    }

pub returns : goal.returns
returns c =
    let a = c.args in
    let s = c.requires in
    let n = field_length a.g a.control a.four.now s.control_bound.1 ∙ sym c.control_size-size.ensures.0 in
    let r = front_read _ _ _ _ c.fill_control.ensures n in
    root_laid a.g a.image.now s.fit.0 s.fit.1 _ s.control_bound.2 _ c.further_pages-further.ensures _ a.four.now _ _ _ _ r
    (c.blank.ensures ∙ ap (λ (m : ℕ). replicate m 255) s.fit_2.whole) c.lay_directory.ensures
