-- What has no frame is bad. A frame is inside the page together with its check, which is right exactly when it is the inverted register
-- over length byte, data and pointer, begun with the page's number.
use mathlib.Core.Path.{◌∙◌}
use native.Mathlib.Omega.{arith}
use lib.ListN.{length-take}
use Rattle.packet.proofs.Cases.{frame_fits, no_frame, wrong_check, right_check}
use Rattle.packet.proofs.judge.Goals as goal

pub overflow_add-end : goal.overflow_add-end
overflow_add-end c =
    let k = frame_fits _ 0 _ _ c.frame.ensures _ c.in_ok-packet.was in omega arith

pub overflow_add-end-2 : goal.overflow_add-end-2
overflow_add-end-2 c =
    let k = frame_fits _ 0 _ _ c.frame.ensures _ c.in_ok-packet.was in omega arith

pub slice_bounds-crc_of-end : goal.slice_bounds-crc_of-end
slice_bounds-crc_of-end c =
    let k = frame_fits _ 0 _ _ c.frame.ensures _ c.in_ok-packet.was in simp length-take (omega arith)

pub number_at-requires : goal.number_at-requires
number_at-requires c =
    let k = frame_fits _ 0 _ _ c.frame.ensures _ c.in_ok-packet.was in omega arith

pub returns-then-number_at-from : goal.returns-then-number_at-from
returns-then-number_at-from c =
    wrong_check _ _ _ _ c.frame.ensures _ c.in_ok-packet.was _ _ c.number_at.ensures.0 (c.from.ensures ∙ c.crc_of-register.ensures) c.if-number_at-from.true

pub returns-in_err-packet : goal.returns-in_err-packet
returns-in_err-packet c = c.from_residual.ensures ∙ no_frame _ _ _ _ c.frame.ensures c.in_err-packet.was

pub returns : goal.returns
returns c =
    right_check _ _ _ _ c.frame.ensures _ c.in_ok-packet.was _ _ c.number_at.ensures.0 (c.from.ensures ∙ c.crc_of-register.ensures) c.if-number_at-from.false
