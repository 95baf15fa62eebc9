-- The control field part by part: its length (4), the marker (3), name, zero byte and start page of the directory above (each 4).
-- Where all are right, what is behind the field must be whole entries (8).
use native.Mathlib.Omega.{arith}
use Rattle.geometry.specs.Geometry.{control_size}
use Rattle.directory.proofs.ControlLaws.{sub_short, sub_marker, sub_name, sub_zero, sub_start, sub_whole}
use Rattle.directory.proofs.control.judge_sub.Goals as goal

pub returns-then-bytes-skip : goal.returns-then-bytes-skip
returns-then-bytes-skip c = sub_short _ _ _ _ _ c.control_size-skip.ensures.0 c.if-bytes-skip.true

pub returns-then-from-n : goal.returns-then-from-n
returns-then-from-n c =
    sub_marker _ _ _ _ _ c.control_size-skip.ensures.0 c.if-bytes-skip.false _ c.from.ensures c.if-from-n.true

pub returns-then-number_at-name : goal.returns-then-number_at-name
returns-then-number_at-name c =
    sub_name _ _ _ _ _ c.control_size-skip.ensures.0 c.if-bytes-skip.false _ c.from.ensures c.if-from-n.false _ c.number_at.ensures.0 c.if-number_at-name.true

pub returns-then-bytes-ne0 : goal.returns-then-bytes-ne0
returns-then-bytes-ne0 c =
    sub_zero _ _ _ _ _ c.control_size-skip.ensures.0 c.if-bytes-skip.false _ c.from.ensures c.if-from-n.false _ c.number_at.ensures.0 c.if-number_at-name.false
    c.if-bytes-ne0.true

pub number_at-requires-2 : goal.number_at-requires-2
unfolding control_size
number_at-requires-2 c =
    omega (arith, c.control_size-skip.ensures.0)

pub returns-then-number_at-start : goal.returns-then-number_at-start
returns-then-number_at-start c =
    sub_start _ _ _ _ _ c.control_size-skip.ensures.0 c.if-bytes-skip.false _ c.from.ensures c.if-from-n.false _ c.number_at.ensures.0 c.if-number_at-name.false
    c.if-bytes-ne0.false _ c.number_at-2.ensures.0 c.if-number_at-start.true

pub returns : goal.returns
returns c =
    sub_whole _ _ _ _ _ c.control_size-skip.ensures.0 c.if-bytes-skip.false _ c.from.ensures c.if-from-n.false _ c.number_at.ensures.0 c.if-number_at-name.false
    c.if-bytes-ne0.false _ c.number_at-2.ensures.0 c.if-number_at-start.false _ c.judge_whole.ensures
