-- Each test in the order of the rule: length (4), marker (3), work in progress (5), map address (4), the bits between (4); each return knows that the tests before it passed.
-- Then bit 7 decides: clear, the four bytes place a bitmap file; set, they are the bitmap, which N above 32 forbids (4).
use native.Mathlib.Omega.{arith}
use Rattle.geometry.specs.Geometry.{control_size}
use Rattle.directory.proofs.ControlLaws.{root_short, root_marker, root_progress, root_address, root_bits, root_remote, root_local, root_large}
use Rattle.directory.proofs.control.root_control.Goals as goal

pub returns-then-bytes-control_size : goal.returns-then-bytes-control_size
returns-then-bytes-control_size c = root_short _ _ _ c.control_size.ensures.0 c.if-bytes-control_size.true

pub returns-then-from-n : goal.returns-then-from-n
returns-then-from-n c =
    root_marker _ _ _ c.control_size.ensures.0 c.if-bytes-control_size.false _ c.from.ensures c.if-from-n.true

pub returns-then-flags-ne0 : goal.returns-then-flags-ne0
returns-then-flags-ne0 c =
    root_progress _ _ _ c.control_size.ensures.0 c.if-bytes-control_size.false _ c.from.ensures c.if-from-n.false c.if-flags-ne0.true

pub returns-then-number_at-ne0 : goal.returns-then-number_at-ne0
returns-then-number_at-ne0 c =
    root_address _ _ _ c.control_size.ensures.0 c.if-bytes-control_size.false _ c.from.ensures c.if-from-n.false c.if-flags-ne0.false _
    c.number_at.ensures.0 c.if-number_at-ne0.true

pub returns-then-flags-ne0-2 : goal.returns-then-flags-ne0-2
returns-then-flags-ne0-2 c =
    root_bits _ _ _ c.control_size.ensures.0 c.if-bytes-control_size.false _ c.from.ensures c.if-from-n.false c.if-flags-ne0.false _
    c.number_at.ensures.0 c.if-number_at-ne0.false c.if-flags-ne0-2.true

pub remote_map-requires : goal.remote_map-requires
unfolding control_size
remote_map-requires c =
    (c.requires.one, c.requires.two, omega (arith, c.control_size.ensures.0))

pub returns-then-flags-lt-LOCAL_BITMAP : goal.returns-then-flags-lt-LOCAL_BITMAP
returns-then-flags-lt-LOCAL_BITMAP c =
    root_remote _ _ _ c.control_size.ensures.0 c.if-bytes-control_size.false _ c.from.ensures c.if-from-n.false c.if-flags-ne0.false _
    c.number_at.ensures.0 c.if-number_at-ne0.false c.if-flags-ne0-2.false c.if-flags-lt-LOCAL_BITMAP.true _ c.remote_map.ensures

pub returns-then-g-le-MOST_LOCAL_PAGES : goal.returns-then-g-le-MOST_LOCAL_PAGES
returns-then-g-le-MOST_LOCAL_PAGES c =
    root_local _ _ _ c.control_size.ensures.0 c.if-bytes-control_size.false _ c.from.ensures c.if-from-n.false c.if-flags-ne0.false _
    c.number_at.ensures.0 c.if-number_at-ne0.false c.if-flags-ne0-2.false c.if-flags-lt-LOCAL_BITMAP.false (omega (arith, c.if-g-le-MOST_LOCAL_PAGES.true))

pub returns-else-g-le-MOST_LOCAL_PAGES : goal.returns-else-g-le-MOST_LOCAL_PAGES
returns-else-g-le-MOST_LOCAL_PAGES c =
    root_large _ _ _ c.control_size.ensures.0 c.if-bytes-control_size.false _ c.from.ensures c.if-from-n.false c.if-flags-ne0.false _
    c.number_at.ensures.0 c.if-number_at-ne0.false c.if-flags-ne0-2.false c.if-flags-lt-LOCAL_BITMAP.false (omega (arith, c.if-g-le-MOST_LOCAL_PAGES.false))
