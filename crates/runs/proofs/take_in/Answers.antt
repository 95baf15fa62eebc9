-- The bytes fit the room left and are held; or they fill the packet, which is written, and the rest begins the next one.
use mathlib.Core.Path.{sym}
use mathlib.Core.List.{[]}
use native.Mathlib.Omega.{arith}
use lib.Seq.{length-take-le}
use Rattle.runs.proofs.TakeLaws.{keep_in, room_first, full_size, page_there, full_room, spill}
use borrow.Author.Rules.{rules}
use Rattle.runs.proofs.take_in.Goals as goal

pub returns-then-bytes-room : goal.returns-then-bytes-room
returns-then-bytes-room c =
    keep_in _ _ _ _ _ _ c.requires.ready (omega (arith, c.if-bytes-room.true)) _ c.put_bytes.ensures

pub slice_bounds-put_bytes-end : goal.slice_bounds-put_bytes-end
slice_bounds-put_bytes-end c = sym (length-take-le _ _ (omega (arith, c.if-bytes-room.false)))

pub put_bytes-requires-2 : goal.put_bytes-requires-2
put_bytes-requires-2 c =
    room_first _ _ _ _ _ [] c.requires.ready (omega (arith, c.if-bytes-room.false))

pub slice_bounds-write_page-end-2 : goal.slice_bounds-write_page-end-2
slice_bounds-write_page-end-2 c =
    full_size _ _ _ _ _ [] c.requires.ready (omega (arith, c.if-bytes-room.false)) _ c.put_bytes-2.ensures

pub write_page-requires : goal.write_page-requires
write_page-requires c = record {
  fit = c.requires.fit;
  p_lt_pages = (
    page_there _ _ _ _ _ [] c.requires.ready (omega (arith, c.if-bytes-room.false)) _ c.put_bytes-2.ensures (omega (arith, c.if-bytes-room.false)),
    full_room _ _ _ _ _ [] c.requires.ready (omega (arith, c.if-bytes-room.false)) _ c.put_bytes-2.ensures,
  );
}

pub returns : goal.returns
returns c =
    spill _ _ _ _ _ _ c.requires.ready (omega (arith, c.if-bytes-room.false)) _ c.put_bytes-2.ensures (omega (arith, c.if-bytes-room.false)) c.requires.fit _ c.write_page.ensures (search rules) _ c.put_bytes-3.ensures
