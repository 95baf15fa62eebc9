-- Page 0 is known to hold a right packet, so its frame is the packet. Its data bytes are inside the page and go to the front of the 256 bytes.
use mathlib.Core.Path.{ap}
use native.Mathlib.Omega.{arith}
use lib.ListN.{length}
use Rattle.geometry.specs.PageLaws.{page_length}
use Rattle.marks.specs.MapPages.{CopiesRoot}
use Rattle.marks.proofs.RootPage.{first_some, first_inside, first_place, first_copied}
use Rattle.marks.proofs.copy_root.Goals as goal

pub frame-requires : goal.frame-requires
frame-requires c =
    let f = c.requires.fit in
    (f.valid.one, f.valid.two, omega (arith, ap length c.page_of-page.ensures, page_length c.args.g c.args.image.now 0 f (omega (arith, f.valid.some)), f.valid.least))

pub unwrap-packet-requires : goal.unwrap-packet-requires
unwrap-packet-requires c =
    let s = c.requires in first_some _ _ s.fit _ _ s.buffer_len.1.stands.packet _ c.page_of-page.ensures _ c.frame.ensures

pub data_of-requires : goal.data_of-requires
data_of-requires c =
    let s = c.requires in
    first_inside _ _ s.fit _ _ s.buffer_len.1.stands.packet _ c.page_of-page.ensures _ c.frame.ensures _ c.unwrap-packet.ensures

pub put_bytes-requires : goal.put_bytes-requires
put_bytes-requires c =
    let s = c.requires in
    let k = first_place _ _ s.fit _ _ s.buffer_len.1.stands.packet _ c.page_of-page.ensures _ c.frame.ensures _ c.unwrap-packet.ensures _ c.data_of.ensures in
    omega (arith, k, s.buffer_len.0)

pub returns : goal.returns
unfolding CopiesRoot
returns c =
    λ b next q. first_copied _ _ c.requires.fit b next q _ c.page_of-page.ensures _ c.frame.ensures _ c.unwrap-packet.ensures _
    c.data_of.ensures _ _ c.put_bytes.ensures
