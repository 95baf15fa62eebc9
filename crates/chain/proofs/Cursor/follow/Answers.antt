-- The page is inside the image and holds a right packet, so length and pointer say all that the packet says.
use mathlib.Core.Path.{ap}
use native.Mathlib.Omega.{arith}
use lib.ListN.{length}
use Rattle.geometry.specs.PageLaws.{page_length}
use Rattle.chain.proofs.StepLaws.{framed_there, is_told, step_page, data_small}
use Rattle.chain.proofs.Cursor.follow.Goals as goal

pub frame-requires : goal.frame-requires
frame-requires c =
    let v = c.requires.fit.valid in
    (v.one, v.two, omega (arith, ap length c.page_of.ensures, page_length _ _ _ c.requires.fit c.requires.counted.1, v.least))

pub unwrap-packet-requires : goal.unwrap-packet-requires
unwrap-packet-requires c =
    let k = c.requires.counted.2 in is_told _ k _ (framed_there _ _ _ _ c.page_of.ensures _ c.frame.ensures k)

pub past-requires : goal.past-requires
past-requires c =
    let k = c.requires.counted in
    (k.0, data_small _ _ _ c.requires.fit k.1 _ (framed_there _ _ _ _ c.page_of.ensures _ c.frame.ensures k.2) _ c.unwrap-packet.ensures)

pub returns : goal.returns
returns c =
    let k = c.requires.counted in
    step_page _ _ _ k.1 _ (framed_there _ _ _ _ c.page_of.ensures _ c.frame.ensures k.2) _ c.unwrap-packet.ensures _ c.past.ensures
