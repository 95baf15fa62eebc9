-- The packet in the page is judged; then its pointer and its bytes decide.
use Rattle.packet.proofs.Same.{no_packet, data_inside, other_pointer, same_pointer}
use Rattle.packet.proofs.holds.Goals as goal

pub returns-then-packet-next : goal.returns-then-packet-next
returns-then-packet-next c =
    other_pointer _ _ _ _ _ _ c.judge.ensures _ c.in-Some.is c.if-packet-next.true

pub data_of-requires : goal.data_of-requires
data_of-requires c =
    data_inside _ _ _ c.args.bytes.now 0 _ c.judge.ensures _ c.in-Some.is

pub returns-in_default : goal.returns-in_default
returns-in_default c =
    no_packet _ _ _ _ _ _ c.judge.ensures c.in_default.is

pub returns : goal.returns
returns c =
    same_pointer _ _ _ _ _ _ c.judge.ensures _ c.in-Some.is c.if-packet-next.false _ c.data_of.ensures _ c.eq.ensures
