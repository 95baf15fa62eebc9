-- Length byte, data, pointer: each written directly behind the one before. The sum is taken over these as they now stand, and the check goes behind them.
-- So the page's front is the packet; the rest is not touched.
use mathlib.Core.Path.{◌∙◌}
use native.Mathlib.Omega.{arith}
use lib.ListN.{length-take}
use Rattle.packet.proofs.Fronts.{packet_is}
use Rattle.packet.proofs.write_packet.Goals as goal

pub slice_bounds-crc_of-end-2 : goal.slice_bounds-crc_of-end-2
slice_bounds-crc_of-end-2 c = simp length-take (omega arith)

pub returns : goal.returns
returns c =
    packet_is _ _ _ _ _ _ _ _ _ _ (omega (arith, c.requires)) c.put_number.ensures c.put_bytes.ensures c.put_number-2.ensures
    (c.from.ensures ∙ c.crc_of-sum.ensures) c.put_number-3.ensures
