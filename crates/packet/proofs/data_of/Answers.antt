-- The data follows the length byte: from byte 1 to byte size + 1 there are `size` bytes.
use native.Mathlib.Nat.{add-sub_cancel}
use Rattle.packet.proofs.data_of.Goals as goal

pub returns : goal.returns
returns c = simp add-sub_cancel
