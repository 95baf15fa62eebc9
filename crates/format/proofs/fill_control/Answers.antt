-- Marker, map address, bitmap control and the four bytes, one directly behind the other: 1 + n + 1 + 4 bytes are all of the field, whatever stood there.
use Rattle.format.proofs.Fields.{control_filled}
use Rattle.format.proofs.fill_control.Goals as goal

pub returns : goal.returns
returns c =
    control_filled _ _ _ _ _ _ _ _ c.requires c.put_number.ensures c.put_number-2.ensures c.put_number-3.ensures c.put_bytes.ensures
