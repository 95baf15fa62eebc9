-- Zeros, the start page 1 and the count, of 4 - 2n, n and n bytes, are all of the four bytes.
use Rattle.format.proofs.Fields.{place_filled}
use Rattle.format.proofs.fill_place.Goals as goal

pub returns : goal.returns
returns c =
    place_filled _ _ _ _ _ _ c.requires c.put_number.ensures c.put_number-2.ensures c.put_number-3.ensures
