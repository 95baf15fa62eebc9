-- The position before the directory's first page, and that page opened behind the control field.
use native.Mathlib.Omega.{arith}
use Rattle.chain.proofs.Following.{follow, page_known}
use Rattle.entries.proofs.TokenLaws.{first_opened}
use Rattle.entries.proofs.Slot.first.Goals as goal

pub begin-requires : goal.begin-requires
begin-requires c =
    let f = follow _ _ _ _ _ c.new.ensures c.requires.known_chain.chain in
    let k = page_known _ _ c.requires.fit _ _ _ f in record { fit = c.requires.fit; counted = (f.counted, k.0, k.1, omega (arith, c.control_size.ensures.2)) }

pub returns : goal.returns
returns c =
    let size = c.control_size.ensures in
    first_opened c.requires.fit _ _ c.new.ensures _ size.0 (omega (arith, size.2)) _ c.begin.ensures
