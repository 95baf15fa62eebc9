-- A length byte below n leaves no room for the pointer, one above the page's length less 3 is not inside the page: both are bad.
-- Else n of the bytes counted are the pointer, the last ones, and the others data.
use Rattle.packet.proofs.Cases.{too_small, too_long, framed}
use Rattle.packet.proofs.frame.Goals as goal

pub returns-then-size-n : goal.returns-then-size-n
returns-then-size-n c = too_small _ _ _ c.from-size.ensures c.if-size-n.true

pub returns-then-page-size : goal.returns-then-page-size
returns-then-page-size c = too_long _ _ _ c.from-size.ensures c.if-size-n.false c.if-page-size.true

pub returns : goal.returns
returns c =
    framed _ _ _ c.from-size.ensures c.if-size-n.false c.if-page-size.false _ c.number_at.ensures.0
