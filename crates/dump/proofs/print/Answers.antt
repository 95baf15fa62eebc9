-- A text written to an output of no bytes leaves nothing and still tells its length: so the text is counted first, and written where it fits.
use Rattle.dump.proofs.Laying.{prints_short, prints_whole}
use Rattle.dump.proofs.print.Goals as goal

pub returns-then-out-length : goal.returns-then-out-length
returns-then-out-length c =
    prints_short _ _ _ _ c.put_text-length.ensures c.if-out-length.true

pub returns : goal.returns
returns c =
    prints_whole _ _ _ _ _ _ c.put_text-length.ensures c.if-out-length.false c.put_text.ensures
