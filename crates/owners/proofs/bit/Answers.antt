-- Below the bound the bit is 1; from it on the page's owner decides.
use mathlib.Core.Path.{◌∙◌}
use Rattle.owners.proofs.Finding.{bit_low, bit_here}
use Rattle.owners.proofs.bit.Goals as goal
use Rattle.owners.proofs.bit.Goals.{then-page-below, else-page-below}

pub returns : goal.returns
returns c = elim c.if-page-below.branch [
  | then-page-below w ↦ bit_low _ _ _ _ _ c.from.ensures w.if-page-below.true w.from-is
  | else-page-below w ↦ bit_here _ _ _ _ _ c.from.ensures w.if-page-below.false (w.from-is ∙ w.is_owned.ensures)
]
