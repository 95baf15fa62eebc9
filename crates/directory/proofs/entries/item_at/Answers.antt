-- The first byte decides.
use mathlib.Core.Path.{ap, sym, ◌∙◌}
use Rattle.rules.specs.Names.{extended}
use Rattle.directory.proofs.EntryLaws.{high_byte, low_byte}
use Rattle.directory.proofs.entries.item_at.Goals as goal

pub returns-then-e-gt-MOST_FIRST_BYTE : goal.returns-then-e-gt-MOST_FIRST_BYTE
returns-then-e-gt-MOST_FIRST_BYTE c = sym (ap extended c.entry_at-e.ensures.0) ∙ high_byte _ c.if-e-gt-MOST_FIRST_BYTE.true

pub returns : goal.returns
returns c = (c.entry_at-e.ensures, low_byte _ c.if-e-gt-MOST_FIRST_BYTE.false)
