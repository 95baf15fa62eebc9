-- A blank is left out and the position stays; any other byte is a text of one byte.
use Rattle.std.proofs.Common.{rules}
use Rattle.text.proofs.Steps.{nothing}
use Rattle.text.specs.TextLaws.{blank_dropped, other_kept}
use Rattle.text.proofs.put_visible.Goals as goal

pub returns-then-c-eq32 : goal.returns-then-c-eq32
returns-then-c-eq32 c = (rw (blank_dropped _ c.if-c-eq32.true) nothing, search rules)

pub returns-else-c-eq32 : goal.returns-else-c-eq32
returns-else-c-eq32 c =
    (rw (other_kept _ c.if-c-eq32.false) c.put_byte.ensures, search rules)
