-- Five words, each with its number, and the line's end: joined they are `totals_text`, of fewer than 200 bytes.
use Rattle.rules.specs.ListText.{totals_text}
use Rattle.text.proofs.Steps.{and_then_lem}
use Rattle.text.proofs.put_totals.Goals as goal

pub returns : goal.returns
unfolding totals_text
returns c =
    and_then_lem c.put_field-pages.ensures.0
    (and_then_lem c.put_field-used.ensures.0
    (and_then_lem c.put_field-files.ensures.0
    (and_then_lem c.put_field-directories.ensures.0 (and_then_lem c.put_field-last.ensures.0 c.put_byte.ensures))))
