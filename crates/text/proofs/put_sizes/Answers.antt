-- Three fields, each a blank and at most 20 digits, and the line's end: joined in this order they are the end of an entry's line, of at most 64 bytes.
use Rattle.text.proofs.Steps.{and_then_lem}
use Rattle.text.proofs.put_sizes.Goals as goal

pub returns : goal.returns
returns c =
    and_then_lem c.put_field-pages.ensures.0 (and_then_lem c.put_field-length.ensures.0 (and_then_lem c.put_field-last.ensures.0 c.put_byte.ensures))
