-- Level, blank, name, kind and sizes joined are `line_text`. They have at most 20 + 1 + 4 + 6 + 64 bytes, so that every position stays in its bound.
use Rattle.rules.specs.ListText.{line_text}
use Rattle.text.proofs.Steps.{and_then_lem}
use Rattle.text.proofs.put_line.Goals as goal

pub returns : goal.returns
unfolding line_text
returns c =
    and_then_lem c.put_digits-blank.ensures.0
    (and_then_lem c.put_byte-name.ensures (and_then_lem c.put_name-kind.ensures.0 (and_then_lem c.put_kind-sizes.ensures c.put_sizes.ensures)))
