-- A word and behind it a number: two texts joined, the second of at most 20 digits.
use Rattle.text.proofs.Steps.{and_then_lem}
use borrow.Author.Rules.{rules}
use Rattle.text.proofs.put_field.Goals as goal

pub returns : goal.returns
returns c =
    (and_then_lem c.put_bytes-number.ensures c.put_digits.ensures.0, search rules)
