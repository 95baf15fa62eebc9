use Rattle.text.proofs.Steps.{nothing, and_then_lem, no_digit, one_digit, one_digit_more}
use borrow.Author.Rules.{rules}
use Rattle.text.proofs.+put_digits.Goals as goal

pub returns-then-most-eq0 : goal.returns-then-most-eq0
returns-then-most-eq0 t c = (rw (no_digit _ _ c.if-most-eq0.true) nothing, search rules)

pub returns-then-x-lt10 : goal.returns-then-x-lt10
returns-then-x-lt10 t c =
    (rw (one_digit _ _ c.if-most-eq0.false c.if-x-lt10.true) c.put_byte.ensures, search rules)

pub returns : goal.returns
returns t c =
    (rw (one_digit_more _ _ c.if-most-eq0.false c.if-x-lt10.false) (and_then_lem c.put_digits-last.ensures.0 c.put_byte-2.ensures), search rules)
