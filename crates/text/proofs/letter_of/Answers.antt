-- Attribute 0 is `-`; set, it is `h` for the extension 127 of a subdirectory and `r` for a file's: the rule's own two tests.
use borrow.Author.Tests.{eq-eqb, ne_eqb}
use Rattle.geometry.specs.ChooseLaws.{choose_true, choose_false}
use Rattle.text.proofs.letter_of.Goals as goal

pub returns-in-0-default : goal.returns-in-0-default
returns-in-0-default c = simp (eq-eqb _ 0 c.in-0-default.is-0, choose_true)

pub returns-in_default-eq127 : goal.returns-in_default-eq127
returns-in_default-eq127 c = simp (ne_eqb _ 0 c.in_default-eq127.is-0.1, eq-eqb _ 127 c.in_default-eq127.is-1, choose_true, choose_false)

pub returns-in_default : goal.returns-in_default
returns-in_default c = simp (ne_eqb _ 0 c.in_default.is-0.1, ne_eqb _ 127 c.in_default.is-1.1, choose_false)
