-- A capital, a digit, or one of the signs.
use Rattle.std.proofs.Common.{sym, ◌∙◌}
use mathlib.Core.Bool.{true≢false}
use Rattle.directory.proofs.NameLaws.{capital, digit, sign}
use Rattle.directory.proofs.names.name_byte.Goals as goal
use Rattle.directory.proofs.names.name_byte.Goals.{then-is_ascii_uppercase, else-is_ascii_uppercase}

pub returns-then-is_ascii_digit : goal.returns-then-is_ascii_digit
returns-then-is_ascii_digit c =
    c.if-is_ascii_digit.true
    ∙ elim c.if-is_ascii_uppercase.branch [
      | then-is_ascii_uppercase w ↦ capital _ (sym c.is_ascii_uppercase.ensures.value ∙ w.if-is_ascii_uppercase.true)
      | else-is_ascii_uppercase w ↦ digit _ (sym w.is_ascii_digit.ensures.value ∙ sym w.value-is ∙ c.if-is_ascii_digit.true)
    ]

pub returns-else-is_ascii_digit : goal.returns-else-is_ascii_digit
returns-else-is_ascii_digit c =
    c.contains.ensures.value
    ∙ elim c.if-is_ascii_uppercase.branch [
      | then-is_ascii_uppercase w ↦ absurd (true≢false (sym w.if-is_ascii_uppercase.true ∙ sym w.value-is ∙ c.if-is_ascii_digit.false))
      | else-is_ascii_uppercase w ↦
          sign _ (sym c.is_ascii_uppercase.ensures.value ∙ w.if-is_ascii_uppercase.false) (sym w.is_ascii_digit.ensures.value ∙ sym w.value-is ∙ c.if-is_ascii_digit.false)
    ]
