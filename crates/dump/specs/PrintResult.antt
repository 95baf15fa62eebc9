-- The answer of the text of `list` as the rule has it: its length, or 18.
use Rattle.std.specs.Prelude.{ℕ, Option, None, Some}
use Rattle.rules.specs.Result.{Res, ok, err}

abbrev pub print_result : Option ℕ → Res ℕ
print_result (Some n) = ok n
print_result None = err 18 0
