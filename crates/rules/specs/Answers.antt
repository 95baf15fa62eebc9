-- The answers of the calls as the rules have them: a refusal is document 01's number with its page.
use Rattle.std.specs.Prelude.{Result, Ok, Err}
use Rattle.refusals.specs.declared.Refusal.{Refusal}
use Rattle.refusals.specs.Numbers.{number_of}
use Rattle.rules.specs.Result.{Res, ok, err}

abbrev pub refused : {A : Type 0} → Refusal → Res A
refused r = err (number_of r.0) r.1

abbrev pub answer_of : {A : Type 0} → Result A Refusal → Res A
answer_of (Ok a) = ok a
answer_of (Err r) = refused r
