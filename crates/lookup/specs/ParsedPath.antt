-- The answer of a path as the rule has it: document 01's number. The directory names are those that its bytes begin with.
use Rattle.std.specs.Prelude.{Result, Ok, Err, List, ℕ}
use Rattle.refusals.specs.declared.Refusal.{Refusal}
use Rattle.rules.specs.Answers.{refused}
use Rattle.rules.specs.Result.{Res, ok}
use Rattle.rules.specs.Paths as paths
use Rattle.rules.specs.Paths.{names_in}
use Rattle.lookup.specs.declared.path.Parsed.{Parsed}

abbrev pub parsed_path : List ℕ → Result Parsed Refusal → Res paths.Path
parsed_path bytes (Ok x) = ok (record { directories = names_in x.names bytes; name = x.name; extension = x.extension })
parsed_path bytes (Err z) = refused z
