-- The k names are the chunks of four bytes, of the first 4 k bytes.
use Rattle.std.proofs.Common.{◌∙◌, take, rules, tests}
use Rattle.std.proofs.lemmas.Iterator.Search.{all_from_yields_List}
use Rattle.geometry.specs.Number.{number}
use Rattle.rules.specs.Names.{valid_name}
use Rattle.lookup.proofs.Cases.{yields, names_of}
use Rattle.lookup.proofs.path.valid_names.Goals as goal

pub returns : goal.returns
returns c =
    all_from_yields_List (λ x. valid_name (number (take 4 x))) _ _ _ c.all.ensures.ran (yields c.args.k c.args.bytes.now _ c.chunks_exact.ensures.size c.chunks_exact.ensures.rest c.requires) (λ x b q k. search (rules, tests))
    ∙ names_of c.args.k c.args.bytes.now
