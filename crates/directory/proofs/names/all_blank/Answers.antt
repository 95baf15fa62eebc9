-- Each byte is a blank.
use Rattle.std.proofs.Common.{◌∙◌, nat_eq, rules, tests}
use Rattle.std.proofs.lemmas.Iterator.{YieldsList-from_slice}
use Rattle.std.proofs.lemmas.Iterator.Search.{all_from_yields_List}
use Rattle.directory.proofs.NameLaws.{all_blanks}
use Rattle.directory.proofs.names.all_blank.Goals as goal

pub returns : goal.returns
returns c = all_from_yields_List (λ x. nat_eq x 32) _ _ _ c.all.ensures.ran (YieldsList-from_slice c.args.bytes.now cc) (λ x b q k. search (rules, tests)) ∙ all_blanks c.args.bytes.now
