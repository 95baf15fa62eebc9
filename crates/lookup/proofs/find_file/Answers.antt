-- The path is judged and taken apart, then looked up.
use mathlib.Core.Path.{ap, sym, subst, ◌∙◌}
use Rattle.rules.specs.Result.{Res}
use Rattle.rules.specs.Chain.{views_of}
use Rattle.rules.specs.Paths.{Path}
use Rattle.rules.proofs.AnswerLaws.{passed_up}
use Rattle.rules.proofs.TargetLaws.{target_malformed}
use Rattle.lookup.specs.ParsedPath.{parsed_path}
use Rattle.lookup.specs.Targets.{LooksUp}
use Rattle.lookup.proofs.Parts.{file_within}
use Rattle.lookup.proofs.PathPlace.{looks_file}
use Rattle.lookup.proofs.find_file.Goals as goal

pub returns-in_err-parse : goal.returns-in_err-parse
returns-in_err-parse c =
    let e = ap (parsed_path c.args.path.now) (sym c.in_err-parse.was) ∙ c.parse.ensures in
    rw (passed_up c.from_residual.result _ c.from_residual.ensures.1) (λ i h. target_malformed _ i.tree _ _ (sym e))

pub find_parsed-requires : goal.find_parsed-requires
find_parsed-requires c =
    let e = ap (parsed_path c.args.path.now) (sym c.in_ok-parse.was) ∙ c.parse.ensures in
    record { fit = c.requires.fit; has_image = (c.requires.has_image, file_within _ _ e) }

pub returns : goal.returns
returns c =
    let a = c.args in
    let vs = views_of a.g a.image.now in
    let e = ap (parsed_path a.path.now) (sym c.in_ok-parse.was) ∙ c.parse.ensures in
    looks_file a.g vs a.path.now c.find_parsed.result (subst (λ (q : Res Path). LooksUp a.g vs q c.find_parsed.result) e c.find_parsed.ensures)
