-- Each refusal in its place; else the bytes of the chain.
use Rattle.std.specs.Prelude.{Ok}
use mathlib.Core.Path.{ap, ◌∙◌}
use Rattle.rules.proofs.AnswerLaws.{passed_up}
use Rattle.rules.specs.Chain.{views_of}
use Rattle.query.proofs.FileRead.{not_there, absent, there, read_file}
use Rattle.query.proofs.read_path.Goals as goal

pub read_chain-requires : goal.read_chain-requires
read_chain-requires c =
    let a = c.args in
    let F = there a.g (views_of a.g a.image.now) a.path.now a.out.now c.find_file.result c.find_file.ensures c.requires.has_image.image
    c.requires.has_image.accepted _ _ (c.in_ok-spot.was ∙ ap Ok c.in-At.is) in record { fit = c.requires.fit; known_chain = record { links = F.links; chain = F.chain } }

pub returns-in_err-spot : goal.returns-in_err-spot
returns-in_err-spot c =
    let a = c.args in
    rw (passed_up c.from_residual.result _ c.from_residual.ensures.1)
    (λ i h. not_there a.g (views_of a.g a.image.now) a.path.now a.out.now c.find_file.result c.find_file.ensures i h _ c.in_err-spot.was)

pub returns-in_default : goal.returns-in_default
returns-in_default c =
    λ i h.
    let a = c.args in
    absent a.g (views_of a.g a.image.now) a.path.now a.out.now c.find_file.result c.find_file.ensures i h _ _ _ (c.in_ok-spot.was ∙ ap Ok c.in_default.is)

pub returns : goal.returns
returns c =
    λ i h.
    let a = c.args in
    read_file a.g (views_of a.g a.image.now) a.path.now a.out.now c.find_file.result c.find_file.ensures i h _ _ (c.in_ok-spot.was ∙ ap Ok c.in-At.is)
    c.read_chain.result _ c.read_chain.ensures
