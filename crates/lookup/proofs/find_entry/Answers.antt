-- The entry at the place that is found.
use mathlib.Core.Path.{subst, ◌∙◌}
use Rattle.packet.specs.Packet.{view_of}
use Rattle.lookup.specs.Searches.{IsPlace}
use Rattle.lookup.proofs.find_entry.Goals as goal

pub returns : goal.returns
returns c =
    λ t T.
    let a = c.args in
    (subst (IsPlace a.g (view_of a.g a.image.now) a.key t) c.in_ok-spot.was (c.find_place.ensures t T)).found

pub returns-in_err-spot : goal.returns-in_err-spot
returns-in_err-spot c =
    λ t T.
    let a = c.args in
    c.from_residual.ensures ∙ subst (IsPlace a.g (view_of a.g a.image.now) a.key t) c.in_err-spot.was (c.find_place.ensures t T)
