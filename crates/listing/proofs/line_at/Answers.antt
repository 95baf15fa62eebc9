-- An accepted image's tree stands from page 0 on, so the search in the root answers by the rule.
use mathlib.Core.Path.{◌≡◌}
use native.Mathlib.Omega.{arith}
use Rattle.std.specs.ControlFlow.{break_value}
use Rattle.rules.specs.Listing.{lines_of}
use Rattle.listing.proofs.Accepting.{accepted_stands}
use Rattle.listing.proofs.Lines.{looks_tells}
use Rattle.listing.proofs.line_at.Goals as goal

pub look_directory-requires : goal.look_directory-requires
look_directory-requires c =
    let s = c.requires in record { fit = s.fit; level_bound = (omega arith, record { tree = s.has_image.image.tree; stands = accepted_stands _ _ s.has_image.image s.has_image.accepted }) }

pub returns : goal.returns
returns c =
    λ i q.
    let e : c.break_value.result ≡ break_value c.look_directory.result = c.break_value.ensures.value in
    rw e (looks_tells c.args.k (lines_of 0 i.tree) c.look_directory.result (c.look_directory.ensures i.tree (accepted_stands _ _ i q)))
