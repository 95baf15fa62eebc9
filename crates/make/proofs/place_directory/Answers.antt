-- Each refusal in its place; a new entry in the directory above.
use Rattle.std.specs.Prelude.{Ok}
use mathlib.Core.Path.{ap, ◌∙◌}
use Rattle.rules.proofs.AnswerLaws.{passed_up}
use Rattle.make.proofs.Placing.{not_there, has_tree, new_hidden, new_place, old_hidden, there_already}
use Rattle.make.proofs.place_directory.Goals as goal

pub returns-then-above : goal.returns-then-above
returns-then-above c =
    λ i a. new_hidden _ _ _ _ c.find_directory.ensures i a (c.in_ok-above.was ∙ ap Ok c.in-Absent.is) c.if-above.true

pub new_entry-entry-requires : goal.new_entry-entry-requires
new_entry-entry-requires c =
    let A = c.requires.has_image in record { fit = c.requires.fit; has_tree = has_tree _ _ _ _ c.find_directory.ensures A.image A.accepted (c.in_ok-above.was ∙ ap Ok c.in-Absent.is) }

pub returns-then-holder : goal.returns-then-holder
returns-then-holder c =
    λ i a. old_hidden _ _ _ _ c.find_directory.ensures i a _ _ (c.in_ok-above.was ∙ ap Ok c.in-At.is) c.if-holder.true

pub returns-in_err-above : goal.returns-in_err-above
returns-in_err-above c =
    rw (passed_up c.from_residual.result _ c.from_residual.ensures.1)
    (λ i a. not_there _ _ _ _ c.find_directory.ensures i a _ c.in_err-above.was)

pub returns-else-above : goal.returns-else-above
returns-else-above c =
    λ i a. new_place _ _ _ _ c.find_directory.ensures i a (c.in_ok-above.was ∙ ap Ok c.in-Absent.is) c.if-above.false _ c.new_entry-entry.ensures

pub returns-else-holder : goal.returns-else-holder
returns-else-holder c =
    λ i a. there_already _ _ _ _ c.find_directory.ensures i a _ _ (c.in_ok-above.was ∙ ap Ok c.in-At.is) c.if-holder.false
