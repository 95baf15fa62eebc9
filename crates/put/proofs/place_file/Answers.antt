-- Each refusal in its place; a new entry, or the place of the file that is there.
use Rattle.std.specs.Prelude.{Ok}
use mathlib.Core.Path.{ap, ◌∙◌}
use Rattle.rules.proofs.AnswerLaws.{passed_up}
use Rattle.directory.proofs.ExtensionLaws.{top_set, top_clear}
use Rattle.put.proofs.Placing.{not_there, has_tree, new_hidden, new_place, old_hidden, read_only, old_place, under}
use borrow.Author.Rules.{rules}
use Rattle.put.proofs.place_file.Goals as goal

pub returns-then-directory : goal.returns-then-directory
returns-then-directory c =
    λ i a. new_hidden _ _ _ _ c.find_file.ensures i a (c.in_ok-directory.was ∙ ap Ok c.in-Absent.is) c.if-directory.true

pub new_entry-requires : goal.new_entry-requires
new_entry-requires c =
    let A = c.requires.has_image in record { fit = c.requires.fit; has_tree = has_tree _ _ _ _ c.find_file.ensures A.image A.accepted (c.in_ok-directory.was ∙ ap Ok c.in-Absent.is) }

pub returns-then-holder : goal.returns-then-holder
returns-then-holder c =
    λ i a. old_hidden _ _ _ _ c.find_file.ensures i a _ _ (c.in_ok-directory.was ∙ ap Ok c.in-At.is) c.if-holder.true

pub returns-then-extension_of-ne0 : goal.returns-then-extension_of-ne0
returns-then-extension_of-ne0 c =
    λ i a.
    let x = top_set _ _ c.extension_of.ensures c.if-extension_of-ne0.true in
    read_only _ _ _ _ c.find_file.ensures i a _ _ (c.in_ok-directory.was ∙ ap Ok c.in-At.is) c.if-holder.false x

pub overflow_add-result : goal.overflow_add-result
overflow_add-result c =
    let A = c.requires.has_image in
    let u = under _ _ _ _ c.find_file.ensures A.image A.accepted _ _ (c.in_ok-directory.was ∙ ap Ok c.in-At.is) in
    search (rules, u)

pub returns-in_err-directory : goal.returns-in_err-directory
returns-in_err-directory c =
    rw (passed_up c.from_residual.result _ c.from_residual.ensures.1)
    (λ i a. not_there _ _ _ _ c.find_file.ensures i a _ c.in_err-directory.was)

pub returns-else-directory : goal.returns-else-directory
returns-else-directory c =
    λ i a. new_place _ _ _ _ c.find_file.ensures i a (c.in_ok-directory.was ∙ ap Ok c.in-Absent.is) c.if-directory.false _ c.new_entry.ensures

pub returns-else-extension_of-ne0 : goal.returns-else-extension_of-ne0
returns-else-extension_of-ne0 c =
    λ i a.
    let x = top_clear _ _ c.extension_of.ensures c.if-extension_of-ne0.false in
    old_place _ _ _ _ c.find_file.ensures i a _ _ (c.in_ok-directory.was ∙ ap Ok c.in-At.is) c.if-holder.false x
