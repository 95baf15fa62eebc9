-- Each refusal in its place; the directory that is found without entries is unlinked.
use Rattle.std.specs.Prelude.{Ok}
use Rattle.rules.proofs.AnswerLaws.{passed_up}
use mathlib.Core.Path.{ap, sym, ◌∙◌}
use Rattle.owners.specs.Records.{records_of}
use Rattle.remove.proofs.PathRemoval.{not_there, absent, below_hidden, hidden, known_chain, not_empty, can_remove, done}
use Rattle.remove.proofs.remove_path.Goals as goal

pub find_directory-requires : goal.find_directory-requires
find_directory-requires c =
    let T = c.requires.table_len.1 in record { fit = c.requires.fit; has_image = record { image = T.tree; accepted = T.accepted } }

pub returns-then-holder : goal.returns-then-holder
returns-then-holder c =
    let a = c.args in
    below_hidden a.g a.image.now (records_of a.table.now) a.path.now c.requires.table_len.1 _ c.find_directory.ensures a.budget _ _ (c.in_ok-holder.was ∙ ap Ok c.in-At.is) c.if-holder.true

pub returns-then-extension_of-eq1 : goal.returns-then-extension_of-eq1
returns-then-extension_of-eq1 c =
    let a = c.args in
    hidden a.g a.image.now (records_of a.table.now) a.path.now c.requires.table_len.1 _ c.find_directory.ensures a.budget _ _ (c.in_ok-holder.was ∙ ap Ok c.in-At.is) c.if-holder.false
    (sym c.extension_of.ensures.attribute_is ∙ c.if-extension_of-eq1.true)

pub count_of-requires : goal.count_of-requires
count_of-requires c =
    let a = c.args in record {
      fit = c.requires.fit;
      known_chain = known_chain a.g a.image.now (records_of a.table.now) a.path.now c.requires.table_len.1 _ c.find_directory.ensures a.budget _ _ (c.in_ok-holder.was ∙ ap Ok c.in-At.is)
          c.if-holder.false;
    }

pub returns-then-count_of-ne0 : goal.returns-then-count_of-ne0
returns-then-count_of-ne0 c =
    let a = c.args in
    not_empty a.g a.image.now (records_of a.table.now) a.path.now c.requires.table_len.1 _ c.find_directory.ensures a.budget _ _ (c.in_ok-holder.was ∙ ap Ok c.in-At.is) c.if-holder.false
    (λ z. c.if-extension_of-eq1.false (c.extension_of.ensures.attribute_is ∙ z)) _ c.count_of.ensures.0 c.if-count_of-ne0.true

pub unlink-requires : goal.unlink-requires
unlink-requires c =
    let a = c.args in
    let p = c.requires in
    let h = can_remove a.g a.image.now (records_of a.table.now) a.path.now p.table_len.1 _ c.find_directory.ensures a.budget _ _ (c.in_ok-holder.was ∙ ap Ok c.in-At.is) c.if-holder.false
    (λ z. c.if-extension_of-eq1.false (c.extension_of.ensures.attribute_is ∙ z)) _ c.count_of.ensures.0 c.if-count_of-ne0.false in record { fit = p.fit; table_len = (p.table_len.0, h, p.table_len.2) }

pub returns-in_err-holder : goal.returns-in_err-holder
returns-in_err-holder c =
    let a = c.args in
    rw (passed_up c.from_residual.result _ c.from_residual.ensures.1)
    (not_there a.g a.image.now (records_of a.table.now) a.path.now c.requires.table_len.1 _ c.find_directory.ensures a.budget _ c.in_err-holder.was)

pub returns-in_default : goal.returns-in_default
returns-in_default c =
    let a = c.args in
    absent a.g a.image.now (records_of a.table.now) a.path.now c.requires.table_len.1 _ c.find_directory.ensures a.budget _ _ _ (c.in_ok-holder.was ∙ ap Ok c.in_default.is)

pub returns : goal.returns
returns c =
    let a = c.args in
    done a.g a.image.now (records_of a.table.now) a.path.now c.requires.table_len.1 _ c.find_directory.ensures a.budget _ _ (c.in_ok-holder.was ∙ ap Ok c.in-At.is) c.if-holder.false
    (λ z. c.if-extension_of-eq1.false (c.extension_of.ensures.attribute_is ∙ z)) _ c.count_of.ensures.0 c.if-count_of-ne0.false _ _ c.unlink.ensures
