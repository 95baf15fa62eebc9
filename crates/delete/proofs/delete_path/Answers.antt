-- Each refusal in its place; the file that is found is unlinked.
use Rattle.std.specs.Prelude.{Ok}
use mathlib.Core.Path.{ap, ◌∙◌}
use Rattle.owners.specs.Records.{records_of}
use Rattle.rules.proofs.AnswerLaws.{passed_up}
use Rattle.directory.proofs.ExtensionLaws.{top_set, top_clear}
use Rattle.delete.proofs.PathDelete.{not_there, absent, hidden, read_only, can_delete, done}
use Rattle.delete.proofs.delete_path.Goals as goal

pub find_file-requires : goal.find_file-requires
find_file-requires c =
    let T = c.requires.table_len.1 in record { fit = c.requires.fit; has_image = record { image = T.tree; accepted = T.accepted } }

pub returns-then-directory : goal.returns-then-directory
returns-then-directory c =
    let a = c.args in
    hidden a.g a.image.now (records_of a.table.now) a.path.now c.requires.table_len.1 _ c.find_file.ensures a.budget _ _ (c.in_ok-directory.was ∙ ap Ok c.in-At.is) c.if-directory.true

pub returns-then-extension_of-ne0 : goal.returns-then-extension_of-ne0
returns-then-extension_of-ne0 c =
    let a = c.args in
    let x = top_set _ _ c.extension_of.ensures c.if-extension_of-ne0.true in
    read_only a.g a.image.now (records_of a.table.now) a.path.now c.requires.table_len.1 _ c.find_file.ensures a.budget _ _ (c.in_ok-directory.was ∙ ap Ok c.in-At.is)
    c.if-directory.false x

pub unlink-requires : goal.unlink-requires
unlink-requires c =
    let a = c.args in
    let p = c.requires in
    let h = can_delete a.g a.image.now (records_of a.table.now) a.path.now p.table_len.1 _ c.find_file.ensures a.budget _ _ (c.in_ok-directory.was ∙ ap Ok c.in-At.is) in record { fit = p.fit; table_len = (p.table_len.0, h, p.table_len.2) }

pub returns-in_err-directory : goal.returns-in_err-directory
returns-in_err-directory c =
    let a = c.args in
    rw (passed_up c.from_residual.result _ c.from_residual.ensures.1)
    (not_there a.g a.image.now (records_of a.table.now) a.path.now c.requires.table_len.1 _ c.find_file.ensures a.budget _ c.in_err-directory.was)

pub returns-in_default : goal.returns-in_default
returns-in_default c =
    let a = c.args in
    absent a.g a.image.now (records_of a.table.now) a.path.now c.requires.table_len.1 _ c.find_file.ensures a.budget _ _ _ (c.in_ok-directory.was ∙ ap Ok c.in_default.is)

pub returns : goal.returns
returns c =
    let a = c.args in
    let x = top_clear _ _ c.extension_of.ensures c.if-extension_of-ne0.false in
    done a.g a.image.now (records_of a.table.now) a.path.now c.requires.table_len.1 _ c.find_file.ensures a.budget _ _ (c.in_ok-directory.was ∙ ap Ok c.in-At.is)
    c.if-directory.false x _ _ c.unlink.ensures
