-- Each test in the order of the rule: name, then what the extension byte means.
use Rattle.std.proofs.lemmas.Bool.{not_from_true, not_from_false}
use Rattle.directory.proofs.EntryLaws.{bad_name, file_label_lem, directory_label, unknown_label}
use Rattle.directory.proofs.ExtensionLaws.{told_kind}
use Rattle.directory.proofs.entries.judge_label.Goals as goal

pub returns-then-not-named : goal.returns-then-not-named
returns-then-not-named c = bad_name _ _ _ c.valid_name-named.ensures (not_from_false _ c.if-not-named.true)

pub returns-in-File : goal.returns-in-File
returns-in-File c =
    file_label_lem _ _ _ c.valid_name-named.ensures (not_from_true _ c.if-not-named.false) (told_kind _ _ _ c.extension_of-kind.ensures.is_kind c.in-File.is)

pub returns-in-Directory : goal.returns-in-Directory
returns-in-Directory c =
    directory_label _ _ _ c.valid_name-named.ensures (not_from_true _ c.if-not-named.false) (told_kind _ _ _ c.extension_of-kind.ensures.is_kind c.in-Directory.is)

pub returns-in-Unknown : goal.returns-in-Unknown
returns-in-Unknown c =
    unknown_label _ _ _ c.valid_name-named.ensures (not_from_true _ c.if-not-named.false) (told_kind _ _ _ c.extension_of-kind.ensures.is_kind c.in-Unknown.is)
