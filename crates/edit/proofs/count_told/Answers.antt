-- None for a directory, else all.
use Rattle.edit.proofs.Told.{told_none, told_all}
use Rattle.edit.proofs.count_told.Goals as goal

pub returns-then-directory : goal.returns-then-directory
returns-then-directory c = told_none _ _ _ c.is_directory-directory.ensures c.if-directory.true

pub returns : goal.returns
returns c = told_all _ _ _ c.is_directory-directory.ensures c.if-directory.false
