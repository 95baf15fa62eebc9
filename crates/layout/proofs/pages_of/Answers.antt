-- By the kind of the entry.
use mathlib.Core.Path.{sym, ◌∙◌}
use Rattle.layout.proofs.AddedEntries.{pages_none, pages_some}
use Rattle.layout.proofs.pages_of.Goals as goal

pub returns-then-is_directory : goal.returns-then-is_directory
returns-then-is_directory c =
    pages_none c.args.e _ _ (sym c.is_directory.ensures ∙ c.if-is_directory.true)

pub returns : goal.returns
returns c =
    pages_some c.args.e _ _ (sym c.is_directory.ensures ∙ c.if-is_directory.false)
