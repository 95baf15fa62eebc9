-- Of the accepted image's tree the search tells the line at the position, or that the walk ends before it: the rule's answer, and its 15.
use mathlib.Core.Path.{ap, ◌∙◌}
use Rattle.rules.specs.Answers.{answer_of}
use Rattle.rules.specs.Listing.{lines_of}
use Rattle.query.proofs.Calling.{line_answer}
use Rattle.query.proofs.entry_of.Goals as goal

pub returns : goal.returns
returns c =
    λ i e. ap answer_of c.ok_or.ensures.value ∙ line_answer c.args.position (lines_of 0 i.tree) c.line_at.result (c.line_at.ensures i e)
