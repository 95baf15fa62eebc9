-- The entry's own fault first; then its key is looked for among the entries before it.
use mathlib.Core.Path.{ap, sym, ◌∙◌}
use Rattle.rules.specs.Answers.{answer_of}
use Rattle.rules.proofs.AnswerLaws.{refused_up}
use Rattle.entries.proofs.KeyLaws.{plain_key}
use Rattle.walk.proofs.Parts.{met_before, first_label, first_met, first_new}
use Rattle.walk.proofs.judge_entry.Goals as goal

pub returns-in_err-judge_label : goal.returns-in_err-judge_label
returns-in_err-judge_label c =
    λ seen m. refused_up c.from_residual.result _ c.from_residual.ensures.1
    ∙ first_label _ seen _ _ (ap answer_of (sym c.in_err-judge_label.was) ∙ c.judge_label.ensures)

pub is_repeated-requires : goal.is_repeated-requires
is_repeated-requires c =
    let s = c.requires in record { fit = s.fit; has_entries = (s.has_entries.0, plain_key c.args.e _ s.has_entries.1 c.key_of.ensures) }

pub returns-then-is_repeated : goal.returns-then-is_repeated
returns-then-is_repeated c =
    λ seen m. first_met _ seen _ (ap answer_of (sym c.in_ok-judge_label.was) ∙ c.judge_label.ensures) _
    (met_before _ _ _ _ _ _ seen _ c.key_of.ensures c.is_repeated.ensures m) c.if-is_repeated.true

pub returns : goal.returns
returns c =
    λ seen m. first_new _ seen _ (ap answer_of (sym c.in_ok-judge_label.was) ∙ c.judge_label.ensures) _
    (met_before _ _ _ _ _ _ seen _ c.key_of.ensures c.is_repeated.ensures m) c.if-is_repeated.false
