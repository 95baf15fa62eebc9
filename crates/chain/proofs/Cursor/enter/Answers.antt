-- A refused step is the answer. A page that was passed is inside the image, so that its data bytes can be cut out;
-- then the fault of its kind decides: a refusal at this page, or the next position.
use mathlib.Core.Path.{sym, ◌∙◌}
use Rattle.rules.proofs.AnswerLaws.{refused_up}
use Rattle.chain.proofs.StepLaws.{taken, enter_refused, reaches, entered_fault, entered_on}
use Rattle.chain.proofs.Cursor.enter.Goals as goal

pub step-requires : goal.step-requires
step-requires c = c.requires

pub page_of-requires : goal.page_of-requires
page_of-requires c =
    let k = taken _ _ _ _ _ (sym c.in_ok-size.was ∙ c.step.ensures) in record { fit = c.requires.fit; page_lt_pages = k.inside }

pub data_of-bytes-requires : goal.data_of-bytes-requires
data_of-bytes-requires c =
    reaches _ _ _ _ _ (sym c.in_ok-size.was ∙ c.step.ensures) _ c.page_of.ensures

pub returns-in_err-size : goal.returns-in_err-size
returns-in_err-size c =
    refused_up c.from_residual.result _ c.from_residual.ensures.1 ∙ enter_refused _ _ _ _ _ (sym c.in_err-size.was ∙ c.step.ensures)

pub returns-in_err-judge_page : goal.returns-in_err-judge_page
returns-in_err-judge_page c =
    refused_up c.from_residual-in_err-judge_page.result _ c.from_residual-in_err-judge_page.ensures.1
    ∙ entered_fault _ _ _ _ _ (sym c.in_ok-size.was ∙ c.step.ensures) _ c.page_of.ensures _ _ c.data_of-bytes.ensures _ c.judge_page.ensures _ c.in_err-judge_page.was

pub returns : goal.returns
returns c =
    entered_on _ _ _ _ _ (sym c.in_ok-size.was ∙ c.step.ensures) _ c.page_of.ensures _ _ c.data_of-bytes.ensures _ c.judge_page.ensures _ c.in_ok-judge_page.was
