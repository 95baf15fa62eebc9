-- In the order of the check: a number of N or more is 6 at the page that holds it, a wrong packet is 2 at the page itself, else the chain goes on.
-- The bytes passed can be added up: each page has fewer than 256.
use mathlib.Core.Path.{ap}
use native.Mathlib.Omega.{arith}
use lib.ListN.{length}
use Rattle.geometry.specs.PageLaws.{page_length}
use Rattle.chain.proofs.StepLaws.{judged_there, step_far, step_bad, step_page, data_small}
use Rattle.chain.proofs.Cursor.step.Goals as goal

pub returns-then-g-page : goal.returns-then-g-page
returns-then-g-page c = step_far _ _ _ c.if-g-page.true

pub judge-requires : goal.judge-requires
judge-requires c =
    let v = c.requires.fit.valid in
    (v.one, v.two, omega (arith, v.few), omega (arith, ap length c.page_of.ensures, page_length _ _ _ c.requires.fit c.if-g-page.false, v.least))

pub returns-in_default : goal.returns-in_default
returns-in_default c =
    step_bad _ _ _ c.if-g-page.false _ (judged_there _ _ _ _ c.page_of.ensures _ c.judge.ensures) c.in_default.is

pub past-requires : goal.past-requires
past-requires c =
    (c.requires.counted, data_small _ _ _ c.requires.fit c.if-g-page.false _ (judged_there _ _ _ _ c.page_of.ensures _ c.judge.ensures) _ c.in-Some.is)

pub returns : goal.returns
returns c =
    step_page _ _ _ c.if-g-page.false _ (judged_there _ _ _ _ c.page_of.ensures _ c.judge.ensures) _ c.in-Some.is _ c.past.ensures
