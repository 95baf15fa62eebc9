-- Below the last page the mark is compared with the owner; past it the mark is compared with 0.
use native.Mathlib.Omega.{arith}
use Rattle.bitmap.proofs.SurveyLaws.{inside, past}
use Rattle.bitmap.proofs.is_uncovered.Goals as goal

pub returns-then-page-pages : goal.returns-then-page-pages
returns-then-page-pages c = let a = c.args in inside a.pages a.page a.marked a.owned c.if-page-pages.true

pub returns : goal.returns
returns c = let a = c.args in past a.pages a.page a.marked a.owned (omega (arith, c.if-page-pages.false))
