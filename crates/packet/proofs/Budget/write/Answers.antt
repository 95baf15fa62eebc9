-- Each way out is one case of the definition: passed, held back, written, written without a limit.
use native.Mathlib.Omega.{arith}
use Rattle.geometry.specs.PageLaws.{page_length}
use lib.ListN.{length}
use mathlib.Core.Path.{ap, ◌∙◌}
use Rattle.packet.proofs.Budgeting.{one_unlimited, one_passed, one_held, one_written}
use Rattle.packet.proofs.Budget.write.Goals as goal

pub holds-requires : goal.holds-requires
holds-requires c =
    let v = c.requires.fit.valid in
    let k = ap length c.page_of.ensures ∙ page_length _ _ _ c.requires.fit c.requires.p_lt_pages.0 in
    (v.one, v.two, omega (arith, v.few), omega (arith, k, v.least))

pub returns-then-holds : goal.returns-then-holds
returns-then-holds c =
    one_passed _ _ _ _ _ _ c.if-self.true _ c.page_of.ensures _ c.holds.ensures c.if-holds.true

pub returns-then-self-eq0 : goal.returns-then-self-eq0
returns-then-self-eq0 c =
    one_held _ _ _ _ _ _ c.if-self.true _ c.page_of.ensures _ c.holds.ensures c.if-holds.false c.if-self-eq0.true

pub returns-then-self : goal.returns-then-self
returns-then-self c =
    one_written _ _ _ _ _ _ c.if-self.true _ c.page_of.ensures _ c.holds.ensures c.if-holds.false c.if-self-eq0.false _ c.write_page.ensures

pub returns : goal.returns
returns c =
    one_unlimited _ _ _ _ _ _ c.if-self.false _ c.write_page-2.ensures
