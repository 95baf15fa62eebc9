-- Page 0 judged: a wrong packet is 2; the data of a right one lies inside the page, and its control field is the root's.
use mathlib.Core.Path.{ap, ◌∙◌}
use native.Mathlib.Omega.{arith}
use lib.ListN.{length}
use Rattle.geometry.specs.PageLaws.{page_length}
use Rattle.packet.specs.Packet.{view_of}
use Rattle.volume.proofs.ScanLaws.{root_bad, root_good, page_fits, page_same}
use Rattle.volume.proofs.root_of.Goals as goal

pub judge-requires : goal.judge-requires
judge-requires c =
    let f = c.requires in
    let l = page_length _ _ 0 f (omega (arith, f.valid.some)) in
    (f.valid.one, f.valid.two, omega arith, omega (arith, ap length c.page_of-page.ensures, f.valid.least))

pub data_of-requires : goal.data_of-requires
data_of-requires c =
    page_fits c.args.g 0 _ _ c.judge.ensures _ c.in-Some.is

pub returns-in_default : goal.returns-in_default
unfolding view_of
returns-in_default c =
    let a = c.args in
    root_bad a.g 0 _ _ (c.judge.ensures ∙ page_same a.g 0 c.page_of-page.ensures) c.in_default.is

pub returns : goal.returns
unfolding view_of
returns c =
    let a = c.args in
    root_good a.g 0 _ _ (c.judge.ensures ∙ page_same a.g 0 c.page_of-page.ensures) _ c.in-Some.is _ _ c.data_of.ensures c.page_of-page.ensures _ c.root_control.ensures
