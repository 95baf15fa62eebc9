use mathlib.Core.Path.{refl, sym}
use native.Mathlib.Omega.{arith}
use Rattle.owners.proofs.Finding.{count_first, count_free, count_used, too_few, enough}
use Rattle.owners.proofs.find_room.Goals as goal
use Rattle.owners.proofs.find_room.Goals.{then-not-is_owned+else-left-eq0, else-not-is_owned}

pub returns-then-need-eq0 : goal.returns-then-need-eq0
returns-then-need-eq0 c = enough _ _ _ _ (count_first _ _) c.if-need-eq0.true (omega arith)

pub loop-page-init : goal.loop-page-init
loop-page-init c = record { some = omega arith; counted = count_first _ _ }

pub returns-then-left-eq0 : goal.returns-then-left-eq0
returns-then-left-eq0 c =
    let i = c.loop-page.invariant in
    enough _ _ 0 _ (count_free _ _ _ _ 0 _ i.counted i.some c.is_owned.ensures c.if-not-is_owned.true (sym c.if-left-eq0.true)) refl (omega (arith, c.pages_of-page-end.ensures))

pub loop-page-preserved : goal.loop-page-preserved
loop-page-preserved c =
    let i = c.loop-page.invariant in
    elim c.if-not-is_owned.branch [
      | then-not-is_owned+else-left-eq0 w ↦ record {
        some = omega (arith, w.left-is, w.if-left-eq0.false);
        counted = count_free _ _ _ _ _ _ i.counted i.some c.is_owned.ensures w.if-not-is_owned.true w.left-is;
      }
      | else-not-is_owned w ↦ record {
        some = omega (arith, w.left-is);
        counted = count_used _ _ _ _ _ _ i.counted c.is_owned.ensures w.if-not-is_owned.false w.left-is;
      }
    ]

pub returns : goal.returns
returns c =
    let i = c.loop-page.invariant in
    too_few _ _ _ _ i.counted i.some (omega (arith, c.loop-page-test.false, c.pages_of-page-end.ensures))
