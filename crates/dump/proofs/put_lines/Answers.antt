use native.Mathlib.Omega.{arith}
use Rattle.dump.proofs.Laying.{laid_none, laid_few, laid_room, laid_less, laid_more, laid_end}
use borrow.Author.Rules.{rules}
use Rattle.dump.proofs.put_lines.Goals as goal

pub loop-line-init : goal.loop-line-init
loop-line-init c = (search rules, laid_none _ _ _ _)

pub line_at-requires : goal.line_at-requires
line_at-requires c = record { fit = c.requires.fit; has_image = c.requires.has_image.0 }

pub returns : goal.returns
returns c =
    laid_end c.loop-line.invariant.1 c.requires.has_image.0 _ c.line_at.ensures c.in_default.not-Some

pub put_line-next-requires : goal.put_line-next-requires
put_line-next-requires c =
    laid_room c.loop-line.invariant.1 c.requires.fit.valid c.requires.has_image.1

pub overflow_add-k : goal.overflow_add-k
overflow_add-k c =
    omega (arith, laid_few c.loop-line.invariant.1 c.requires.fit.valid)

pub loop-line-smaller : goal.loop-line-smaller
loop-line-smaller c =
    omega (arith, laid_less c.loop-line.invariant.1 c.requires.has_image.0 _ c.line_at.ensures _ c.in-Some.is)

pub loop-line-preserved : goal.loop-line-preserved
loop-line-preserved c =
    (search rules, laid_more c.loop-line.invariant.1 c.requires.has_image.0 _ c.line_at.ensures _ _ _ c.in-Some.is c.put_line-next.ensures)
