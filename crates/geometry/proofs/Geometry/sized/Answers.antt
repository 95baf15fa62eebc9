-- Within its bounds P times N is no more than 256 times 65535, so the product is exact. The image must have that length and the table at least four bytes a page;
-- page numbers take one byte up to 256 pages, else two.
use Prim.Native.Nat.{◌*◌, ◌≤◌}
use native.Mathlib.Nat.{mul-le-mul}
use native.Mathlib.Omega.{arith}
use Rattle.geometry.proofs.Shapes.{wrong_image, short_table, fitting, narrow, broad}
use Rattle.geometry.proofs.Geometry.sized.Goals as goal

pub overflow_mul-size : goal.overflow_mul-size
overflow_mul-size c = let a = c.args in let m : a.size * a.pages ≤ 256 * 65535 = mul-le-mul c.requires.1 c.requires.3 in omega arith

pub returns-then-image-size : goal.returns-then-image-size
returns-then-image-size c = let p = c.requires in wrong_image _ _ _ _ p.0 p.1 p.2 p.3 c.if-image-size.true

pub overflow_mul-pages : goal.overflow_mul-pages
overflow_mul-pages c = let p = c.requires in omega (arith, p.3)

pub returns-then-owners-pages : goal.returns-then-owners-pages
returns-then-owners-pages c = let p = c.requires in short_table _ _ _ _ p.0 p.1 p.2 p.3 c.if-image-size.false c.if-owners-pages.true

pub returns-then-pages-le-MOST_NARROW : goal.returns-then-pages-le-MOST_NARROW
returns-then-pages-le-MOST_NARROW c =
    let p = c.requires in fitting _ _ _ _ p.0 p.1 p.2 p.3 c.if-image-size.false _ c.if-owners-pages.false (narrow _ c.if-pages-le-MOST_NARROW.true)

pub returns-else-pages-le-MOST_NARROW : goal.returns-else-pages-le-MOST_NARROW
returns-else-pages-le-MOST_NARROW c =
    let p = c.requires in fitting _ _ _ _ p.0 p.1 p.2 p.3 c.if-image-size.false _ c.if-owners-pages.false (broad _ c.if-pages-le-MOST_NARROW.false)
