-- Bitmap control is byte n + 2 of page 0, inside every page; it is 128 or more exactly when bit 7 is set.
use mathlib.Core.Path.{ap}
use native.Mathlib.Omega.{arith}
use lib.ListN.{length}
use Rattle.geometry.specs.PageLaws.{page_length}
use Rattle.marks.proofs.MapPlace.{tells_local}
use Rattle.marks.proofs.is_local.Goals as goal

pub bounds-page-at : goal.bounds-page-at
bounds-page-at c =
    let f = c.requires in
    omega (arith, ap length c.page_of-page.ensures, page_length c.args.g c.args.image.now 0 f (omega (arith, f.valid.some)), f.valid.least, f.valid.two)

pub returns : goal.returns
returns c =
    tells_local c.requires c.page_of-page.ensures
