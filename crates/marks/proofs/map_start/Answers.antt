-- The start page stands in the n bytes of page 0 that end before byte 7, in front of the page count; every page is long enough to read it.
use mathlib.Core.Path.{ap}
use native.Mathlib.Omega.{arith}
use lib.ListN.{length}
use Rattle.geometry.specs.PageLaws.{page_length}
use Rattle.marks.proofs.MapPlace.{tells_start}
use Rattle.marks.proofs.map_start.Goals as goal

pub number_at-requires : goal.number_at-requires
number_at-requires c =
    let f = c.requires in (
      omega (arith, f.valid.two),
      omega (
        arith,
        ap length c.page_of.ensures,
        page_length c.args.g c.args.image.now 0 f
            (omega (arith, f.valid.some)),
        f.valid.least,
        f.valid.two,
      ),
    )

pub returns : goal.returns
returns c =
    tells_start c.requires c.page_of.ensures _ c.number_at.ensures.0
