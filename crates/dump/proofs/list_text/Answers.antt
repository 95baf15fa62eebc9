-- A malformed dump prints the line of refusal 19. A dump that is placed has its header and its image inside, so page length, page count and image are those of the rule,
-- and the text printed is that of the image's check.
use mathlib.Core.Path.{sym, ◌∙◌}
use native.Mathlib.Omega.{arith}
use Rattle.dump.proofs.Judging.{malformed, well_placed, well_sized, image_is}
use Rattle.dump.proofs.Laying.{called, listed_malformed, listed, checks_known}
use Rattle.dump.proofs.list_text.Goals as goal

pub number_at-size-requires : goal.number_at-size-requires
number_at-size-requires c =
    (omega arith, omega (arith, (well_sized _ _ (sym c.in-Some.is ∙ c.place_of.ensures)).header))

pub number_at-pages-requires : goal.number_at-pages-requires
number_at-pages-requires c =
    (omega arith, omega (arith, (well_sized _ _ (sym c.in-Some.is ∙ c.place_of.ensures)).header))

pub slice_bounds-image-count : goal.slice_bounds-image-count
slice_bounds-image-count c =
    (well_sized _ _ (sym c.in-Some.is ∙ c.place_of.ensures)).inside

pub slice_bounds-image-start : goal.slice_bounds-image-start
slice_bounds-image-start c =
    (well_sized _ _ (sym c.in-Some.is ∙ c.place_of.ensures)).inside

pub print-requires-in-Some : goal.print-requires-in-Some
print-requires-in-Some c =
    checks_known c.number_at-size.result c.number_at-pages.result _ c.check_image.result c.check_image.ensures

pub returns-in-None : goal.returns-in-None
returns-in-None c =
    called _ _ _ c.print.result _ (listed_malformed _ (malformed _ (sym c.in-None.is ∙ c.place_of.ensures))) c.print.ensures

pub returns-in-Some : goal.returns-in-Some
returns-in-Some c =
    let a = c.args in
    let e = sym c.in-Some.is ∙ c.place_of.ensures in
    called a.dump.now _ a.out.now c.print-in-Some.result _
    (listed a.dump.now _ c.number_at-size.result c.number_at-pages.result c.check_image.result (well_placed _ _ e).0 (image_is _ _ e)
    c.number_at-size.ensures.0 c.number_at-pages.ensures.0 c.check_image.ensures)
    c.print-in-Some.ensures
