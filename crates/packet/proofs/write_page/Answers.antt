-- A page below N lies inside the image, so its P bytes can be lent; the packet is written into them, and the image has them back in their place.
use native.Mathlib.Omega.{arith}
use Rattle.geometry.specs.PageLaws.{page_end}
use Rattle.packet.proofs.Fronts.{page_written_lem}
use Rattle.packet.proofs.write_page.Goals as goal

pub overflow_mul-at : goal.overflow_mul-at
overflow_mul-at c =
    omega (arith, page_end _ _ _ c.requires.fit c.requires.p_lt_pages.0)

pub overflow_add-end : goal.overflow_add-end
overflow_add-end c =
    omega (arith, page_end _ _ _ c.requires.fit c.requires.p_lt_pages.0)

pub slice_bounds-write_packet-end : goal.slice_bounds-write_packet-end
slice_bounds-write_packet-end c =
    omega (arith, page_end _ _ _ c.requires.fit c.requires.p_lt_pages.0)

pub returns : goal.returns
returns c = page_written_lem _ _ _ _ _ _ c.write_packet.ensures
