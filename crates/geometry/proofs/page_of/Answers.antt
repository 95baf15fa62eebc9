-- The image has N pages of P bytes, so that a page below N ends inside it; the bytes cut out are P from page times P on.
use native.Mathlib.Nat.{add-sub_cancel_left}
use native.Mathlib.Omega.{arith}
use Rattle.geometry.specs.Page.{page_of}
use Rattle.geometry.specs.PageLaws.{page_end}
use Rattle.geometry.proofs.page_of.Goals as goal

pub overflow_mul-at : goal.overflow_mul-at
overflow_mul-at c = omega (arith, page_end _ _ _ c.requires.fit c.requires.page_lt_pages)

pub overflow_add-end : goal.overflow_add-end
overflow_add-end c = omega (arith, page_end _ _ _ c.requires.fit c.requires.page_lt_pages)

pub slice_bounds-result-end : goal.slice_bounds-result-end
slice_bounds-result-end c = omega (arith, page_end _ _ _ c.requires.fit c.requires.page_lt_pages)

pub returns : goal.returns
unfolding page_of
returns c = simp (page_of, add-sub_cancel_left)
