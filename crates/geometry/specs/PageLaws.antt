-- Where a page lies in its image.
use Rattle.std.specs.Prelude.{◌≡◌, List, ℕ, ◌+◌, ◌*◌, ◌≤◌, ◌<◌, length}
use Rattle.std.proofs.Common.{mul-le-mul_right, mul_comm, suc-mul, arith, length-take, length-drop}
use Rattle.geometry.specs.declared.Geometry.{Geometry}
use Rattle.geometry.specs.Geometry.{Fit}
use Rattle.geometry.specs.Page.{page_of}

-- the one law that is not linear: a page ends within the image
pub page_end : (g : Geometry) (image : List ℕ) (p : ℕ) → Fit g image → p < g.pages → p * g.size + g.size ≤ length image
page_end g image p f h = omega (arith, mul-le-mul_right g.size h, suc-mul p g.size, mul_comm g.size g.pages, f.whole)

pub page_length : (g : Geometry) (image : List ℕ) (p : ℕ) → Fit g image → p < g.pages → length (page_of g p image) ≡ g.size
unfolding page_of
page_length g image p f h = simp (length-take, length-drop) (omega (arith, page_end g image p f h))
