-- The slots are left on the page at hand, or a page is opened.
use mathlib.Core.Path.{refl}
use native.Mathlib.Omega.{arith}
use Rattle.layout.proofs.take_slots.Goals as goal

pub returns-then-slots-left : goal.returns-then-slots-left
returns-then-slots-left c = record { here = λ h. refl; next = λ h. absurd (omega (arith, c.if-slots-left.true)) }

pub returns : goal.returns
returns c = record { here = λ h. absurd (omega (arith, c.if-slots-left.false)); next = λ h. refl }
