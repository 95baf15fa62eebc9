-- The divisor is the definition's, by the width.
use native.Mathlib.Omega.{arith}
use mathlib.Core.Path.{◌≡◌, ap}
use Prim.Native.Nat.{ℕ, ◌+◌, ◌*◌, ◌/◌}
use Rattle.geometry.specs.Geometry.{entry_size}
use Rattle.geometry.proofs.Geometry.entries_in.Goals as goal

pub returns-then-self-eq1 : goal.returns-then-self-eq1
unfolding entry_size
returns-then-self-eq1 c = let a = c.args in let e : 7 ≡ 5 + 2 * a.self.width = omega arith in ap (λ (x : ℕ). a.bytes / x) e

pub returns : goal.returns
unfolding entry_size
returns c =
    let a = c.args in
    let v = c.requires in
    let e : 9 ≡ 5 + 2 * a.self.width = omega (arith, v.one, v.two, c.if-self-eq1.false) in
    ap (λ (x : ℕ). a.bytes / x) e
