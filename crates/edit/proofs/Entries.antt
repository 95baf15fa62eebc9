-- An entry's bytes filled in the front of an array.
use mathlib.Core.Path.{◌≡◌}
use Prim.Native.Nat.{ℕ, ◌+◌, ◌*◌, ◌≤◌}
use native.Mathlib.Omega.{arith}
use lib.ListN.{length, length-append}
use Rattle.geometry.specs.declared.Geometry.{Geometry}
use Rattle.geometry.specs.Geometry.{entry_size, Valid}
use Rattle.geometry.specs.NumberLaws.{length_number}
use Rattle.rules.specs.declared.Entry.{Entry}
use Rattle.rules.specs.Names.{entry_bytes}

-- an entry fills its size, which a page has room for
pub entry_length : (g : Geometry) (e : Entry) (w : ℕ) → w ≡ entry_size g → length (entry_bytes g.width e) ≡ w
unfolding entry_size
entry_length g e w h = simp (length-append, length_number) (omega (arith, h))

pub size_is : (g : Geometry) (w : ℕ) → w ≡ entry_size g → w ≡ 5 + 2 * g.width
unfolding entry_size
size_is g w h = omega (arith, h)

pub entry_room : (g : Geometry) (w n : ℕ) → Valid g → w ≡ entry_size g → w ≡ n → n + g.width + 3 ≤ g.size
unfolding entry_size
entry_room g w n v h k = omega (arith, h, k, v.two, v.least)
