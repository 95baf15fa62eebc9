-- The sum of a list of bytes, one byte at a time: those before place i are in the register, the rest is still to come.
use mathlib.Core.Path.{◌≡◌, sym, ap, ◌∙◌}
use mathlib.Core.List.{List}
use Prim.Native.Nat.{ℕ, ◌+◌, ◌≤◌, ◌<◌}
use native.Mathlib.Numerals.{add-one}
use lib.ListN.{length, drop, get_or, drop_of_length-le}
use lib.Seq.{drop-cons}
use Rattle.crc16.specs.Crc16.{byte_step, crc16}

pub more : (start r i next : ℕ) (s : List ℕ) → i < length s → crc16 start s ≡ crc16 r (drop i s) → next ≡ byte_step r (get_or s i 0) → crc16 start s ≡ crc16 next (drop (i + 1) s)
unfolding crc16
more start r i next s h e n = e ∙ (rw (add-one, drop-cons s i 0)) ∙ sym (ap (λ (x : ℕ). crc16 x (drop (i + 1) s)) n)

pub done : (start r i : ℕ) (s : List ℕ) → length s ≤ i → crc16 start s ≡ crc16 r (drop i s) → r ≡ crc16 start s
unfolding crc16
done start r i s h e = sym (e ∙ rw drop_of_length-le)
