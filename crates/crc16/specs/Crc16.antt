-- The check sum of document 01, "Packet and chain": CRC-16 (x^16 + x^15 + x^2 + 1, least significant bit first).
use Rattle.std.specs.Prelude.{List, [], ◌∷◌, ℕ, zero, suc, ◌+◌, ◌-◌, ◌/◌, ◌%◌, ◌^◌}
use Rattle.std.specs.Int.Bits.{bit_xor}

-- a where the bit is 0, else b
abbrev pub by_bit : ℕ → ℕ → ℕ → ℕ
by_bit zero a b = a
by_bit (suc n) a b = b

-- x with its bit k the other way
unfoldable pub flip_bit : ℕ → ℕ → ℕ
flip_bit k x = by_bit (x / 2 ^ k % 2) (x + 2 ^ k) (x - 2 ^ k)

-- one bit step: the lowest bit leaves; where it was 1, the bits 0, 13 and 15 of what is left change (x^15, x^2 and 1, lowest bit first)
unfoldable pub bit_step : ℕ → ℕ
bit_step r = by_bit (r % 2) (r / 2) (flip_bit 15 (flip_bit 13 (flip_bit 0 (r / 2))))

unfoldable pub bit_steps : ℕ → ℕ → ℕ
bit_steps zero r = r
bit_steps (suc n) r = bit_steps n (bit_step r)

-- one byte: mixed into the low bits of the register, then eight bit steps
unfoldable pub byte_step : ℕ → ℕ → ℕ
byte_step r b = bit_steps 8 (bit_xor b r)

-- the register after the bytes of a list, started with r
unfoldable pub crc16 : ℕ → List ℕ → ℕ
crc16 r [] = r
crc16 r (b ∷ bs) = crc16 (byte_step r b) bs
