-- Document 01, "Directory pages": the bitmap. Bit k, low bit of the first byte first, is 1 exactly when page k is in use; bits from N up are 0.
use Rattle.std.specs.Prelude.{List, [], ◌∷◌, ℕ, zero, suc, ◌+◌, ◌*◌, ◌/◌, ◌%◌, ◌^◌, eqb, length, get_or, take, drop}
use Rattle.geometry.specs.declared.Geometry.{Geometry}
use Rattle.geometry.specs.Choose.{choose}
use Rattle.geometry.specs.Geometry.{bitmap_size}
use Rattle.rules.specs.PageSets.{bit, mem}
use Rattle.rules.specs.Chain.{Link, link}
use Rattle.rules.specs.Tree.{Map, in_root, in_file}

-- bit k of a bitmap
unfoldable pub bit_at : List ℕ → ℕ → ℕ
bit_at bits k = get_or bits (k / 8) 0 / 2 ^ (k % 8) % 2

-- the lowest of the n bits from k on that differs from the pages in use; k + n if none does
unfoldable pub lowest_difference : List ℕ → List ℕ → ℕ → ℕ → ℕ
lowest_difference bits used k zero = k
lowest_difference bits used k (suc n) = choose (eqb (bit_at bits k) (bit (mem k used))) (lowest_difference bits used (k + 1) n) k

-- the byte for the n pages from k on
abbrev pub byte_for : List ℕ → ℕ → ℕ → ℕ
byte_for used k zero = 0
byte_for used k (suc n) = bit (mem k used) + 2 * byte_for used (k + 1) n

-- the bytes for the pages in use, n of them from page k on
unfoldable pub bitmap_from : List ℕ → ℕ → ℕ → List ℕ
bitmap_from used k zero = []
bitmap_from used k (suc n) = byte_for used k 8 ∷ bitmap_from used (k + 8) n

-- the bytes that a bitmap has: four in the root, N / 8 rounded up in a file
abbrev pub map_size : Geometry → Map → ℕ
map_size g in_root = 4
map_size g (in_file ls) = bitmap_size g

abbrev pub bitmap_of : Geometry → List ℕ → Map → List ℕ
bitmap_of g used m = bitmap_from used 0 (map_size g m)

-- a bitmap file with other bytes: it keeps its packets' lengths
abbrev pub refill : List Link → List ℕ → List Link
refill [] bits = []
refill (link p b ∷ ls) bits = link p (take (length b) bits) ∷ refill ls (drop (length b) bits)

abbrev pub remap : List ℕ → Map → Map
remap bits in_root = in_root
remap bits (in_file ls) = in_file (refill ls bits)
