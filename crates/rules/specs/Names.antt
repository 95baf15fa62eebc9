-- Document 01, "Directory pages": names, extensions and entries.
use Rattle.std.specs.Prelude.{Bool, true, false, ◌&&◌, ◌||◌, List, [], ◌∷◌, ◌++◌, ℕ, ◌+◌, ◌*◌, ◌/◌, ◌%◌, leb, ltb, eqb, get_or, take, drop}
use Rattle.geometry.specs.Choose.{choose}
use Rattle.geometry.specs.Number.{number, number_bytes}
use Rattle.rules.specs.declared.Entry.{Entry}
use Rattle.rules.specs.PageSets.{mem}

-- ! # $ % & ' @ ^ _ ` { } ~
abbrev pub signs : List ℕ
signs = 33 ∷ 35 ∷ 36 ∷ 37 ∷ 38 ∷ 39 ∷ 64 ∷ 94 ∷ 95 ∷ 96 ∷ 123 ∷ 125 ∷ 126 ∷ []

-- A to Z, 0 to 9 and the signs
unfoldable pub name_byte : ℕ → Bool
name_byte c = (leb 65 c && leb c 90) || ((leb 48 c && leb c 57) || mem c signs)

abbrev pub blanks : List ℕ → Bool
blanks [] = true
blanks (c ∷ cs) = eqb c 32 && blanks cs

-- more of these bytes, then blanks (20h) only
abbrev pub name_tail : List ℕ → Bool
name_tail [] = true
name_tail (c ∷ cs) = choose (name_byte c) (name_tail cs) (blanks (c ∷ cs))

-- a name is one to four of these bytes, blanks only after them
abbrev pub name_bytes : List ℕ → Bool
name_bytes [] = false
name_bytes (c ∷ cs) = name_byte c && name_tail cs

-- a four-byte name as a number, the first byte lowest
unfoldable pub valid_name : ℕ → Bool
valid_name name = name_bytes (number_bytes 4 name)

-- the low seven bits of an extension are its number, the top bit its attribute
abbrev pub extension_number : ℕ → ℕ
extension_number x = x % 128

abbrev pub attribute : ℕ → ℕ
attribute x = x / 128

-- 0 to 99 a file, 127 a subdirectory
unfoldable pub file_number : ℕ → Bool
file_number x = leb (extension_number x) 99

unfoldable pub directory_number : ℕ → Bool
directory_number x = eqb (extension_number x) 127

-- name and extension number as one number: two entries of a directory must differ in it
abbrev pub key : ℕ → ℕ → ℕ
key name x = name * 128 + extension_number x

-- an entry: name (4), extension (1), start page (n), number of pages (n)
abbrev pub entry_of : ℕ → List ℕ → Entry
entry_of n b = record { name = number (take 4 b); extension = get_or b 4 0; start = number (take n (drop 5 b)); pages = number (take n (drop (5 + n) b)) }

abbrev pub entry_bytes : ℕ → Entry → List ℕ
entry_bytes n e = number_bytes 4 e.name ++ (e.extension ∷ (number_bytes n e.start ++ number_bytes n e.pages))

-- ROOT, as a number
abbrev pub ROOT : ℕ
ROOT = number (82 ∷ 79 ∷ 79 ∷ 84 ∷ [])

-- an extended entry, the stamp of an owner (document 02, A2): its first byte is above 127
unfoldable pub extended : Entry → Bool
extended e = ltb 127 (e.name % 256)
