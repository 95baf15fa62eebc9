-- Document 01, "Directory pages": the control fields of the root and of a subdirectory, and whole entries.
use Rattle.std.specs.Prelude.{Bool, ◌&&◌, List, ◌∷◌, ◌++◌, ℕ, zero, suc, ◌+◌, ◌-◌, ◌*◌, ◌%◌, leb, eqb, length, get_or, take, drop, replicate}
use Rattle.geometry.specs.declared.Geometry.{Geometry}
use Rattle.geometry.specs.Choose.{choose}
use Rattle.geometry.specs.Geometry.{entry_size, control_size}
use Rattle.geometry.specs.Number.{number, number_bytes}
use Rattle.rules.specs.Result.{Res, ok, and_after as ◌>>◌, refuse_unless}
use Rattle.rules.specs.Chain.{first, Test}
use Rattle.rules.specs.Names.{ROOT}
use Rattle.rules.specs.Tree.{Map, in_root, in_file}

-- the marker: AA for n = 1, AB for n = 2
unfoldable pub marker : ℕ → ℕ
marker n = 0xA9 + n

-- a bitmap file's place in four bytes: n = 1: 0, 0, start, pages; n = 2: start, pages
abbrev pub place_bytes : ℕ → ℕ → ℕ → List ℕ
place_bytes n start count = replicate (4 - 2 * n) 0 ++ (number_bytes n start ++ number_bytes n count)

-- bitmap control: bit 7 set means that the four bytes are the bitmap; clear, that they place a bitmap file
abbrev pub control_byte : Map → ℕ
control_byte in_root = 128
control_byte (in_file ls) = 0

abbrev pub bitmap_field : ℕ → List ℕ → Map → List ℕ
bitmap_field n bits in_root = bits
bitmap_field n bits (in_file ls) = place_bytes n (first ls) (length ls)

-- the root's: marker, map address (n bytes, zero), bitmap control, four bitmap bytes
unfoldable pub root_control : ℕ → List ℕ → Map → List ℕ
root_control n bits m = marker n ∷ (number_bytes n 0 ++ (control_byte m ∷ bitmap_field n bits m))

-- the directory above: its name, or ROOT, and its start page, 0 for the root
pub record Parent : Type 0 where
  pub name : ℕ
  pub start : ℕ

abbrev pub the_root : Parent
the_root = record { name = ROOT; start = 0 }

-- a subdirectory's: marker, name of the directory above, one zero byte, its start page
unfoldable pub sub_control : ℕ → Parent → List ℕ
sub_control n up = marker n ∷ (number_bytes 4 up.name ++ (0 ∷ number_bytes n up.start))

-- the root's control field as read: whether the bitmap is in it, and the four bytes
pub record Head : Type 0 where
  pub local : Bool
  pub field : List ℕ

-- where bitmap control and the four bytes stand
abbrev pub control_at : ℕ → List ℕ → ℕ
control_at n b = get_or b (n + 1) 0

abbrev pub field_at : ℕ → List ℕ → List ℕ
field_at n b = take 4 (drop (n + 2) b)

-- the four bytes of a local bitmap have a bit for 32 pages
abbrev pub most_local : ℕ
most_local = 32

-- a local bitmap is allowed for N up to 32
abbrev pub local_allowed : Geometry → Bool
local_allowed g = leb g.pages most_local

-- a bitmap file's place begins with zeros for n = 1
abbrev pub place_zeros : ℕ → List ℕ → Bool
place_zeros n field = eqb (number (take (4 - 2 * n) field)) 0

-- in the order of the check: too short (4), marker (3), in progress (5), the rest (4): map address, bits 1 to 6, the four bytes
unfoldable pub head_of : Geometry → List ℕ → Res Head
head_of g b = do
  refuse_unless (leb (control_size g) (length b)) 4 0
  refuse_unless (eqb (get_or b 0 0) (marker g.width)) 3 0
  refuse_unless (eqb (control_at g.width b % 2) 0) 5 0
  refuse_unless (eqb (number (take g.width (drop 1 b))) 0) 4 0
  refuse_unless (eqb (control_at g.width b % 128) 0) 4 0
  refuse_unless (choose (leb 128 (control_at g.width b)) (local_allowed g) (place_zeros g.width (field_at g.width b))) 4 0
  ok (record { local = leb 128 (control_at g.width b); field = field_at g.width b })

-- a bitmap file's start page and page count
abbrev pub map_start : ℕ → Head → ℕ
map_start n h = number (take n (drop (4 - 2 * n) h.field))

abbrev pub map_count : ℕ → Head → ℕ
map_count n h = number (take n (drop (4 - n) h.field))

-- entries not whole (8)
unfoldable pub whole_entries : Geometry → ℕ → List ℕ → Res (Unit {0})
whole_entries g p b = refuse_unless (eqb (length b % entry_size g) 0) 8 p

-- the pages of the root
unfoldable pub root_page : Geometry → Test
root_page g zero p b = whole_entries g p (drop (control_size g) b)
root_page g (suc i) p b = whole_entries g p b

-- a subdirectory's control field after the marker: name and start page of the directory above, a zero byte between
abbrev pub back_reference : ℕ → Parent → List ℕ → Bool
back_reference n up b = eqb (number (take 4 (drop 1 b))) up.name && (eqb (get_or b 5 0) 0 && eqb (number (take n (drop 6 b))) up.start)

-- the pages of a subdirectory: on its first page too short (4), marker (3), rest (4)
unfoldable pub sub_page : Geometry → Parent → Test
sub_page g up zero p b = do
  refuse_unless (leb (control_size g) (length b)) 4 p
  refuse_unless (eqb (get_or b 0 0) (marker g.width)) 3 p
  refuse_unless (back_reference g.width up b) 4 p
  whole_entries g p (drop (control_size g) b)
sub_page g up (suc i) p b = whole_entries g p b
