-- Document 01, "`list`": the text that the program prints for a dump. Text is ASCII bytes.
use Rattle.std.specs.Prelude.{Bool, ◌&&◌, List, [], ◌∷◌, ◌++◌, ℕ, zero, suc, ◌+◌, ◌-◌, ◌/◌, ◌%◌, leb, ltb, eqb, length, take, drop}
use Rattle.geometry.specs.declared.Geometry.{Geometry}
use Rattle.geometry.specs.Choose.{choose}
use Rattle.geometry.specs.Geometry.{geometry_of}
use Rattle.geometry.specs.Number.{number, number_bytes}
use Rattle.rules.specs.declared.Totals.{Totals}
use Rattle.rules.specs.declared.Line.{Line}
use Rattle.rules.specs.Result.{Res, ok, err, and_then as ◌>>=◌, and_after as ◌>>◌, refuse_unless}
use Rattle.rules.specs.Chain.{views_of}
use Rattle.rules.specs.Check.{check}
use Rattle.rules.specs.Owners.{totals}
use Rattle.rules.specs.Listing.{lines_of}
use Rattle.rules.specs.Calls.{in_geometry, length_of, filled}

-- a number in decimal, of at most so many digits
unfoldable pub digits : ℕ → ℕ → List ℕ
digits zero x = []
digits (suc k) x = choose (ltb x 10) [] (digits k (x / 10)) ++ ((48 + x % 10) ∷ [])

abbrev pub decimal : ℕ → List ℕ
decimal x = digits 20 x

-- " page ", "page ", " pages ", " used ", " files ", " directories ", "refused "
abbrev pub page_word : List ℕ
page_word = 112 ∷ 97 ∷ 103 ∷ 101 ∷ 32 ∷ []

abbrev pub pages_word : List ℕ
pages_word = 32 ∷ 112 ∷ 97 ∷ 103 ∷ 101 ∷ 115 ∷ 32 ∷ []

abbrev pub used_word : List ℕ
used_word = 32 ∷ 117 ∷ 115 ∷ 101 ∷ 100 ∷ 32 ∷ []

abbrev pub files_word : List ℕ
files_word = 32 ∷ 102 ∷ 105 ∷ 108 ∷ 101 ∷ 115 ∷ 32 ∷ []

abbrev pub directories_word : List ℕ
directories_word = 32 ∷ 100 ∷ 105 ∷ 114 ∷ 101 ∷ 99 ∷ 116 ∷ 111 ∷ 114 ∷ 105 ∷ 101 ∷ 115 ∷ 32 ∷ []

abbrev pub refused_word : List ℕ
refused_word = 114 ∷ 101 ∷ 102 ∷ 117 ∷ 115 ∷ 101 ∷ 100 ∷ 32 ∷ []

abbrev pub blank : List ℕ
blank = 32 ∷ []

abbrev pub line_end : List ℕ
line_end = 10 ∷ []

-- the line of totals
unfoldable pub totals_text : Geometry → Totals → List ℕ
totals_text g t =
    page_word ++ (decimal g.size ++ (pages_word ++ (decimal g.pages ++ (used_word ++ (decimal t.used
    ++ (files_word ++ (decimal t.files ++ (directories_word ++ (decimal t.directories ++ line_end)))))))))

-- a name without blanks
unfoldable pub without_blanks : List ℕ → List ℕ
without_blanks [] = []
without_blanks (c ∷ cs) = choose (eqb c 32) (without_blanks cs) (c ∷ without_blanks cs)

-- an extension number in three digits
abbrev pub three_digits : ℕ → List ℕ
three_digits x = (48 + x / 100 % 10) ∷ (48 + x / 10 % 10) ∷ (48 + x % 10) ∷ []

-- r, h or -
abbrev pub letter : Line → ℕ
letter x = choose (eqb x.attribute 0) 45 (choose (eqb x.extension 127) 104 114)

-- level, name, extension number, attribute, start page, pages as in the entry, bytes
unfoldable pub line_text : Line → List ℕ
line_text x =
    decimal x.level ++ (blank ++ (without_blanks (number_bytes 4 x.name) ++ (blank ++ (three_digits x.extension ++ (blank ++ (letter x
    ∷ (blank ++ (decimal x.start ++ (blank ++ (decimal x.pages ++ (blank ++ (decimal x.length ++ line_end))))))))))))

abbrev pub lines_text : List Line → List ℕ
lines_text [] = []
lines_text (x ∷ xs) = line_text x ++ lines_text xs

-- the dump: P (2 bytes), N (2), offset of page 0 (4), low byte first; the image stands at that offset and ends the dump
abbrev pub dump_size : List ℕ → ℕ
dump_size dump = number (take 2 dump)

abbrev pub dump_pages : List ℕ → ℕ
dump_pages dump = number (take 2 (drop 2 dump))

abbrev pub dump_offset : List ℕ → ℕ
dump_offset dump = number (take 4 (drop 4 dump))

-- an offset of 8 to 32,768 that is not past the dump's end, and at most 32,768 bytes after it; else 19
abbrev pub dump_right : List ℕ → Bool
dump_right dump =
    leb 8 (length dump) && (leb 8 (dump_offset dump) && (leb (dump_offset dump) 32768 && (leb (dump_offset dump) (length dump) && leb (length dump - dump_offset dump) 32768)))

-- all else is the check's answer; the program lends an owner table of 65,535 records
unfoldable pub dump_text : List ℕ → List ℕ → Res (List ℕ)
dump_text dump image = in_geometry (geometry_of (dump_size dump) (dump_pages dump) (length image) 262140) (err 1 0) (λ g. do
  i ← check g (views_of g image)
  ok (totals_text g (totals i) ++ lines_text (lines_of 0 i.tree)))

unfoldable pub refusal_text : Res (List ℕ) → List ℕ
refusal_text (ok text) = text
refusal_text (err n p) = refused_word ++ (decimal n ++ (blank ++ (page_word ++ (decimal p ++ line_end))))

unfoldable pub list_text : List ℕ → List ℕ
list_text dump = refusal_text (do
  refuse_unless (dump_right dump) 19 0
  dump_text dump (drop (dump_offset dump) dump))

-- the text laid into an output: its length; where the output is too short 18, and the output stays (the papers leave this answer free)
unfoldable pub text_call : List ℕ → List ℕ → Res ℕ × List ℕ
text_call dump out = let r = (do
  refuse_unless (leb (length (list_text dump)) (length out)) 18 0
  ok (list_text dump)) in (length_of r, filled out r)
