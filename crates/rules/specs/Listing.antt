-- Document 01: walk order, and what a line of a listing shows.
use Rattle.std.specs.Prelude.{List, [], ◌∷◌, ◌++◌, ℕ, zero, suc, length}
use Rattle.rules.specs.declared.Line.{Line}
use Rattle.rules.specs.Result.{Res, ok, err}
use Rattle.rules.specs.Chain.{Link, first, content}
use Rattle.rules.specs.Names.{extension_number, attribute}
use Rattle.rules.specs.Tree.{Label, Items, end, page, file, dir, start_of}

-- level, name as stored, extension number, attribute, start page, pages as in the entry, bytes
abbrev pub line_of : ℕ → Label → ℕ → ℕ → ℕ → Line
line_of level l start pages bytes =
    record { level = level; name = l.name; extension = extension_number l.extension; attribute = attribute l.extension; start = start; pages = pages; length = bytes }

abbrev pub file_line : ℕ → Label → List Link → Line
file_line level l ls = line_of level l (first ls) (length ls) (length (content ls))

-- a directory has no pages in its entry and no bytes
abbrev pub directory_line : ℕ → Label → Items → Line
directory_line level l d = line_of level l (start_of d) 0 0

-- walk order (a term of document 01): a directory's entries in chain order, and right after a subdirectory's entry all entries below it
abbrev pub lines_of : ℕ → Items → List Line
lines_of level end = []
lines_of level (page p t) = lines_of level t
lines_of level (file l ls t) = file_line level l ls ∷ lines_of level t
lines_of level (dir l d t) = directory_line level l d ∷ (lines_of (suc level) d ++ lines_of level t)

-- the entry at a position from 0; 15 at or past the end
unfoldable pub line_at : ℕ → List Line → Res Line
line_at k [] = err 15 0
line_at zero (x ∷ xs) = ok x
line_at (suc k) (x ∷ xs) = line_at k xs
