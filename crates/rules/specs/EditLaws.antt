-- The pages of what is found at a path, and a new entry as it is written.
use Rattle.std.specs.Prelude.{List, [], ℕ, length}
use Rattle.geometry.specs.Choose.{choose}
use Rattle.rules.specs.declared.Entry.{Entry}
use Rattle.rules.specs.Chain.{Link, first, pages}
use Rattle.rules.specs.Tree.{Label, all_pages}
use Rattle.rules.specs.Paths.{Found, nothing, a_file, a_directory}
use Rattle.rules.specs.Names.{directory_number}

-- the pages of what is found, with all below it
abbrev pub all_found : Found → List ℕ
all_found nothing = []
all_found (a_file l ls) = pages ls
all_found (a_directory l d) = all_pages d

-- a new entry as it is written: a directory's page count is 0
abbrev pub new_entry : Label → List Link → Entry
new_entry l ls = record { name = l.name; extension = l.extension; start = first ls; pages = choose (directory_number l.extension) 0 (length ls) }
