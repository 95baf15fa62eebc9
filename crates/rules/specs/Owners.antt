-- Totals and the owner table, both counted over the chains of the tree (document 01, "Numbers that an answer can carry").
use Rattle.std.specs.Prelude.{List, [], ◌∷◌, ◌++◌, ℕ, suc, ◌+◌, ◌*◌, ◌/◌, ◌%◌, length, drop, set, replicate}
use Rattle.rules.specs.declared.Totals.{Totals}
use Rattle.rules.specs.Result.{Res, ok, err}
use Rattle.rules.specs.Chain.{pages}
use Rattle.rules.specs.Tree.{Items, end, page, file, dir, own_pages, map_pages, Image, used}

abbrev pub file_count : Items → ℕ
file_count end = 0
file_count (page p t) = file_count t
file_count (file l ls t) = suc (file_count t)
file_count (dir l d t) = file_count d + file_count t

abbrev pub directory_count : Items → ℕ
directory_count end = 0
directory_count (page p t) = directory_count t
directory_count (file l ls t) = directory_count t
directory_count (dir l d t) = suc (directory_count d + directory_count t)

-- pages in use, files and directories; root and bitmap file are not counted as such
abbrev pub totals : Image → Totals
totals i = record { used = length (used i); files = file_count i.tree; directories = directory_count i.tree }

-- a page's owner record (document 02, A8): its owner, and its place in the owner's chain from 0
pub record OwnerRecord : Type 0 where
  pub owner : ℕ
  pub place : ℕ

abbrev pub held : ℕ → ℕ → OwnerRecord
held m k = record { owner = m; place = k }

-- the record of a free page
abbrev pub free : OwnerRecord
free = held 0 0

-- the table with the owner m at these pages, from place k on
abbrev pub own_from : ℕ → ℕ → List ℕ → List OwnerRecord → List OwnerRecord
own_from m k [] table = table
own_from m k (p ∷ ps) table = own_from m (suc k) ps (set table p (held m k))

-- the table with the owner m at the pages of its chain
abbrev pub own : ℕ → List ℕ → List OwnerRecord → List OwnerRecord
own m ps table = own_from m 0 ps table

-- 3 + k for the pages of the entry at walk position k: in walk order all entries below a subdirectory come right after its entry
abbrev pub own_entries : ℕ → Items → List OwnerRecord → List OwnerRecord
own_entries k end table = table
own_entries k (page p t) table = own_entries k t table
own_entries k (file l ls t) table = own_entries (suc k) t (own (3 + k) (pages ls) table)
own_entries k (dir l d t) table = own_entries (suc k + (file_count d + directory_count d)) t (own_entries (suc k) d (own (3 + k) (own_pages d) table))

-- the records of an image's pages: 1 root, 2 bitmap file
abbrev pub owners : ℕ → Image → List OwnerRecord
owners N i = own_entries 0 i.tree (own 1 (own_pages i.tree) (own 2 (map_pages i.map) (replicate N free)))

-- a record has four bytes: owner, then place, each low byte first
unfoldable pub record_bytes : List OwnerRecord → List ℕ
record_bytes [] = []
record_bytes (r ∷ rs) = (r.owner % 256) ∷ (r.owner / 256) ∷ (r.place % 256) ∷ (r.place / 256) ∷ record_bytes rs

-- a table of bytes with these records in front; every byte past them stays
unfoldable pub table_with : List OwnerRecord → List ℕ → List ℕ
table_with rs table = record_bytes rs ++ drop (4 * length rs) table

-- the first N records tell of the image as it then stands, all 0 if it is not accepted; the rest of the table never changes
unfoldable pub table_after : ℕ → Res Image → List ℕ → List ℕ
table_after N (ok i) table = table_with (owners N i) table
table_after N (err n p) table = table_with (replicate N free) table
