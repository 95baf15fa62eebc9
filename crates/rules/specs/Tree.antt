-- The tree of an accepted image, page boundaries kept; and what stands in a directory's pages (document 01, "Directory pages").
use Rattle.std.specs.Prelude.{Bool, true, false, List, [], ◌∷◌, ◌++◌, ℕ, zero, suc, ◌/◌, length, drop}
use Rattle.geometry.specs.declared.Geometry.{Geometry}
use Rattle.geometry.specs.Geometry.{entry_size}
use Rattle.rules.specs.declared.Entry.{Entry}
use Rattle.rules.specs.Chain.{Link, link, pages, first}
use Rattle.rules.specs.Names.{key, entry_of, entry_bytes}

-- name and extension byte of an entry, and its stamps: the extended entries right before it, in order
pub record Label : Type 0 where
  pub name : ℕ
  pub extension : ℕ
  pub stamps : List Entry

abbrev pub label_of : Entry → Label
label_of e = record { name = e.name; extension = e.extension; stamps = [] }

abbrev pub key_of : Label → ℕ
key_of l = key l.name l.extension

-- the slots that an entry takes in its directory page: one, and one for each of its stamps
unfoldable pub width : Label → ℕ
width l = suc (length l.stamps)

-- a directory: where a page of it begins, and its entries in chain order, each with its chain or its directory
pub data Items : Type 0 where
  end : Items
  page : ℕ → Items → Items
  file : Label → List Link → Items → Items
  dir : Label → Items → Items → Items

-- the start page of a directory
abbrev pub start_of : Items → ℕ
start_of end = 0
start_of (page p t) = p
start_of (file l ls t) = 0
start_of (dir l d t) = 0

-- a file's page count equals its chain; a subdirectory's is 0
abbrev pub file_entry : Label → List Link → Entry
file_entry l ls = record { name = l.name; extension = l.extension; start = first ls; pages = length ls }

abbrev pub directory_entry : Label → Items → Entry
directory_entry l d = record { name = l.name; extension = l.extension; start = start_of d; pages = 0 }

-- the pages and entries of a directory in chain order
pub data Token : Type 0 where
  new_page : ℕ → Token
  entry : Entry → Token

abbrev pub entry_tokens : List Entry → List Token
entry_tokens [] = []
entry_tokens (e ∷ es) = entry e ∷ entry_tokens es

-- an entry's stamps stand right before it
abbrev pub stamp_tokens : List Entry → List Token → List Token
stamp_tokens ss ts = entry_tokens ss ++ ts

abbrev pub tokens : Items → List Token
tokens end = []
tokens (page p t) = new_page p ∷ tokens t
tokens (file l ls t) = stamp_tokens l.stamps (entry (file_entry l ls) ∷ tokens t)
tokens (dir l d t) = stamp_tokens l.stamps (entry (directory_entry l d) ∷ tokens t)

-- the entries up to the next page, as bytes
abbrev pub token_bytes : ℕ → List Token → List ℕ
token_bytes n [] = []
token_bytes n (new_page p ∷ ts) = []
token_bytes n (entry e ∷ ts) = entry_bytes n e ++ token_bytes n ts

-- a directory's chain: the first page has the control field before its entries
abbrev pub token_links : ℕ → List ℕ → List Token → List Link
token_links n control [] = []
token_links n control (new_page p ∷ ts) = link p (control ++ token_bytes n ts) ∷ token_links n [] ts
token_links n control (entry e ∷ ts) = token_links n control ts

abbrev pub directory_links : Geometry → List ℕ → Items → List Link
directory_links g control t = token_links g.width control (tokens t)

-- and back: k entries from bytes, and those of a chain's pages, the control field skipped
abbrev pub entries_in : Geometry → ℕ → List ℕ → List Token
entries_in g zero b = []
entries_in g (suc k) b = entry (entry_of g.width b) ∷ entries_in g k (drop (entry_size g) b)

abbrev pub link_tokens : Geometry → ℕ → List Link → List Token
link_tokens g skip [] = []
link_tokens g skip (link p b ∷ ls) = new_page p ∷ (entries_in g (length (drop skip b) / entry_size g) (drop skip b) ++ link_tokens g 0 ls)

-- the pages of a directory's own chain; of every chain below it; of both
abbrev pub own_pages : Items → List ℕ
own_pages end = []
own_pages (page p t) = p ∷ own_pages t
own_pages (file l ls t) = own_pages t
own_pages (dir l d t) = own_pages t

abbrev pub inner_pages : Items → List ℕ
inner_pages end = []
inner_pages (page p t) = inner_pages t
inner_pages (file l ls t) = pages ls ++ inner_pages t
inner_pages (dir l d t) = own_pages d ++ (inner_pages d ++ inner_pages t)

abbrev pub all_pages : Items → List ℕ
all_pages t = own_pages t ++ inner_pages t

-- the keys of a directory's entries
abbrev pub keys : Items → List ℕ
keys end = []
keys (page p t) = keys t
keys (file l ls t) = key_of l ∷ keys t
keys (dir l d t) = key_of l ∷ keys t

-- where the bitmap is: in the root's control field, or a file's chain
pub data Map : Type 0 where
  in_root : Map
  in_file : List Link → Map

-- whether it is in the root
abbrev pub is_local : Map → Bool
is_local in_root = true
is_local (in_file ls) = false

abbrev pub map_pages : Map → List ℕ
map_pages in_root = []
map_pages (in_file ls) = pages ls

pub record Image : Type 0 where
  pub tree : Items
  pub map : Map

-- in use: the pages in the chain of the root, the bitmap file, a file or a subdirectory
abbrev pub used : Image → List ℕ
used i = all_pages i.tree ++ map_pages i.map
