-- Document 01, "Edits": paths, and what stands at one.
use Rattle.std.specs.Prelude.{Bool, true, false, not, ◌&&◌, ◌||◌, List, [], ◌∷◌, ℕ, zero, suc, ◌-◌, ◌/◌, ◌%◌, leb, eqb, length, get_or, take, drop}
use Rattle.geometry.specs.Choose.{choose}
use Rattle.geometry.specs.Number.{number}
use Rattle.rules.specs.Result.{Res, ok, err, and_then as ◌>>=◌, and_after as ◌>>◌, refuse_unless}
use Rattle.rules.specs.Chain.{Link}
use Rattle.rules.specs.Names.{valid_name, attribute, key}
use Rattle.rules.specs.Tree.{Label, key_of, Items, end, page, file, dir, start_of}
use Rattle.rules.specs.Control.{Parent, the_root}

pub record Path : Type 0 where
  pub directories : List ℕ
  pub name : ℕ
  pub extension : ℕ

-- k four-byte names
abbrev pub names_in : ℕ → List ℕ → List ℕ
names_in zero b = []
names_in (suc k) b = number (take 4 b) ∷ names_in k (drop 4 b)

abbrev pub valid_names : List ℕ → Bool
valid_names [] = true
valid_names (x ∷ xs) = valid_name x && valid_names xs

-- none to eight four-byte directory names, then a four-byte file name and one byte
abbrev pub path_length : ℕ → Bool
path_length n = eqb (n % 4) 1 && (leb 5 n && leb n 37)

-- any other length, name or byte than 0 to 99 is 14
unfoldable pub path_of : List ℕ → Res Path
path_of b = do
  refuse_unless (path_length (length b)) 14 0
  refuse_unless (valid_names (names_in (length b / 4) b)) 14 0
  refuse_unless (leb (get_or b (length b - 1) 0) 99) 14 0
  ok (record { directories = names_in (length b / 4 - 1) b; name = number (take 4 (drop (length b - 5) b)); extension = get_or b (length b - 1) 0 })

-- document 02, A1: a directory's path is one to eight four-byte names, the last its own; any other is 14. As a path it has the extension number of a subdirectory
unfoldable pub directory_path_of : List ℕ → Res Path
directory_path_of b = do
  refuse_unless (eqb (length b % 4) 0 && (leb 4 (length b) && leb (length b) 32)) 14 0
  refuse_unless (valid_names (names_in (length b / 4) b)) 14 0
  ok (record { directories = names_in (length b / 4 - 1) b; name = number (take 4 (drop (length b - 4) b)); extension = 127 })

-- the keys of a directory's name and of what a path names: its file, or its own directory
abbrev pub directory_key : ℕ → ℕ
directory_key name = key name 127

abbrev pub file_key : Path → ℕ
file_key q = key q.name q.extension

-- its name and extension, top bit clear; what is new has no stamps
abbrev pub file_label : Path → Label
file_label q = record { name = q.name; extension = q.extension; stamps = [] }

-- what stands in a directory under a key
pub data Found : Type 0 where
  nothing : Found
  a_file : Label → List Link → Found
  a_directory : Label → Items → Found

abbrev pub find : ℕ → Items → Found
find k end = nothing
find k (page p t) = find k t
find k (file l ls t) = choose (eqb k (key_of l)) (a_file l ls) (find k t)
find k (dir l d t) = choose (eqb k (key_of l)) (a_directory l d) (find k t)

-- a directory's own place: the root, or a subdirectory of the directory above it
pub data Site : Type 0 where
  at_root : Site
  below : Parent → Site

-- a directory that was reached: its place, how it is known to those below it, whether it or one on the way to it is hidden, its items
pub record Place : Type 0 where
  pub site : Site
  pub here : Parent
  pub hidden : Bool
  pub items : Items

-- the root, which is not hidden
abbrev pub root_place : Items → Place
root_place t = record { site = at_root; here = the_root; hidden = false; items = t }

-- the top bit of its extension makes a subdirectory hidden
abbrev pub is_hidden : Label → Bool
is_hidden l = eqb (attribute l.extension) 1

-- one name on: the subdirectory d with the label l
abbrev pub step_down : Place → ℕ → Label → Items → Place
step_down p x l d = record { site = below p.here; here = record { name = x; start = start_of d }; hidden = p.hidden || is_hidden l; items = d }

-- what follows in the directory found; 15 if there is none
abbrev pub in_directory : Found → (Label → Items → Res Place) → Res Place
in_directory nothing go = err 15 0
in_directory (a_file l ls) go = err 15 0
in_directory (a_directory l d) go = go l d

-- the directory that the names lead to from the one at a place; 15 if one is missing
unfoldable pub directory_at : List ℕ → Place → Res Place
directory_at [] p = ok p
directory_at (x ∷ xs) p = in_directory (find (directory_key x) p.items) (λ l d. directory_at xs (step_down p x l d))

-- a path in a tree: the path, and where its target stands (a term of document 01): the directory that its directory names lead to, the root if there are none
pub record Target : Type 0 where
  pub to : Path
  pub place : Place

-- first the path (14), then its directories (15)
unfoldable pub target_at : Res Path → Items → Res Target
target_at asked t = do
  q ← asked
  d ← directory_at q.directories (root_place t)
  ok (record { to = q; place = d })

-- for a file's path
abbrev pub target_of : List ℕ → Items → Res Target
target_of path t = target_at (path_of path) t

-- document 02, A6: an edit of a directory that is hidden, or that stands below a hidden one, is 22
unfoldable pub shown : Place → Res (Unit {0})
shown p = refuse_unless (not p.hidden) 22 0

-- a change of the directory that the names lead to
abbrev pub change_in : ℕ → (Items → Items) → Items → Items
change_in k f end = end
change_in k f (page p t) = page p (change_in k f t)
change_in k f (file l ls t) = file l ls (change_in k f t)
change_in k f (dir l d t) = choose (eqb k (key_of l)) (dir l (f d) t) (dir l d (change_in k f t))

abbrev pub change_at : List ℕ → (Items → Items) → Items → Items
change_at [] f t = f t
change_at (x ∷ xs) f t = change_in (directory_key x) (change_at xs f) t
