-- Document 01, "Words of demand 3", over byte images.
use Rattle.std.specs.Prelude.{Some, ◌≡◌, false, ◌↔◌, ◌⊎◌, List, [], ◌∷◌, ◌++◌, ℕ, ◌≤◌, length}
use Rattle.geometry.specs.declared.Geometry.{Geometry}
use Rattle.geometry.specs.Geometry.{geometry_of}
use Rattle.geometry.specs.Number.{Bytes}
use Rattle.rules.specs.declared.Entry.{Entry}
use Rattle.rules.specs.Result.{Res, ok}
use Rattle.rules.specs.PageSets.{count}
use Rattle.rules.specs.Chain.{views_of, Link, pages, content}
use Rattle.rules.specs.Names.{attribute}
use Rattle.rules.specs.Tree.{Label, entry, stamp_tokens, token_bytes, file_entry, directory_entry, own_pages, keys, Map, in_root, in_file, Image, used}
use Rattle.rules.specs.Check.{check}
use Rattle.rules.specs.Paths.{Path, file_key, directory_key, Found, nothing, a_file, a_directory, find, Place, root_place, directory_at}

-- accepted: the order of the check meets no fault
abbrev pub Accepted : Geometry → List ℕ → Image → Type 0
Accepted g image i = check g (views_of g image) ≡ ok i

-- nothing but room could refuse a call that puts something at the path asked for: owner table long enough, path well formed, its directories there
-- and none of them hidden (document 02, A6), and what stands at the path allowed
pub record OnlyRoom (P N : ℕ) (image table : List ℕ) (asked : Res Path) (Allowed : Found → Type 0) : Type 0 where
  pub geometry : Geometry
  pub right : geometry_of P N (length image) (length table) ≡ Some geometry
  pub tree : Image
  pub accepted : Accepted geometry image tree
  pub to : Path
  pub formed : asked ≡ ok to
  pub place : Place
  pub there : directory_at to.directories (root_place tree.tree) ≡ ok place
  pub shown : place.hidden ≡ false
  pub allowed : Allowed (find (file_key to) place.items)

-- for a put: the file absent or not read-only
abbrev pub NotReadOnly : Found → Type 0
NotReadOnly f = (l : Label) (ls : List Link) → f ≡ a_file l ls → attribute l.extension ≡ 0

-- for a making: nothing of that name
abbrev pub Absent : Found → Type 0
Absent f = f ≡ nothing

-- files and directories of two images are matched by path: the keys that lead to them; no key leads to the root
abbrev pub look_up : List ℕ → Found → Found
look_up [] x = x
look_up (k ∷ ks) nothing = nothing
look_up (k ∷ ks) (a_file l ls) = nothing
look_up (k ∷ ks) (a_directory l d) = look_up ks (find k d)

-- the root as what no key leads to; it has no entry
abbrev pub root_label : Label
root_label = record { name = 0; extension = 0; stamps = [] }

unfoldable pub at_path : List ℕ → Image → Found
at_path ks i = look_up ks (a_directory root_label i.tree)

-- the chain of a file or directory
abbrev pub chain_pages : Found → List ℕ
chain_pages nothing = []
chain_pages (a_file l ls) = pages ls
chain_pages (a_directory l d) = own_pages d

-- the bytes of its entry, with the stamps before it
abbrev pub found_entry : Geometry → Found → List ℕ
found_entry g nothing = []
found_entry g (a_file l ls) = token_bytes g.width (stamp_tokens l.stamps (entry (file_entry l ls) ∷ []))
found_entry g (a_directory l d) = token_bytes g.width (stamp_tokens l.stamps (entry (directory_entry l d) ∷ []))

-- its stamps
abbrev pub stamps_of : Found → List Entry
stamps_of nothing = []
stamps_of (a_file l ls) = l.stamps
stamps_of (a_directory l d) = l.stamps

-- there is a file or directory
abbrev pub Exists : Found → Type 0
Exists nothing = ⊥
Exists (a_file l ls) = Unit {0}
Exists (a_directory l d) = Unit {0}

-- has the pages it had: its chain has these and no others
abbrev pub SamePages : List ℕ → List ℕ → Type 0
SamePages old new = (x : ℕ) → count x new ≡ count x old

-- at least these
abbrev pub AtLeast : List ℕ → List ℕ → Type 0
AtLeast old new = (x : ℕ) → 1 ≤ count x old → 1 ≤ count x new

-- what it reads, for a file; bytes are compared as read
abbrev pub reads : Found → List ℕ
reads nothing = []
reads (a_file l ls) = content ls
reads (a_directory l d) = []

-- for the bitmap: it is local in both, or its file has the same pages
abbrev pub SameMap : Map → Map → Type 0
SameMap in_root in_root = Unit {0}
SameMap in_root (in_file ms) = ⊥
SameMap (in_file ls) in_root = ⊥
SameMap (in_file ls) (in_file ms) = SamePages (pages ls) (pages ms)

-- the keys of directory names
abbrev pub directory_keys : List ℕ → List ℕ
directory_keys [] = []
directory_keys (x ∷ xs) = directory_key x ∷ directory_keys xs

-- the target: the directory that the path's directory names lead to, the root if there are none; and what is put there
abbrev pub target_path : Path → List ℕ
target_path q = directory_keys q.directories

abbrev pub file_path : Path → List ℕ
file_path q = target_path q ++ (file_key q ∷ [])

-- an entry is kept if it stands in the same directory with the same bytes and the same stamps before it, in any order
abbrev pub Kept : Geometry → List ℕ → Image → Image → Type 0
Kept g ks old new = found_entry g (at_path ks new) ≡ found_entry g (at_path ks old)

-- the put file reads the bytes
abbrev pub PutFile : List ℕ → Found → Type 0
PutFile bytes nothing = ⊥
PutFile bytes (a_file l ls) = content ls ≡ bytes
PutFile bytes (a_directory l d) = ⊥

-- the made directory has no entries
abbrev pub EmptyDirectory : Found → Type 0
EmptyDirectory nothing = ⊥
EmptyDirectory (a_file l ls) = ⊥
EmptyDirectory (a_directory l d) = keys d ≡ []

-- a candidate for an old image, where `Asked` is what must stand at `path` and `target` leads to the target: a new image of the same P and N
pub record Candidate (g : Geometry) (old target path : List ℕ) (Asked : Found → Type 0) (new : List ℕ) : Type 0 where
  pub are_bytes : Bytes new
  pub sized : length new ≡ length old
  pub before : Image
  pub was : Accepted g old before
  pub after : Image
  pub accepted : Accepted g new after
  -- what is asked for stands at the path; if something stood there, with its stamps
  pub stands : Asked (at_path path after)
  pub stamped : Exists (at_path path before) → stamps_of (at_path path after) ≡ stamps_of (at_path path before)
  -- every other entry is kept: the entries are those with a path of at least one key
  pub kept : (k : ℕ) (ks : List ℕ) → (k ∷ ks ≡ path → ⊥) → Exists (at_path (k ∷ ks) before) → Kept g (k ∷ ks) before after
  -- every file and directory of the old image but the one at the path and the target has the pages it had, the target at least these
  pub pages : (ks : List ℕ) → (ks ≡ path → ⊥) → (ks ≡ target → ⊥) → Exists (at_path ks before) → SamePages (chain_pages (at_path ks before)) (chain_pages (at_path ks after))
  pub at_least : AtLeast (chain_pages (at_path target before)) (chain_pages (at_path target after))
  -- every other file reads the same bytes
  pub same : (ks : List ℕ) → (ks ≡ path → ⊥) → Exists (at_path ks before) → reads (at_path ks after) ≡ reads (at_path ks before)
  pub map : SameMap before.map after.map

-- the pages in use that an image has
abbrev pub pages_in_use : Image → ℕ
pages_in_use i = length (used i)

-- demand 3, of what a call answers that puts something at a path, and of the image it leaves: nothing but room could refuse it exactly when it is done or refused for room;
-- then it is done exactly when there is a candidate and refused for room exactly when there is none;
-- when done the image is a candidate, no candidate has fewer pages in use, and what stands at another path stood there
module _ (P N : ℕ) (image table : List ℕ) (asked : Res Path) (Allowed Asked : Found → Type 0) where
  -- nothing but room could refuse it
  abbrev pub Room : Type 0
  Room = OnlyRoom P N image table asked Allowed

  -- the candidates for it
  abbrev pub CandidateFor : Room → List ℕ → Type 0
  CandidateFor o new = Candidate o.geometry image (target_path o.to) (file_path o.to) Asked new

  pub record Demand3 (is_done is_full : Type 0) (after : List ℕ) : Type 0 where
    pub only_room : Room ↔ (is_done ⊎ is_full)
    pub exactly : (o : Room) → is_done ↔ ((new : List ℕ) × CandidateFor o new)
    pub refused : (o : Room) → is_full ↔ ((new : List ℕ) → CandidateFor o new → ⊥)
    pub candidate : (o : Room) → is_done → CandidateFor o after
    pub least : (o : Room) → is_done → (i : Image) → Accepted o.geometry after i → (new : List ℕ) (c : CandidateFor o new) → pages_in_use i ≤ pages_in_use c.after
    pub keeps : (o : Room) → is_done → (i : Image) → Accepted o.geometry after i
        → (ks : List ℕ) → (ks ≡ file_path o.to → ⊥) → Exists (at_path ks i) → Exists (at_path ks o.tree)
