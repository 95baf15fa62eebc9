-- Document 02, A1: making and removing directories.
use Rattle.std.specs.Prelude.{not, List, ℕ, eqb, length}
use Rattle.geometry.specs.declared.Geometry.{Geometry}
use Rattle.rules.specs.Result.{Res, ok, err, and_then as ◌>>=◌, and_after as ◌>>◌, refuse_unless}
use Rattle.rules.specs.Tree.{Items, keys}
use Rattle.rules.specs.Control.{sub_control}
use Rattle.rules.specs.Paths.{directory_path_of, file_key, Found, nothing, a_file, a_directory, find, is_hidden, Place, Target, target_at, shown}
use Rattle.rules.specs.Put.{put_at}
use Rattle.rules.specs.Delete.{remove_at}
use Rattle.rules.specs.Calls.{changed}

-- 21 for a directory that is there already
unfoldable pub vacant : Found → Res (Unit {0})
vacant nothing = ok tt
vacant (a_file l ls) = err 21 0
vacant (a_directory l d) = err 21 0

-- the target of a making: 14, 15, 22, then 21; the last name is not looked at for 22
unfoldable pub make_target : List ℕ → Items → Res Target
make_target path t = do
  x ← target_at (directory_path_of path) t
  shown x.place
  vacant (find (file_key x.to) x.place.items)
  ok x

-- the bytes of a new directory's page: its control field, which names the directory above it; it has no entries
abbrev pub new_directory : Geometry → Place → List ℕ
new_directory g p = sub_control g.width p.here

-- the image after a making: the entry and the pages by the rules for a put
abbrev pub make_directory : Geometry → List ℕ → List ℕ → Res (List ℕ)
make_directory g path image = put_at g (make_target path) (new_directory g) image

-- 15 for a directory that is absent
unfoldable pub present_directory : Found → Res (Unit {0})
present_directory nothing = err 15 0
present_directory (a_file l ls) = err 15 0
present_directory (a_directory l d) = ok tt

-- 22: for a removal the last one too
unfoldable pub shown_directory : Found → Res (Unit {0})
shown_directory nothing = ok tt
shown_directory (a_file l ls) = ok tt
shown_directory (a_directory l d) = refuse_unless (not (is_hidden l)) 22 0

-- 20 for a directory that has entries, on whichever of its pages
unfoldable pub without_entries : Found → Res (Unit {0})
without_entries nothing = ok tt
without_entries (a_file l ls) = ok tt
without_entries (a_directory l d) = refuse_unless (eqb (length (keys d)) 0) 20 0

-- the target of a removal: 14, 15, 22, then 20
unfoldable pub removal_target : List ℕ → Items → Res Target
removal_target path t = do
  x ← target_at (directory_path_of path) t
  present_directory (find (file_key x.to) x.place.items)
  shown x.place
  shown_directory (find (file_key x.to) x.place.items)
  without_entries (find (file_key x.to) x.place.items)
  ok x

-- the image after a removal: as a file is deleted; all pages of the directory are free, its stamps go, the directory above it keeps its pages
abbrev pub remove_directory : Geometry → List ℕ → List ℕ → Res (List ℕ)
remove_directory g path image = remove_at g (removal_target path) image

-- ---- the calls: for every input the answer and all lent memory afterwards
module _ (P N : ℕ) (image table : List ℕ) where
  unfoldable pub make_call : List ℕ → Res (Unit {0}) × List ℕ × List ℕ
  make_call path = changed P N image table (λ g. make_directory g path image)

  unfoldable pub remove_call : List ℕ → Res (Unit {0}) × List ℕ × List ℕ
  remove_call path = changed P N image table (λ g. remove_directory g path image)
