-- Document 01, "Edits": delete.
use Rattle.std.specs.Prelude.{List, [], ℕ, eqb}
use Rattle.geometry.specs.declared.Geometry.{Geometry}
use Rattle.geometry.specs.Choose.{choose}
use Rattle.rules.specs.Result.{Res, ok, err, and_then as ◌>>=◌, and_after as ◌>>◌}
use Rattle.rules.specs.Chain.{views_of}
use Rattle.rules.specs.Tree.{key_of, Items, end, page, file, dir}
use Rattle.rules.specs.Check.{check}
use Rattle.rules.specs.Paths.{Path, file_key, Found, nothing, a_file, a_directory, find, Place, Target, target_of, shown}
use Rattle.rules.specs.Writes.{Edit}
use Rattle.rules.specs.Put.{writable, plain_edit}

-- the entry under the key goes with its stamps, a file's or a directory's; later entries of its page move up, the directory keeps its pages
abbrev pub remove : ℕ → Items → Items
remove k end = end
remove k (page p t) = page p (remove k t)
remove k (file l ls t) = choose (eqb k (key_of l)) t (file l ls (remove k t))
remove k (dir l d t) = choose (eqb k (key_of l)) t (dir l d (remove k t))

-- 15 for a file that is absent
unfoldable pub present : Found → Res (Unit {0})
present nothing = err 15 0
present (a_file l ls) = ok tt
present (a_directory l d) = err 15 0

-- the target of a delete: 14, 15, 22, then 16
unfoldable pub delete_target : List ℕ → Items → Res Target
delete_target path t = do
  x ← target_of path t
  present (find (file_key x.to) x.place.items)
  shown x.place
  writable (find (file_key x.to) x.place.items)
  ok x

-- the edit that removes what stands under a key; a delete removes what the path names
abbrev pub remove_edit : ℕ → Place → Edit
remove_edit k place = record { site = place.site; before = place.items; after = remove k place.items; chain = [] }

unfoldable pub delete_edit : Path → Place → Edit
delete_edit q place = remove_edit (file_key q) place

-- the image after a call that removes what its target has at the path
unfoldable pub remove_at : Geometry → (Items → Res Target) → List ℕ → Res (List ℕ)
remove_at g target image = do
  i ← check g (views_of g image)
  x ← target i.tree
  ok (plain_edit g x.to.directories (delete_edit x.to x.place) i image)

-- the image after a delete
abbrev pub delete : Geometry → List ℕ → List ℕ → Res (List ℕ)
delete g path image = remove_at g (delete_target path) image
