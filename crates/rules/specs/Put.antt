-- Document 01, "Edits": put.
use Rattle.std.specs.Prelude.{Bool, true, false, List, [], ◌++◌, ℕ, zero, suc, ◌+◌, ◌-◌, leb, eqb, length, take, drop, get_or}
use Rattle.geometry.specs.declared.Geometry.{Geometry}
use Rattle.geometry.specs.Choose.{choose}
use Rattle.geometry.specs.Geometry.{data_capacity, first_entries, later_entries}
use Rattle.packet.specs.Packet.{after_writes}
use Rattle.rules.specs.Result.{Res, ok, and_then as ◌>>=◌, and_after as ◌>>◌, refuse_unless}
use Rattle.rules.specs.PageSets.{bit, mem, free_pages}
use Rattle.rules.specs.Chain.{views_of, Link, first, chain_of, pages_for}
use Rattle.rules.specs.Tree.{Label, key_of, width, Items, end, page, file, dir, all_pages, keys, map_pages, Image, used}
use Rattle.rules.specs.Names.{attribute, directory_number}
use Rattle.rules.specs.Bitmap.{bitmap_of}
use Rattle.rules.specs.Check.{check}
use Rattle.rules.specs.Paths.{Path, file_key, file_label, Found, nothing, a_file, a_directory, find, Place, Target, target_of, shown, change_at}
use Rattle.rules.specs.Writes.{Edit, edited, edit_writes}

-- a new entry, put in front by `new`, goes to the end of the first directory page with space, in chain order: `room` slots are free on this page,
-- `next` on the next one, `later` on each further one; if there is none, page q joins the directory's end
abbrev pub insert : (Items → Items) → ℕ → ℕ → ℕ → ℕ → Items → Items
insert new later q next zero end = page q (new end)
insert new later q next (suc r) end = new end
insert new later q next zero (page p t) = page p (insert new later q later next t)
insert new later q next (suc r) (page p t) = new (page p t)
insert new later q next r (file l ls t) = file l ls (insert new later q next (r - width l) t)
insert new later q next r (dir l d t) = dir l d (insert new later q next (r - width l) t)

-- whether no page has space
abbrev pub is_full : ℕ → ℕ → ℕ → Items → Bool
is_full later next zero end = true
is_full later next (suc r) end = false
is_full later next zero (page p t) = is_full later later next t
is_full later next (suc r) (page p t) = false
is_full later next r (file l ls t) = is_full later next (r - width l) t
is_full later next r (dir l d t) = is_full later next (r - width l) t

-- a new entry in front of those after it: a file's with its chain, or for the extension number of a subdirectory that of a directory without entries, whose one page is the chain's
abbrev pub new_item : Label → List Link → Items → Items
new_item l ls t = choose (directory_number l.extension) (dir l (page (first ls) end) t) (file l ls t)

-- a replaced file: its entry stays in place with its stamps
abbrev pub replace : ℕ → List Link → Items → Items
replace k new end = end
replace k new (page p t) = page p (replace k new t)
replace k new (file l ls t) = choose (eqb k (key_of l)) (file l new t) (file l ls (replace k new t))
replace k new (dir l d t) = dir l d (replace k new t)

-- 16: the top bit makes a file read-only
unfoldable pub writable : Found → Res (Unit {0})
writable nothing = ok tt
writable (a_file l ls) = refuse_unless (eqb (attribute l.extension) 0) 16 0
writable (a_directory l d) = ok tt

-- the target of a put: 14, 15, 22, then 16
unfoldable pub put_target : List ℕ → Items → Res Target
put_target path t = do
  x ← target_of path t
  shown x.place
  writable (find (file_key x.to) x.place.items)
  ok x

-- the pages in use but for the replaced chain, which counts as free
unfoldable pub kept_pages : Path → Image → List ℕ
kept_pages q i = all_pages (change_at q.directories (replace (file_key q) []) i.tree) ++ map_pages i.map

-- how many pages join the directory: one if the entry is new and no page has space
unfoldable pub extra_pages : Geometry → Label → Items → ℕ
extra_pages g l d = choose (mem (key_of l) (keys d)) 0 (bit (is_full (later_entries g) (first_entries g) 0 d))

-- the directory with what is put: a file in the place of the one it replaces, or a new entry, q the page that may join
unfoldable pub items_after : Geometry → Label → ℕ → List Link → Items → Items
items_after g l q chain d = choose (mem (key_of l) (keys d)) (replace (key_of l) chain d) (insert (new_item l chain) (later_entries g) q (first_entries g) 0 d)

-- the edit of a put over the free pages, rising; 17 if they are too few. If the directory needs a page, the lowest free one is its; what is put then takes the next
unfoldable pub put_edit : Geometry → List ℕ → Path → List ℕ → Place → Res Edit
put_edit g free q bytes place =
    let extra = extra_pages g (file_label q) place.items in
    let wanted = pages_for (data_capacity g) (length bytes) in
    let chain = chain_of (data_capacity g) (take wanted (drop extra free)) bytes in do
      refuse_unless (leb (extra + wanted) (length free)) 17 0
      ok (record { site = place.site; before = place.items; after = items_after g (file_label q) (get_or free 0 0) chain place.items; chain = chain })

-- the image after an edit that marks nothing beforehand
unfoldable pub plain_edit : Geometry → List ℕ → Edit → Image → List ℕ → List ℕ
plain_edit g names e i image = after_writes g (edit_writes g (bitmap_of g (used i) i.map) e i (edited g names e i)) image

-- the image after a call that puts bytes at its target, which are chosen by where that stands
unfoldable pub put_at : Geometry → (Items → Res Target) → (Place → List ℕ) → List ℕ → Res (List ℕ)
put_at g target bytes image = do
  i ← check g (views_of g image)
  x ← target i.tree
  e ← put_edit g (free_pages (kept_pages x.to i) g.pages) x.to (bytes x.place) x.place
  ok (plain_edit g x.to.directories e i image)

-- the image after a put
abbrev pub put : Geometry → List ℕ → List ℕ → List ℕ → Res (List ℕ)
put g path bytes image = put_at g (put_target path) (λ _. bytes) image
