-- Document 01, "Order of the check". The first fault met is the answer.
use Rattle.std.specs.Prelude.{Bool, true, false, not, ◌||◌, List, [], ◌∷◌, ◌++◌, ℕ, zero, suc, ◌*◌, ltb, eqb, length}
use Rattle.geometry.specs.declared.Geometry.{Geometry}
use Rattle.geometry.specs.Choose.{choose}
use Rattle.geometry.specs.Geometry.{control_size, bitmap_size}
use Rattle.rules.specs.declared.Entry.{Entry}
use Rattle.rules.specs.Result.{Res, ok, err, and_then as ◌>>=◌, and_after as ◌>>◌, refuse_unless}
use Rattle.rules.specs.PageSets.{mem}
use Rattle.rules.specs.Chain.{Views, Link, pages, content, packet_at, Test, any_page, walk}
use Rattle.rules.specs.Names.{valid_name, file_number, directory_number, key, extended}
use Rattle.rules.specs.Tree.{Label, label_of, Items, end, page, file, dir, Token, new_page, entry, link_tokens, all_pages, Map, in_root, in_file, map_pages, Image, used}
use Rattle.rules.specs.Control.{Parent, the_root, Head, head_of, map_start, map_count, root_page, sub_page}
use Rattle.rules.specs.Bitmap.{lowest_difference}

-- what stands under an entry
pub data Part : Type 0 where
  chain : List Link → Part
  directory : Items → Part

abbrev pub part_pages : Part → List ℕ
part_pages (chain ls) = pages ls
part_pages (directory d) = all_pages d

abbrev pub add : Entry → Part → Items → Items
add e (chain ls) t = file (label_of e) ls t
add e (directory d) t = dir (label_of e) d t

-- one stamp more, in front of the stamps of the entry that comes first
abbrev pub stamp_label : Entry → Label → Label
stamp_label s l = record { name = l.name; extension = l.extension; stamps = s ∷ l.stamps }

abbrev pub stamp : Entry → Items → Items
stamp s end = end
stamp s (page p t) = page p t
stamp s (file l ls t) = file (stamp_label s l) ls t
stamp s (dir l d t) = dir (stamp_label s l) d t

-- an entry comes next, in the same page
unfoldable pub followed : List Token → Bool
followed [] = false
followed (new_page p ∷ ts) = false
followed (entry e ∷ ts) = true

-- how a subdirectory is judged: the directory that holds its entry, the claimed pages, the page of the entry, the entry
abbrev pub Judge : Type 0
Judge = Parent → List ℕ → ℕ → Entry → Res Items

-- the bytes of the bitmap as they stand
abbrev pub raw_bits : Head → Map → List ℕ
raw_bits h in_root = h.field
raw_bits h (in_file ls) = content ls

-- the bitmap, lowest bit first (13)
unfoldable pub judge_bits : List ℕ → List ℕ → Res (Unit {0})
judge_bits raw in_use = let d = lowest_difference raw in_use 0 (8 * length raw) in refuse_unless (eqb d (8 * length raw)) 13 d

-- a plain entry's name (9), extension number (10)
unfoldable pub judge_label : ℕ → Entry → Res (Unit {0})
judge_label p e = do
  refuse_unless (valid_name e.name) 9 p
  refuse_unless (file_number e.extension || directory_number e.extension) 10 p

-- the tree, the bitmap's place and its bytes as they stand
pub record Scan : Type 0 where
  pub image : Image
  pub raw : List ℕ

module _ (g : Geometry) (vs : Views) (fuel : ℕ) where
  -- start page (6), then its chain in the view of its extension, and count (8); `fuel` bounds the steps along each chain
  unfoldable pub judge_file : List ℕ → ℕ → Entry → Res Part
  judge_file claimed p e = do
    refuse_unless (ltb 0 e.start) 6 p
    ls ← walk g.pages (vs.file e.extension) any_page fuel 0 claimed p e.start
    refuse_unless (eqb e.pages (length ls)) 8 p
    ok (chain ls)

  -- an entry: its name and extension, twice (11), then its chain or its directory
  unfoldable pub judge_entry : Judge → Parent → List ℕ → ℕ → List ℕ → Entry → Res Part
  judge_entry sub here claimed p seen e = do
    judge_label p e
    refuse_unless (not (mem (key e.name e.extension) seen)) 11 p
    choose (directory_number e.extension) (do
      d ← sub here claimed p e
      ok (directory d)) (judge_file claimed p e)

  -- a directory's entries in chain order. An extended entry is the stamp of the entry after it in its page: with none there it is 10
  unfoldable pub judge_entries : Judge → Parent → List ℕ → ℕ → List ℕ → List Token → Res Items
  judge_entries sub here claimed p seen [] = ok end
  judge_entries sub here claimed p seen (new_page q ∷ ts) = do
    t ← judge_entries sub here claimed q seen ts
    ok (page q t)
  judge_entries sub here claimed p seen (entry e ∷ ts) = choose (extended e) (do
    refuse_unless (followed ts) 10 p
    t ← judge_entries sub here claimed p seen ts
    ok (stamp e t)) (do
      x ← judge_entry sub here claimed p seen e
      t ← judge_entries sub here (part_pages x ++ claimed) p (key e.name e.extension ∷ seen) ts
      ok (add e x t))

  -- a directory: its whole chain first, then its entries
  unfoldable pub judge_directory : Judge → Test → Parent → List ℕ → ℕ → Res Items
  judge_directory sub test here claimed p = do
    ls ← walk g.pages vs.pages test fuel 0 claimed p here.start
    judge_entries sub here (pages ls ++ claimed) here.start [] (link_tokens g (control_size g) ls)

  -- a subdirectory with so many levels left: at level nine (12), its count (8), its start page (6), then its directory to the end
  unfoldable pub judge_sub : ℕ → Judge
  judge_sub zero above claimed p e = err 12 p
  judge_sub (suc levels) above claimed p e = do
    refuse_unless (eqb e.pages 0) 8 p
    refuse_unless (ltb 0 e.start) 6 p
    judge_directory (judge_sub levels) (sub_page g above) (record { name = e.name; start = e.start }) claimed p

  -- the bitmap file's start page (6), its chain, its page count (8), then its bytes (8)
  unfoldable pub judge_map_file : ℕ → ℕ → Res Map
  judge_map_file start count = do
    refuse_unless (ltb 0 start) 6 0
    ls ← walk g.pages vs.pages any_page fuel 0 [] 0 start
    refuse_unless (eqb count (length ls)) 8 0
    refuse_unless (eqb (length (content ls)) (bitmap_size g)) 8 0
    ok (in_file ls)

  unfoldable pub judge_map : Head → Res Map
  judge_map h = choose h.local (ok in_root) (judge_map_file (map_start g.width h) (map_count g.width h))

  -- the first half of the check: all faults but 13
  unfoldable pub scan_with : Res Scan
  scan_with = do
    x ← packet_at vs.pages 0
    h ← head_of g x.bytes
    m ← judge_map h
    t ← judge_directory (judge_sub 8) (root_page g) the_root (map_pages m) 0
    ok (record { image = record { tree = t; map = m }; raw = raw_bits h m })

-- fuel of N + 1 is enough: any more gives the same answer (`scan_fuel`)
unfoldable pub scan : Geometry → Views → Res Scan
scan g vs = scan_with g vs (suc g.pages)

-- accepted (a term of document 01): the order of the check meets no fault. Last the bitmap
unfoldable pub check : Geometry → Views → Res Image
check g vs = do
  s ← scan g vs
  judge_bits s.raw (used s.image)
  ok s.image
