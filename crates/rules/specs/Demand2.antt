-- Demand 2, over byte images: what a call that is done leaves.
use Rattle.std.specs.Prelude.{Some, ◌≡◌, Bool, List, [], ◌∷◌, ℕ, ◌+◌, max, eqb, length, drop}
use Rattle.geometry.specs.declared.Geometry.{Geometry}
use Rattle.geometry.specs.Geometry.{geometry_of, data_capacity}
use Rattle.geometry.specs.Choose.{choose}
use Rattle.geometry.specs.Number.{Bytes}
use Rattle.geometry.specs.Page.{page_of}
use Rattle.packet.specs.Packet.{Write, write, made}
use Rattle.rules.specs.Result.{Res, ok}
use Rattle.rules.specs.PageSets.{count, free_pages}
use Rattle.rules.specs.Chain.{Link, first, content, pages_for}
use Rattle.rules.specs.Tree.{Label, end, page, map_pages, Image, used}
use Rattle.rules.specs.Bitmap.{bitmap_of}
use Rattle.rules.specs.WellFormed.{WellFormed}
use Rattle.rules.specs.Paths.{Path, file_label, Found, nothing, a_file, a_directory, Place, root_place, directory_at}
use Rattle.rules.specs.Writes.{Edit, edited, edit_writes}
use Rattle.rules.specs.Format.{empty_image, format_writes}
use Rattle.rules.specs.Put.{kept_pages, extra_pages, put_edit}
use Rattle.rules.specs.Delete.{delete_edit}
use Rattle.rules.specs.Calls.{bytes_of}
use Rattle.rules.specs.Candidate.{at_path, chain_pages, found_entry, stamps_of, reads, target_path, file_path}

-- the image is well formed in the geometry that the sizes give
pub record WellFormedAt (P N : ℕ) (image table : List ℕ) : Type 0 where
  pub geometry : Geometry
  pub right : geometry_of P N (length image) (length table) ≡ Some geometry
  pub reading : Image
  pub formed : WellFormed geometry image reading

-- what a path shows: the bytes of its entry with its stamps, the pages of its chain, what it reads, and what a read of it answers
pub record Shown : Type 0 where
  pub entry : List ℕ
  pub pages : List ℕ
  pub bytes : List ℕ
  pub answer : Res (List ℕ)

abbrev pub shown : Geometry → Found → Shown
shown g f = record { entry = found_entry g f; pages = chain_pages f; bytes = reads f; answer = bytes_of f }

-- where the longest packet ends that is written into page p; 0 if none is
abbrev pub reach : Geometry → ℕ → List Write → ℕ
reach g p [] = 0
reach g p (write q b n ∷ ws) = choose (eqb p q) (max (length b + g.width + 3) (reach g p ws)) (reach g p ws)

-- an edit from the tree i to the tree j by these page writes
pub record EditDone (g : Geometry) (image : List ℕ) (i j : Image) (ws : List Write) (after : List ℕ) : Type 0 where
  pub well_formed : WellFormed g after j
  pub are_bytes : Bytes after
  pub sized : length after ≡ length image
  pub map_pages_same : map_pages j.map ≡ map_pages i.map
  -- past the packets that change, every byte of a page stays
  pub rest : (p : ℕ) → drop (reach g p (made g ws image)) (page_of g p after) ≡ drop (reach g p (made g ws image)) (page_of g p image)

-- a format: an accepted image without entries
pub record Formatted (g : Geometry) (local : Bool) (image after : List ℕ) : Type 0 where
  -- accepted, with the root's page and the bitmap file's alone
  pub well_formed : WellFormed g after (empty_image g local)
  pub no_entries : (empty_image g local).tree ≡ page 0 end
  pub sized : length after ≡ length image
  pub are_bytes : Bytes after
  -- past the packets that change, every byte of a page stays
  pub rest : (p : ℕ) → drop (reach g p (made g (format_writes g (empty_image g local)) image)) (page_of g p after) ≡ drop (reach g p (made g (format_writes g (empty_image g local)) image)) (page_of g p image)

-- the image was well formed, and the directory of the path asked for was there
pub record PathIn (g : Geometry) (asked : Res Path) (image : List ℕ) : Type 0 where
  pub before : Image
  pub accepted : WellFormed g image before
  pub to : Path
  pub formed : asked ≡ ok to
  pub place : Place
  pub there : directory_at to.directories (root_place before.tree) ≡ ok place

-- a file
abbrev pub IsFile : Found → Type 0
IsFile nothing = ⊥
IsFile (a_file l ls) = Unit {0}
IsFile (a_directory l d) = ⊥

-- what paths show in the tree after a removal of what stood at the path: for a delete a file, for a removal an empty directory
pub record DeleteShows {g : Geometry} {asked : Res Path} {image : List ℕ} (at : PathIn g asked image) (Stood : Found → Type 0) (tree : Image) : Type 0 where
  -- it was there and is gone
  pub was : Stood (at_path (file_path at.to) at.before)
  pub gone : at_path (file_path at.to) tree ≡ nothing
  -- every other path shows what it showed: entry with its stamps, pages, bytes
  pub others : (ks : List ℕ) → (ks ≡ file_path at.to → ⊥) → shown g (at_path ks tree) ≡ shown g (at_path ks at.before)
  -- the pages of its chain are free
  pub total : (x : ℕ) → count x (used tree) + count x (chain_pages (at_path (file_path at.to) at.before)) ≡ count x (used at.before)

-- a delete, or a removal: an accepted image without what stood at the path, all else as before
pub record Deleted (g : Geometry) (asked : Res Path) (Stood : Found → Type 0) (image after : List ℕ) : Type 0 where
  pub at : PathIn g asked image
  -- accepted, with the old tree but for that entry; bytes outside the packets written stay
  pub tree : Image
  pub tree_is : tree ≡ edited g at.to.directories (delete_edit at.to at.place) at.before
  pub done : EditDone g image at.before tree (edit_writes g (bitmap_of g (used at.before) at.before.map) (delete_edit at.to at.place) at.before tree) after
  pub shows : DeleteShows at Stood tree

-- a directory without entries, whose one page is the chain's
abbrev pub empty_directory : Label → List Link → Found
empty_directory l ls = a_directory l (page (first ls) end)

-- what paths show in the tree after a put of bytes by an edit: what `stands` makes of the new entry and its chain, `a_file` for a put, `empty_directory` for a making
pub record PutShows {g : Geometry} {asked : Res Path} {image : List ℕ} (at : PathIn g asked image) (stands : Label → List Link → Found) (bytes : List ℕ) (edit : Edit) (tree : Image) : Type 0 where
  -- it has the path's name and extension byte (0 to 99 of a file, 127 of a directory, so top bit clear), the stamps of the file that it replaces or none, and its chain holds the bytes;
  -- that a new directory's page holds its control field is also part of the image being well formed
  pub label : Label
  pub links : List Link
  pub standing : at_path (file_path at.to) tree ≡ stands label links
  pub name_is : label.name ≡ at.to.name
  pub extension_is : label.extension ≡ at.to.extension
  pub stamps_are : label.stamps ≡ stamps_of (at_path (file_path at.to) at.before)
  pub reads : content links ≡ bytes
  -- every other path shows what it showed: entry with its stamps, pages, bytes; of the target, its entry, and its pages with those that join it
  pub others : (ks : List ℕ) → (ks ≡ file_path at.to → ⊥) → (ks ≡ target_path at.to → ⊥) → shown g (at_path ks tree) ≡ shown g (at_path ks at.before)
  pub target_label : Label
  pub target_before : at_path (target_path at.to) at.before ≡ a_directory target_label at.place.items
  pub target_after : at_path (target_path at.to) tree ≡ a_directory target_label edit.after
  pub target_entry : found_entry g (at_path (target_path at.to) tree) ≡ found_entry g (at_path (target_path at.to) at.before)
  pub joined : List ℕ
  pub target_pages : (x : ℕ) → count x (chain_pages (at_path (target_path at.to) tree)) ≡ count x (chain_pages (at_path (target_path at.to) at.before)) + count x joined
  -- a page joins it exactly if the entry is new and no page has space
  pub joins : length joined ≡ extra_pages g (file_label at.to) at.place.items
  -- the pages in use
  pub total : length (used tree) + length (chain_pages (at_path (file_path at.to) at.before)) ≡ length (used at.before) + length joined + pages_for (data_capacity g) (length bytes)

-- a put, or a making: an accepted image in which what is put stands at the path, all else as before
pub record PutDone (g : Geometry) (asked : Res Path) (stands : Label → List Link → Found) (bytes : Place → List ℕ) (image after : List ℕ) : Type 0 where
  pub at : PathIn g asked image
  pub edit : Edit
  pub planned : put_edit g (free_pages (kept_pages at.to at.before) g.pages) at.to (bytes at.place) at.place ≡ ok edit
  -- accepted, with the edited tree; bytes outside the packets written stay
  pub tree : Image
  pub tree_is : tree ≡ edited g at.to.directories edit at.before
  pub done : EditDone g image at.before tree (edit_writes g (bitmap_of g (used at.before) at.before.map) edit at.before tree) after
  pub shows : PutShows at stands (bytes at.place) edit tree
