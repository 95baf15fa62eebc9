-- Document 02, A4: what the careful calls and the mend state of their answers.
use Rattle.std.specs.Prelude.{Some, ◌≡◌, false, List, ◌∷◌, ◌++◌, ℕ, zero, suc, ◌+◌, ◌*◌, ◌≤◌, ◌<◌, length, take, drop}
use Rattle.geometry.specs.declared.Geometry.{Geometry}
use Rattle.geometry.specs.Geometry.{geometry_of}
use Rattle.geometry.specs.Number.{Bytes}
use Rattle.geometry.specs.Page.{page_of}
use Rattle.packet.specs.Packet.{Write, write, after_writes, made}
use Rattle.rules.specs.declared.WriteCount.{WriteCount}
use Rattle.rules.specs.Result.{Res, ok, err}
use Rattle.rules.specs.PageSets.{count, free_pages}
use Rattle.rules.specs.Chain.{views_of, pages}
use Rattle.rules.specs.Tree.{Items, own_pages, map_pages, Image, used}
use Rattle.rules.specs.Bitmap.{bit_at}
use Rattle.rules.specs.Check.{Scan, scan, check}
use Rattle.rules.specs.WellFormed.{WellFormed}
use Rattle.rules.specs.Writes.{Edit, edited}
use Rattle.rules.specs.Put.{put_edit}
use Rattle.rules.specs.Delete.{delete_edit}
use Rattle.rules.specs.Candidate.{at_path}
use Rattle.rules.specs.Paths.{path_of, a_file}
use Rattle.rules.specs.Demand2.{reach, EditDone, PathIn, IsFile, DeleteShows, PutShows}
use Rattle.rules.specs.Calls.{Effect}
use Rattle.rules.specs.Careful.{halted_at, careful_writes, mend_writes, mend, no_writes}

-- an answer that is done
abbrev pub IsDone : {A : Type 0} → Res A → Type 0
IsDone {A} r = (x : A) × (r ≡ ok x)

-- the page that a write is for
abbrev pub page_written : Write → ℕ
page_written (write p b n) = p

-- a page that is marked and that no chain owns
pub record Unowned (g : Geometry) (s : Scan) (p : ℕ) : Type 0 where
  pub page : p < g.pages
  pub marked : bit_at s.raw p ≡ 1
  pub no_owner : count p (used s.image) ≡ 0

-- every page in use is marked, and no bit from N up is set
pub record Covers (N : ℕ) (bits in_use : List ℕ) : Type 0 where
  pub marked : (x : ℕ) → 1 ≤ count x in_use → bit_at bits x ≡ 1
  pub above : (x : ℕ) → N ≤ x → x < 8 * length bits → bit_at bits x ≡ 0

-- how many of the n bits from k on are set
abbrev pub bits_set : List ℕ → ℕ → ℕ → ℕ
bits_set raw k zero = 0
bits_set raw k (suc n) = bit_at raw k + bits_set raw (k + 1) n

-- a mend that is done
pub record MendDone (g : Geometry) (image : List ℕ) (cleared : ℕ) (after : List ℕ) : Type 0 where
  -- the tree and the marks as they stood
  pub was : Scan
  pub scanned : scan g (views_of g image) ≡ ok was
  pub covered : Covers g.pages was.raw (used was.image)
  -- accepted, with the same tree and the same bitmap pages
  pub tree : Image
  pub well_formed : WellFormed g after tree
  pub same_tree : tree.tree ≡ was.image.tree
  pub same_map : map_pages tree.map ≡ map_pages was.image.map
  pub are_bytes : Bytes after
  pub sized : length after ≡ length image
  -- the bitmap's pages alone are written; past the packets that change, every byte of a page stays
  pub written : after ≡ after_writes g (mend_writes g was.image) image
  pub rest : (p : ℕ) → drop (reach g p (made g (mend_writes g was.image) image)) (page_of g p after) ≡ drop (reach g p (made g (mend_writes g was.image) image)) (page_of g p image)
  -- the marks cleared: the marks less the pages in use
  pub number : cleared + length (used was.image) ≡ bits_set was.raw 0 (8 * length was.raw)

-- the first half of the check finds this tree in an image
abbrev pub HasTree : Geometry → List ℕ → Items → Type 0
HasTree g image t = (s : Scan) × (scan g (views_of g image) ≡ ok s) × (s.image.tree ≡ t)

-- an edit from one tree to another by the ordered page writes ws, of which at most k may be made; `target` has the pages of the directory edited
pub record StoppedAt (g : Geometry) (image : List ℕ) (before after : Image) (target : List ℕ) (ws : List Write) (k : ℕ) (told : WriteCount) (now : List ℕ) : Type 0 where
  -- the writes made and the image are those of the first k of them that change a packet
  pub now_is : halted_at g k ws image ≡ record { answer = told; image = now }
  -- exactly one of these makes the change visible, in a page that the directory had
  pub front : List Write
  pub visible : Write
  pub back : List Write
  pub one : made g ws image ≡ front ++ (visible ∷ back)
  pub of_target : 1 ≤ count (page_written visible) target
  -- whatever number of them is made: the old tree without that write, the new one from it on
  pub old_until : (j : ℕ) → j ≤ length front → HasTree g (after_writes g (take j (made g ws image)) image) before.tree
  pub new_from : (j : ℕ) → length front < j → HasTree g (after_writes g (take j (made g ws image)) image) after.tree
  -- so the first half of the check finds no fault in what is left
  pub left : Scan
  pub scanned : scan g (views_of g now) ≡ ok left
  pub old : k ≤ length front → left.image.tree ≡ before.tree
  pub new : length front < k → left.image.tree ≡ after.tree
  pub same_map : map_pages left.image.map ≡ map_pages before.map
  -- the check then finds pages marked that no chain owns, and no other fault
  pub faults : (n p : ℕ) → check g (views_of g now) ≡ err n p → (n ≡ 13) × Unowned g left p
  -- a mend of it is done
  pub mended : Effect ℕ
  pub mend_is : mend g now ≡ ok mended
  pub mend_done : MendDone g now mended.answer mended.image
  -- every path then shows what it showed before, or what it shows after the edit
  pub paths_old : k ≤ length front → (ks : List ℕ) → at_path ks mend_done.tree ≡ at_path ks before
  pub paths_new : length front < k → (ks : List ℕ) → at_path ks mend_done.tree ≡ at_path ks after
  pub are_bytes : Bytes now
  pub sized : length now ≡ length image
  -- past the packets that changed, every byte of a page stays
  pub rest : (p : ℕ) → drop (reach g p (take k (made g ws image))) (page_of g p now) ≡ drop (reach g p (take k (made g ws image))) (page_of g p image)
  -- no write left: accepted, and all that demand 2 says of an edit
  pub last : told.left ≡ false → EditDone g image before after ws now

-- a careful delete that is done: stopped at any write, and what paths show once the change is visible
pub record CarefullyDeleted (g : Geometry) (k : ℕ) (path image : List ℕ) (told : WriteCount) (now : List ℕ) : Type 0 where
  pub at : PathIn g (path_of path) image
  pub tree : Image
  pub tree_is : tree ≡ edited g at.to.directories (delete_edit at.to at.place) at.before
  pub stops : StoppedAt g image at.before tree (own_pages at.place.items) (careful_writes g at.to.directories (delete_edit at.to at.place) at.before) k told now
  pub shows : DeleteShows at IsFile tree

-- a careful put that is done: the same; and it uses no page that was in use, so none of the replaced chain
pub record CarefullyPut (g : Geometry) (k : ℕ) (path bytes image : List ℕ) (told : WriteCount) (now : List ℕ) : Type 0 where
  pub at : PathIn g (path_of path) image
  pub edit : Edit
  pub planned : put_edit g (free_pages (used at.before) g.pages) at.to bytes at.place ≡ ok edit
  pub tree : Image
  pub tree_is : tree ≡ edited g at.to.directories edit at.before
  pub stops : StoppedAt g image at.before tree (own_pages at.place.items) (careful_writes g at.to.directories edit at.before) k told now
  pub shows : PutShows at a_file bytes edit tree
  pub fresh : (x : ℕ) → 1 ≤ count x (used at.before) → count x (pages shows.links) ≡ 0

-- ---- the calls. `is_done` says that the answer is done, `told` is what it tells of its writes
module _ (P N : ℕ) (image table : List ℕ) where
  -- done, a careful call leaves what `Left` says in its geometry; refused, it changes no byte, its counts are 0 and no write is left
  pub record Carefully (Left : Geometry → Type 0) (is_done : Type 0) (told : WriteCount) (after : List ℕ) : Type 0 where
    pub done : (g : Geometry) → geometry_of P N (length image) (length table) ≡ Some g → is_done → Left g
    pub refused : (is_done → ⊥) → (after ≡ image) × (told ≡ no_writes)

  abbrev pub CarefullyPuts : ℕ → List ℕ → List ℕ → Type 0 → WriteCount → List ℕ → Type 0
  CarefullyPuts k path bytes is_done told after = Carefully (λ g. CarefullyPut g k path bytes image told after) is_done told after

  abbrev pub CarefullyDeletes : ℕ → List ℕ → Type 0 → WriteCount → List ℕ → Type 0
  CarefullyDeletes k path is_done told after = Carefully (λ g. CarefullyDeleted g k path image told after) is_done told after

  -- a mend is done exactly where the first half of the check finds no fault, every page in use is marked and no bit from N up is set; a refusal is the check's, and changes no byte
  pub record Mends (is_done : Type 0) (tells : Res ℕ → Type 0) (cleared : ℕ) (after : List ℕ) : Type 0 where
    pub done : (g : Geometry) → geometry_of P N (length image) (length table) ≡ Some g → is_done → MendDone g image cleared after
    pub exactly : (g : Geometry) → geometry_of P N (length image) (length table) ≡ Some g → (s : Scan) → scan g (views_of g image) ≡ ok s → Covers g.pages s.raw (used s.image) → is_done
    pub refused : (is_done → ⊥) → (after ≡ image) × (cleared ≡ 0)
    pub fault : (g : Geometry) → geometry_of P N (length image) (length table) ≡ Some g → (n p : ℕ) → check g (views_of g image) ≡ err n p → (is_done → ⊥) → tells (err n p)
