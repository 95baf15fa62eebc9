-- Document 02, A13: two edits of different file paths, each a put or a delete, done in either order.
use Rattle.std.specs.Prelude.{Some, ◌≡◌, List, ℕ, ◌*◌, length}
use Rattle.geometry.specs.declared.Geometry.{Geometry}
use Rattle.geometry.specs.Geometry.{geometry_of}
use Rattle.geometry.specs.Number.{Bytes}
use Rattle.rules.specs.Result.{Res, ok}
use Rattle.rules.specs.Chain.{content}
use Rattle.rules.specs.Tree.{Label, Image}
use Rattle.rules.specs.Paths.{Found, nothing, a_file, a_directory}
use Rattle.rules.specs.Calls.{read_call, put_call, delete_call}
use Rattle.rules.specs.Candidate.{Accepted, at_path, pages_in_use}

-- an edit: a put of bytes at a path, or a delete of a path
pub data FileEdit : Type 0 where
  a_put : List ℕ → List ℕ → FileEdit
  a_delete : List ℕ → FileEdit

abbrev pub edit_path : FileEdit → List ℕ
edit_path (a_put path bytes) = path
edit_path (a_delete path) = path

-- path and data are bytes
abbrev pub EditBytes : FileEdit → Type 0
EditBytes (a_put path bytes) = Bytes path × Bytes bytes
EditBytes (a_delete path) = Bytes path

abbrev pub BothPut : FileEdit → FileEdit → Type 0
BothPut (a_put p b) (a_put q c) = Unit {0}
BothPut (a_put p b) (a_delete q) = ⊥
BothPut (a_delete p) e = ⊥

abbrev pub BothDelete : FileEdit → FileEdit → Type 0
BothDelete (a_delete p) (a_delete q) = Unit {0}
BothDelete (a_delete p) (a_put q c) = ⊥
BothDelete (a_put p b) e = ⊥

-- the plain call for it: its answer, the image and the owner table that it leaves
abbrev pub edit_call : ℕ → ℕ → List ℕ → List ℕ → FileEdit → Res (Unit {0}) × List ℕ × List ℕ
edit_call P N image table (a_put path bytes) = put_call P N image table path bytes
edit_call P N image table (a_delete path) = delete_call P N image table path

-- what stands at a path, without pages: a file with its label (name, extension byte, stamps) and its bytes, or a directory with its label
pub data Seen : Type 0 where
  no_entry : Seen
  file_seen : Label → List ℕ → Seen
  directory_seen : Label → Seen

abbrev pub seen : Found → Seen
seen nothing = no_entry
seen (a_file l ls) = file_seen l (content ls)
seen (a_directory l d) = directory_seen l

-- two edits, one after the other, both answered 0, whatever owner tables are lent; they leave the image `after`
pub record BothDone (P N : ℕ) (image : List ℕ) (first second : FileEdit) (after : List ℕ) : Type 0 where
  pub table : List ℕ
  pub first_done : (edit_call P N image table first).0 ≡ ok tt
  pub second_table : List ℕ
  pub second_done : (edit_call P N (edit_call P N image table first).1 second_table second).0 ≡ ok tt
  pub leaves : (edit_call P N (edit_call P N image table first).1 second_table second).1 ≡ after

-- what two images have in common that the edits a and b leave in their two orders
pub record Agree (P N : ℕ) (a b : FileEdit) (one other : List ℕ) : Type 0 where
  -- both accepted, in the geometry of these sizes; an owner table of four bytes a page is enough
  pub geometry : Geometry
  pub right : geometry_of P N (length one) (4 * N) ≡ Some geometry
  pub sized : length one ≡ length other
  pub tree : Image
  pub accepted : Accepted geometry one tree
  pub other_tree : Image
  pub other_accepted : Accepted geometry other other_tree
  -- the same files, attributes and bytes: every path leads in both to a file, or in both to a directory, with the same name, extension byte and stamps and with the same bytes; or in both to nothing
  pub paths : (ks : List ℕ) → seen (at_path ks tree) ≡ seen (at_path ks other_tree)
  -- every read answers the same and fills the output alike
  pub reads : (table path out : List ℕ) → ((read_call P N one table path out).0 ≡ (read_call P N other table path out).0) × ((read_call P N one table path out).1 ≡ (read_call P N other table path out).1)
  -- two puts leave as many pages in use; so do two deletes
  pub puts : BothPut a b → pages_in_use tree ≡ pages_in_use other_tree
  pub deletes : BothDelete a b → pages_in_use tree ≡ pages_in_use other_tree

-- two edits of different paths, both done in either order: the two results agree. Nothing is said where either order refuses
abbrev pub InEitherOrder : Type 0
InEitherOrder = (P N : ℕ) (image : List ℕ) → Bytes image → (a b : FileEdit) → EditBytes a → EditBytes b → (edit_path a ≡ edit_path b → ⊥)
    → (one other : List ℕ) → BothDone P N image a b one → BothDone P N image b a other → Agree P N a b one other
