-- The six calls: for every input the answer and all lent memory afterwards. A refusal changes no byte of the image and none of the output.
use Rattle.std.specs.Prelude.{Option, Some, None, Bool, List, ◌++◌, ℕ, leb, length, drop}
use Rattle.geometry.specs.declared.Geometry.{Geometry}
use Rattle.geometry.specs.Geometry.{geometry_of}
use Rattle.rules.specs.declared.Totals.{Totals}
use Rattle.rules.specs.declared.Line.{Line}
use Rattle.rules.specs.Result.{Res, ok, err, and_then, and_then as ◌>>=◌, and_after as ◌>>◌, refuse_unless}
use Rattle.rules.specs.Chain.{views_of, content}
use Rattle.rules.specs.Tree.{Image}
use Rattle.rules.specs.Check.{check}
use Rattle.rules.specs.Owners.{totals, table_after}
use Rattle.rules.specs.Listing.{lines_of, line_at}
use Rattle.rules.specs.Paths.{file_key, Found, nothing, a_file, a_directory, find, target_of}
use Rattle.rules.specs.Format.{format}
use Rattle.rules.specs.Put.{put}
use Rattle.rules.specs.Delete.{delete}

-- a call over an image in its geometry, else refusal 1 with what it then leaves
abbrev pub in_geometry : {A : Type 0} → Option Geometry → A → (Geometry → A) → A
in_geometry None other call = other
in_geometry (Some g) other call = call g

-- what a path's file reads; 15 for a file that is absent
unfoldable pub bytes_of : Found → Res (List ℕ)
bytes_of nothing = err 15 0
bytes_of (a_file l ls) = ok (content ls)
bytes_of (a_directory l d) = err 15 0

unfoldable pub file_at : List ℕ → Image → Res (List ℕ)
file_at path i = do
  x ← target_of path i.tree
  bytes_of (find (file_key x.to) x.place.items)

-- read: the file's length; it fills the front of the output, the rest of it stays; 18 if the output is too short
unfoldable pub read_bytes : List ℕ → List ℕ → Image → Res (List ℕ)
read_bytes path out i = do
  bytes ← file_at path i
  refuse_unless (leb (length bytes) (length out)) 18 0
  ok bytes

abbrev pub length_of : Res (List ℕ) → Res ℕ
length_of (ok bytes) = ok (length bytes)
length_of (err n p) = err n p

abbrev pub filled : List ℕ → Res (List ℕ) → List ℕ
filled out (ok bytes) = bytes ++ drop (length bytes) out
filled out (err n p) = out

-- what a call that is done answers, and the image that it leaves
pub record Effect (A : Type 0) : Type 0 where
  pub answer : A
  pub image : List ℕ

-- an edit that answers no more than that it is done
abbrev pub plainly : Res (List ℕ) → Res (Effect (Unit {0}))
plainly (ok after) = ok (record { answer = tt; image = after })
plainly (err n p) = err n p

module _ (P N : ℕ) (image table : List ℕ) where
  abbrev pub shape : Option Geometry
  shape = geometry_of P N (length image) (length table)

  -- the table after a call that leaves an image
  abbrev pub table_for : Geometry → List ℕ → List ℕ
  table_for g after = table_after g.pages (check g (views_of g after)) table

  -- a question about the image, once it is accepted
  abbrev pub asked : {A : Type 0} → (Image → Res A) → Res A × List ℕ
  asked question = in_geometry shape (err 1 0, table) (λ g. (and_then (check g (views_of g image)) question, table_for g image))

  -- check: pages in use, files and directories; the owner table
  unfoldable pub check_call : Res Totals × List ℕ
  check_call = asked (λ i. ok (totals i))

  -- list by number
  unfoldable pub list_call : ℕ → Res Line × List ℕ
  list_call k = asked (λ i. line_at k (lines_of 0 i.tree))

  -- read
  unfoldable pub read_call : List ℕ → List ℕ → Res ℕ × List ℕ × List ℕ
  read_call path out = let r = asked (read_bytes path out) in (length_of r.0, filled out r.0, r.1)

  -- a call that may change the image: the answer, the image and the owner table of the image as it then stands
  abbrev pub effect : {A : Type 0} → Geometry → Res (Effect A) → Res A × List ℕ × List ℕ
  effect g (ok x) = (ok x.answer, x.image, table_for g x.image)
  effect g (err n p) = (err n p, image, table_for g image)

  abbrev pub effective : {A : Type 0} → (Geometry → Res (Effect A)) → Res A × List ℕ × List ℕ
  effective call = in_geometry shape (err 1 0, image, table) (λ g. effect g (call g))

  abbrev pub changed : (Geometry → Res (List ℕ)) → Res (Unit {0}) × List ℕ × List ℕ
  changed edit = effective (λ g. plainly (edit g))

  unfoldable pub format_call : Bool → Res (Unit {0}) × List ℕ × List ℕ
  format_call local = changed (λ g. format g local image)

  unfoldable pub put_call : List ℕ → List ℕ → Res (Unit {0}) × List ℕ × List ℕ
  put_call path bytes = changed (λ g. put g path bytes image)

  unfoldable pub delete_call : List ℕ → Res (Unit {0}) × List ℕ × List ℕ
  delete_call path = changed (λ g. delete g path image)
