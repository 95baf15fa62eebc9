-- For contracts: the copy of an accepted image in a second one, and what a gathering leaves in its geometry.
use Rattle.refusals.specs.declared.Refusal.{Refusal}
use Rattle.std.specs.Prelude.{Result, ◌≡◌, Bool, List, ℕ, ◌+◌, ◌*◌, ◌≤◌, replicate}
use Rattle.geometry.specs.declared.Geometry.{Geometry}
use Rattle.geometry.specs.Geometry.{first_entries}
use Rattle.packet.specs.Packet.{Write, after_writes}
use Rattle.rules.specs.Result.{Res, ok, err}
use Rattle.rules.specs.Chain.{views_of}
use Rattle.rules.specs.Tree.{is_local, Image}
use Rattle.rules.specs.Control.{the_root}
use Rattle.rules.specs.Check.{check}
use Rattle.rules.specs.Owners.{OwnerRecord}
use Rattle.rules.specs.Answers.{answer_of}
use Rattle.rules.specs.declared.Totals.{Totals}
use Rattle.volume.specs.Scans.{TableChecked}
use Rattle.volume.specs.Edits.{leaves}
use Rattle.format.specs.Formats.{control_field}
use Rattle.gathering.specs.Gather.{Bare, bare, bare_of, further, below_size, gathered_bytes, gather}
use Rattle.gathering.proofs.GatherOrder.{pass_writes}

-- the image is accepted, and from a page on there is room for the root's further pages and all below it
pub record HasRoom (g : Geometry) (image : List ℕ) (from : ℕ) : Type 0 where
  pub tree : Image
  pub accepted : check g (views_of g image) ≡ ok tree
  pub some : 1 ≤ from
  pub room : from + (further g (first_entries g) (bare tree.tree) + below_size g (bare tree.tree)) ≤ g.pages

-- the root with these bytes in its control field, and all below it, in one pass
abbrev pub root_writes : Geometry → List ℕ → ℕ → Bare → List Write
root_writes g head from b = pass_writes g the_root head 0 (first_entries g) from (from + further g (first_entries g) b) b

-- laid into a blank image
abbrev pub LaysRoot : Geometry → List ℕ → ℕ → List ℕ → ℕ → List ℕ → ℕ → Type 0
LaysRoot g image control four from after r =
    (i : Image) → check g (views_of g image) ≡ ok i → (after ≡ after_writes g (root_writes g (control_field g.width control four) from (bare i.tree)) (replicate (g.size * g.pages) 0xFF))
    × (r ≡ from + (further g (first_entries g) (bare i.tree) + below_size g (bare i.tree)))

-- the image is accepted, with this kind of bitmap
pub record HasKind (g : Geometry) (image : List ℕ) (local : Bool) : Type 0 where
  pub tree : Image
  pub accepted : check g (views_of g image) ≡ ok tree
  pub kind : (i : Image) → check g (views_of g image) ≡ ok i → is_local i.map ≡ local

-- the whole copy
abbrev pub CopiesAll : Geometry → List ℕ → List ℕ → Type 0
CopiesAll g image after = (i : Image) → check g (views_of g image) ≡ ok i → after ≡ gathered_bytes g (bare_of i)

-- the image that the owner table tells of: the copy, or the source where its check refuses
abbrev pub told_of : List ℕ → Res (List ℕ) → List ℕ
told_of image (ok copy) = copy
told_of image (err n p) = image

-- the answer, the second image, and the table
pub record GatherLeaves (g : Geometry) (image second : List ℕ) (r : Result (Unit {0}) Refusal) (after : List ℕ) (table : List OwnerRecord) : Type 0 where
  pub answers : ◌≡◌ {A = Res (Unit {0}) × List ℕ} (answer_of r, after) (leaves second (gather g image))
  pub told : List ℕ
  pub told_is : told ≡ told_of image (gather g image)
  pub check : Result Totals Refusal
  pub checked : TableChecked g (views_of g told) check table
