-- For contracts: what an edit answers, and the image and the table that it leaves.
use Rattle.refusals.specs.declared.Refusal.{Refusal}
use Rattle.std.specs.Prelude.{Result, ◌≡◌, List, ℕ}
use Rattle.geometry.specs.declared.Geometry.{Geometry}
use Rattle.geometry.specs.Number.{Bytes}
use Rattle.rules.specs.declared.Totals.{Totals}
use Rattle.rules.specs.Result.{Res, ok, err}
use Rattle.rules.specs.Chain.{views_of}
use Rattle.rules.specs.Tree.{Image}
use Rattle.rules.specs.Check.{check}
use Rattle.rules.specs.Owners.{OwnerRecord, owners}
use Rattle.rules.specs.Answers.{answer_of}
use Rattle.rules.specs.Calls.{Effect, plainly}
use Rattle.volume.specs.Scans.{TableChecked}

-- the answer of a call that may change the image, and the image that it leaves
abbrev pub effect_of : {A : Type 0} → List ℕ → Res (Effect A) → Res A × List ℕ
effect_of image (ok x) = (ok x.answer, x.image)
effect_of image (err n p) = (err n p, image)

-- and of an edit that answers no more than that it is done
abbrev pub leaves : List ℕ → Res (List ℕ) → Res (Unit {0}) × List ℕ
leaves image rule = effect_of image (plainly rule)

abbrev pub Answered : List ℕ → Res (List ℕ) → Result (Unit {0}) Refusal → List ℕ → Type 0
Answered image rule r after = ◌≡◌ {A = Res (Unit {0}) × List ℕ} (answer_of r, after) (leaves image rule)

-- the image is accepted, and the table tells of it
pub record TableOf (g : Geometry) (image : List ℕ) (table : List OwnerRecord) : Type 0 where
  pub bytes : Bytes image
  pub tree : Image
  pub accepted : check g (views_of g image) ≡ ok tree
  pub table_is : table ≡ owners g.pages tree

-- such a call in its geometry: its answer, the image, and the table of the image as it then stands
pub record EffectLeaves {A : Type 0} (g : Geometry) (image : List ℕ) (rule : Res (Effect A)) (answer : Res A) (after : List ℕ) (table : List OwnerRecord) : Type 0 where
  pub answers : ◌≡◌ {A = Res A × List ℕ} (answer, after) (effect_of image rule)
  pub check : Result Totals Refusal
  pub checked : TableChecked g (views_of g after) check table

abbrev pub EditLeaves : Geometry → List ℕ → Res (List ℕ) → Result (Unit {0}) Refusal → List ℕ → List OwnerRecord → Type 0
EditLeaves g image rule r after table = EffectLeaves g image (plainly rule) (answer_of r) after table
