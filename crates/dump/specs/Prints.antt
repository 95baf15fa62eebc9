-- For contracts: the steps from a dump to its text.
use Rattle.std.specs.Prelude.{◌≡◌, List, [], ◌++◌, ℕ, ◌≤◌, ◌<◌, length, drop, Option, None, Some, Result, Ok, Err}
use Rattle.geometry.specs.declared.Geometry.{Geometry}
use Rattle.geometry.specs.Choose.{choose}
use Rattle.geometry.specs.Geometry.{geometry_of, Fit}
use Rattle.rules.specs.declared.Totals.{Totals}
use Rattle.rules.specs.declared.Line.{Line}
use Rattle.refusals.specs.declared.Refusal.{Refusal}
use Rattle.rules.specs.Answers.{refused}
use Rattle.rules.specs.Result.{Res, ok, err}
use Rattle.rules.specs.Chain.{views_of}
use Rattle.rules.specs.Tree.{Image}
use Rattle.rules.specs.Check.{check}
use Rattle.rules.specs.Owners.{totals}
use Rattle.rules.specs.Listing.{lines_of}
use Rattle.rules.specs.Calls.{in_geometry}
use Rattle.rules.specs.ListText.{dump_offset, dump_right, totals_text, lines_text, refusal_text}

-- where the image stands in a dump that is right
unfoldable pub place_of : List ℕ → Option ℕ
place_of dump = choose (dump_right dump) (Some (dump_offset dump)) None

-- the lines of an accepted image
abbrev pub lines_or : Res Image → List Line
lines_or (ok i) = lines_of 0 i.tree
lines_or (err n p) = []

unfoldable pub lines_in : Geometry → List ℕ → List Line
lines_in g image = lines_or (check g (views_of g image))

-- an image that is accepted, with its totals
pub record AcceptedWith (g : Geometry) (image : List ℕ) (t : Totals) : Type 0 where
  pub fit : Fit g image
  pub tree : Image
  pub accepted : check g (views_of g image) ≡ ok tree
  pub counted : t ≡ totals tree

-- an image's check: geometry and totals, or the refusal
abbrev pub Answer : Type 0
Answer = Result (Geometry × Totals) Refusal

-- what is known of the image after an answer
abbrev pub IsChecked : List ℕ → Answer → Type 0
IsChecked image (Err r) = Unit {0}
IsChecked image (Ok (g, t)) = AcceptedWith g image t

-- the check's answer in a table of 65,535 records
abbrev pub Checks : ℕ → ℕ → List ℕ → Answer → Type 0
Checks P N image (Err r) = in_geometry (geometry_of P N (length image) 262140) (err 1 0) (λ g. check g (views_of g image)) ≡ refused r
Checks P N image (Ok (g, t)) = (geometry_of P N (length image) 262140 ≡ Some g) × AcceptedWith g image t

-- the text of an answer
unfoldable pub answer_text : List ℕ → Answer → List ℕ
answer_text image (Err r) = refusal_text (refused r)
answer_text image (Ok (g, t)) = totals_text g t ++ lines_text (lines_in g image)

-- a text printed whole if it fits
abbrev pub Prints : List ℕ → List ℕ → Option ℕ → List ℕ → Type 0
Prints text before (Some n) after = (n ≡ length text) × (length text ≤ length before) × (after ≡ text ++ drop (length text) before)
Prints text before None after = (length before < length text) × (after ≡ before)
