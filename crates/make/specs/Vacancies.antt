-- For contracts: where a new directory goes, and a making within a budget.
use Rattle.rules.specs.Answers.{refused}
use Rattle.refusals.specs.declared.Refusal.{Refusal}
use Rattle.std.specs.Prelude.{Err, Result, Ok, ◌≡◌, List, ℕ}
use Rattle.geometry.specs.declared.Geometry.{Geometry}
use Rattle.packet.specs.declared.Budget.{Budget}
use Rattle.rules.specs.Result.{ok}
use Rattle.rules.specs.Chain.{views_of}
use Rattle.rules.specs.Tree.{Image}
use Rattle.rules.specs.Check.{check}
use Rattle.rules.specs.Directories.{make_target, new_directory}
use Rattle.lookup.specs.declared.Reached.{Reached}
use Rattle.lookup.specs.Searches.{IsReached}
use Rattle.edit.specs.declared.NewFile.{NewFile}
use Rattle.put.specs.Places.{ItemPlace, RequestPut}

module _ (g : Geometry) (image path : List ℕ) (i : Image) where
  -- the directory above it, its entry's place; it replaces nothing
  pub record Room (d : Reached) (f : NewFile) : Type 0 where
    pub place : ItemPlace g image (make_target path) i f
    pub above : IsReached g (views_of g image) place.goal.place d
    pub fresh : f.replaces ≡ g.pages

  abbrev pub IsVacant : Result (Reached × NewFile) Refusal → Type 0
  IsVacant (Ok x) = Room x.0 x.1
  IsVacant (Err z) = make_target path i.tree ≡ refused z

-- for whatever reading is accepted
abbrev pub Vacant : Geometry → List ℕ → List ℕ → Result (Reached × NewFile) Refusal → Type 0
Vacant g image path r = (i : Image) → check g (views_of g image) ≡ ok i → IsVacant g image path i r

-- the page writes of the making are the rule's
abbrev pub PathMade : Geometry → List ℕ → List ℕ → Budget → List ℕ → Result Budget Refusal → Type 0
PathMade g image path budget after r = RequestPut g image (make_target path) (new_directory g) budget after r
