-- For contracts: a careful put within a budget.
use Rattle.refusals.specs.declared.Refusal.{Refusal}
use Rattle.std.specs.Prelude.{Result, ◌≡◌, List, ℕ, ◌+◌, ◌≤◌, length}
use Rattle.geometry.specs.declared.Geometry.{Geometry}
use Rattle.packet.specs.Packet.{view_of, Write}
use Rattle.packet.specs.declared.Budget.{Budget}
use Rattle.packet.specs.Budgets.{Progress}
use Rattle.rules.specs.Result.{Res, ok, and_then}
use Rattle.rules.specs.PageSets.{count, free_pages}
use Rattle.rules.specs.Chain.{views_of, Link, pages}
use Rattle.rules.specs.Tree.{Image, used}
use Rattle.rules.specs.Check.{check}
use Rattle.rules.specs.Paths.{file_key, find, Target}
use Rattle.rules.specs.Put.{put_target, put_edit}
use Rattle.rules.specs.Candidate.{chain_pages}
use Rattle.rules.specs.Careful.{careful_writes}
use Rattle.rules.specs.Owners.{OwnerRecord}
use Rattle.owners.specs.Owned.{Marks}
use Rattle.editing_theorems.specs.EditedImage.{left, image₂}
use Rattle.edit.specs.declared.Pages.{Pages}
use Rattle.edit.specs.declared.NewFile.{NewFile}
use Rattle.edit.specs.OldChains.{links_of, OldChain}
use Rattle.edit.specs.Plans.{change_of, entry_of, Plan, Putting, Outcomes}
use Rattle.edit.specs.StepLaws.{step₃}

-- a file whose pages are marked: `all` has the pages in use and those taken; the chain that it replaces stands to the end, and its pages are the ones that then go
pub record MarkedPut (g : Geometry) (image : List ℕ) (table : List OwnerRecord) (bytes : List ℕ) (f : NewFile) (p : Pages) (n : ℕ) : Type 0 where
  pub plan : Plan g image table bytes (change_of f p) (entry_of f p n)
  pub all : List ℕ
  pub marks : Marks table p.below all
  pub inside : p.below ≤ length table
  pub links : List Link
  pub old : OldChain g (view_of g (image₂ plan.edit)) f.replaces links
  pub rest : (x : ℕ) → count x (left plan.edit) + count x (pages links) ≡ count x all

abbrev pub PutsMarked : Geometry → List ℕ → List OwnerRecord → List ℕ → NewFile → Pages → ℕ → Budget → List ℕ → Budget → Type 0
PutsMarked g image table bytes f p n budget after left = (m : MarkedPut g image table bytes f p n) → ◌≡◌ {A = Progress} (record { image = after; budget = left }) (step₃ m.plan.edit budget)

-- a careful put that nothing but room could refuse: the table tells of all pages in use, the replaced chain's among them
pub record CarefulPutting (g : Geometry) (image : List ℕ) (table : List OwnerRecord) (bytes : List ℕ) (f : NewFile) : Type 0 where
  pub putting : Putting (λ _ i. used i) g image table bytes f
  pub old : OldChain g (view_of g image) f.replaces (links_of (find (file_key putting.asked.to) putting.asked.place.items))
  pub pages_are : chain_pages (find (file_key putting.asked.to) putting.asked.place.items) ≡ pages (links_of (find (file_key putting.asked.to) putting.asked.place.items))

-- the page writes of a careful put that has its target
abbrev pub careful_put_writes : Geometry → List ℕ → Image → Target → Res (List Write)
careful_put_writes g bytes i x = and_then (put_edit g (free_pages (used i) g.pages) x.to bytes x.place) (λ e. ok (careful_writes g x.to.directories e i))

abbrev pub CarefullyPutsFile : Geometry → List ℕ → List OwnerRecord → List ℕ → NewFile → Budget → List ℕ → Result Budget Refusal → Type 0
CarefullyPutsFile g image table bytes f budget after r = (p : CarefulPutting g image table bytes f)
    → Outcomes g (careful_put_writes g bytes p.putting.asked.tree (record { to = p.putting.asked.to; place = p.putting.asked.place })) image budget after r

-- by path: the page writes are the rule's
abbrev pub CarefulPathPut : Geometry → List ℕ → List ℕ → List ℕ → Budget → List ℕ → Result Budget Refusal → Type 0
CarefulPathPut g image path bytes budget after r = (i : Image) → check g (views_of g image) ≡ ok i → Outcomes g (and_then (put_target path i.tree) (careful_put_writes g bytes i)) image budget after r
