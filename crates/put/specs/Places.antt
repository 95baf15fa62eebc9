-- For contracts: where the entry of what is put goes, and a put, or a making, within a budget.
use Rattle.rules.specs.Answers.{refused}
use Rattle.refusals.specs.declared.Refusal.{Refusal}
use Rattle.std.specs.Prelude.{Err, Result, Ok, ◌≡◌, List, ℕ}
use Rattle.geometry.specs.declared.Geometry.{Geometry}
use Rattle.packet.specs.Packet.{view_of}
use Rattle.packet.specs.declared.Budget.{Budget}
use Rattle.rules.specs.Result.{Res, ok, and_then}
use Rattle.rules.specs.Chain.{views_of, pages}
use Rattle.rules.specs.Tree.{Items, Image}
use Rattle.rules.specs.Check.{check}
use Rattle.rules.specs.Paths.{Path, file_key, nothing, find, Place, Target}
use Rattle.rules.specs.Put.{put_target}
use Rattle.rules.specs.Candidate.{chain_pages}
use Rattle.lookup.specs.Searches.{TreeAt}
use Rattle.edit.specs.declared.NewFile.{NewFile}
use Rattle.edit.specs.OldChains.{links_of, OldChain}
use Rattle.edit.specs.Plans.{EntryPlace, Outcomes, put_writes}

-- the place of a new file's entry in whatever directory stands from page `start` on without the file; it replaces no chain
pub record NewEntryIs (g : Geometry) (image : List ℕ) (start name extension : ℕ) (f : NewFile) : Type 0 where
  pub fresh : f.replaces ≡ g.pages
  pub at : (q : Path) (d : Items) → q.name ≡ name → q.extension ≡ extension → TreeAt g (views_of g image) start d → find (file_key q) d ≡ nothing → EntryPlace g image q d f

module _ (g : Geometry) (image : List ℕ) (target : Items → Res Target) (i : Image) where
  -- where the entry goes of what a call puts at its target, and the chain that it replaces
  pub record ItemPlace (f : NewFile) : Type 0 where
    pub goal : Target
    pub reached : target i.tree ≡ ok goal
    pub at : EntryPlace g image goal.to goal.place.items f
    pub old : OldChain g (view_of g image) f.replaces (links_of (find (file_key goal.to) goal.place.items))
    pub pages_are : chain_pages (find (file_key goal.to) goal.place.items) ≡ pages (links_of (find (file_key goal.to) goal.place.items))

  abbrev pub IsPlaced : Result NewFile Refusal → Type 0
  IsPlaced (Ok f) = ItemPlace f
  IsPlaced (Err z) = target i.tree ≡ refused z

-- for whatever reading is accepted
abbrev pub Places : Geometry → List ℕ → List ℕ → Result NewFile Refusal → Type 0
Places g image path r = (i : Image) → check g (views_of g image) ≡ ok i → IsPlaced g image (put_target path) i r

-- the page writes of a call that puts something are the rule's
abbrev pub RequestPut : Geometry → List ℕ → (Items → Res Target) → (Place → List ℕ) → Budget → List ℕ → Result Budget Refusal → Type 0
RequestPut g image target bytes budget after r = (i : Image) → check g (views_of g image) ≡ ok i → Outcomes g (and_then (target i.tree) (λ x. put_writes g (bytes x.place) i x)) image budget after r

-- a put's
abbrev pub PathPut : Geometry → List ℕ → List ℕ → List ℕ → Budget → List ℕ → Result Budget Refusal → Type 0
PathPut g image path bytes budget after r = RequestPut g image (put_target path) (λ _. bytes) budget after r
