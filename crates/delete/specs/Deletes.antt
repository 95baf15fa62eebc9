-- For contracts: what can be deleted, a file or a directory without entries, and a delete within a budget.
use Rattle.refusals.specs.declared.Refusal.{Refusal}
use Rattle.std.specs.Prelude.{Result, ◌≡◌, List, ℕ}
use Rattle.geometry.specs.declared.Geometry.{Geometry}
use Rattle.packet.specs.Packet.{view_of, Write}
use Rattle.packet.specs.declared.Budget.{Budget}
use Rattle.packet.specs.Budgets.{Progress, write_all}
use Rattle.rules.specs.declared.Entry.{Entry}
use Rattle.rules.specs.Result.{Res, ok, and_then}
use Rattle.rules.specs.PageSets.{count}
use Rattle.rules.specs.Chain.{views_of, Link, pages}
use Rattle.rules.specs.Tree.{Items, Image, used}
use Rattle.rules.specs.Bitmap.{bitmap_of}
use Rattle.rules.specs.Check.{check}
use Rattle.rules.specs.Paths.{file_key, find, root_place, directory_at, Target}
use Rattle.rules.specs.Writes.{edited, edit_writes}
use Rattle.rules.specs.Delete.{delete_target, delete_edit}
use Rattle.rules.specs.EditLaws.{all_found}
use Rattle.rules.specs.Owners.{OwnerRecord}
use Rattle.chain.specs.KnownChain.{ChainAt}
use Rattle.entries.specs.declared.Slot.{Slot}
use Rattle.lookup.specs.Searches.{PlaceOf}
use Rattle.edit.specs.Plans.{Outcomes}
use Rattle.volume.specs.Edits.{TableOf}

-- the image is accepted, the table tells of it, and the entry e at the place s, so many stamps before it, is that of what a target has at its path: a file, or a directory without entries,
-- of which the chain is all
pub record CanDelete (g : Geometry) (image : List ℕ) (table : List OwnerRecord) (s : Slot) (stamps : ℕ) (e : Entry) : Type 0 where
  pub known : TableOf g image table
  pub target : Target
  pub there : directory_at target.to.directories (root_place known.tree.tree) ≡ ok target.place
  pub at : PlaceOf g (view_of g image) (file_key target.to) target.place.items s stamps e
  pub links : List Link
  pub chain : ChainAt g (view_of g image) e.start links
  pub whole : (x : ℕ) → count x (pages links) ≡ count x (all_found (find (file_key target.to) target.place.items))

-- the page writes of a delete, or a removal, that has its target
abbrev pub delete_writes : Geometry → Image → Target → List Write
delete_writes g i x = let e = delete_edit x.to x.place in edit_writes g (bitmap_of g (used i) i.map) e i (edited g x.to.directories e i)

unfoldable pub Unlinks : Geometry → List ℕ → List OwnerRecord → Slot → ℕ → Entry → Budget → List ℕ → Budget → Type 0
Unlinks g image table s stamps e budget after left = (h : CanDelete g image table s stamps e)
    → ◌≡◌ {A = Progress} (record { image = after; budget = left }) (write_all g (delete_writes g h.known.tree h.target) (record { image = image; budget = budget }))

-- the page writes of a call that removes something are the rule's
abbrev pub Removes : Geometry → List ℕ → (Items → Res Target) → Budget → List ℕ → Result Budget Refusal → Type 0
Removes g image target budget after r = (i : Image) → check g (views_of g image) ≡ ok i → Outcomes g (and_then (target i.tree) (λ x. ok (delete_writes g i x))) image budget after r

-- a delete's
abbrev pub PathDeleted : Geometry → List ℕ → List ℕ → Budget → List ℕ → Result Budget Refusal → Type 0
PathDeleted g image path budget after r = Removes g image (delete_target path) budget after r
