-- The whole delete: the pages of what goes free again in the table, its entry taken from its page, the bitmap written.
use mathlib.Core.Path.{◌≡◌, refl, ap, sym, ◌∙◌, subst}
use mathlib.Core.List.{List, [], ◌∷◌, ◌++◌}
use Prim.Native.Nat.{ℕ, ◌+◌}
use Rattle.geometry.specs.declared.Geometry.{Geometry}
use Rattle.geometry.specs.Geometry.{Fit}
use Rattle.packet.specs.Packet.{view_of}
use Rattle.packet.specs.declared.Budget.{Budget}
use Rattle.packet.specs.Budgets.{Progress, write_all}
use Rattle.rules.specs.declared.Entry.{Entry}
use Rattle.rules.specs.PageSets.{count}
use Rattle.rules.specs.Chain.{pages}
use Rattle.rules.specs.Tree.{used}
use Rattle.rules.specs.Bitmap.{bitmap_of}
use Rattle.rules.specs.WellFormed.{WellFormed}
use Rattle.rules.specs.Paths.{Path, file_key, Place}
use Rattle.rules.specs.Writes.{edited, edit_writes}
use Rattle.rules.specs.Delete.{delete_edit}
use Rattle.rules.specs.Owners.{OwnerRecord}
use Rattle.owners.specs.Owned.{Represents}
use Rattle.owners.specs.OwnerLaws.{represents_owners, represents_freed}
use Rattle.reading_theorems.specs.Accepted.{accepted_iff}
use Rattle.editing_theorems.specs.DeleteLaws.{directory, one_edit, pages_then}
use Rattle.editing_theorems.specs.EditedImage.{OneEdit, left}
use Rattle.chain.specs.Claims.{Releases}
use Rattle.chain.specs.KnownChain.{KnownChain}
use Rattle.entries.specs.declared.Slot.{Slot}
use Rattle.edit.specs.Plans.{Removal, RemovesEntry}
use Rattle.edit.specs.ExchangeLaws.{pointer_is}
use Rattle.edit.specs.StepLaws.{whole_is}
use Rattle.lookup.specs.PlaceLaws.{group_shape, group_first, group_last}
use Rattle.delete.specs.Deletes.{CanDelete}

module _ {g : Geometry} {image : List ℕ} {table : List OwnerRecord} (fit : Fit g image) {s : Slot} {stamps : ℕ} {e : Entry} (H : CanDelete g image table s stamps e) where
  open H use {known, target, there, at, links, chain, whole}
  open known use {bytes, tree, accepted, table_is}

  abbrev q : Path
  q = target.to

  abbrev place : Place
  place = target.place

  abbrev k : ℕ
  k = file_key q

  pub well : WellFormed g image tree
  well = (accepted_iff g image fit bytes tree).0 accepted

  abbrev removal : OneEdit (directory g image bytes tree well q.directories place there k)
  removal = one_edit g image bytes tree well q.directories place there k

  -- the chain that goes
  pub known_chain : KnownChain g (view_of g image) e.start
  known_chain = record { links = links; chain = chain }

  -- the table without its pages, and the entry's place
  pub plan : (u : List OwnerRecord) → Releases g (view_of g image) e.start table u → Removal g image u s stamps
  unfolding Releases
  plan u r = record {
    marks = bitmap_of g (used tree) tree.map;
    directory = directory g image bytes tree well q.directories place there k;
    edit = removal;
    none = refl;
    entering = record {
      exchanges = λ _. record {
        before = at.before;
        entries = at.entries;
        exchanged = at.stamps ++ (e ∷ []);
        later = at.later;
        shape = group_shape at;
        then = at.removed;
        first_is = group_first at;
        last_is = group_last at;
        skip_is = at.skip_is;
        next_is = pointer_is (directory g image bytes tree well q.directories place there k) s.page s.next.page at.before at.entries (at.stamps ++ (e ∷ [])) at.later (group_shape at) at.next_is;
      };
      joins = λ z. absurd (z refl);
    };
    kept = subst (λ (t : List OwnerRecord). Represents t (left removal)) (sym (r links chain)) (represents_freed table (used tree) (left removal) (pages links)
        (subst (λ (t : List OwnerRecord). Represents t (used tree)) (sym table_is) (represents_owners g.pages tree well.holds.apart))
        (λ x. ap (λ (n : ℕ). count x (left removal) + n) (whole x) ∙ pages_then g image bytes tree well q.directories place there k x));
  }

  -- the page writes are the rule's
  pub unlinked : (u : List OwnerRecord) → Releases g (view_of g image) e.start table u → (budget : Budget) (after : List ℕ) (rest : Budget) → RemovesEntry g image u s stamps budget after rest
      → ◌≡◌ {A = Progress} (record { image = after; budget = rest })
      (write_all g (edit_writes g (bitmap_of g (used tree) tree.map) (delete_edit q place) tree (edited g q.directories (delete_edit q place) tree)) (record { image = image; budget = budget }))
  unfolding delete_edit plan
  unlinked u r budget after rest h = h (plan u r) ∙ sym (whole_is removal budget)
