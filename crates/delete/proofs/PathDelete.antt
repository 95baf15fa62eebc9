-- A delete by path: each refusal in its place, and the file that can be deleted.
use Rattle.refusals.specs.declared.Refusal.{Refusal}
use Rattle.std.specs.Prelude.{Result, Ok, Err}
use Rattle.refusals.specs.declared.Fault.TheVariants as fault
use mathlib.Core.Path.{◌≡◌, refl, ap, ◌∙◌}
use mathlib.Core.Bool.{true, false}
use mathlib.Core.List.{List}
use Prim.Native.Nat.{ℕ, ◌≤◌, ◌<◌}
use Rattle.geometry.specs.declared.Geometry.{Geometry}
use Rattle.packet.specs.declared.Budget.{Budget}
use Rattle.rules.specs.declared.Entry.{Entry}
use Rattle.rules.specs.Result.{ok, err}
use Rattle.rules.specs.Chain.{Views, views_of, Link}
use Rattle.rules.specs.Tree.{Label, Image}
use Rattle.rules.specs.Check.{check}
use Rattle.rules.specs.Paths.{path_of, file_key, nothing, a_file, find}
use Rattle.rules.proofs.TargetLaws.{reached, delete_target_none, delete_target_absent, delete_target_hidden, delete_target_is, delete_target_kept}
use Rattle.rules.specs.Put.{writable}
use Rattle.rules.specs.Delete.{present, delete_target}
use Rattle.entries.specs.declared.Slot.{Slot}
use Rattle.lookup.specs.declared.Reached.{Reached}
use Rattle.lookup.specs.declared.Spot.{Spot}
use Rattle.lookup.specs.declared.PathLookup.{PathLookup}
use Rattle.lookup.specs.declared.PathLookup.TheVariants as lookup
use Rattle.lookup.specs.Targets.{PathAbsent, FileAt, Looks}
use Rattle.lookup.specs.TargetLaws.{looks_as, is_writable, not_writable}
use Rattle.rules.specs.Owners.{OwnerRecord}
use Rattle.volume.specs.Edits.{TableOf}
use Rattle.delete.specs.Deletes.{CanDelete, Unlinks, PathDeleted}
use Rattle.delete.proofs.Removing.{refuses, removed}

no_file : present nothing ≡ err 15 0
unfolding present
no_file = refl

a_file_lem : (l : Label) (ls : List Link) → present (a_file l ls) ≡ ok tt
unfolding present
a_file_lem l ls = refl

module _ (g : Geometry) (image : List ℕ) (table : List OwnerRecord) (path : List ℕ) (T : TableOf g image table) where
  open T use {tree, accepted}

  abbrev vs : Views
  vs = views_of g image

  module _ (r : Result PathLookup Refusal) (h : Looks g (views_of g image) path r) (budget : Budget) where
    pub not_there : (z : Refusal) → r ≡ Err z → PathDeleted g image path budget image (Err z)
    not_there z e = refuses g image (delete_target path) budget z (λ i c. delete_target_none path i.tree _ _ (looks_as g vs path i r h c (Err z) e))

    pub absent : (d : Reached) (name extension : ℕ) → r ≡ Ok (lookup.Absent d name extension) → PathDeleted g image path budget image (Err (record { 0 = fault.Absent; 1 = 0 }))
    absent d name extension e = refuses g image (delete_target path) budget (record { 0 = fault.Absent; 1 = 0 }) λ i c.
        let m : PathAbsent g vs (path_of path) i d name extension = looks_as g vs path i r h c (Ok (lookup.Absent d name extension)) e in
        delete_target_absent path i.tree m.target m.reached 15 0 (ap present m.absent ∙ no_file)

    module _ (d : Reached) (x : Spot) (q : r ≡ Ok (lookup.At d x)) where
      abbrev s : Slot
      s = x.slot

      abbrev stamps : ℕ
      stamps = x.stamps

      abbrev e : Entry
      e = x.entry

      at_file : (i : Image) → check g (views_of g image) ≡ ok i → FileAt g vs (path_of path) i d s stamps e
      at_file i c = looks_as g vs path i r h c (Ok (lookup.At d x)) q

      is_there : (i : Image) (c : check g (views_of g image) ≡ ok i) → present (find (file_key (at_file i c).target.to) (at_file i c).target.place.items) ≡ ok tt
      is_there i c = let m = at_file i c in ap present m.found ∙ a_file_lem m.label m.links

      pub hidden : d.hidden ≡ true → PathDeleted g image path budget image (Err (record { 0 = fault.Hidden; 1 = 0 }))
      hidden k = refuses g image (delete_target path) budget (record { 0 = fault.Hidden; 1 = 0 }) λ i c.
          let m = at_file i c in
          delete_target_hidden path i.tree m.target m.reached (is_there i c) (m.directory.hidden_is ∙ k)

      pub read_only : d.hidden ≡ false → 127 < e.extension → PathDeleted g image path budget image (Err (record { 0 = fault.ReadOnly; 1 = 0 }))
      read_only z k = refuses g image (delete_target path) budget (record { 0 = fault.ReadOnly; 1 = 0 }) λ i c.
          let m = at_file i c in
          delete_target_kept path i.tree m.target m.reached (m.directory.hidden_is ∙ z) 16 0 (is_there i c) (ap writable m.found ∙ not_writable m k)

      abbrev there : FileAt g (views_of g image) (path_of path) tree d s stamps e
      there = at_file tree accepted

      pub can_delete : CanDelete g image table s stamps e
      can_delete = record {
        known = T;
        target = there.target;
        there = (reached (path_of path) tree.tree there.target there.reached).there;
        at = there.at;
        links = there.links;
        chain = there.chain;
        whole = λ x. rw there.found refl;
      }

      to_delete : d.hidden ≡ false → e.extension ≤ 127 → delete_target path tree.tree ≡ ok there.target
      to_delete z k = let f = there.found in
          delete_target_is path tree.tree there.target there.reached (there.directory.hidden_is ∙ z) (is_there tree accepted) (ap writable f ∙ is_writable there k)

      pub done : d.hidden ≡ false → e.extension ≤ 127 → (after : List ℕ) (left : Budget) → Unlinks g image table s stamps e budget after left → PathDeleted g image path budget after (Ok left)
      unfolding can_delete
      done z k after left u = removed g image table T (delete_target path) budget can_delete refl (to_delete z k) after left u
