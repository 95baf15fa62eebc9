-- A removal by path: each refusal in its place, and the directory that can be removed.
use Rattle.refusals.specs.declared.Refusal.{Refusal}
use Rattle.rules.specs.Answers.{refused}
use Rattle.std.specs.Prelude.{Result, Ok, Err}
use Rattle.refusals.specs.declared.Fault.TheVariants as fault
use mathlib.Core.Path.{◌≡◌, refl, ap, sym, ◌∙◌}
use mathlib.Core.Bool.{true, false}
use mathlib.Core.List.{List, [], ◌∷◌}
use Prim.Native.Nat.{ℕ, ◌+◌}
use native.Mathlib.Omega.{arith}
use lib.ListN.{length}
use borrow.Author.Tests.{eq-eqb, ne_eqb}
use Rattle.geometry.specs.declared.Geometry.{Geometry}
use Rattle.geometry.specs.Geometry.{control_size}
use Rattle.packet.specs.Packet.{view_of}
use Rattle.packet.specs.declared.Budget.{Budget}
use Rattle.rules.specs.declared.Entry.{Entry}
use Rattle.rules.specs.Result.{ok, err}
use Rattle.rules.proofs.ResultLaws.{refuse_true, refuse_false}
use Rattle.rules.specs.PageSets.{count}
use Rattle.rules.specs.Chain.{Views, views_of}
use Rattle.rules.specs.Names.{attribute}
use Rattle.rules.specs.Tree.{Label, Items, end, page, file, dir, file_entry, directory_entry, Token, entry, stamp_tokens, tokens, keys, Image}
use Rattle.rules.specs.Check.{check}
use Rattle.rules.proofs.Soundness.{token_pages, own_tokens, pages_tokens}
use Rattle.rules.specs.Paths.{directory_path_of, file_key, Found, nothing, a_directory, find}
use Rattle.rules.proofs.TargetLaws.{reached, removal_target_none, removal_target_absent, removal_target_below, removal_target_hidden, removal_target_kept, removal_target_is}
use Rattle.rules.specs.Directories.{present_directory, shown_directory, without_entries, removal_target}
use Rattle.rules.specs.EditLaws.{all_found}
use Rattle.editing_theorems.specs.DeleteLaws.{a_removal, no_keys}
use Rattle.chain.specs.KnownChain.{KnownChain}
use Rattle.entries.specs.declared.Slot.{Slot}
use Rattle.entries.specs.EntrySlots.{CountsEntries}
use Rattle.entries.proofs.TokenLaws.{token_keys, token_keys_lem}
use Rattle.listing.specs.KnownTree.{Chained}
use Rattle.lookup.specs.declared.Reached.{Reached}
use Rattle.lookup.specs.declared.Spot.{Spot}
use Rattle.lookup.specs.declared.PathLookup.{PathLookup}
use Rattle.lookup.specs.declared.PathLookup.TheVariants as lookup
use Rattle.lookup.specs.Targets.{PathAbsent, SubdirectoryAt, LooksFor}
use Rattle.lookup.specs.TargetLaws.{looks_for_as}
use Rattle.rules.specs.Owners.{OwnerRecord}
use Rattle.volume.specs.Edits.{TableOf}
use Rattle.delete.specs.Deletes.{CanDelete, Unlinks, Removes}
use Rattle.delete.proofs.Removing as removing

-- ---- what the answers of a removal's target say of a directory
no_directory : present_directory nothing ≡ err 15 0
unfolding present_directory
no_directory = refl

a_directory_lem : (l : Label) (d : Items) → present_directory (a_directory l d) ≡ ok tt
unfolding present_directory
a_directory_lem l d = refl

directory_hidden : (l : Label) (d : Items) → attribute l.extension ≡ 1 → shown_directory (a_directory l d) ≡ err 22 0
unfolding shown_directory
directory_hidden l d h = simp (eq-eqb (attribute l.extension) 1 h, refuse_false)

directory_shown : (l : Label) (d : Items) → (attribute l.extension ≡ 1 → ⊥) → shown_directory (a_directory l d) ≡ ok tt
unfolding shown_directory
directory_shown l d h = simp (ne_eqb (attribute l.extension) 1 h, refuse_true)

has_entries : (l : Label) (d : Items) → (length (keys d) ≡ 0 → ⊥) → without_entries (a_directory l d) ≡ err 20 0
unfolding without_entries
has_entries l d h = simp (ne_eqb (length (keys d)) 0 h, refuse_false)

has_none : (l : Label) (d : Items) → length (keys d) ≡ 0 → without_entries (a_directory l d) ≡ ok tt
unfolding without_entries
has_none l d h = simp (eq-eqb (length (keys d)) 0 h, refuse_true)

-- ---- the entries that the code counts, stamps too, and those of the tree
stamp_more : (ss : List Entry) (ts : List Token) → length (token_keys (stamp_tokens ss ts)) ≡ length ss + length (token_keys ts)
stamp_more [] ts = omega arith
stamp_more (s ∷ ss) ts = omega (arith, stamp_more ss ts)

none_counted : (t : Items) → length (keys t) ≡ 0 → length (token_keys (tokens t)) ≡ 0
none_counted end h = refl
none_counted (page p t) h = none_counted t h
none_counted (file l ls t) h = absurd (omega (arith, h))
none_counted (dir l d t) h = absurd (omega (arith, h))

some_counted : (t : Items) → length (token_keys (tokens t)) ≡ 0 → length (keys t) ≡ 0
some_counted end h = refl
some_counted (page p t) h = some_counted t h
some_counted (file l ls t) h = absurd (omega (arith, h, stamp_more l.stamps (entry (file_entry l ls) ∷ tokens t)))
some_counted (dir l d t) h = absurd (omega (arith, h, stamp_more l.stamps (entry (directory_entry l d) ∷ tokens t)))

module _ (g : Geometry) (image : List ℕ) (table : List OwnerRecord) (path : List ℕ) (T : TableOf g image table) (r : Result PathLookup Refusal) (h : LooksFor g (views_of g image) path r) (budget : Budget) where
  open T use {tree, accepted}

  abbrev vs : Views
  vs = views_of g image

  -- a refusal of the target
  refuses : (z : Refusal) → ((i : Image) → check g (views_of g image) ≡ ok i → removal_target path i.tree ≡ refused z) → Removes g image (removal_target path) budget image (Err z)
  refuses z e = removing.refuses g image (removal_target path) budget z e

  pub not_there : (z : Refusal) → r ≡ Err z → Removes g image (removal_target path) budget image (Err z)
  not_there z e = refuses z (λ i c. removal_target_none path i.tree _ _ (looks_for_as g vs path i r h c (Err z) e))

  pub absent : (d : Reached) (name extension : ℕ) → r ≡ Ok (lookup.Absent d name extension) → Removes g image (removal_target path) budget image (Err (record { 0 = fault.Absent; 1 = 0 }))
  absent d name extension e = refuses (record { 0 = fault.Absent; 1 = 0 }) λ i c.
      let m : PathAbsent g vs (directory_path_of path) i d name extension = looks_for_as g vs path i r h c (Ok (lookup.Absent d name extension)) e in
      removal_target_absent path i.tree m.target m.reached 15 0 (ap present_directory m.absent ∙ no_directory)

  module _ (d : Reached) (x : Spot) (q : r ≡ Ok (lookup.At d x)) where
    abbrev s : Slot
    s = x.slot

    abbrev stamps : ℕ
    stamps = x.stamps

    abbrev e : Entry
    e = x.entry

    at_directory : (i : Image) → check g (views_of g image) ≡ ok i → SubdirectoryAt g vs (directory_path_of path) i d s stamps e
    at_directory i c = looks_for_as g vs path i r h c (Ok (lookup.At d x)) q

    abbrev there : SubdirectoryAt g (views_of g image) (directory_path_of path) tree d s stamps e
    there = looks_for_as g vs path tree r h accepted (Ok (lookup.At d x)) q

    same_extension : (i : Image) (c : check g (views_of g image) ≡ ok i) → e.extension ≡ (at_directory i c).label.extension
    same_extension i c = ap (λ (x : Entry). x.extension) (at_directory i c).entry_is

    pub below_hidden : d.hidden ≡ true → Removes g image (removal_target path) budget image (Err (record { 0 = fault.Hidden; 1 = 0 }))
    below_hidden k = refuses (record { 0 = fault.Hidden; 1 = 0 }) λ i c.
        let m = at_directory i c in
        removal_target_below path i.tree m.target m.reached (ap present_directory m.found ∙ a_directory_lem m.label m.items) (m.directory.hidden_is ∙ k)

    module _ (z : d.hidden ≡ false) where
      pub hidden : attribute e.extension ≡ 1 → Removes g image (removal_target path) budget image (Err (record { 0 = fault.Hidden; 1 = 0 }))
      hidden k = refuses (record { 0 = fault.Hidden; 1 = 0 }) λ i c.
          let m = at_directory i c in
          removal_target_hidden path i.tree m.target m.reached (m.directory.hidden_is ∙ z) (ap present_directory m.found ∙ a_directory_lem m.label m.items) 22 0
          (ap shown_directory m.found ∙ directory_hidden m.label m.items (sym (ap attribute (same_extension i c)) ∙ k))

      -- the directory's chain, and its entries counted
      abbrev chained : Chained g (view_of g image) e.start there.items
      chained = there.tree.stands.chained

      pub known_chain : KnownChain g (view_of g image) e.start
      known_chain = record { links = chained.links; chain = chained.chain }

      module _ (k : attribute e.extension ≡ 1 → ⊥) (n : ℕ) (counted : CountsEntries g (view_of g image) e.start n) where
        module _ (i : Image) (c : check g (views_of g image) ≡ ok i) where
          n_is : n ≡ length (token_keys (tokens (at_directory i c).items))
          n_is =
              let k = (at_directory i c).tree.stands.chained in
              counted k.links k.chain ∙ ap length (sym (token_keys_lem g (control_size g) k.links)) ∙ ap (λ (ts : List Token). length (token_keys ts)) k.shape

          seen : shown_directory (find (file_key (at_directory i c).target.to) (at_directory i c).target.place.items) ≡ ok tt
          seen = let m = at_directory i c in ap shown_directory m.found ∙ directory_shown m.label m.items (λ j. k (ap attribute (same_extension i c) ∙ j))

        pub not_empty : (n ≡ 0 → ⊥) → Removes g image (removal_target path) budget image (Err (record { 0 = fault.NotEmpty; 1 = 0 }))
        not_empty y = refuses (record { 0 = fault.NotEmpty; 1 = 0 }) λ i c.
            let m = at_directory i c in
            removal_target_kept path i.tree m.target m.reached (m.directory.hidden_is ∙ z) (ap present_directory m.found ∙ a_directory_lem m.label m.items) 20 0 (seen i c)
            (ap without_entries m.found ∙ has_entries m.label m.items (λ j. y (n_is i c ∙ none_counted m.items j)))

        module _ (none : n ≡ 0) where
          no_entries_lem : length (keys there.items) ≡ 0
          unfolding at_directory
          no_entries_lem = some_counted there.items (sym (n_is tree accepted) ∙ none)

          pub can_remove : CanDelete g image table s stamps e
          can_remove = record {
            known = T;
            target = there.target;
            there = (reached (directory_path_of path) tree.tree there.target there.reached).there;
            at = there.at;
            links = chained.links;
            chain = chained.chain;
            whole = λ x. ap (count x) (sym (pages_tokens g (control_size g) chained.links) ∙ ap token_pages chained.shape ∙ sym (own_tokens there.items))
                ∙ sym ((a_removal path).all_of_it (a_directory there.label there.items) (no_keys (keys there.items) no_entries_lem) x) ∙ ap (λ (f : Found). count x (all_found f)) (sym there.found);
          }

          to_remove : removal_target path tree.tree ≡ ok there.target
          unfolding at_directory
          to_remove = removal_target_is path tree.tree there.target there.reached (there.directory.hidden_is ∙ z)
              (ap present_directory there.found ∙ a_directory_lem there.label there.items) (seen tree accepted) (ap without_entries there.found ∙ has_none there.label there.items no_entries_lem)

          pub done : (after : List ℕ) (left : Budget) → Unlinks g image table s stamps e budget after left → Removes g image (removal_target path) budget after (Ok left)
          unfolding can_remove
          done after left u = removing.removed g image table T (removal_target path) budget can_remove refl to_remove after left u
