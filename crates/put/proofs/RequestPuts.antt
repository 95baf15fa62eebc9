-- A call that puts something: each refusal in its place; what it writes; without a limit the answer and the image are the rule's.
use Rattle.rules.specs.Answers.{refused}
use Rattle.std.specs.Prelude.{Err, Result, Ok}
use Rattle.refusals.specs.declared.Refusal.{Refusal}
use mathlib.Core.Path.{◌≡◌, refl, ap, sym, ◌∙◌, subst}
use mathlib.Core.List.{List}
use Prim.Native.Nat.{ℕ}
use native.Mathlib.Omega.{arith}
use Rattle.geometry.specs.declared.Geometry.{Geometry}
use Rattle.geometry.specs.Geometry.{Fit}
use Rattle.packet.specs.Packet.{view_of, Write, after_writes}
use Rattle.packet.specs.declared.Budget.{Budget}
use Rattle.packet.specs.Budgets.{unlimited}
use Rattle.rules.specs.Result.{Res, ok, and_then}
use Rattle.rules.proofs.ResultLaws.{ok_inj, then_ok, then_err, then_assoc, then_cong}
use Rattle.rules.specs.PageSets.{count, free_pages}
use Rattle.rules.specs.Chain.{views_of, Link, pages}
use Rattle.rules.specs.Tree.{Label, Items, Image, used}
use Rattle.rules.specs.Owners.{OwnerRecord}
use Rattle.rules.specs.Check.{check}
use Rattle.rules.specs.Paths.{Path, file_key, Found, find, Place, Target}
use Rattle.rules.specs.Put.{kept_pages, put_edit, plain_edit, put_at}
use Rattle.owners.specs.Owned.{Represents}
use Rattle.owners.specs.OwnerLaws.{represents_owners, represents_freed}
use Rattle.editing_theorems.specs.PutLaws.{Asked, kept_old, free_clear}
use Rattle.editing_theorems.proofs.PutDone.{PutCall, asked_at}
use Rattle.edit.specs.declared.NewFile.{NewFile}
use Rattle.edit.specs.OutcomeLaws.{whole_done, whole_refused}
use Rattle.edit.specs.OldChains.{links_of, HasOld, FreesOld}
use Rattle.edit.specs.Plans.{PlainPutting, Outcomes, put_writes, PutsFile}
use Rattle.volume.specs.Edits.{leaves, Answered, TableOf}
use Rattle.put.specs.Places.{ItemPlace, RequestPut}

module _ {asked : Res Path} {Allowed Wanted : Found → Type 0} {target : Items → Res Target} {bytes_at : Geometry → Place → List ℕ} {stands : Label → List Link → Found}
    (C : PutCall asked Allowed Wanted target bytes_at stands) (g : Geometry) (image : List ℕ) (table : List OwnerRecord) (fit : Fit g image) (T : TableOf g image table) where
  open T use {tree, accepted, table_is}

  abbrev pub asked_here : (x : Target) → target T.tree.tree ≡ ok x → Asked g image (bytes_at g x.place) stands
  asked_here x t = asked_at C g image fit T.bytes T.tree T.accepted x (C.met T.tree.tree x t)

  -- the owner table tells of the pages in use
  pub table_used : (x : Target) (t : target T.tree.tree ≡ ok x) → Represents table (used T.tree)
  table_used x t = rw table_is (represents_owners g.pages tree (asked_here x t).well.holds.apart)

  -- whatever reading is accepted, it is the table's
  same_tree : (i : Image) → check g (views_of g image) ≡ ok i → tree ≡ i
  same_tree i h = ok_inj (sym accepted ∙ h)

  module _ (budget : Budget) where
    pub refuses : (x : Refusal) → ((i : Image) → check g (views_of g image) ≡ ok i → target i.tree ≡ refused x) → RequestPut g image target (bytes_at g) budget image (Err x)
    refuses x z i c = (simp (z i c, then_err), refl)

    -- what a put of it at its place gives
    given : (x : Target) (t : target tree.tree ≡ ok x) (after : List ℕ) (o : Result Budget Refusal) → Outcomes g (put_writes g (bytes_at g x.place) tree x) image budget after o
        → RequestPut g image target (bytes_at g) budget after o
    given x t after o w i c = subst (λ (j : Image). Outcomes g (and_then (target j.tree) (λ y. put_writes g (bytes_at g y.place) j y)) image budget after o) (same_tree i c)
        (subst (λ (z : Res Target). Outcomes g (and_then z (λ y. put_writes g (bytes_at g y.place) tree y)) image budget after o) (sym t)
        (subst (λ (z : Res (List Write)). Outcomes g z image budget after o) (sym (then_ok x (λ y. put_writes g (bytes_at g y.place) tree y))) w))

    -- ---- at its place, the chain that it replaces free
    module _ (f : NewFile) (place : ItemPlace g image target tree f) where
      pub has_old : HasOld g (view_of g image) f.replaces
      has_old = record { links = links_of (find (file_key place.goal.to) place.goal.place.items); old = place.old }

      module _ (u : List OwnerRecord) (freed_old : FreesOld g (view_of g image) f.replaces table u) where
        pub to_put : PlainPutting g image u (bytes_at g place.goal.place) f
        to_put =
            let a = asked_here place.goal place.reached in
            let b = bytes_at g place.goal.place in
            let k = kept_pages place.goal.to tree in
            record {
              stands = stands;
              asked = a;
              at = place.at;
              represents = subst (λ (t : List OwnerRecord). Represents t k) (sym (freed_old _ place.old))
                  (represents_freed table (used tree) k (pages (links_of (find (file_key place.goal.to) place.goal.place.items))) (table_used place.goal place.reached)
                  (λ x. omega (arith, kept_old g image b stands a x, ap (count x) place.pages_are)));
              clear = free_clear g image b stands a;
            }

        pub put_at_lem : (after : List ℕ) (o : Result Budget Refusal) → PutsFile g image u (bytes_at g place.goal.place) f budget after o → RequestPut g image target (bytes_at g) budget after o
        unfolding to_put
        put_at_lem after o k = given place.goal place.reached after o (k to_put)

  -- ---- without a limit
  abbrev writes : Image → Target → Res (List Write)
  writes i x = put_writes g (bytes_at g x.place) i x

  rule_is : put_at g target (bytes_at g) image ≡ and_then (and_then (target tree.tree) (writes tree)) (λ ws. ok (after_writes g ws image))
  unfolding put_at plain_edit
  rule_is =
      let s : and_then (check g (views_of g image))
      (λ i. and_then (target i.tree) (λ x. and_then (put_edit g (free_pages (kept_pages x.to i) g.pages) x.to (bytes_at g x.place) x.place) (λ e. ok (plain_edit g x.to.directories e i image))))
      ≡ and_then (target tree.tree) (λ x. and_then (put_edit g (free_pages (kept_pages x.to tree) g.pages) x.to (bytes_at g x.place) x.place) (λ e. ok (plain_edit g x.to.directories e tree image)))
      = simp (accepted, then_ok) in
      s ∙ sym (then_assoc _ _ _ ∙ then_cong _ _ _ (λ x _. then_assoc _ _ _ ∙ then_cong _ _ _ (λ e _. then_ok _ _)))

  module _ (budget : Budget) (b : budget ≡ unlimited) (after : List ℕ) (o : Result Budget Refusal) (h : RequestPut g image target (bytes_at g) budget after o) where
    outcome_as : (x : Result Budget Refusal) → o ≡ x → Outcomes g (and_then (target tree.tree) (writes tree)) image budget after x
    outcome_as x e = subst (λ (y : Result Budget Refusal). Outcomes g (and_then (target tree.tree) (writes tree)) image budget after y) e (h tree accepted)

    pub answer_done : (left : Budget) → o ≡ Ok left → Answered image (put_at g target (bytes_at g) image) (Ok tt) after
    answer_done left e = sym (ap (leaves image) (rule_is ∙ whole_done g _ image budget b after left (outcome_as (Ok left) e)))

    pub answer_refused : (z : Refusal) → o ≡ Err z → Answered image (put_at g target (bytes_at g) image) (Err z) after
    answer_refused z e =
        let k = outcome_as (Err z) e in
        ap (λ (x : List ℕ). (refused z, x)) k.1 ∙ sym (ap (leaves image) (rule_is ∙ whole_refused g _ image budget b after z k))
