-- A call that removes what its target has at the path: its refusals, what it writes; without a limit the answer and the image are the rule's.
use Rattle.rules.specs.Answers.{refused}
use Rattle.std.specs.Prelude.{Err, Result, Ok}
use Rattle.refusals.specs.declared.Refusal.{Refusal}
use mathlib.Core.Path.{◌≡◌, refl, ap, sym, ◌∙◌, subst}
use mathlib.Core.List.{List}
use Prim.Native.Nat.{ℕ}
use Rattle.geometry.specs.declared.Geometry.{Geometry}
use Rattle.packet.specs.Packet.{after_writes}
use Rattle.packet.specs.declared.Budget.{Budget}
use Rattle.packet.specs.Budgets.{Progress, write_all, unlimited}
use Rattle.rules.specs.declared.Entry.{Entry}
use Rattle.rules.specs.Result.{Res, ok, and_then}
use Rattle.rules.proofs.ResultLaws.{ok_inj, then_ok, then_err, then_assoc, then_cong}
use Rattle.rules.specs.Chain.{views_of}
use Rattle.rules.specs.Tree.{Items, Image}
use Rattle.rules.specs.Check.{check}
use Rattle.rules.specs.Paths.{Target}
use Rattle.rules.specs.Put.{plain_edit}
use Rattle.rules.specs.Delete.{delete_edit, remove_at}
use Rattle.entries.specs.declared.Slot.{Slot}
use Rattle.edit.specs.OutcomeLaws.{whole_done, whole_refused}
use Rattle.edit.specs.Plans.{Outcomes}
use Rattle.rules.specs.Owners.{OwnerRecord}
use Rattle.volume.specs.Edits.{leaves, Answered, TableOf}
use Rattle.delete.specs.Deletes.{CanDelete, delete_writes, Unlinks, Removes}

pub refuses : (g : Geometry) (image : List ℕ) (target : Items → Res Target) (budget : Budget) (z : Refusal) → ((i : Image) → check g (views_of g image) ≡ ok i → target i.tree ≡ refused z)
    → Removes g image target budget image (Err z)
refuses g image target budget z e i c = (simp (e i c, then_err), refl)

module _ (g : Geometry) (image : List ℕ) (table : List OwnerRecord) (T : TableOf g image table) (target : Items → Res Target) (budget : Budget) where
  open T use {tree, accepted}

  -- what can be deleted is what the target has
  pub removed : {s : Slot} {stamps : ℕ} {e : Entry} (H : CanDelete g image table s stamps e) → H.known ≡ T → target tree.tree ≡ ok H.target → (after : List ℕ) (left : Budget)
      → Unlinks g image table s stamps e budget after left → Removes g image target budget after (Ok left)
  unfolding Unlinks
  removed H same a after left u i c =
      let t : H.known.tree ≡ tree = ap (λ (K : TableOf g image table). K.tree) same in
      subst (λ (j : Image). Outcomes g (and_then (target j.tree) (λ x. ok (delete_writes g j x))) image budget after (Ok left)) (ok_inj (sym accepted ∙ c))
      (delete_writes g tree H.target, simp (a, then_ok), subst (λ (j : Image). ◌≡◌ {A = Progress} (record { image = after; budget = left }) (write_all g (delete_writes g j H.target) (record { image = image; budget = budget }))) t (u H))

  -- ---- without a limit
  rule_is : remove_at g target image ≡ and_then (and_then (target tree.tree) (λ x. ok (delete_writes g tree x))) (λ ws. ok (after_writes g ws image))
  unfolding remove_at plain_edit
  rule_is =
      let s : and_then (check g (views_of g image)) (λ i. and_then (target i.tree) (λ x. ok (plain_edit g x.to.directories (delete_edit x.to x.place) i image)))
      ≡ and_then (target tree.tree) (λ x. ok (plain_edit g x.to.directories (delete_edit x.to x.place) tree image)) = simp (accepted, then_ok) in
      s ∙ sym (then_assoc _ _ _ ∙ then_cong _ _ _ (λ x _. then_ok _ _))

  module _ (b : budget ≡ unlimited) (after : List ℕ) (o : Result Budget Refusal) (h : Removes g image target budget after o) where
    outcome_as : (x : Result Budget Refusal) → o ≡ x → Outcomes g (and_then (target tree.tree) (λ x. ok (delete_writes g tree x))) image budget after x
    outcome_as x e = subst (λ (y : Result Budget Refusal). Outcomes g (and_then (target tree.tree) (λ x. ok (delete_writes g tree x))) image budget after y) e (h tree accepted)

    pub answer_done : (left : Budget) → o ≡ Ok left → Answered image (remove_at g target image) (Ok tt) after
    answer_done left e = sym (ap (leaves image) (rule_is ∙ whole_done g _ image budget b after left (outcome_as (Ok left) e)))

    pub answer_refused : (z : Refusal) → o ≡ Err z → Answered image (remove_at g target image) (Err z) after
    answer_refused z e =
        let k = outcome_as (Err z) e in
        ap (λ (x : List ℕ). (refused z, x)) k.1 ∙ sym (ap (leaves image) (rule_is ∙ whole_refused g _ image budget b after z k))
