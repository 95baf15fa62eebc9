-- The careful delete: it takes no page, so its marks are the bitmap as it stands, and its page writes are the plain delete's.
use Rattle.refusals.specs.declared.Refusal.{Refusal}
use Rattle.std.specs.Prelude.{Result, Some}
use mathlib.Core.Path.{◌≡◌, ap, sym, ◌∙◌}
use mathlib.Core.List.{List, ◌++◌}
use Prim.Native.Nat.{ℕ, ◌<◌, ◌*◌}
use native.Mathlib.Omega.{arith}
use lib.ListN.{length, get_or, drop}
use Rattle.rules.specs.Owners.{OwnerRecord}
use Rattle.owners.specs.Records.{records_of}
use Rattle.geometry.specs.declared.Geometry.{Geometry}
use Rattle.geometry.specs.Geometry.{geometry_of, Fit}
use Rattle.geometry.specs.NumberLaws.{bytes_from}
use Rattle.packet.specs.declared.Budget.{Budget}
use Rattle.packet.specs.Budgets.{with_limit}
use Rattle.rules.specs.declared.WriteCount.{WriteCount}
use Rattle.rules.specs.Result.{Res, ok, err, and_then}
use Rattle.rules.proofs.ResultLaws.{then_ok, then_err, then_assoc, then_cong}
use Rattle.rules.specs.Chain.{views_of}
use Rattle.rules.specs.Check.{check}
use Rattle.rules.specs.Paths.{Target}
use Rattle.rules.specs.Writes.{edited, edit_writes}
use Rattle.rules.specs.Delete.{delete_target, delete_edit}
use Rattle.rules.specs.Answers.{answer_of}
use Rattle.rules.specs.Careful.{halted_at, careful_writes, careful_delete, careful_delete_call, count_of}
use Rattle.rules.specs.CarefulPromises.{IsDone, CarefullyDeletes}
use Rattle.editing_theorems.specs.DeleteLaws.{stands_in, delete_shows, a_delete_lem}
use Rattle.careful_theorems.proofs.MarkedPages.{marks_stand}
use Rattle.careful_theorems.proofs.CarefulCalls.{careful_delete_stated}
use Rattle.delete.specs.Deletes.{delete_writes, PathDeleted}
use Rattle.volume.specs.Edits.{effect_of, TableOf, EffectLeaves}
use Rattle.volume.proofs.EditLaws.{effective_leaves}
use Rattle.careful.specs.Halts.{HasSpent, halt_of}
use Rattle.careful.proofs.Halting.{has_spent, halts_as}

pub delete_fault : (g : Geometry) (k : ℕ) (path image : List ℕ) (n p : ℕ) → check g (views_of g image) ≡ err n p → careful_delete g k path image ≡ err n p
unfolding careful_delete
delete_fault g k path image n p e = simp (e, then_err)

-- the pages in use after a delete were in use before it
same_writes : (g : Geometry) (path image : List ℕ) → Fit g image → (table : List OwnerRecord) (T : TableOf g image table) (x : Target) → delete_target path T.tree.tree ≡ ok x
    → careful_writes g x.to.directories (delete_edit x.to x.place) T.tree ≡ delete_writes g T.tree x
unfolding careful_writes
same_writes g path image fit table T x t =
    let C = a_delete_lem path in
    let i = T.tree in
    let s = delete_shows C (stands_in C fit T.bytes i T.accepted x t) in
    let e = delete_edit x.to x.place in
    let j = edited g x.to.directories e i in
    ap (λ (m : List ℕ). edit_writes g m e i j) (marks_stand g i j (λ y h. omega (arith, s.total y, h)))

-- ---- an accepted image
module _ (g : Geometry) (image : List ℕ) (table : List OwnerRecord) (path : List ℕ) (fit : Fit g image) (T : TableOf g image table) (k : ℕ) (budget : Budget) (b : budget ≡ with_limit k) (after : List ℕ) (o : Result Budget Refusal)
    (h : PathDeleted g image path budget after o) where
  rule_is : careful_delete g k path image ≡ and_then (and_then (delete_target path T.tree.tree) (λ x. ok (delete_writes g T.tree x))) (λ ws. ok (halted_at g k ws image))
  unfolding careful_delete
  rule_is =
      let i = T.tree in
      let s : and_then (check g (views_of g image)) (λ i. and_then (delete_target path i.tree) (λ x. ok (halted_at g k (careful_writes g x.to.directories (delete_edit x.to x.place) i) image)))
      ≡ and_then (delete_target path i.tree) (λ x. ok (halted_at g k (careful_writes g x.to.directories (delete_edit x.to x.place) i) image)) = simp (T.accepted, then_ok) in
      s ∙ sym (then_assoc _ _ _ ∙ then_cong _ _ _ (λ x t. then_ok _ _ ∙ ap (λ (ws : List _). ok (halted_at g k ws image)) (sym (same_writes g path image fit table T x t))))

  pub delete_spent : HasSpent o k
  delete_spent = has_spent g (and_then (delete_target path T.tree.tree) (λ x. ok (delete_writes g T.tree x))) image k budget b after o (h T.tree T.accepted)

  pub delete_answers : (r : Result WriteCount Refusal) → r ≡ halt_of o k → ◌≡◌ {A = Res WriteCount × List ℕ} (answer_of r, after) (effect_of image (careful_delete g k path image))
  delete_answers r e = ap (λ (x : Result WriteCount Refusal). (answer_of x, after)) e
      ∙ halts_as g (and_then (delete_target path T.tree.tree) (λ x. ok (delete_writes g T.tree x))) image k budget b after o (h T.tree T.accepted) ∙ sym (ap (effect_of image) rule_is)

-- ---- any image
module _ (P N : ℕ) (image table path : List ℕ) (k : ℕ) where
  pub deleted : (g : Geometry) → geometry_of P N (length image) (length table) ≡ Some g → (part : List ℕ) → length part ≡ 4 * g.pages → ((i : ℕ) → get_or (part ++ drop (4 * g.pages) table) i 0 < 256)
      → (r : Result WriteCount Refusal) (after : List ℕ) → EffectLeaves g image (careful_delete g k path image) (answer_of r) after (records_of part)
      → (answer_of r, after, part ++ drop (4 * g.pages) table) ≡ careful_delete_call P N image table k path
  unfolding careful_delete_call
  deleted g e part l h r after x = effective_leaves P N image table g e part l h (λ g. careful_delete g k path image) (answer_of r) after x

  pub delete_is : (h : (i : ℕ) → get_or image i 0 < 256) (r : Result WriteCount Refusal) (after t : List ℕ)
      → (answer_of r, after, t) ≡ careful_delete_call P N image table k path → CarefullyDeletes P N image table k path (IsDone (answer_of r)) (count_of (answer_of r)) after
  delete_is h r after t e =
      let q : answer_of r ≡ (careful_delete_call P N image table k path).0 = ap (λ (x : Res WriteCount × List ℕ × List ℕ). x.0) e in
      let a : after ≡ (careful_delete_call P N image table k path).1 = ap (λ (x : Res WriteCount × List ℕ × List ℕ). x.1) e in
      rw (q, a) (careful_delete_stated P N image table (bytes_from image h) k path)
