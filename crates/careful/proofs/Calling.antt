-- The calls: the check's fault first, and what they leave.
use Rattle.refusals.specs.declared.Refusal.{Refusal}
use Rattle.std.specs.Prelude.{Result, Some}
use mathlib.Core.Path.{◌≡◌, ap, sym, ◌∙◌}
use mathlib.Core.List.{List, ◌++◌}
use Prim.Native.Nat.{ℕ, ◌<◌, ◌*◌}
use lib.ListN.{length, get_or, drop}
use Rattle.rules.specs.Owners.{OwnerRecord}
use Rattle.owners.specs.Records.{records_of}
use Rattle.geometry.specs.declared.Geometry.{Geometry}
use Rattle.geometry.specs.Geometry.{geometry_of}
use Rattle.geometry.specs.NumberLaws.{bytes_from}
use Rattle.packet.specs.declared.Budget.{Budget}
use Rattle.packet.specs.Budgets.{with_limit}
use Rattle.rules.specs.declared.WriteCount.{WriteCount}
use Rattle.rules.specs.Result.{Res, ok, err, and_then}
use Rattle.rules.proofs.ResultLaws.{then_ok, then_err, then_assoc, then_cong}
use Rattle.rules.specs.PageSets.{free_pages}
use Rattle.rules.specs.Chain.{views_of}
use Rattle.rules.specs.Tree.{used}
use Rattle.rules.specs.Check.{check}
use Rattle.rules.specs.Put.{put_target, put_edit}
use Rattle.rules.specs.Answers.{answer_of}
use Rattle.rules.specs.Careful.{halted_at, careful_writes, careful_put, careful_put_call, count_of}
use Rattle.rules.specs.CarefulPromises.{IsDone, CarefullyPuts}
use Rattle.careful_theorems.proofs.CarefulCalls.{careful_put_stated}
use Rattle.volume.specs.Edits.{effect_of, TableOf, EffectLeaves}
use Rattle.volume.proofs.EditLaws.{effective_leaves}
use Rattle.careful.specs.MarkedPuts.{careful_put_writes, CarefulPathPut}
use Rattle.careful.specs.Halts.{HasSpent, halt_of}
use Rattle.careful.proofs.Halting.{has_spent, halts_as}

pub put_fault : (g : Geometry) (k : ℕ) (path bytes image : List ℕ) (n p : ℕ) → check g (views_of g image) ≡ err n p → careful_put g k path bytes image ≡ err n p
unfolding careful_put
put_fault g k path bytes image n p e = simp (e, then_err)

-- ---- an accepted image
module _ (g : Geometry) (image : List ℕ) (table : List OwnerRecord) (path bytes : List ℕ) (T : TableOf g image table) (k : ℕ) (budget : Budget) (b : budget ≡ with_limit k) (after : List ℕ) (o : Result Budget Refusal)
    (h : CarefulPathPut g image path bytes budget after o) where
  rule_is : careful_put g k path bytes image ≡ and_then (and_then (put_target path T.tree.tree) (careful_put_writes g bytes T.tree)) (λ ws. ok (halted_at g k ws image))
  unfolding careful_put
  rule_is =
      let i = T.tree in
      let s : and_then (check g (views_of g image)) (λ i. and_then (put_target path i.tree) (λ x. and_then (put_edit g (free_pages (used i) g.pages) x.to bytes x.place)
      (λ e. ok (halted_at g k (careful_writes g x.to.directories e i) image))))
      ≡ and_then (put_target path i.tree) (λ x. and_then (put_edit g (free_pages (used i) g.pages) x.to bytes x.place) (λ e. ok (halted_at g k (careful_writes g x.to.directories e i) image)))
      = simp (T.accepted, then_ok) in
      s ∙ sym (then_assoc _ _ _ ∙ then_cong _ _ _ (λ x _. then_assoc _ _ _ ∙ then_cong _ _ _ (λ e _. then_ok _ _)))

  pub put_spent : HasSpent o k
  put_spent = has_spent g (and_then (put_target path T.tree.tree) (careful_put_writes g bytes T.tree)) image k budget b after o (h T.tree T.accepted)

  pub put_answers : (r : Result WriteCount Refusal) → r ≡ halt_of o k → ◌≡◌ {A = Res WriteCount × List ℕ} (answer_of r, after) (effect_of image (careful_put g k path bytes image))
  put_answers r e = ap (λ (x : Result WriteCount Refusal). (answer_of x, after)) e
      ∙ halts_as g (and_then (put_target path T.tree.tree) (careful_put_writes g bytes T.tree)) image k budget b after o (h T.tree T.accepted) ∙ sym (ap (effect_of image) rule_is)

-- ---- any image
module _ (P N : ℕ) (image table path bytes : List ℕ) (k : ℕ) where
  pub putted : (g : Geometry) → geometry_of P N (length image) (length table) ≡ Some g → (part : List ℕ) → length part ≡ 4 * g.pages → ((i : ℕ) → get_or (part ++ drop (4 * g.pages) table) i 0 < 256)
      → (r : Result WriteCount Refusal) (after : List ℕ) → EffectLeaves g image (careful_put g k path bytes image) (answer_of r) after (records_of part)
      → (answer_of r, after, part ++ drop (4 * g.pages) table) ≡ careful_put_call P N image table k path bytes
  unfolding careful_put_call
  putted g e part l h r after x = effective_leaves P N image table g e part l h (λ g. careful_put g k path bytes image) (answer_of r) after x

  pub put_is : (h : (i : ℕ) → get_or image i 0 < 256) (hp : (i : ℕ) → get_or path i 0 < 256) (hb : (i : ℕ) → get_or bytes i 0 < 256) (r : Result WriteCount Refusal) (after t : List ℕ)
      → (answer_of r, after, t) ≡ careful_put_call P N image table k path bytes → CarefullyPuts P N image table k path bytes (IsDone (answer_of r)) (count_of (answer_of r)) after
  put_is h hp hb r after t e =
      let q : answer_of r ≡ (careful_put_call P N image table k path bytes).0 = ap (λ (x : Res WriteCount × List ℕ × List ℕ). x.0) e in
      let a : after ≡ (careful_put_call P N image table k path bytes).1 = ap (λ (x : Res WriteCount × List ℕ × List ℕ). x.1) e in
      rw (q, a) (careful_put_stated P N image table (bytes_from image h) k path bytes (bytes_from path hp) (bytes_from bytes hb))
