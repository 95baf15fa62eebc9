-- The call: the check's fault first, and what a delete that is done leaves.
use Rattle.refusals.specs.declared.Refusal.{Refusal}
use Rattle.std.specs.Prelude.{Result, Some}
use mathlib.Core.Path.{◌≡◌, ap}
use mathlib.Core.List.{List, ◌++◌}
use Prim.Native.Nat.{ℕ, ◌<◌, ◌*◌}
use lib.ListN.{length, get_or, drop}
use Rattle.owners.specs.Records.{records_of}
use Rattle.geometry.specs.declared.Geometry.{Geometry}
use Rattle.geometry.specs.Geometry.{geometry_of}
use Rattle.geometry.specs.NumberLaws.{bytes_from}
use Rattle.rules.specs.Result.{Res, ok, err}
use Rattle.rules.proofs.ResultLaws.{then_err}
use Rattle.rules.specs.Chain.{views_of}
use Rattle.rules.specs.Check.{check}
use Rattle.rules.specs.Delete.{remove_at, delete}
use Rattle.rules.specs.Calls.{delete_call}
use Rattle.rules.specs.Promises.{Deletes}
use Rattle.editing_theorems.proofs.Promised.{delete_stated}
use Rattle.rules.specs.Answers.{answer_of}
use Rattle.volume.specs.Edits.{EditLeaves}
use Rattle.volume.proofs.EditLaws.{changed_leaves}

pub delete_fault : (g : Geometry) (path image : List ℕ) (n p : ℕ) → check g (views_of g image) ≡ err n p → delete g path image ≡ err n p
unfolding remove_at
delete_fault g path image n p e = simp (e, then_err)

module _ (P N : ℕ) (image table path : List ℕ) where
  pub deleted : (g : Geometry) → geometry_of P N (length image) (length table) ≡ Some g → (part : List ℕ) → length part ≡ 4 * g.pages → ((i : ℕ) → get_or (part ++ drop (4 * g.pages) table) i 0 < 256)
      → (r : Result (Unit {0}) Refusal) (after : List ℕ) → EditLeaves g image (delete g path image) r after (records_of part) → (answer_of r, after, part ++ drop (4 * g.pages) table) ≡ delete_call P N image table path
  unfolding delete_call
  deleted g e part l h r after k = changed_leaves P N image table g e part l h (λ g. delete g path image) r after k

  pub delete_is : (h : (i : ℕ) → get_or image i 0 < 256) (r : Result (Unit {0}) Refusal) (after t : List ℕ) → (answer_of r, after, t) ≡ delete_call P N image table path
      → Deletes P N image table path (answer_of r ≡ ok tt) after
  delete_is h r after t e =
      let q : answer_of r ≡ (delete_call P N image table path).0 = ap (λ (x : Res (Unit {0}) × List ℕ × List ℕ). x.0) e in
      let a : after ≡ (delete_call P N image table path).1 = ap (λ (x : Res (Unit {0}) × List ℕ × List ℕ). x.1) e in
      rw (q, a) (delete_stated P N image table (bytes_from image h) path)
