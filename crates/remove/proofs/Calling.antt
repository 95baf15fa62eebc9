-- The call: the check's fault first, and what a remove that is done leaves.
use Rattle.refusals.specs.declared.Refusal.{Refusal}
use Rattle.std.specs.Prelude.{Result, Some}
use mathlib.Core.Path.{◌≡◌, ap}
use mathlib.Core.List.{List, ◌++◌}
use Prim.Native.Nat.{ℕ, ◌<◌, ◌*◌}
use lib.ListN.{length, get_or, drop}
use Rattle.owners.specs.Records.{records_of}
use Rattle.geometry.specs.declared.Geometry.{Geometry}
use Rattle.geometry.specs.Geometry.{geometry_of}
use Rattle.geometry.specs.NumberLaws.{bytes_from}
use Rattle.rules.specs.Result.{Res, ok, err}
use Rattle.rules.proofs.ResultLaws.{then_err}
use Rattle.rules.specs.Chain.{views_of}
use Rattle.rules.specs.Check.{check}
use Rattle.rules.specs.Delete.{remove_at}
use Rattle.rules.specs.Directories.{remove_directory, remove_call}
use Rattle.rules.specs.Promises.{Removes}
use Rattle.editing_theorems.proofs.Promised.{removal_stated}
use Rattle.rules.specs.Answers.{answer_of}
use Rattle.volume.specs.Edits.{EditLeaves}
use Rattle.volume.proofs.EditLaws.{changed_leaves}

pub remove_fault : (g : Geometry) (path image : List ℕ) (n p : ℕ) → check g (views_of g image) ≡ err n p → remove_directory g path image ≡ err n p
unfolding remove_at
remove_fault g path image n p e = simp (e, then_err)

module _ (P N : ℕ) (image table path : List ℕ) where
  pub removed : (g : Geometry) → geometry_of P N (length image) (length table) ≡ Some g → (part : List ℕ) → length part ≡ 4 * g.pages → ((i : ℕ) → get_or (part ++ drop (4 * g.pages) table) i 0 < 256)
      → (r : Result (Unit {0}) Refusal) (after : List ℕ) → EditLeaves g image (remove_directory g path image) r after (records_of part) → (answer_of r, after, part ++ drop (4 * g.pages) table) ≡ remove_call P N image table path
  unfolding remove_call
  removed g e part l h r after k = changed_leaves P N image table g e part l h (λ g. remove_directory g path image) r after k

  pub remove_is : (h : (i : ℕ) → get_or image i 0 < 256) (r : Result (Unit {0}) Refusal) (after t : List ℕ) → (answer_of r, after, t) ≡ remove_call P N image table path
      → Removes P N image table path (answer_of r ≡ ok tt) after
  remove_is h r after t e =
      let q : answer_of r ≡ (remove_call P N image table path).0 = ap (λ (x : Res (Unit {0}) × List ℕ × List ℕ). x.0) e in
      let a : after ≡ (remove_call P N image table path).1 = ap (λ (x : Res (Unit {0}) × List ℕ × List ℕ). x.1) e in
      rw (q, a) (removal_stated P N image table (bytes_from image h) path)
