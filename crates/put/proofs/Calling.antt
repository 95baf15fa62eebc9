-- The call: the check's fault first, and what a put leaves, demand 3 among it.
use Rattle.refusals.specs.declared.Refusal.{Refusal}
use Rattle.std.specs.Prelude.{Result, Some}
use mathlib.Core.Path.{◌≡◌, ap}
use mathlib.Core.List.{List, ◌++◌}
use Prim.Native.Nat.{ℕ, ◌*◌, ◌<◌}
use lib.ListN.{length, get_or, drop}
use Rattle.owners.specs.Records.{records_of}
use Rattle.geometry.specs.declared.Geometry.{Geometry}
use Rattle.geometry.specs.Geometry.{geometry_of}
use Rattle.geometry.specs.NumberLaws.{bytes_from}
use Rattle.rules.specs.Result.{Res, ok, err}
use Rattle.rules.proofs.ResultLaws.{then_err}
use Rattle.rules.specs.Chain.{views_of}
use Rattle.rules.specs.Check.{check}
use Rattle.rules.specs.Put.{put_at, put}
use Rattle.rules.specs.Calls.{put_call}
use Rattle.rules.specs.Promises.{Puts}
use Rattle.editing_theorems.proofs.Promised.{put_stated}
use Rattle.rules.specs.Answers.{answer_of}
use Rattle.volume.specs.Edits.{EditLeaves}
use Rattle.volume.proofs.EditLaws.{changed_leaves}

pub put_fault : (g : Geometry) (path bytes image : List ℕ) (n p : ℕ) → check g (views_of g image) ≡ err n p → put g path bytes image ≡ err n p
unfolding put_at
put_fault g path bytes image n p e = simp (e, then_err)

module _ (P N : ℕ) (image table path bytes : List ℕ) where
  pub putted : (g : Geometry) → geometry_of P N (length image) (length table) ≡ Some g → (part : List ℕ) → length part ≡ 4 * g.pages → ((i : ℕ) → get_or (part ++ drop (4 * g.pages) table) i 0 < 256)
      → (r : Result (Unit {0}) Refusal) (after : List ℕ) → EditLeaves g image (put g path bytes image) r after (records_of part) → (answer_of r, after, part ++ drop (4 * g.pages) table) ≡ put_call P N image table path bytes
  unfolding put_call
  putted g e part l h r after k = changed_leaves P N image table g e part l h (λ g. put g path bytes image) r after k

  pub put_is : (h : (i : ℕ) → get_or image i 0 < 256) (hp : (i : ℕ) → get_or path i 0 < 256) (hb : (i : ℕ) → get_or bytes i 0 < 256) (r : Result (Unit {0}) Refusal) (after t : List ℕ)
      → (answer_of r, after, t) ≡ put_call P N image table path bytes → Puts P N image table path bytes (answer_of r ≡ ok tt) (λ x. answer_of r ≡ x) after
  put_is h hp hb r after t e =
      let q : answer_of r ≡ (put_call P N image table path bytes).0 = ap (λ (x : Res (Unit {0}) × List ℕ × List ℕ). x.0) e in
      let a : after ≡ (put_call P N image table path bytes).1 = ap (λ (x : Res (Unit {0}) × List ℕ × List ℕ). x.1) e in
      rw (q, a) (put_stated P N image table (bytes_from image h) path bytes (bytes_from path hp) (bytes_from bytes hb))
