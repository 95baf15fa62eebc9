-- An edit's call: what is left in its geometry is what the rules leave; and what a format leaves.
use Rattle.refusals.specs.declared.Refusal.{Refusal}
use Rattle.std.specs.Prelude.{Result, Some}
use mathlib.Core.Path.{◌≡◌, ap}
use mathlib.Core.Bool.{Bool}
use mathlib.Core.List.{List, ◌++◌}
use Prim.Native.Nat.{ℕ, ◌<◌, ◌*◌}
use lib.ListN.{length, get_or, drop}
use Rattle.owners.specs.Records.{records_of}
use Rattle.geometry.specs.declared.Geometry.{Geometry}
use Rattle.geometry.specs.Geometry.{geometry_of}
use Rattle.geometry.specs.NumberLaws.{bytes_from}
use Rattle.rules.specs.Result.{Res, ok}
use Rattle.rules.specs.Format.{format}
use Rattle.rules.specs.Calls.{format_call}
use Rattle.rules.specs.Promises.{Formats}
use Rattle.editing_theorems.proofs.Promised.{format_stated}
use Rattle.rules.specs.Answers.{answer_of}
use Rattle.volume.specs.Edits.{EditLeaves}
use Rattle.volume.proofs.EditLaws.{changed_leaves}

module _ (P N : ℕ) (image table : List ℕ) where
  -- ---- format
  pub format_leaves : (g : Geometry) → geometry_of P N (length image) (length table) ≡ Some g → (part : List ℕ) → length part ≡ 4 * g.pages → ((i : ℕ) → get_or (part ++ drop (4 * g.pages) table) i 0 < 256)
      → (local : Bool) (r : Result (Unit {0}) Refusal) (after : List ℕ) → EditLeaves g image (format g local image) r after (records_of part) → (answer_of r, after, part ++ drop (4 * g.pages) table) ≡ format_call P N image table local
  unfolding format_call
  format_leaves g e part l h local r after k = changed_leaves P N image table g e part l h (λ g. format g local image) r after k

  pub format_is : ((i : ℕ) → get_or image i 0 < 256) → (local : Bool) (r : Result (Unit {0}) Refusal) (after t : List ℕ) → (answer_of r, after, t) ≡ format_call P N image table local
      → Formats P N image table local (answer_of r ≡ ok tt) (λ x. answer_of r ≡ x) after
  format_is h local r after t e =
      let q : answer_of r ≡ (format_call P N image table local).0 = ap (λ (x : Res (Unit {0}) × List ℕ × List ℕ). x.0) e in
      let a : after ≡ (format_call P N image table local).1 = ap (λ (x : Res (Unit {0}) × List ℕ × List ℕ). x.1) e in
      rw (q, a) (format_stated P N image table (bytes_from image h) local)
