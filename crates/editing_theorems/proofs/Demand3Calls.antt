-- Demand 3 of a call that puts something at a path, whole, and as another answer says it.
use Rattle.std.specs.Prelude.{◌≡◌, ◌↔◌, List, ℕ}
use Rattle.std.proofs.Common.{inl, inr}
use Rattle.geometry.specs.declared.Geometry.{Geometry}
use Rattle.geometry.specs.Number.{Bytes}
use Rattle.rules.specs.Result.{Res, ok, err}
use Rattle.rules.specs.Chain.{Link}
use Rattle.rules.specs.Tree.{Label, Items}
use Rattle.rules.specs.Put.{put_at}
use Rattle.rules.specs.Paths.{Path, Found, Place, Target}
use Rattle.rules.specs.Candidate.{OnlyRoom, stamps_of, Demand3}
use Rattle.rules.specs.Calls.{changed}
use Rattle.editing_theorems.specs.PutLaws.{Asked}
use Rattle.editing_theorems.proofs.PutDone.{PutCall}
use Rattle.editing_theorems.proofs.Demand3.{demand_from, call, only_room, put_done, call_ok, call_takes, put_least, put_keeps}

module _ {asked : Res Path} {Allowed Wanted : Found → Type 0} {target : Items → Res Target} {bytes_at : Geometry → Place → List ℕ} {stands : Label → List Link → Found}
    (C : PutCall asked Allowed Wanted target bytes_at stands) (plain : (l : Label) (ls : List Link) → stamps_of (stands l ls) ≡ l.stamps) (P N : ℕ) (image table : List ℕ) (image_bytes : Bytes image) where
  abbrev given : Res (Unit {0}) × List ℕ × List ℕ
  given = call C plain P N image table image_bytes

  is_done : (o : OnlyRoom P N image table asked Allowed) → given.0 ≡ ok tt → put_at o.geometry target (bytes_at o.geometry) image ≡ ok given.1
  is_done = call_ok C plain P N image table image_bytes

  -- ---- demand 3 of the call, whole
  pub demand_3 : Demand3 P N image table asked Allowed Wanted ((changed P N image table (λ g. put_at g target (bytes_at g) image)).0 ≡ ok tt) ((changed P N image table (λ g. put_at g target (bytes_at g) image)).0 ≡ err 17 0)
      (changed P N image table (λ g. put_at g target (bytes_at g) image)).1
  demand_3 =
      demand_from P N image table asked Allowed Wanted (given.0 ≡ ok tt) (given.0 ≡ err 17 0) given.1 (only_room C plain P N image table image_bytes)
      (λ o e. put_done C plain P N image table image_bytes o given.1 (is_done o e))
      (λ o. call_takes C plain P N image table image_bytes o)
      (λ o e. put_least C plain P N image table image_bytes o given.1 (is_done o e))
      (λ o e. put_keeps C plain P N image table image_bytes o given.1 (is_done o e))

-- and as another answer says it
pub demand_said : (P N : ℕ) (image table : List ℕ) (asked : Res Path) (Allowed Asked : Found → Type 0) {is_done is_full saysDone saysFull : Type 0} {after : List ℕ}
    → (saysDone ↔ is_done) → (saysFull ↔ is_full) → Demand3 P N image table asked Allowed Asked is_done is_full after → Demand3 P N image table asked Allowed Asked saysDone saysFull after
demand_said P N image table asked Allowed Asked d f k = record {
  only_room = (
    λ o. elim (k.only_room.0 o) [ inl x ↦ inl (d.1 x) | inr x ↦ inr (f.1 x) ],
    λ h. k.only_room.1 (elim h [ inl x ↦ inl (d.0 x) | inr x ↦ inr (f.0 x) ]),
  );
  exactly = λ o. (λ x. (k.exactly o).0 (d.0 x), λ x. d.1 ((k.exactly o).1 x));
  refused = λ o. (λ x. (k.refused o).0 (f.0 x), λ x. f.1 ((k.refused o).1 x));
  candidate = λ o x. k.candidate o (d.0 x);
  least = λ o x. k.least o (d.0 x);
  keeps = λ o x. k.keeps o (d.0 x);
}
