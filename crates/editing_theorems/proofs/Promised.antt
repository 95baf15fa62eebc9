-- What the public edits state, of the rules' calls; and as another answer says it.
use Rattle.std.specs.Prelude.{Option, Some, None, ◌≡◌, refl, ◌↔◌, ◌⊎◌, Bool, List, ℕ}
use Rattle.std.proofs.Common.{ap₂, inl, inr}
use Rattle.geometry.specs.declared.Geometry.{Geometry}
use Rattle.geometry.specs.Number.{Bytes}
use Rattle.rules.specs.Result.{Res, ok, err}
use Rattle.rules.specs.Format.{format}
use Rattle.rules.specs.Calls.{in_geometry, shape, plainly, effect, changed, format_call, put_call, delete_call}
use Rattle.rules.specs.Directories.{make_call, remove_call}
use Rattle.rules.specs.Chain.{Link}
use Rattle.rules.specs.Tree.{Label, Items}
use Rattle.rules.specs.Paths.{Path, Found, Place, Target}
use Rattle.rules.specs.Put.{put_at}
use Rattle.rules.specs.Delete.{remove_at}
use Rattle.rules.specs.Demand2.{Deleted, PutDone}
use Rattle.rules.proofs.CallLaws.{changed_refused, format_refused}
use Rattle.rules.specs.Promises.{Leaves, Formats, Deletes, Removes, Puts, Makes}
use Rattle.editing_theorems.specs.FormatLaws.{format_fault}
use Rattle.editing_theorems.proofs.CallEdits.{format_call_lem, put_call_lem, remove_call_lem}
use Rattle.editing_theorems.specs.DeleteLaws.{RemoveCall, a_delete_lem, a_removal}
use Rattle.editing_theorems.proofs.PutDone.{PutCall}
use Rattle.editing_theorems.proofs.PutCalls.{a_put_lem, a_making}
use Rattle.editing_theorems.proofs.Demand3Calls.{demand_3}

-- an answer that is not done is a refusal
pub record Refusal (r : Res (Unit {0})) : Type 0 where
  pub number : ℕ
  pub page : ℕ
  pub is : r ≡ err number page

pub refusal_of : (r : Res (Unit {0})) → (r ≡ ok tt → ⊥) → Refusal r
refusal_of (ok tt) h = absurd (h refl)
refusal_of (err n p) h = record { number = n; page = p; is = refl }

module _ (P N : ℕ) (image table : List ℕ) where
  -- ---- format
  fault_4 : (g : Geometry) (local : Bool) (r : Res (List ℕ)) → format g local image ≡ r → ((effect P N image table g (plainly r)).0 ≡ ok tt → ⊥) → (effect P N image table g (plainly r)).0 ≡ err 4 0
  fault_4 g local (ok after) q h = absurd (h refl)
  fault_4 g local (err n p) q h = let f = format_fault g local image n p q in ap₂ (λ (m o : ℕ). err m o) f.0 f.1

  only_1_or_4 : (local : Bool) → ((format_call P N image table local).0 ≡ ok tt → ⊥) → ((format_call P N image table local).0 ≡ err 1 0) ⊎ ((format_call P N image table local).0 ≡ err 4 0)
  unfolding format_call
  only_1_or_4 local h = go (shape P N image table) h
    where
      call : Option Geometry → Res (Unit {0})
      call s = (in_geometry s (err 1 0, image, table) (λ g. effect P N image table g (plainly (format g local image)))).0

      go : (s : Option Geometry) → (call s ≡ ok tt → ⊥) → (call s ≡ err 1 0) ⊎ (call s ≡ err 4 0)
      go None h = inl refl
      go (Some g) h = inr (fault_4 g local (format g local image) refl h)

  module _ (image_bytes : Bytes image) where
    pub format_stated : (local : Bool) → Formats P N image table local ((format_call P N image table local).0 ≡ ok tt) (λ r. (format_call P N image table local).0 ≡ r) (format_call P N image table local).1
    format_stated local = (
      record {
        done = λ g f k. format_call_lem P N image table g f image_bytes local k;
        refused = λ k. let r = refusal_of (format_call P N image table local).0 k in format_refused P N image table local r.number r.page r.is;
      },
      only_1_or_4 local,
    )

    -- ---- a call that removes something: done or refused
    removed : {asked : Res Path} {Stood : Found → Type 0} {target : Items → Res Target} → RemoveCall asked Stood target
        → Leaves P N image table (λ g. Deleted g asked Stood image (changed P N image table (λ g. remove_at g target image)).1) ((changed P N image table (λ g. remove_at g target image)).0 ≡ ok tt)
        (changed P N image table (λ g. remove_at g target image)).1
    removed {target = target} C = record {
      done = λ g f k. remove_call_lem P N image table g f image_bytes C k;
      refused = λ k. let r = refusal_of (changed P N image table (λ g. remove_at g target image)).0 k in changed_refused P N image table (λ g. remove_at g target image) r.number r.page r.is;
    }

    pub delete_stated : (path : List ℕ) → Deletes P N image table path ((delete_call P N image table path).0 ≡ ok tt) (delete_call P N image table path).1
    unfolding delete_call
    delete_stated path = removed (a_delete_lem path)

    pub removal_stated : (path : List ℕ) → Removes P N image table path ((remove_call P N image table path).0 ≡ ok tt) (remove_call P N image table path).1
    unfolding remove_call
    removal_stated path = removed (a_removal path)

    -- ---- a call that puts something, with demand 3
    put_leaves : {asked : Res Path} {Allowed Wanted : Found → Type 0} {target : Items → Res Target} {bytes : Geometry → Place → List ℕ} {stands : Label → List Link → Found}
        → PutCall asked Allowed Wanted target bytes stands
        → Leaves P N image table (λ g. PutDone g asked stands (bytes g) image (changed P N image table (λ g. put_at g target (bytes g) image)).1) ((changed P N image table (λ g. put_at g target (bytes g) image)).0 ≡ ok tt)
        (changed P N image table (λ g. put_at g target (bytes g) image)).1
    put_leaves {target = target} {bytes} C = record {
      done = λ g f k. put_call_lem P N image table g f image_bytes C k;
      refused = λ k. let r = refusal_of (changed P N image table (λ g. put_at g target (bytes g) image)).0 k in changed_refused P N image table (λ g. put_at g target (bytes g) image) r.number r.page r.is;
    }

    pub put_stated : (path bytes : List ℕ) → Bytes path → Bytes bytes
        → Puts P N image table path bytes ((put_call P N image table path bytes).0 ≡ ok tt) (λ r. (put_call P N image table path bytes).0 ≡ r) (put_call P N image table path bytes).1
    unfolding put_call
    put_stated path bytes p b = let C = a_put_lem path bytes p b in (put_leaves C, demand_3 C (λ l ls. refl) P N image table image_bytes)

    pub make_stated : (path : List ℕ) → Bytes path → Makes P N image table path ((make_call P N image table path).0 ≡ ok tt) (λ r. (make_call P N image table path).0 ≡ r) (make_call P N image table path).1
    unfolding make_call
    make_stated path p = let C = a_making path p in (put_leaves C, demand_3 C (λ l ls. refl) P N image table image_bytes)

-- ---- as another answer says it
module _ {P N : ℕ} {image table : List ℕ} {is_done saysDone : Type 0} (d : saysDone ↔ is_done) where
  pub leaves_said : {Left : Geometry → Type 0} {after : List ℕ} → Leaves P N image table Left is_done after → Leaves P N image table Left saysDone after
  leaves_said k = record { done = λ g f x. k.done g f (d.0 x); refused = λ h. k.refused (λ x. h (d.1 x)) }
