-- What a gathering leaves in its geometry is what the rule's call leaves.
use Rattle.refusals.specs.declared.Refusal.{Refusal}
use Rattle.std.specs.Prelude.{Result, Ok, Err, Option, Some, None}
use mathlib.Core.Path.{◌≡◌, refl, ap, ap₂, sym, ◌∙◌, subst}
use mathlib.Core.List.{List, ◌++◌}
use Prim.Native.Nat.{ℕ, ◌*◌, ◌<◌}
use lib.ListN.{length, get_or, drop}
use borrow.Author.Tests.{eq-eqb, ne_eqb}
use Rattle.geometry.specs.declared.Geometry.{Geometry}
use Rattle.geometry.specs.ChooseLaws.{choose_true, choose_false}
use Rattle.geometry.specs.Geometry.{geometry_of}
use Rattle.geometry.specs.NumberLaws.{bytes_from}
use Rattle.rules.specs.declared.Totals.{Totals}
use Rattle.rules.specs.Result.{Res, ok, err, and_then}
use Rattle.rules.proofs.ResultLaws.{then_ok, then_err}
use Rattle.rules.specs.Chain.{views_of}
use Rattle.rules.specs.Tree.{Image}
use Rattle.rules.specs.Check.{check}
use Rattle.rules.specs.Owners.{OwnerRecord, table_after}
use Rattle.rules.specs.Answers.{refused, answer_of}
use Rattle.rules.specs.Calls.{in_geometry, shape}
use Rattle.owners.specs.Records.{records_of}
use Rattle.owners.specs.RecordLaws.{part_back}
use Rattle.volume.specs.Scans.{TableChecked}
use Rattle.volume.specs.Edits.{leaves}
use Rattle.volume.proofs.EditLaws.{table_told}
use Rattle.listing.specs.KnownTree.{HasImage}
use Rattle.gathering.specs.Gather.{bare_of, gathered_bytes, gather, gathered, gather_call}
use Rattle.gathering.specs.GatherPromises.{Gathers}
use Rattle.gathering.proofs.GatherDone.{gather_stated}
use Rattle.gather.specs.Copies.{CopiesAll, told_of, GatherLeaves}

module _ (g : Geometry) (image second : List ℕ) (r : Result Totals Refusal) (u : List OwnerRecord) (K : TableChecked g (views_of g image) r u) where
  -- ---- the check refuses
  pub fault_left : (y : Refusal) → r ≡ Err y → GatherLeaves g image second (Err y) second u
  unfolding gather
  fault_left y e =
      let k = subst (λ (x : Result Totals Refusal). TableChecked g (views_of g image) x u) e K in
      let q : gather g image ≡ refused y = simp (k.0, then_err) in
      record { answers = sym (ap (leaves second) q); told = image; told_is = sym (ap (told_of image) q); check = r; checked = K }

  -- ---- it accepts
  module _ (t : Totals) (e : r ≡ Ok t) where
    pub has_image : HasImage g (views_of g image)
    has_image = let k = subst (λ (x : Result Totals Refusal). TableChecked g (views_of g image) x u) e K in record { image = k.0; accepted = k.1 }

    pub copied : (after : List ℕ) → CopiesAll g image after → (c : Result Totals Refusal) (v : List OwnerRecord) → TableChecked g (views_of g after) c v → GatherLeaves g image second (Ok tt) after v
    unfolding gather
    copied after C c v T =
        let i = has_image.image in
        let a = has_image.accepted in
        let q : gather g image ≡ ok after = ap (λ (x : Res Image). and_then x λ i. ok (gathered_bytes g (bare_of i))) a ∙ then_ok i _ ∙ ap ok (sym (C i a)) in
        record { answers = sym (ap (leaves second) q); told = after; told_is = sym (ap (told_of image) q); check = c; checked = T }

-- ---- any image
module _ (P N : ℕ) (image second table : List ℕ) where
  abbrev Answer : Type 0
  Answer = Res (Unit {0}) × List ℕ × List ℕ

  left_is : (g : Geometry) (x : Res (List ℕ)) → ((leaves second x).0, (leaves second x).1, table_after g.pages (check g (views_of g (told_of image x))) table) ≡ gathered P N image second table g x
  left_is g (ok copy) = refl
  left_is g (err n p) = refl

  abbrev in_shape : Option Geometry → Answer
  in_shape s = in_geometry s (err 1 0, second, table) (λ g. gathered P N image second table g (gather g image))

  -- lengths that differ
  pub other_length : (length second ≡ length image → ⊥) → (err 1 0, second, table) ≡ gather_call P N image second table
  unfolding gather_call
  other_length n = sym (simp (ne_eqb (length second) (length image) n, choose_false))

  module _ (same : length second ≡ length image) where
    call_is : gather_call P N image second table ≡ in_shape (shape P N image table)
    unfolding gather_call
    call_is = simp (eq-eqb (length second) (length image) same, choose_true)

    pub invalid : geometry_of P N (length image) (length table) ≡ None → (err 1 0, second, table) ≡ gather_call P N image second table
    invalid e = sym (call_is ∙ ap in_shape e)

    pub gather_left : (g : Geometry) → geometry_of P N (length image) (length table) ≡ Some g → (part : List ℕ) → length part ≡ 4 * g.pages → ((i : ℕ) → get_or (part ++ drop (4 * g.pages) table) i 0 < 256)
        → (r : Result (Unit {0}) Refusal) (after : List ℕ) → GatherLeaves g image second r after (records_of part) → (answer_of r, after, part ++ drop (4 * g.pages) table) ≡ gather_call P N image second table
    gather_left g e part l h r after k =
        ap₂ (λ (x : Res (Unit {0}) × List ℕ) (y : List ℕ). (x.0, x.1, y)) k.answers
        (part_back g.pages part table l h ∙ table_told g (views_of g k.told) k.check (records_of part) table k.checked
        ∙ ap (λ (x : List ℕ). table_after g.pages (check g (views_of g x)) table) k.told_is)
        ∙ left_is g (gather g image) ∙ sym (call_is ∙ ap in_shape e)

  pub gather_is : ((i : ℕ) → get_or image i 0 < 256) → (r : Result (Unit {0}) Refusal) (after t : List ℕ) → (answer_of r, after, t) ≡ gather_call P N image second table
      → Gathers P N image second table (answer_of r ≡ ok tt) after
  gather_is h r after t e =
      let q : answer_of r ≡ (gather_call P N image second table).0 = ap (λ (x : Answer). x.0) e in
      let a : after ≡ (gather_call P N image second table).1 = ap (λ (x : Answer). x.1) e in
      rw (q, a) (gather_stated P N image second table (bytes_from image h))
