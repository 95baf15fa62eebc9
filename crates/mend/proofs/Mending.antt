-- The mend: refused as the check refuses, or the bitmap written from the pages in use; and what the call leaves.
use Rattle.refusals.specs.declared.Refusal.{Refusal}
use Rattle.std.specs.Prelude.{Result, Ok, Err, Some, Option, None}
use mathlib.Core.Path.{◌≡◌, ap, ap₂, sym, ◌∙◌, subst}
use mathlib.Core.Bool.{true, false≢true}
use mathlib.Core.List.{List, ◌++◌}
use Prim.Native.Nat.{ℕ, ◌*◌, ◌<◌}
use lib.ListN.{length, get_or, drop}
use Rattle.owners.specs.Records.{records_of}
use Rattle.geometry.specs.declared.Geometry.{Geometry}
use Rattle.geometry.specs.Geometry.{geometry_of, Fit}
use Rattle.geometry.specs.Number.{Bytes}
use Rattle.geometry.specs.NumberLaws.{bytes_from}
use Rattle.packet.specs.Packet.{view_of, after_writes}
use Rattle.packet.specs.declared.Budget.{Budget}
use Rattle.packet.specs.Budgets.{Progress, unlimited}
use Rattle.packet.specs.BudgetLaws.{all_free_lem}
use Rattle.rules.specs.declared.Totals.{Totals}
use Rattle.rules.specs.Result.{Res, ok}
use Rattle.rules.proofs.ResultLaws.{on_then, on_refuse, then_ok, refuse_true}
use Rattle.rules.specs.Chain.{views_of}
use Rattle.rules.specs.Tree.{used}
use Rattle.rules.specs.Owners.{OwnerRecord}
use Rattle.rules.specs.Check.{Scan, scan}
use Rattle.rules.specs.WellFormed.{WellFormedWith}
use Rattle.rules.specs.Answers.{answer_of}
use Rattle.rules.specs.Answers as answers
use Rattle.rules.specs.Calls.{Effect}
use Rattle.rules.specs.Careful.{all_mendable, mend_writes, mend, mend_call, cleared_of}
use Rattle.rules.specs.CarefulPromises.{IsDone, Mends}
use Rattle.reading_theorems.specs.Accepted.{scanned_iff}
use Rattle.careful_theorems.proofs.CarefulCalls.{mended, refused, mend_alike, accepted_mendable, mend_stated}
use Rattle.owners.specs.Owned.{Represents}
use Rattle.owners.specs.OwnerLaws.{represents_owners}
use Rattle.owners.specs.BitLaws.{marks_none}
use Rattle.marks.specs.MapPages.{HasRoot, WritesMap}
use Rattle.marks.specs.RootLaws.{root_held}
use Rattle.volume.specs.Scans.{TableChecked}
use Rattle.volume.specs.Surveyed.{TableSurveyed}
use Rattle.volume.specs.Edits.{effect_of, EffectLeaves}
use Rattle.volume.proofs.EditLaws.{effective_leaves}

module _ (g : Geometry) (image : List ℕ) (fit : Fit g image) (bytes : Bytes image) (r : Option ℕ) (u : List OwnerRecord) (S : TableSurveyed g (views_of g image) r u) where
  -- ---- refused
  module _ (e : r ≡ None) where
    uncovered : TableSurveyed g (views_of g image) None u
    uncovered = subst (λ (x : Option ℕ). TableSurveyed g (views_of g image) x u) e S

    -- a mend that is done had its marks
    marked : (x : Effect ℕ) → mend g image ≡ ok x → (s : Scan) × (scan g (views_of g image) ≡ ok s) × (all_mendable g.pages s.raw (used s.image) 0 (8 * length s.raw) ≡ true)
    unfolding mend
    marked x h = on_then _ _ _ h λ s q h. on_refuse _ _ _ _ _ h λ a _. (s, q, a)

    pub never : {C : Type 0} (c : Result Totals Refusal) (v : List OwnerRecord) (t : Totals) → TableChecked g (views_of g image) c v → c ≡ Ok t → C
    never c v t k q =
        let d = subst (λ (x : Result Totals Refusal). TableChecked g (views_of g image) x v) q k in
        let m = accepted_mendable g image fit bytes d.0 d.1 in
        absurd (false≢true (sym (uncovered m.0 m.1) ∙ m.2))

    pub refuses_as : (c : Result Totals Refusal) (v : List OwnerRecord) (y : Refusal) → TableChecked g (views_of g image) c v → c ≡ Err y → EffectLeaves {A = ℕ} g image (mend g image) (answers.refused y) image v
    refuses_as c v y k q =
        let d = subst (λ (x : Result Totals Refusal). TableChecked g (views_of g image) x v) q k in
        let z : mend g image ≡ answers.refused y = elim (mend_alike g image fit bytes _ _ d.0) [
          | mended x h ↦ let m = marked x h in absurd (false≢true (sym (uncovered m.0 m.1) ∙ m.2))
          | refused h ↦ h
        ] in
        record { answers = sym (ap (effect_of image) z); check = c; checked = k }

  -- ---- done
  module _ (n : ℕ) (e : r ≡ Some n) where
    covered : TableSurveyed g (views_of g image) (Some n) u
    covered = subst (λ (x : Option ℕ). TableSurveyed g (views_of g image) x u) e S

    abbrev s : Scan
    s = covered.0

    well : WellFormedWith g (views_of g image) s.raw s.image
    well = (scanned_iff g image fit bytes s).0 covered.1

    pub has_root : HasRoot g (view_of g image)
    has_root = record { bits = s.raw; tree = s.image.tree; map = s.image.map; held = root_held g image s.raw s.image well }

    table_used : Represents u (used s.image)
    table_used = subst (λ (t : List OwnerRecord). Represents t (used s.image)) (sym covered.4) (represents_owners g.pages s.image well.apart)

    module _ (budget : Budget) (b : budget ≡ unlimited) (after : List ℕ) (left : Budget) (k : WritesMap g u 0 image budget after left) where
      after_is : after ≡ after_writes g (mend_writes g s.image) image
      unfolding WritesMap mend_writes
      after_is = ap (λ (x : Progress). x.image) (k s.raw s.image.tree s.image.map (root_held g image s.raw s.image well) (used s.image) (marks_none u (used s.image) table_used)
          ∙ all_free_lem g _ (record { image = image; budget = budget }) (ap (λ (x : Budget). x.limited) b))

      rule_is : mend g image ≡ ok (record { answer = n; image = after })
      unfolding mend
      rule_is = simp (covered.1, then_ok, covered.2, refuse_true) (ap₂ (λ (a : ℕ) (i : List ℕ). ok (record { answer = a; image = i })) (sym covered.3) (sym after_is))

      pub mended_as : (c : Result Totals Refusal) (v : List OwnerRecord) → TableChecked g (views_of g after) c v → EffectLeaves {A = ℕ} g image (mend g image) (ok n) after v
      mended_as c v t = record { answers = sym (ap (effect_of image) rule_is); check = c; checked = t }

-- ---- any image
module _ (P N : ℕ) (image table : List ℕ) where
  pub mend_left : (g : Geometry) → geometry_of P N (length image) (length table) ≡ Some g → (part : List ℕ) → length part ≡ 4 * g.pages → ((i : ℕ) → get_or (part ++ drop (4 * g.pages) table) i 0 < 256)
      → (r : Result ℕ Refusal) (after : List ℕ) → EffectLeaves g image (mend g image) (answer_of r) after (records_of part) → (answer_of r, after, part ++ drop (4 * g.pages) table) ≡ mend_call P N image table
  unfolding mend_call
  mend_left g e part l h r after x = effective_leaves P N image table g e part l h (λ g. mend g image) (answer_of r) after x

  pub mend_is : (h : (i : ℕ) → get_or image i 0 < 256) (r : Result ℕ Refusal) (after t : List ℕ)
      → (answer_of r, after, t) ≡ mend_call P N image table → Mends P N image table (IsDone (answer_of r)) (λ x. answer_of r ≡ x) (cleared_of (answer_of r)) after
  mend_is h r after t e =
      let q : answer_of r ≡ (mend_call P N image table).0 = ap (λ (x : Res ℕ × List ℕ × List ℕ). x.0) e in
      let a : after ≡ (mend_call P N image table).1 = ap (λ (x : Res ℕ × List ℕ × List ℕ). x.1) e in
      rw (q, a) (mend_stated P N image table (bytes_from image h))
