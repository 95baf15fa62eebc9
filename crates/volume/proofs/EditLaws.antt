-- An edit's call: what is left in its geometry is what the rules leave.
use Rattle.refusals.specs.declared.Refusal.{Refusal}
use Rattle.std.specs.Prelude.{Result, Ok, Err, Option, Some}
use mathlib.Core.Path.{◌≡◌, refl, ap, ap₂, sym, ◌∙◌, subst}
use mathlib.Core.List.{List, ◌++◌}
use Prim.Native.Nat.{ℕ, ◌*◌, ◌<◌}
use lib.ListN.{length, get_or, drop}
use Rattle.owners.specs.Records.{records_of}
use Rattle.owners.specs.RecordLaws.{part_back}
use Rattle.geometry.specs.declared.Geometry.{Geometry}
use Rattle.geometry.specs.Geometry.{geometry_of, Fit}
use Rattle.geometry.specs.NumberLaws.{bytes_from}
use Rattle.rules.specs.declared.Totals.{Totals}
use Rattle.rules.specs.Result.{Res, ok, err}
use Rattle.rules.specs.Chain.{Views, views_of}
use Rattle.rules.specs.Tree.{Image}
use Rattle.rules.specs.Check.{check}
use Rattle.rules.specs.Owners.{OwnerRecord, table_with, table_after}
use Rattle.rules.specs.Calls.{in_geometry, Effect, plainly, effect, effective, changed}
use Rattle.volume.specs.Scans.{TableChecked}
use Rattle.rules.specs.Answers.{answer_of, refused}
use Rattle.volume.specs.Edits.{effect_of, TableOf, EditLeaves, EffectLeaves}

-- the table that a check fills, and what stands past it
pub table_told : (g : Geometry) (vs : Views) (r : Result Totals Refusal) (u : List OwnerRecord) (table : List ℕ) → TableChecked g vs r u → table_with u table ≡ table_after g.pages (check g vs) table
unfolding table_after
table_told g vs (Ok d) u table k = ap (λ (x : List OwnerRecord). table_with x table) k.3 ∙ sym (ap (λ (x : Res Image). table_after g.pages x table) k.1)
table_told g vs (Err z) u table k = ap (λ (x : List OwnerRecord). table_with x table) k.1 ∙ sym (ap (λ (x : Res Image). table_after g.pages x table) k.0)

pub fit_same : (g : Geometry) (a b : List ℕ) → Fit g a → length b ≡ length a → Fit g b
fit_same g a b f e = record { valid = f.valid; whole = e ∙ f.whole }

module _ (g : Geometry) (image : List ℕ) (r : Result Totals Refusal) (u : List OwnerRecord) (K : TableChecked g (views_of g image) r u) where
  -- the check's fault is the answer of a call that checks first
  pub fault_effect : {A : Type 0} (rule : Res (Effect A)) → ((n p : ℕ) → check g (views_of g image) ≡ err n p → rule ≡ err n p) → (z : Refusal) → r ≡ Err z → EffectLeaves g image rule (refused z) image u
  fault_effect rule h z e = record { answers = sym (ap (effect_of image) (h _ _ (subst (λ (x : Result Totals Refusal). TableChecked g (views_of g image) x u) e K).0)); check = r; checked = K }

  pub fault_leaves : (rule : Res (List ℕ)) → ((n p : ℕ) → check g (views_of g image) ≡ err n p → rule ≡ err n p) → (z : Refusal) → r ≡ Err z → EditLeaves g image rule (Err z) image u
  fault_leaves rule h z e = fault_effect (plainly rule) (λ a b q. ap plainly (h a b q)) z e

  pub table_of : (h : (i : ℕ) → get_or image i 0 < 256) (t : Totals) → r ≡ Ok t → TableOf g image u
  table_of h t e = let k = subst (λ (x : Result Totals Refusal). TableChecked g (views_of g image) x u) e K in record { bytes = bytes_from image h; tree = k.0; accepted = k.1; table_is = k.3 }

module _ (P N : ℕ) (image table : List ℕ) where
  effect_leaves : {A : Type 0} (g : Geometry) (x : Res (Effect A)) → ((effect_of image x).0, (effect_of image x).1, table_after g.pages (check g (views_of g (effect_of image x).1)) table) ≡ effect P N image table g x
  effect_leaves g (ok x) = refl
  effect_leaves g (err n p) = refl

  -- a call that may change the image, in the geometry that the sizes give: the part of the table that was lent, come back
  module _ (g : Geometry) (e : geometry_of P N (length image) (length table) ≡ Some g) (part : List ℕ) (l : length part ≡ 4 * g.pages) (h : (i : ℕ) → get_or (part ++ drop (4 * g.pages) table) i 0 < 256) where
    pub effective_leaves : {A : Type 0} (call : Geometry → Res (Effect A)) (answer : Res A) (after : List ℕ) → EffectLeaves g image (call g) answer after (records_of part)
        → (answer, after, part ++ drop (4 * g.pages) table) ≡ effective P N image table call
    effective_leaves {A} call answer after k =
        let a = k.answers in
        ap₂ (λ (x : Res A × List ℕ) (y : List ℕ). (x.0, x.1, y)) a (part_back g.pages part table l h ∙ table_told g (views_of g after) k.check (records_of part) table k.checked
        ∙ ap (λ (x : Res A × List ℕ). table_after g.pages (check g (views_of g x.1)) table) a)
        ∙ effect_leaves g (call g) ∙ sym (ap (λ (s : Option Geometry). in_geometry s (err 1 0, image, table) (λ g. effect P N image table g (call g))) e)

    pub changed_leaves : (edit : Geometry → Res (List ℕ)) (r : Result (Unit {0}) Refusal) (after : List ℕ) → EditLeaves g image (edit g) r after (records_of part)
        → (answer_of r, after, part ++ drop (4 * g.pages) table) ≡ changed P N image table edit
    changed_leaves edit r after k = effective_leaves (λ g. plainly (edit g)) (answer_of r) after k
