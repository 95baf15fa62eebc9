-- An image scanned and its marks surveyed.
use Rattle.refusals.specs.declared.Refusal.{Refusal}
use mathlib.Core.Path.{◌≡◌, sym, ◌∙◌, subst}
use mathlib.Core.Bool.{false}
use mathlib.Core.List.{List}
use Prim.Native.Nat.{ℕ, ◌*◌}
use native.Mathlib.Omega.{arith}
use lib.ListN.{length}
use Rattle.geometry.specs.declared.Geometry.{Geometry}
use Rattle.rules.specs.declared.Totals.{Totals}
use Rattle.rules.proofs.ResultLaws.{ok_inj, clash}
use Rattle.rules.specs.Chain.{Views}
use Rattle.rules.specs.Tree.{used}
use Rattle.rules.specs.Check.{Scan}
use Rattle.rules.specs.Careful.{all_mendable}
use Rattle.rules.specs.Owners.{OwnerRecord}
use Rattle.std.specs.Prelude.{Result, Err, Option, Some, None}
use Rattle.bitmap.specs.Surveys.{SurveyIs}
use Rattle.volume.specs.Scans.{Scanned}
use Rattle.volume.specs.Surveyed.{BitsSurveyed, TableSurveyed}
use Rattle.volume.proofs.ScanLaws.{scan_table}
use Rattle.volume.proofs.CheckLaws.{Done}

-- the same bytes under another name
pub on_raw : (N : ℕ) (raw bytes used : List ℕ) (r : Option ℕ) → raw ≡ bytes → SurveyIs N bytes used 0 (8 * length bytes) 0 r → SurveyIs N raw used 0 (8 * length raw) 0 r
on_raw N raw bytes used r e k = subst (λ (x : List ℕ). SurveyIs N x used 0 (8 * length x) 0 r) (sym e) k

-- a fault but 13: no scan
pub no_scan : (g : Geometry) (vs : Views) (r : Result Totals Refusal) (u : List OwnerRecord) (z : Refusal) → Scanned g vs r u → r ≡ Err z → TableSurveyed g vs None u
no_scan g vs r u z k i s e = clash (sym (subst (λ (x : Result Totals Refusal). Scanned g vs x u) i k) ∙ e)

pub table_surveyed : (g : Geometry) (vs : Views) (d : Totals) (u : List OwnerRecord) → Done g vs d u → length u ≡ g.pages → (r : Option ℕ) → BitsSurveyed g vs u r → TableSurveyed g vs r u
table_surveyed g vs d u a l r k = go r (subst (λ (n : ℕ). SurveyIs n a.scanned.raw (used a.scanned.image) 0 (8 * length a.scanned.raw) 0 r) l
    (k a.scanned a.scan_is (used a.scanned.image) (scan_table g vs a.scanned a.scan_is u a.table_is)))
  where
    go : (r : Option ℕ) → SurveyIs g.pages a.scanned.raw (used a.scanned.image) 0 (8 * length a.scanned.raw) 0 r → TableSurveyed g vs r u
    go (Some n) h = (a.scanned, a.scan_is, h.0, omega (arith, h.1), a.table_is)
    go None h = λ s e. subst (λ (x : Scan). all_mendable g.pages x.raw (used x.image) 0 (8 * length x.raw) ≡ false) (ok_inj (sym a.scan_is ∙ e)) h
