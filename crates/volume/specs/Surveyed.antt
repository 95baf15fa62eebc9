-- For contracts: an image scanned and its marks surveyed, for a mend.
use Rattle.std.specs.Prelude.{◌≡◌, true, false, List, ℕ, ◌*◌, length, Option, Some, None}
use Rattle.geometry.specs.declared.Geometry.{Geometry}
use Rattle.rules.specs.Result.{ok}
use Rattle.rules.specs.Chain.{Views}
use Rattle.rules.specs.Tree.{used}
use Rattle.rules.specs.Owners.{OwnerRecord, owners}
use Rattle.rules.specs.Check.{Scan, scan}
use Rattle.rules.specs.Careful.{all_mendable, unowned}
use Rattle.owners.specs.Owned.{Represents}
use Rattle.bitmap.specs.Surveys.{SurveyIs}

-- the marks of a scanned image's bitmap
abbrev pub BitsSurveyed : Geometry → Views → List OwnerRecord → Option ℕ → Type 0
BitsSurveyed g vs table r = (s : Scan) → scan g vs ≡ ok s → (used : List ℕ) → Represents table used → SurveyIs (length table) s.raw used 0 (8 * length s.raw) 0 r

-- the image has no fault but 13, and a mend takes its marks: then the number of those without an owner, and the table of the image; or it does not
abbrev pub TableSurveyed : Geometry → Views → Option ℕ → List OwnerRecord → Type 0
TableSurveyed g vs (Some n) u = (s : Scan) × (scan g vs ≡ ok s) × (all_mendable g.pages s.raw (used s.image) 0 (8 * length s.raw) ≡ true)
    × (n ≡ unowned s.raw (used s.image) 0 (8 * length s.raw)) × (u ≡ owners g.pages s.image)
TableSurveyed g vs None u = (s : Scan) → scan g vs ≡ ok s → all_mendable g.pages s.raw (used s.image) 0 (8 * length s.raw) ≡ false
