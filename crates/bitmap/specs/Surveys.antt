-- For contracts: the marks of a bitmap surveyed for a mend.
use Rattle.std.specs.Prelude.{◌≡◌, true, false, List, ℕ, ◌+◌, ◌*◌, ◌<◌, length, get_or, Option, Some, None}
use Rattle.geometry.specs.declared.Geometry.{Geometry}
use Rattle.packet.specs.Packet.{View}
use Rattle.rules.specs.Chain.{Link, content}
use Rattle.rules.specs.Careful.{all_mendable, unowned}
use Rattle.rules.specs.Owners.{OwnerRecord}
use Rattle.owners.specs.Owned.{Represents}
use Rattle.chain.specs.KnownChain.{ChainAt}

-- of the n bits from k on, after so many marks without an owner
abbrev pub SurveyIs : ℕ → List ℕ → List ℕ → ℕ → ℕ → ℕ → Option ℕ → Type 0
SurveyIs N raw used k n passed (Some u) = (all_mendable N raw used k n ≡ true) × (u ≡ passed + unowned raw used k n)
SurveyIs N raw used k n passed None = all_mendable N raw used k n ≡ false

-- of bytes that stand in a bitmap after `at` others, for all pages in use that the table represents
abbrev pub SurveysPart : List ℕ → ℕ → List OwnerRecord → ℕ → Option ℕ → Type 0
SurveysPart bytes at table passed r =
    (raw used : List ℕ) → ((i : ℕ) → i < length bytes → get_or raw (at + i) 0 ≡ get_or bytes i 0) → Represents table used → SurveyIs (length table) raw used (8 * at) (8 * length bytes) passed r

-- of a whole bitmap
abbrev pub SurveysAll : List ℕ → List OwnerRecord → Option ℕ → Type 0
SurveysAll raw table r = (used : List ℕ) → Represents table used → SurveyIs (length table) raw used 0 (8 * length raw) 0 r

-- of the bitmap in a chain from its start page on
abbrev pub SurveysChain : Geometry → View → ℕ → List OwnerRecord → Option ℕ → Type 0
SurveysChain g v start table r = (ls : List Link) → ChainAt g v start ls → SurveysAll (content ls) table r
