-- For contracts: every number of an answer fits 32 bits.
use Rattle.std.specs.Prelude.{ℕ, ◌<◌}
use Rattle.rules.specs.declared.Totals.{Totals}
use Rattle.rules.specs.declared.Line.{Line}
use Rattle.rules.specs.declared.WriteCount.{WriteCount}
use Rattle.rules.specs.Result.{Res, ok, err}

-- the numbers of an answer are small
abbrev pub Small : {A : Type 0} → (A → Type 0) → Res A → Type 0
Small few (ok a) = few a
Small few (err n p) = p < 131072

abbrev pub TotalsSmall : Totals → Type 0
TotalsSmall t = (t.used < 65536) × (t.files < 65536) × (t.directories < 65536)

abbrev pub LineSmall : Line → Type 0
LineSmall x = (x.level < 65536) × (x.start < 65536) × (x.pages < 65536) × (x.length < 16777216)

abbrev pub LengthSmall : ℕ → Type 0
LengthSmall n = n < 16777216

abbrev pub DoneSmall : Unit {0} → Type 0
DoneSmall u = Unit {0}

abbrev pub WritesSmall : WriteCount → Type 0
WritesSmall c = c.made < 4294967296
