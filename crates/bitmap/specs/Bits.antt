-- For contracts: bits of a bitmap compared with the owner table, lowest first.
use Rattle.std.specs.Prelude.{◌≡◌, List, ℕ, ◌+◌, ◌*◌, ◌<◌, length, get_or, Option, Some, None}
use Rattle.geometry.specs.declared.Geometry.{Geometry}
use Rattle.packet.specs.Packet.{View}
use Rattle.rules.specs.Result.{Res, ok, err}
use Rattle.rules.specs.Chain.{Link, content}
use Rattle.rules.specs.BitmapLaws.{IsLowest}
use Rattle.owners.specs.Owned.{Represents}
use Rattle.rules.specs.Check.{judge_bits}
use Rattle.rules.specs.Owners.{OwnerRecord}
use Rattle.chain.specs.KnownChain.{ChainAt}

-- the lowest of the n bits from k on that differs from the pages in use, or that none does
abbrev pub Part : List ℕ → List ℕ → ℕ → ℕ → Option ℕ → Type 0
Part raw used k n None = IsLowest raw used k n (k + n)
Part raw used k n (Some d) = IsLowest raw used k n d × (d < k + n)

-- the same of bytes that stand in a bitmap after `at` others, for all pages in use that the table represents
abbrev pub ComparesPart : List ℕ → ℕ → List OwnerRecord → Option ℕ → Type 0
ComparesPart bytes at table r =
    (raw used : List ℕ) → ((i : ℕ) → i < length bytes → get_or raw (at + i) 0 ≡ get_or bytes i 0) → Represents table used → Part raw used (8 * at) (8 * length bytes) r

-- the answer is the rule's
abbrev pub Compares : Res (Unit {0}) → Option ℕ → Type 0
Compares x None = x ≡ ok tt
Compares x (Some d) = x ≡ err 13 d

-- of a whole bitmap
abbrev pub ComparesAll : List ℕ → List OwnerRecord → Option ℕ → Type 0
ComparesAll raw table r = (used : List ℕ) → Represents table used → Compares (judge_bits raw used) r

-- of the bitmap in a chain from its start page on
abbrev pub ComparesChain : Geometry → View → ℕ → List OwnerRecord → Option ℕ → Type 0
ComparesChain g v start table r = (ls : List Link) → ChainAt g v start ls → ComparesAll (content ls) table r
