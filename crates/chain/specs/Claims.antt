-- For contracts: a page entered, and a chain claimed in the owner table, against the rule's walk.
use Rattle.std.specs.Prelude.{◌≡◌, Result, Ok, Err, List, ℕ, suc, ◌+◌, ◌*◌, ◌≤◌, ◌<◌, ltb, length}
use Rattle.refusals.specs.declared.Refusal.{Refusal}
use Rattle.geometry.specs.declared.Geometry.{Geometry}
use Rattle.packet.specs.Packet.{Packet, bad, good, View}
use Rattle.rules.specs.Result.{Res, ok, err, and_then as ◌>>=◌, and_after as ◌>>◌, refuse_unless}
use Rattle.rules.specs.Answers.{refused}
use Rattle.rules.specs.Chain.{Link, pages, content, Body, packet_at, Test, walk}
use Rattle.rules.specs.Owners.{OwnerRecord, own_from}
use Rattle.owners.specs.Owned.{Represents, freed}
use Rattle.chain.specs.declared.Cursor.{Cursor}
use Rattle.chain.specs.declared.Claim.{Claim}
use Rattle.chain.specs.Steps.{after}
use Rattle.chain.specs.KnownChain.{ChainAt}

-- a page that holds a right packet
abbrev pub IsGood : Packet → Type 0
IsGood bad = ⊥
IsGood (good b n) = Unit {0}

-- the counts of a position fit their types
pub record Counted (c : Cursor) : Type 0 where
  pub few : c.count < 65536
  pub small : c.bytes ≤ 256 * c.count

-- the walk's tests of a page but for crossing
unfoldable pub enter_of : Geometry → View → Test → Cursor → Res Body
enter_of g v test c = do
  refuse_unless (ltb c.page g.pages) 6 c.from
  x ← packet_at v c.page
  test c.count c.page x.bytes
  ok x

-- then the next position
abbrev pub entered : Cursor → Res Body → Res Cursor
entered c (ok x) = ok (after c (length x.bytes) x.next)
entered c (err n p) = err n p

-- the answer r with the table u agrees with the walk's answer, where k pages and m bytes were passed before and the table then was t
abbrev pub Agrees : ℕ → ℕ → ℕ → List OwnerRecord → Res (List Link) → Result Claim Refusal → List OwnerRecord → Type 0
Agrees k m owner t walked (Ok x) u =
    (ls : List Link) × (walked ≡ ok ls) × (x.pages ≡ k + length ls) × (x.bytes ≡ m + length (content ls)) × (u ≡ own_from owner k (pages ls) t)
Agrees k m owner t walked (Err r) u = walked ≡ refused r

-- for every list of claimed pages that the table represents, the answer is the walk's
abbrev pub Claims : Geometry → View → Test → ℕ → ℕ → ℕ → List OwnerRecord → Result Claim Refusal → List OwnerRecord → Type 0
Claims g v test owner from start t r u =
    (claimed : List ℕ) → Represents t claimed → Agrees 0 0 owner t (walk g.pages v test (suc g.pages) 0 claimed from start) r u

-- the pages of the chain from `start` on are free again
unfoldable pub Releases : Geometry → View → ℕ → List OwnerRecord → List OwnerRecord → Type 0
Releases g v start before after = (ls : List Link) → ChainAt g v start ls → after ≡ freed (pages ls) before
