-- For contracts: a chain that stands in the packets from its start page on, and that there is one.
use Rattle.std.specs.Prelude.{◌≡◌, List, ℕ, ◌≤◌, ◌<◌, length}
use Rattle.geometry.specs.declared.Geometry.{Geometry}
use Rattle.packet.specs.Packet.{View}
use Rattle.rules.specs.PageSets.{count}
use Rattle.rules.specs.Chain.{Link, pages, first, linked}
use Rattle.rules.specs.ChainLaws.{rest}
use Rattle.rules.specs.WellFormed.{HasPackets}

-- all its pages are below N and no more than N, and none but the first has the number 0
pub record ChainAt (g : Geometry) (v : View) (start : ℕ) (ls : List Link) : Type 0 where
  pub some : 0 < length ls
  pub begins : first ls ≡ start
  pub packets : HasPackets v (linked ls)
  pub within : (x : ℕ) → 1 ≤ count x (pages ls) → x < g.pages
  pub few : length ls ≤ g.pages
  pub onward : count 0 (pages (rest ls)) ≡ 0

pub record KnownChain (g : Geometry) (v : View) (start : ℕ) : Type 0 where
  pub links : List Link
  pub chain : ChainAt g v start links
