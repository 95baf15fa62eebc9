-- For contracts: a packet being filled, and a chain's bytes in consecutive pages.
use Rattle.std.specs.Prelude.{◌≡◌, List, ◌++◌, ℕ, ◌+◌, ◌≤◌, ◌<◌, length, take}
use Rattle.geometry.specs.declared.Geometry.{Geometry}
use Rattle.geometry.specs.Geometry.{data_capacity}
use Rattle.packet.specs.Packet.{View, after_writes}
use Rattle.rules.specs.Chain.{Link, content, linked}
use Rattle.chain.specs.KnownChain.{ChainAt}
use Rattle.gathering.specs.Gather.{file_size, file_chain}
use Rattle.runs.specs.declared.Filling.{Filling}

-- what is still to be laid: the bytes held, then these, from the page at hand up
abbrev pub left_to_lay : Geometry → List ℕ → Filling → List ℕ → List ℕ → List ℕ
left_to_lay g buffer f bytes second = after_writes g (linked (file_chain g f.page (take f.held buffer ++ bytes))) second

abbrev pub page_after : Geometry → List ℕ → Filling → List ℕ → ℕ
page_after g buffer f bytes = f.page + file_size g (take f.held buffer ++ bytes)

-- before bytes are taken in: they fit a packet, and where they overflow the one at hand it has a page
pub record Ready (g : Geometry) (capacity : ℕ) (buffer : List ℕ) (f : Filling) (bytes : List ℕ) : Type 0 where
  pub is : capacity ≡ data_capacity g
  pub most : capacity ≤ 252
  pub room : capacity + g.width + 3 ≤ g.size
  pub long : length buffer ≡ 256
  pub held : f.held ≤ capacity
  pub few : length bytes ≤ capacity
  pub low : f.page ≤ 65535
  pub spills : capacity < f.held + length bytes → f.page < g.pages

-- bytes taken in: whatever comes after them, what is left then is what was left before
pub record Takes (g : Geometry) (buffer : List ℕ) (f : Filling) (bytes second : List ℕ) (buffer' : List ℕ) (f' : Filling) (second' : List ℕ) : Type 0 where
  pub long : length buffer' ≡ 256
  pub fits : length second' ≡ length second
  pub held : f'.held ≤ data_capacity g
  pub lays : (more : List ℕ) → left_to_lay g buffer' f' more second' ≡ left_to_lay g buffer f (bytes ++ more) second
  pub ends : (more : List ℕ) → page_after g buffer' f' more ≡ page_after g buffer f (bytes ++ more)

-- the chain from `start` on
pub record KnownRun (g : Geometry) (v : View) (start to : ℕ) : Type 0 where
  pub links : List Link
  pub chain : ChainAt g v start links
  pub room : to + file_size g (content links) ≤ g.pages

abbrev pub LaysRun : Geometry → View → ℕ → ℕ → List ℕ → List ℕ → ℕ → Type 0
LaysRun g v start to before after r = (ls : List Link) → ChainAt g v start ls → (after ≡ after_writes g (linked (file_chain g to (content ls))) before) × (r ≡ to + file_size g (content ls))
