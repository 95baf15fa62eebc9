-- For contracts: the chain that a new file replaces, if it replaces one, and its pages free again.
use Rattle.std.specs.Prelude.{◌≡◌, List, [], ℕ, ◌≤◌, ◌<◌}
use Rattle.geometry.specs.declared.Geometry.{Geometry}
use Rattle.packet.specs.Packet.{View}
use Rattle.rules.specs.Chain.{Link, pages}
use Rattle.rules.specs.Paths.{Found, nothing, a_file, a_directory}
use Rattle.rules.specs.Owners.{OwnerRecord}
use Rattle.owners.specs.Owned.{freed}
use Rattle.chain.specs.KnownChain.{ChainAt}

-- the links of a file that was found; none of anything else
abbrev pub links_of : Found → List Link
links_of nothing = []
links_of (a_file l ls) = ls
links_of (a_directory l d) = []

-- the chain from a page on; none if the page is past the image
pub record OldChain (g : Geometry) (v : View) (start : ℕ) (ls : List Link) : Type 0 where
  pub chain : start < g.pages → ChainAt g v start ls
  pub none : g.pages ≤ start → ls ≡ []

pub record HasOld (g : Geometry) (v : View) (start : ℕ) : Type 0 where
  pub links : List Link
  pub old : OldChain g v start links

-- its pages are free again
abbrev pub FreesOld : Geometry → View → ℕ → List OwnerRecord → List OwnerRecord → Type 0
FreesOld g v start before after = (ls : List Link) → OldChain g v start ls → after ≡ freed (pages ls) before
