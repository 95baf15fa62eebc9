-- For contracts: the bytes of the chain that stands from a start page on.
use Rattle.std.specs.Prelude.{◌≡◌, List, ◌++◌, ℕ, ◌≤◌, length, drop}
use Rattle.geometry.specs.declared.Geometry.{Geometry}
use Rattle.packet.specs.Packet.{View}
use Rattle.rules.specs.Chain.{Link, content}
use Rattle.chain.specs.KnownChain.{ChainAt}

module _ (g : Geometry) (v : View) (start : ℕ) where
  -- there are so many of them
  abbrev pub Counts : ℕ → Type 0
  Counts r = (ls : List Link) → ChainAt g v start ls → r ≡ length (content ls)

  -- an output is long enough for them; it has them at its front
  abbrev pub Fits : List ℕ → Type 0
  Fits out = (ls : List Link) → ChainAt g v start ls → length (content ls) ≤ length out

  abbrev pub Copies : List ℕ → List ℕ → Type 0
  Copies before after = (ls : List Link) → ChainAt g v start ls → after ≡ content ls ++ drop (length (content ls)) before
