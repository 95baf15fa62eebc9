-- For contracts: what is listed and read of an accepted image.
use Rattle.refusals.specs.declared.Refusal.{Refusal}
use Rattle.std.specs.Prelude.{Result, ◌≡◌, List, ℕ, leb, length}
use Rattle.geometry.specs.declared.Geometry.{Geometry}
use Rattle.packet.specs.Packet.{View}
use Rattle.rules.specs.Result.{Res, ok, and_after as ◌>>◌, refuse_unless}
use Rattle.rules.specs.Chain.{Views, Link, content}
use Rattle.rules.specs.Tree.{Image}
use Rattle.rules.specs.Check.{check}
use Rattle.rules.specs.Listing.{lines_of, line_at}
use Rattle.rules.specs.Calls.{read_bytes, length_of, filled}
use Rattle.chain.specs.KnownChain.{ChainAt}
use Rattle.rules.specs.Answers.{answer_of}
use Rattle.rules.specs.declared.Line.{Line}

-- the length told and the output after it, for the bytes or the refusal of the rules
abbrev pub Gives : List ℕ → Res (List ℕ) → Result ℕ Refusal → List ℕ → Type 0
Gives out rule r after = ◌≡◌ {A = Res ℕ × List ℕ} (answer_of r, after) (length_of rule, filled out rule)

-- bytes for an output; 18 if it is too short
unfoldable pub fitting : List ℕ → List ℕ → Res (List ℕ)
fitting out bytes = do
  refuse_unless (leb (length bytes) (length out)) 18 0
  ok bytes

abbrev pub ChainRead : Geometry → View → ℕ → List ℕ → Result ℕ Refusal → List ℕ → Type 0
ChainRead g v start out r after = (ls : List Link) → ChainAt g v start ls → Gives out (fitting out (content ls)) r after

module _ (g : Geometry) (vs : Views) where
  abbrev pub LineOf : ℕ → Result Line Refusal → Type 0
  LineOf k r = (i : Image) → check g vs ≡ ok i → answer_of r ≡ line_at k (lines_of 0 i.tree)

  abbrev pub PathRead : List ℕ → List ℕ → Result ℕ Refusal → List ℕ → Type 0
  PathRead path out r after = (i : Image) → check g vs ≡ ok i → Gives out (read_bytes path out i) r after
