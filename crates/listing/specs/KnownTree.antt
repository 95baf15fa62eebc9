-- For contracts: what stands in a view for a directory's tree, and the line at a position of its listing.
use Rattle.std.specs.declared.ops.ControlFlow.{ControlFlow}
use Rattle.std.specs.declared.ops.ControlFlow.TheVariants.{Break, Continue}
use Rattle.std.specs.Prelude.{Option, Some, None, ◌≡◌, true, false, List, [], ◌∷◌, ℕ, suc, ◌+◌, ◌%◌, ◌≤◌, length}
use Rattle.geometry.specs.declared.Geometry.{Geometry}
use Rattle.geometry.specs.Geometry.{control_size}
use Rattle.packet.specs.Packet.{View}
use Rattle.rules.specs.declared.Entry.{Entry}
use Rattle.rules.specs.declared.Line.{Line}
use Rattle.rules.specs.Result.{ok, err}
use Rattle.rules.specs.Chain.{Views, Link, first}
use Rattle.rules.specs.Names.{extension_number, attribute, directory_number, extended}
use Rattle.rules.specs.Tree.{Label, label_of, Items, end, page, file, dir, start_of, tokens, link_tokens, Image}
use Rattle.rules.specs.WellFormed.{Under}
use Rattle.rules.specs.Listing.{file_line, directory_line, lines_of, line_at}
use Rattle.rules.specs.Check.{Part, chain, directory, check}
use Rattle.chain.specs.KnownChain.{ChainAt}

-- stamps are extended; the entry that they belong to is plain
abbrev pub AreExtended : List Entry → Type 0
AreExtended [] = Unit {0}
AreExtended (s ∷ ss) = (extended s ≡ true) × AreExtended ss

abbrev pub Kinds : Label → Type 0
Kinds l = AreExtended l.stamps × (l.name % 256 ≤ 127)

-- a directory's chain from its start page on, and its entries in the pages
pub record Chained (g : Geometry) (v : View) (start : ℕ) (t : Items) : Type 0 where
  pub links : List Link
  pub chain : ChainAt g v start links
  pub shape : link_tokens g (control_size g) links ≡ tokens t

module _ (g : Geometry) (vs : Views) where
  -- the chains of the entries from here on and of all below them, with so many levels left; the kinds of the entries
  abbrev pub Below : ℕ → Items → Type 0
  Below levels end = Unit {0}
  Below levels (page p t) = Below levels t
  Below levels (file l ls t) = ChainAt g (vs.file l.extension) (first ls) ls × (directory_number l.extension ≡ false) × Below levels t × Kinds l
  Below levels (dir l d t) = Chained g vs.pages (start_of d) d × (directory_number l.extension ≡ true) × Under levels (λ less. Below less d) × Below levels t × Kinds l

  -- a directory from a start page on
  pub record DirectoryAt (levels start : ℕ) (t : Items) : Type 0 where
    pub chained : Chained g vs.pages start t
    pub below : Below levels t

  -- what an entry names
  abbrev pub PartAt : ℕ → Entry → Part → Type 0
  PartAt levels e (chain ls) = ChainAt g (vs.file e.extension) e.start ls × (e.pages ≡ length ls) × (directory_number e.extension ≡ false)
  PartAt levels e (directory d) = (start_of d ≡ e.start) × (e.pages ≡ 0) × (directory_number e.extension ≡ true) × Under levels (λ less. DirectoryAt less e.start d)

  -- there is such a directory; there is such a part; the image is accepted
  pub record HasDirectory (levels start : ℕ) : Type 0 where
    pub tree : Items
    pub stands : DirectoryAt levels start tree

  pub record HasPart (levels : ℕ) (e : Entry) : Type 0 where
    pub part : Part
    pub stands : PartAt levels e part

  pub record HasImage : Type 0 where
    pub image : Image
    pub accepted : check g vs ≡ ok image

-- the line of an entry with so many bytes
abbrev pub line_of : ℕ → Entry → ℕ → Line
line_of level e n = record {
  level = level;
  name = e.name;
  extension = extension_number e.extension;
  attribute = attribute e.extension;
  start = e.start;
  pages = e.pages;
  length = n;
}

-- the line of an entry; its lines, with those below a subdirectory
abbrev pub head_line : ℕ → Entry → Part → Line
head_line level e (chain ls) = file_line level (label_of e) ls
head_line level e (directory d) = directory_line level (label_of e) d

abbrev pub part_lines : ℕ → Entry → Part → List Line
part_lines level e (chain ls) = file_line level (label_of e) ls ∷ []
part_lines level e (directory d) = directory_line level (label_of e) d ∷ lines_of (suc level) d

-- an answer of a search: the line at a position, or how far past the lines it lies
abbrev pub LineSearch : Type 0
LineSearch = ControlFlow Line ℕ

-- of some lines at position k
abbrev pub Looks : ℕ → List Line → LineSearch → Type 0
Looks k xs (Break x) = line_at k xs ≡ ok x
Looks k xs (Continue j) = k ≡ length xs + j

-- of an accepted image: the line that the rule has at k, or 15 by the rule
abbrev pub Tells : ℕ → List Line → Option Line → Type 0
Tells k xs (Some x) = line_at k xs ≡ ok x
Tells k xs None = line_at k xs ≡ err 15 0

-- the answers for whatever stands there
module _ (g : Geometry) (vs : Views) where
  abbrev pub Heads : ℕ → ℕ → Entry → Line → Type 0
  Heads levels level e r = (x : Part) → PartAt g vs levels e x → r ≡ head_line level e x

  abbrev pub LooksPart : ℕ → ℕ → Entry → ℕ → LineSearch → Type 0
  LooksPart levels level e k r = (x : Part) → PartAt g vs levels e x → Looks k (part_lines level e x) r

  abbrev pub LooksDirectory : ℕ → ℕ → ℕ → ℕ → LineSearch → Type 0
  LooksDirectory levels level start k r = (t : Items) → DirectoryAt g vs levels start t → Looks k (lines_of level t) r

  abbrev pub LooksImage : ℕ → Option Line → Type 0
  LooksImage k r = (i : Image) → check g vs ≡ ok i → Tells k (lines_of 0 i.tree) r
