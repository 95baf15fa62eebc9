-- What a gathering states of the copy it leaves, over byte images.
use Rattle.std.specs.Prelude.{Some, ◌≡◌, ◌↔◌, List, [], ◌∷◌, ◌++◌, ℕ, ◌-◌, ◌≤◌, ◌<◌, length, take, drop, replicate}
use Rattle.geometry.specs.declared.Geometry.{Geometry}
use Rattle.geometry.specs.Geometry.{geometry_of, data_capacity, first_entries, later_entries}
use Rattle.geometry.specs.Number.{Bytes}
use Rattle.geometry.specs.Page.{page_of}
use Rattle.rules.specs.Chain.{Link, link}
use Rattle.rules.specs.Tree.{width, Items, end, page, file, dir, own_pages, inner_pages, Map, in_root, in_file, map_pages, Image}
use Rattle.rules.specs.WellFormed.{WellFormed}
use Rattle.rules.specs.Format.{upward}
use Rattle.rules.specs.Candidate.{Accepted, pages_in_use}
use Rattle.rules.specs.Demand2.{WellFormedAt, reach}
use Rattle.gathering.specs.Gather.{bare_of, image_writes}

-- the pages in the order of the request: page 0, the bitmap file, the root's further pages, each entry's chain in walk order
abbrev pub in_order : Image → List ℕ
in_order i = take 1 (own_pages i.tree) ++ (map_pages i.map ++ (drop 1 (own_pages i.tree) ++ inner_pages i.tree))

-- all packets of a chain are full but the last
abbrev pub FullChain : ℕ → List Link → Type 0
FullChain capacity [] = Unit {0}
FullChain capacity (link p b ∷ []) = Unit {0}
FullChain capacity (link p b ∷ (link q c ∷ ls)) = (length b ≡ capacity) × FullChain capacity (link q c ∷ ls)

abbrev pub FullMap : ℕ → Map → Type 0
FullMap capacity in_root = Unit {0}
FullMap capacity (in_file ls) = FullChain capacity ls

-- the chains of all files below a directory
abbrev pub FullFiles : ℕ → Items → Type 0
FullFiles capacity end = Unit {0}
FullFiles capacity (page p t) = FullFiles capacity t
FullFiles capacity (file l ls t) = FullChain capacity ls × FullFiles capacity t
FullFiles capacity (dir l d t) = FullFiles capacity d × FullFiles capacity t

-- the slots of the next entry, 0 if none follows on the page that begins
abbrev pub next_slots : Items → ℕ
next_slots end = 0
next_slots (page p t) = 0
next_slots (file l ls t) = width l
next_slots (dir l d t) = width l

-- directory pages are filled in order: r slots being left on the page at hand, a page begins only with an entry that does not fit there
abbrev pub Filled : ℕ → ℕ → Items → Type 0
Filled later r end = Unit {0}
Filled later r (page p t) = (r < next_slots t) × Filled later later t
Filled later r (file l ls t) = Filled later (r - width l) t
Filled later r (dir l d t) = Filled later (r - width l) t

-- a whole directory's, and those of all directories below
abbrev pub FilledDirectory : Geometry → Items → Type 0
FilledDirectory g end = Unit {0}
FilledDirectory g (page p t) = Filled (later_entries g) (first_entries g) t
FilledDirectory g (file l ls t) = Unit {0}
FilledDirectory g (dir l d t) = Unit {0}

abbrev pub FilledBelow : Geometry → Items → Type 0
FilledBelow g end = Unit {0}
FilledBelow g (page p t) = FilledBelow g t
FilledBelow g (file l ls t) = FilledBelow g t
FilledBelow g (dir l d t) = FilledDirectory g d × FilledBelow g d × FilledBelow g t

-- where the packet of page p ends; 0 if the page is in no chain
abbrev pub packet_end : Geometry → Image → ℕ → ℕ
packet_end g i p = reach g p (image_writes g i)

-- a gathered copy of a source
pub record Gathered (g : Geometry) (source copy : List ℕ) : Type 0 where
  pub before : Image
  pub was : WellFormed g source before
  -- accepted, of the same length
  pub tree : Image
  pub well_formed : WellFormed g copy tree
  pub sized : length copy ≡ length source
  pub are_bytes : Bytes copy
  -- the same tree, entry order, stamps, attributes, file bytes and bitmap kind
  pub same : bare_of tree ≡ bare_of before
  -- chains consecutive, in the order of the request, from page 0 up
  pub order : in_order tree ≡ upward 0 (pages_in_use tree)
  -- packets of files and bitmap file full but the last; directory pages filled in order
  pub full_files : FullFiles (data_capacity g) tree.tree
  pub full_map : FullMap (data_capacity g) tree.map
  pub filled_root : FilledDirectory g tree.tree
  pub filled_below : FilledBelow g tree.tree
  -- unused bytes are FF
  pub unused : (p : ℕ) → p < g.pages → drop (packet_end g tree p) (page_of g p copy) ≡ replicate (g.size - packet_end g tree p) 0xFF
  -- no accepted image of the same geometry, tree, entry order, stamps, file bytes and bitmap kind has fewer pages in use
  pub least : (other : List ℕ) (j : Image) → Bytes other → length other ≡ length source → Accepted g other j → bare_of j ≡ bare_of before → pages_in_use tree ≤ pages_in_use j

-- the call: done exactly when the second image has the source's length and the source is well formed; then it leaves a gathered copy; refused, the second image keeps its bytes
pub record Gathers (P N : ℕ) (source second table : List ℕ) (is_done : Type 0) (after : List ℕ) : Type 0 where
  pub exactly : is_done ↔ ((length second ≡ length source) × WellFormedAt P N source table)
  pub done : (g : Geometry) → geometry_of P N (length source) (length table) ≡ Some g → is_done → Gathered g source after
  pub refused : (is_done → ⊥) → after ≡ second
