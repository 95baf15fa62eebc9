-- For contracts: the pages that the bitmap stands in, and those pages with the bytes of an owner table.
use Rattle.std.specs.Prelude.{◌≡◌, Some, Bool, List, ◌++◌, ℕ, ◌≤◌, length, drop}
use Rattle.geometry.specs.declared.Geometry.{Geometry}
use Rattle.geometry.specs.Geometry.{bitmap_size}
use Rattle.packet.specs.Packet.{good, View, view_of, Write, write}
use Rattle.packet.specs.declared.Budget.{Budget}
use Rattle.packet.specs.Budgets.{Progress, write_one, write_all}
use Rattle.packet.specs.declared.Whole.{Whole}
use Rattle.packet.specs.Judged.{judged}
use Rattle.rules.specs.PageSets.{Once}
use Rattle.rules.specs.Chain.{Link, pages, first, content, linked}
use Rattle.rules.specs.Tree.{Items, start_of, directory_links, Map, in_root, in_file, is_local}
use Rattle.rules.specs.Control.{root_control, most_local}
use Rattle.rules.specs.Bitmap.{map_size, bitmap_of, refill}
use Rattle.rules.specs.WellFormed.{HasPackets, IsDirectory}
use Rattle.rules.specs.Writes.{map_writes}
use Rattle.rules.specs.Owners.{OwnerRecord}
use Rattle.owners.specs.Owned.{Marks}
use Rattle.chain.specs.KnownChain.{ChainAt}
use Rattle.marks.specs.Marks.{marks_from}

-- ---- a bitmap in the root's control field
-- page 0 holds a packet with these bits in its control field and the rest after it
pub record LocalMapAt (g : Geometry) (v : View) (bits rest : List ℕ) (next : ℕ) : Type 0 where
  pub packet : v 0 ≡ good (root_control g.width bits in_root ++ rest) next
  pub four : length bits ≡ 4

pub record HasLocal (g : Geometry) (v : View) : Type 0 where
  pub bits : List ℕ
  pub rest : List ℕ
  pub next : ℕ
  pub stands : LocalMapAt g v bits rest next

-- the answer tells page 0's packet, and the buffer has its bytes at the front
unfoldable pub CopiesRoot : Geometry → View → Whole → List ℕ → List ℕ → Type 0
CopiesRoot g v r before after = (b : List ℕ) (next : ℕ) → v 0 ≡ good b next → (Some r ≡ judged (good b next)) × (after ≡ b ++ drop (length b) before)

-- page 0 written again with four bytes of the table
unfoldable pub WritesLocal : Geometry → List OwnerRecord → ℕ → List ℕ → Budget → List ℕ → Budget → Type 0
WritesLocal g table below before budget after left =
    (bits rest : List ℕ) (next : ℕ) → LocalMapAt g (view_of g before) bits rest next
    → ◌≡◌ {A = Progress} (record { image = after; budget = left }) (write_one g (write 0 (root_control g.width (marks_from table below 0 4) in_root ++ rest) next) (record { image = before; budget = budget }))

-- ---- a bitmap in a file of its own
-- a chain that stands and has no page twice
pub record MapFileAt (g : Geometry) (v : View) (start : ℕ) (ls : List Link) : Type 0 where
  pub chain : ChainAt g v start ls
  pub once : Once (pages ls)

pub record HasMapFile (g : Geometry) (v : View) (start : ℕ) : Type 0 where
  pub links : List Link
  pub stands : MapFileAt g v start links

-- its pages in chain order, their packets' lengths kept, with the bytes of the table
abbrev pub file_writes : List OwnerRecord → ℕ → List Link → List Write
file_writes table below ls = linked (refill ls (marks_from table below 0 (length (content ls))))

unfoldable pub WritesFile : Geometry → List OwnerRecord → ℕ → ℕ → List ℕ → Budget → List ℕ → Budget → Type 0
WritesFile g table below start before budget after left =
    (ls : List Link) → MapFileAt g (view_of g before) start ls → ◌≡◌ {A = Progress} (record { image = after; budget = left }) (write_all g (file_writes table below ls) (record { image = before; budget = budget }))

-- ---- the bitmap where the root places it
abbrev pub MapAt : Geometry → View → Map → Type 0
MapAt g v in_root = g.pages ≤ most_local
MapAt g v (in_file ls) = MapFileAt g v (first ls) ls × (length (content ls) ≡ bitmap_size g)

-- the root's chain and the bitmap's pages stand, with these bits
pub record RootHeld (g : Geometry) (v : View) (bits : List ℕ) (t : Items) (m : Map) : Type 0 where
  pub is_directory : IsDirectory t
  pub at_zero : start_of t ≡ 0
  pub room : length bits ≡ map_size g m
  pub chain : HasPackets v (linked (directory_links g (root_control g.width bits m) t))
  pub map : MapAt g v m

pub record HasRoot (g : Geometry) (v : View) : Type 0 where
  pub bits : List ℕ
  pub tree : Items
  pub map : Map
  pub held : RootHeld g v bits tree map

-- the bitmap's pages with the bits that the table gives with a bound
unfoldable pub WritesMap : Geometry → List OwnerRecord → ℕ → List ℕ → Budget → List ℕ → Budget → Type 0
WritesMap g table below before budget after left =
    (bits : List ℕ) (t : Items) (m : Map) → RootHeld g (view_of g before) bits t m → (used : List ℕ) → Marks table below used
    → ◌≡◌ {A = Progress} (record { image = after; budget = left }) (write_all g (map_writes g (bitmap_of g used m) t m) (record { image = before; budget = budget }))

-- what page 0 tells: whether the bitmap is in the root, and where its file starts
unfoldable pub TellsLocal : Geometry → View → Bool → Type 0
TellsLocal g v r = (bits : List ℕ) (t : Items) (m : Map) → RootHeld g v bits t m → r ≡ is_local m

unfoldable pub TellsStart : Geometry → View → ℕ → Type 0
TellsStart g v r = (bits : List ℕ) (t : Items) (ls : List Link) → RootHeld g v bits t (in_file ls) → r ≡ first ls
