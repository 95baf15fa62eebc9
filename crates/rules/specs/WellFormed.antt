-- Well formed, stated declaratively: all chains end, share no page, agree with their counts and with the bitmap. No function of the check stands here.
use Rattle.std.specs.Prelude.{◌≡◌, true, List, [], ◌∷◌, ℕ, zero, suc, ◌^◌, ◌<◌, ◌≤◌, length}
use Rattle.geometry.specs.declared.Geometry.{Geometry}
use Rattle.geometry.specs.Geometry.{Fit}
use Rattle.geometry.specs.Number.{Bytes}
use Rattle.packet.specs.Packet.{good, View, Write, write}
use Rattle.rules.specs.declared.Entry.{Entry}
use Rattle.rules.specs.PageSets.{Once, Within}
use Rattle.rules.specs.Chain.{Views, views_of, content, linked}
use Rattle.rules.specs.Names.{valid_name, file_number, directory_number, extended}
use Rattle.rules.specs.Tree.{Label, Items, end, page, file, dir, start_of, directory_links, keys, Map, in_root, in_file, Image, used}
use Rattle.rules.specs.Control.{root_control, most_local, sub_control, Parent, the_root}
use Rattle.rules.specs.Bitmap.{bitmap_of, map_size}

-- these packets stand in a view
abbrev pub HasPackets : View → List Write → Type 0
HasPackets v [] = Unit {0}
HasPackets v (write p b n ∷ ws) = (v p ≡ good b n) × HasPackets v ws

-- every packet below a directory that is known as `here` stands: each file's chain in the view of its extension, each subdirectory's chain with its control field, and so on down
abbrev pub HasBelow : Geometry → Views → Parent → Items → Type 0
HasBelow g vs here end = Unit {0}
HasBelow g vs here (page p t) = HasBelow g vs here t
HasBelow g vs here (file l ls t) = HasPackets (vs.file l.extension) (linked ls) × HasBelow g vs here t
HasBelow g vs here (dir l d t) =
    HasPackets vs.pages (linked (directory_links g (sub_control g.width here) d))
    × HasBelow g vs (record { name = l.name; start = start_of d }) d × HasBelow g vs here t

abbrev pub map_packets : Map → List Write
map_packets in_root = []
map_packets (in_file ls) = linked ls

-- every packet of an image whose bitmap has these bytes stands: the root's chain, all below it, the bitmap file's chain
pub record HasParts (g : Geometry) (vs : Views) (bits : List ℕ) (t : Items) (m : Map) : Type 0 where
  pub own : HasPackets vs.pages (linked (directory_links g (root_control g.width bits m) t))
  pub below : HasBelow g vs the_root t
  pub map : HasPackets vs.pages (map_packets m)

-- a directory has a first page
abbrev pub IsDirectory : Items → Type 0
IsDirectory end = ⊥
IsDirectory (page p t) = Unit {0}
IsDirectory (file l ls t) = ⊥
IsDirectory (dir l d t) = ⊥

-- the numbers of an entry fit its fields, where page numbers take n bytes
pub record EntryFits (n : ℕ) (e : Entry) : Type 0 where
  pub four : e.name < 256 ^ 4
  pub byte : e.extension < 256
  pub start : e.start < 256 ^ n
  pub pages : e.pages < 256 ^ n

-- stamps: extended entries
abbrev pub Stamps : ℕ → List Entry → Type 0
Stamps n [] = Unit {0}
Stamps n (s ∷ ss) = (extended s ≡ true) × EntryFits n s × Stamps n ss

-- a four-byte name of the allowed bytes, an extension byte, and stamps before the entry
pub record Named (n : ℕ) (l : Label) : Type 0 where
  pub four : l.name < 256 ^ 4
  pub valid : valid_name l.name ≡ true
  pub byte : l.extension < 256
  pub stamps : Stamps n l.stamps

-- with so many levels left, one less below
abbrev pub Under : ℕ → (ℕ → Type 0) → Type 0
Under zero P = ⊥
Under (suc levels) P = P levels

-- names, extensions, stamps, nesting; a file has a page, a subdirectory a first page and no two entries that agree in name and extension number
abbrev pub Entries : ℕ → ℕ → Items → Type 0
Entries n levels end = Unit {0}
Entries n levels (page p t) = Entries n levels t
Entries n levels (file l ls t) = Named n l × (file_number l.extension ≡ true) × (0 < length ls) × Entries n levels t
Entries n levels (dir l d t) =
    Named n l × (directory_number l.extension ≡ true) × IsDirectory d × Once (keys d) × Under levels (λ below. Entries n below d) × Entries n levels t

-- a local bitmap only for N up to 32; a bitmap file holds the bitmap's bytes
abbrev pub MapHolds : Geometry → List ℕ → Map → Type 0
MapHolds g bits in_root = g.pages ≤ most_local
MapHolds g bits (in_file ls) = (0 < length ls) × (content ls ≡ bits)

-- all but the agreement of the bitmap: well formed with any bitmap bytes
pub record WellFormedWith (g : Geometry) (vs : Views) (bits : List ℕ) (i : Image) : Type 0 where
  pub is_directory : IsDirectory i.tree
  pub at_zero : start_of i.tree ≡ 0
  pub names : Once (keys i.tree)
  pub entries : Entries g.width 8 i.tree
  pub map : MapHolds g bits i.map
  pub room : length bits ≡ map_size g i.map
  pub bytes : Bytes bits
  -- all chains end and are linked as the packets say, with counts and control fields as they must be
  pub packets : HasParts g vs bits i.tree i.map
  -- no page is in two chains or twice in one, and every page number is below N
  pub apart : Within g.pages (used i)

-- well formed: the bits are exactly the pages in use
abbrev pub WellFormedIn : Geometry → Views → Image → Type 0
WellFormedIn g vs i = WellFormedWith g vs (bitmap_of g (used i) i.map) i

-- of an image's bytes
pub record WellFormed (g : Geometry) (image : List ℕ) (i : Image) : Type 0 where
  pub fits : Fit g image
  pub holds : WellFormedIn g (views_of g image) i
