-- For contracts: a directory laid page by page in another image, what an entry names laid behind it.
use Rattle.std.specs.Prelude.{◌≡◌, List, ℕ, ◌+◌, ◌-◌, ◌*◌, ◌≤◌, ◌<◌, length, take, drop}
use Rattle.geometry.specs.declared.Geometry.{Geometry}
use Rattle.geometry.specs.Choose.{choose}
use Rattle.geometry.specs.Geometry.{data_capacity, entry_size, control_size, first_entries, later_entries}
use Rattle.geometry.specs.Page.{page_of, overwritten}
use Rattle.packet.specs.Packet.{Write, write, write_page, after_writes}
use Rattle.rules.specs.declared.Entry.{Entry}
use Rattle.rules.specs.Chain.{Views, content, linked}
use Rattle.rules.specs.Names.{directory_number, entry_bytes}
use Rattle.rules.specs.Tree.{Items}
use Rattle.rules.specs.Control.{Parent, sub_control}
use Rattle.rules.specs.Check.{Part, chain, directory}
use Rattle.rules.specs.WellFormed.{Under}
use Rattle.entries.specs.declared.Slot.{Slot}
use Rattle.gathering.specs.Gather.{Bare, bare, further, own_size, file_size, below_size, file_chain}
use Rattle.gathering.proofs.GatherLaid.{BareEntries}
use Rattle.gathering.proofs.GatherOrder.{pass_writes}
use Rattle.listing.specs.KnownTree.{DirectoryAt, PartAt}
use Rattle.layout.specs.declared.Room.{Room}
use Rattle.layout.specs.declared.Laid.{Laid}

abbrev pub parent_of : ℕ → ℕ → Parent
parent_of name start = record { name = name; start = start }

-- ---- slots counted
-- so many slots taken: of those that are left, or of a page that is opened
pub record TakesSlots (later : ℕ) (r : Room) (slots : ℕ) (r' : Room) : Type 0 where
  pub here : slots ≤ r.left → r' ≡ record { left = r.left - slots; opened = r.opened }
  pub next : r.left < slots → r' ≡ record { left = later - slots; opened = r.opened + 1 }

module _ (g : Geometry) (vs : Views) (levels start : ℕ) where
  -- a directory that stands, whose entries fit their pages and open few
  pub record KnownEntries : Type 0 where
    pub tree : Items
    pub stands : DirectoryAt g vs levels start tree
    pub fitting : BareEntries g levels (bare tree)
    pub few : further g (first_entries g) (bare tree) ≤ g.pages

  -- the pages that its entries open
  abbrev pub CountsFurther : ℕ → Type 0
  CountsFurther r = (t : Items) → DirectoryAt g vs levels start t → r ≡ further g (first_entries g) (bare t)

-- ---- the page at hand
-- what is still to be written of a directory
abbrev pub left_to_write : Geometry → Parent → List ℕ → Laid → Bare → List Write
left_to_write g here buffer w b = pass_writes g here (take w.held buffer) w.page w.left w.further w.chain b

-- the page at hand and the buffer
pub record Holding (g : Geometry) (buffer : List ℕ) (w : Laid) : Type 0 where
  pub long : length buffer ≡ 256
  pub room : (k : ℕ) → k ≤ w.left → w.held + k * entry_size g ≤ data_capacity g
  pub most : data_capacity g ≤ 252
  pub order : w.page < w.further
  pub below : w.page < g.pages

-- the page closed if so many slots are not left
pub data Turned (g : Geometry) (buffer : List ℕ) (w : Laid) (slots : ℕ) (second : List ℕ) (w' : Laid) (second' : List ℕ) : Type 0 where
  stays : slots ≤ w.left → w' ≡ w → second' ≡ second → Turned g buffer w slots second w' second'
  turns : w.left < slots → w' ≡ record { page = w.further; held = 0; left = later_entries g; further = w.further + 1; chain = w.chain }
      → second' ≡ write_page g (write w.page (take w.held buffer) w.further) second → Turned g buffer w slots second w' second'

-- the entry of what was laid from `from` up to `next`
abbrev pub pages_in : Entry → ℕ → ℕ → ℕ
pages_in e from next = choose (directory_number e.extension) 0 (next - from)

abbrev pub new_entry : Entry → ℕ → ℕ → Entry
new_entry e from next = record { name = e.name; extension = e.extension; start = from; pages = pages_in e from next }

-- the bytes of the k entries before a place, in its page
abbrev pub bytes_behind : Geometry → List ℕ → Slot → ℕ → List ℕ
bytes_behind g image s k = take (entry_size g * k) (drop (1 + s.skip + entry_size g * (s.at - k)) (page_of g s.page image))

-- an entry added to the page at hand, its stamps before it
pub record Added (g : Geometry) (image buffer : List ℕ) (w : Laid) (here : Slot) (stamps : ℕ) (e : Entry) (next : ℕ) (buffer' : List ℕ) (w' : Laid) : Type 0 where
  pub put : buffer' ≡ overwritten (w.held + entry_size g * stamps) (entry_bytes g.width (new_entry e w.chain next)) (overwritten w.held (bytes_behind g image here stamps) buffer)
  pub now : w' ≡ record { page = w.page; held = w.held + entry_size g * stamps + entry_size g; left = w.left - (stamps + 1); further = w.further; chain = next }

-- ---- what an entry names, laid from page a up
module _ (g : Geometry) where
  abbrev pub part_writes : Parent → Entry → ℕ → Part → List Write
  part_writes here e a (chain ls) = linked (file_chain g a (content ls))
  part_writes here e a (directory d) = pass_writes g (parent_of e.name a) (sub_control g.width here) a (first_entries g) (a + 1) (a + own_size g (bare d)) (bare d)

  abbrev pub part_size : Part → ℕ
  part_size (chain ls) = file_size g (content ls)
  part_size (directory d) = own_size g (bare d) + below_size g (bare d)

  abbrev pub PartFits : ℕ → Part → Type 0
  PartFits levels (chain ls) = Unit {0}
  PartFits levels (directory d) = Under levels (λ less. BareEntries g less (bare d))

module _ (g : Geometry) (vs : Views) (levels : ℕ) where
  -- what an entry names stands, and there is room for it from page a up
  pub record KnownPart (e : Entry) (a : ℕ) : Type 0 where
    pub part : Part
    pub stands : PartAt g vs levels e part
    pub fitting : PartFits g levels part
    pub room : a + part_size g part ≤ g.pages

  abbrev pub LaysPart : Parent → Entry → ℕ → List ℕ → List ℕ → ℕ → Type 0
  LaysPart here e a before after r = (x : Part) → PartAt g vs levels e x → (after ≡ after_writes g (part_writes g here e a x) before) × (r ≡ a + part_size g x)

  -- a directory stands, and there is room for it: its first page p, its further pages from q up, chains below from a up
  pub record KnownDirectory (start : ℕ) (head : List ℕ) (p q a : ℕ) : Type 0 where
    pub tree : Items
    pub stands : DirectoryAt g vs levels start tree
    pub fitting : BareEntries g levels (bare tree)
    pub field : length head ≡ control_size g
    pub order : p < q
    pub inner : q + further g (first_entries g) (bare tree) ≤ a
    pub room : a + below_size g (bare tree) ≤ g.pages

  abbrev pub LaysDirectory : Parent → ℕ → List ℕ → ℕ → ℕ → ℕ → List ℕ → List ℕ → ℕ → Type 0
  LaysDirectory here start head p q a before after r =
      (t : Items) → DirectoryAt g vs levels start t → (after ≡ after_writes g (pass_writes g here head p (first_entries g) q a (bare t)) before) × (r ≡ a + below_size g (bare t))
