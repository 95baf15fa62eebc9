-- For contracts: a place in a directory whose chain stands, the tokens from it on, and the step to the next page and to the next entry.
use Rattle.std.specs.Prelude.{◌≡◌, Option, Some, None, true, false, List, [], ◌∷◌, ◌++◌, ℕ, ◌+◌, ◌-◌, ◌*◌, ◌/◌, ◌≤◌, ◌<◌, length, drop}
use Rattle.geometry.specs.declared.Geometry.{Geometry}
use Rattle.geometry.specs.Geometry.{entry_size, control_size}
use Rattle.packet.specs.Packet.{good, View}
use Rattle.rules.specs.declared.Entry.{Entry}
use Rattle.rules.specs.PageSets.{count}
use Rattle.rules.specs.Chain.{Link, pages, first, linked}
use Rattle.rules.specs.Names.{extended}
use Rattle.rules.specs.Tree.{Token, new_page, entry, entry_tokens, entries_in, link_tokens}
use Rattle.rules.specs.TreeLaws.{page_tokens, last_page}
use Rattle.rules.specs.WellFormed.{HasPackets}
use Rattle.directory.specs.declared.entries.Item.{Item}
use Rattle.directory.specs.declared.entries.Item.TheVariants.{Plain, Extended}
use Rattle.chain.specs.Claims.{Counted}
use Rattle.chain.specs.KnownChain.{ChainAt}
use Rattle.entries.specs.declared.Slot.{Slot}
use Rattle.entries.specs.EntrySlots.{Fits, advanced}

-- a place in the page with these bytes, these pages to come
pub record AtSlot (g : Geometry) (v : View) (s : Slot) (bytes : List ℕ) (more : List Link) : Type 0 where
  pub here : v s.page ≡ good bytes (first more)
  pub count_is : s.count ≡ length (drop s.skip bytes) / entry_size g
  pub next_is : s.next.page ≡ first more
  pub packets : HasPackets v (linked more)
  pub within : (x : ℕ) → 1 ≤ count x (pages more) → x < g.pages
  pub onward : count 0 (pages more) ≡ 0
  pub few : s.next.count + length more ≤ g.pages
  pub counted : Counted s.next
  pub fits : Fits g s

-- the bytes of a page's entries from number i on
abbrev pub entries_at : Geometry → ℕ → ℕ → List ℕ → List ℕ
entries_at g skip i b = drop (entry_size g * i) (drop skip b)

-- the tokens from a place on
pub record TokensAt (g : Geometry) (v : View) (s : Slot) (ts : List Token) : Type 0 where
  pub bytes : List ℕ
  pub more : List Link
  pub at_slot : AtSlot g v s bytes more
  pub at_most : s.at ≤ s.count
  pub are : ts ≡ entries_in g (s.count - s.at) (entries_at g s.skip s.at bytes) ++ link_tokens g 0 more

-- there are such tokens
pub record InDirectory (g : Geometry) (v : View) (s : Slot) : Type 0 where
  pub ts : List Token
  pub ahead : TokensAt g v s ts

-- at the first entry of a page with so many bytes before its entries: the tokens from its begin on
pub record PageAt (g : Geometry) (v : View) (skip : ℕ) (s : Slot) (ts : List Token) : Type 0 where
  pub later : List Token
  pub split : ts ≡ new_page s.page ∷ later
  pub at_start : s.at ≡ 0
  pub skip_is : s.skip ≡ skip
  pub ahead : TokensAt g v s later

-- at the first entry of the directory from `start` on
abbrev pub Begins : Geometry → View → ℕ → Slot → Type 0
Begins g v start s = (ls : List Link) → ChainAt g v start ls → PageAt g v (control_size g) s (link_tokens g (control_size g) ls)

-- the entry at a place, and the tokens after it
pub record EntryAt (g : Geometry) (v : View) (s : Slot) (ts : List Token) (e : Entry) : Type 0 where
  pub later : List Token
  pub split : ts ≡ entry e ∷ later
  pub ahead : TokensAt g v (advanced s) later

abbrev pub IsEntry : Geometry → View → Slot → Entry → Type 0
IsEntry g v s e = (ts : List Token) → TokensAt g v s ts → EntryAt g v s ts e

-- an extended entry at a place
pub record StampAt (g : Geometry) (v : View) (s : Slot) (ts : List Token) : Type 0 where
  pub stamp : Entry
  pub is_extended : extended stamp ≡ true
  pub at : EntryAt g v s ts stamp

-- what stands at a place: this plain entry, or an extended one
unfoldable pub IsItemAt : Geometry → View → Slot → Item → Type 0
IsItemAt g v s (Plain e) = IsEntry g v s e × (extended e ≡ false)
IsItemAt g v s Extended = (ts : List Token) → TokensAt g v s ts → StampAt g v s ts

-- numbers that fall: with each page passed; and with each entry
abbrev pub pages_ahead : Geometry → Slot → ℕ
pages_ahead g s = g.pages - s.next.count

abbrev pub entries_ahead : Geometry → Slot → ℕ
entries_ahead g s = pages_ahead g s * 256 + (s.count - s.at)

-- the entries that are left on the page of a place, and the tokens after them
pub record PageRest (s : Slot) (ts : List Token) (entries : List Entry) (after : List Token) : Type 0 where
  pub split : ts ≡ entry_tokens entries ++ after
  pub count_is : s.at + length entries ≡ s.count

-- the next page is that of the place s'; there is none
pub record PageAhead (g : Geometry) (v : View) (s : Slot) (ts : List Token) (s' : Slot) : Type 0 where
  pub entries : List Entry
  pub after : List Token
  pub rest : PageRest s ts entries after
  pub page : PageAt g v 0 s' after

pub record LastPage (s : Slot) (ts : List Token) : Type 0 where
  pub entries : List Entry
  pub rest : PageRest s ts entries []

pub record NextPage (g : Geometry) (v : View) (s s' : Slot) : Type 0 where
  pub less : pages_ahead g s' < pages_ahead g s
  pub ahead : (ts : List Token) → TokensAt g v s ts → PageAhead g v s ts s'

unfoldable pub IsNextPage : Geometry → View → Slot → Option Slot → Type 0
IsNextPage g v s (Some s') = NextPage g v s s'
IsNextPage g v s None = (ts : List Token) → TokensAt g v s ts → LastPage s ts

-- the place that is reached when these pages have begun: the same if there are none, else the first entry of a page
abbrev pub Reached : Slot → List ℕ → Slot → Type 0
Reached s [] s' = s' ≡ s
Reached s (p ∷ ps) s' = (s'.skip ≡ 0) × (s'.at ≡ 0)

-- the next entry is at the place s', behind pages without entries; there is none
pub record EntryAhead (g : Geometry) (v : View) (s : Slot) (ts : List Token) (s' : Slot) : Type 0 where
  pub pages : List ℕ
  pub after : List Token
  pub split : ts ≡ page_tokens pages ++ after
  pub page_is : s'.page ≡ last_page s.page pages
  pub reached : Reached s pages s'
  pub ahead : TokensAt g v s' after

pub record NextEntry (g : Geometry) (v : View) (s s' : Slot) : Type 0 where
  pub under : s'.at < s'.count
  pub less : entries_ahead g s' ≤ entries_ahead g s
  pub ahead : (ts : List Token) → TokensAt g v s ts → EntryAhead g v s ts s'

pub record NoEntry (ts : List Token) : Type 0 where
  pub pages : List ℕ
  pub are : ts ≡ page_tokens pages

unfoldable pub IsNextEntry : Geometry → View → Slot → Option Slot → Type 0
IsNextEntry g v s (Some s') = NextEntry g v s s'
IsNextEntry g v s None = (ts : List Token) → TokensAt g v s ts → NoEntry ts
