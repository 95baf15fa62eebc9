-- For contracts: a directory's page written again with some of its data exchanged, or with a page that joins after it.
use Rattle.std.specs.Prelude.{◌≡◌, List, [], ◌∷◌, ◌++◌, ℕ, ◌+◌, ◌-◌, ◌*◌, ◌≤◌, ◌<◌, eqb, length, take, drop}
use Rattle.geometry.specs.declared.Geometry.{Geometry}
use Rattle.geometry.specs.Choose.{choose}
use Rattle.geometry.specs.Geometry.{entry_size}
use Rattle.packet.specs.Packet.{good, View, view_of, Write, write}
use Rattle.packet.specs.declared.Budget.{Budget}
use Rattle.packet.specs.Budgets.{Progress, write_one, write_all}
use Rattle.entries.specs.declared.Slot.{Slot}
use Rattle.writes.specs.declared.Change.{Change}

-- bytes over the front of others
abbrev pub over_front : List ℕ → List ℕ → List ℕ
over_front xs b = xs ++ drop (length xs) b

-- bytes with those from one place to another exchanged for others
abbrev pub spliced : ℕ → ℕ → List ℕ → List ℕ → List ℕ
spliced from to new b = take from b ++ (new ++ drop to b)

-- a page's data with such places in them, and n others fit in their stead
pub record SpanIn (g : Geometry) (v : View) (page from to n : ℕ) (bytes : List ℕ) (next : ℕ) : Type 0 where
  pub packet : v page ≡ good bytes next
  pub order : from ≤ to
  pub inside : to ≤ length bytes
  pub room : from + n + (length bytes - to) + g.width + 3 ≤ g.size

pub record HasSpan (g : Geometry) (v : View) (page from to n : ℕ) : Type 0 where
  pub bytes : List ℕ
  pub next : ℕ
  pub span : SpanIn g v page from to n bytes next

-- the page written with them exchanged and with a pointer
abbrev pub Rewrites : Geometry → ℕ → ℕ → ℕ → List ℕ → ℕ → List ℕ → Budget → List ℕ → Budget → Type 0
Rewrites g page from to new next image budget after left =
    (bytes : List ℕ) (n : ℕ) → view_of g image page ≡ good bytes n
    → ◌≡◌ {A = Progress} (record { image = after; budget = left }) (write_one g (write page (spliced from to new bytes) next) (record { image = image; budget = budget }))

-- where the entry of a number begins in the data of its page
abbrev pub entry_from : Geometry → Slot → ℕ → ℕ
entry_from g s i = s.skip + entry_size g * i

-- n bytes fit in a page that joins after the slot's
pub record JoinFits (g : Geometry) (v : View) (c : Change) (n : ℕ) : Type 0 where
  pub inside : c.joins < g.pages
  pub room : n + g.width + 3 ≤ g.size
  pub other : c.slot.page ≡ c.joins → ⊥
  pub last : HasSpan g v c.slot.page 0 0 0

-- a change by n bytes can be written
pub record CanChange (g : Geometry) (v : View) (c : Change) (n : ℕ) : Type 0 where
  pub below : c.slot.page < g.pages
  pub exchange : c.joins ≡ 0 → HasSpan g v c.slot.page (entry_from g c.slot c.first) (entry_from g c.slot c.last) n
  pub join : (c.joins ≡ 0 → ⊥) → JoinFits g v c n

-- its page writes, where the slot's page has these data
abbrev pub change_writes : Geometry → Change → List ℕ → List ℕ → List Write
change_writes g c new bytes = choose (eqb c.joins 0)
    (write c.slot.page (spliced (entry_from g c.slot c.first) (entry_from g c.slot c.last) new bytes) c.slot.next.page ∷ [])
    (write c.joins new 0 ∷ write c.slot.page bytes c.joins ∷ [])

abbrev pub Changes : Geometry → Change → List ℕ → List ℕ → Budget → List ℕ → Budget → Type 0
Changes g c new image budget after left =
    (bytes : List ℕ) (n : ℕ) → view_of g image c.slot.page ≡ good bytes n
    → ◌≡◌ {A = Progress} (record { image = after; budget = left }) (write_all g (change_writes g c new bytes) (record { image = image; budget = budget }))
