-- Bytes stored page by page: the pages and bytes that are left give the whole.
use mathlib.Core.Path.{◌≡◌, ap, ap₂, sym, ◌∙◌, subst}
use mathlib.Core.Bool.{true, false}
use mathlib.Core.List.{List, [], ◌∷◌}
use Prim.Native.Nat.{ℕ, suc, ◌+◌, ◌-◌, ◌/◌, ◌≤◌, ◌<◌}
use native.Mathlib.Nat.{div-eq_of_lt, div-eq-sub-div, zero-div, div-le_self}
use native.Mathlib.Omega.{arith}
use native.Mathlib.Numerals.{add-one}
use lib.ListN.{length, take, drop, length-drop}
use lib.Seq.{take_all}
use Rattle.geometry.specs.declared.Geometry.{Geometry}
use Rattle.geometry.specs.Geometry.{Valid, Fit, data_capacity}
use Rattle.packet.specs.Packet.{Write, write}
use Rattle.packet.specs.declared.Budget.{Budget}
use Rattle.packet.specs.Budgets.{Progress, Open, Stopped, write_one, write_all}
use Rattle.packet.specs.BudgetLaws.{one_stopped, stopped_all}
use Rattle.rules.specs.Chain.{linked, chain_of, pages_for}
use Rattle.rules.specs.Owners.{OwnerRecord}
use Rattle.owners.specs.Owned.{Represents}
use Rattle.owners.specs.Free.{free_from, Next, found, none, NextFree}
use Rattle.owners.specs.FreeLaws.{from_represents}
use Rattle.editing_theorems.specs.Capacity.{capacity_is, capacity_least}
use Rattle.writes.specs.Stores.{HasRoom, store_writes}

-- ---- the pages after the first that bytes need
pages_more : (C n : ℕ) → 0 < C → C < n → (n - 1) / C ≡ suc ((n - C - 1) / C)
pages_more C n z h =
    let e : n - 1 - C ≡ n - C - 1 = omega arith in
    div-eq-sub-div {m = C} {n = n - 1} z (omega arith) ∙ add-one ((n - 1 - C) / C) ∙ ap (λ (k : ℕ). suc (k / C)) e

pages_last : (C n : ℕ) → 0 < C → n ≤ C → (n - 1) / C ≡ 0
pages_last C n z h = div-eq_of_lt {n = n - 1} {m = C} (omega arith)

-- the pages after this one that take the rest
abbrev pub later : Geometry → List ℕ → ℕ → List ℕ → List ℕ
later g used page rest = take ((length rest - 1) / data_capacity g) (free_from used (page + 1) g.pages)

-- before a page is written: what is left of the bytes, from this page on, gives the whole
pub record Storing (g : Geometry) (target : Progress) (table : List OwnerRecord) (rest image : List ℕ) (budget : Budget) (page : ℕ) : Type 0 where
  pub used : List ℕ
  pub represents : Represents table used
  pub below : page < g.pages
  pub enough : (length rest - 1) / data_capacity g ≤ length (free_from used (page + 1) g.pages)
  pub whole : target ≡ write_all g (linked (chain_of (data_capacity g) (page ∷ later g used page rest) rest)) (record { image = image; budget = budget })
  pub open_still : Open budget

-- image and budget when all is stored
abbrev pub stored : Geometry → List ℕ → ℕ → List ℕ → List ℕ → Budget → Progress
stored g used from bytes image budget = write_all g (store_writes g used from bytes) (record { image = image; budget = budget })

-- ---- the first page
pub store_first : (g : Geometry) (image : List ℕ) (table : List OwnerRecord) (bytes : List ℕ) (budget : Budget) (from page : ℕ) → length table ≡ g.pages → HasRoom g table from (length bytes) → Open budget → NextFree table from page
    → (used : List ℕ) → Represents table used → Storing g (stored g used from bytes image budget) table bytes image budget page
unfolding NextFree
store_first g image table bytes budget from page sized room o next used r = go (subst (λ (N : ℕ). Next used from N page) sized (next used r))
  where
    k : ℕ
    k = pages_for (data_capacity g) (length bytes)

    same_free : length (free_from room.used from g.pages) ≡ length (free_from used from g.pages)
    same_free = ap length (from_represents table room.used used from g.pages room.represents r)

    go : Next used from g.pages page → Storing g (stored g used from bytes image budget) table bytes image budget page
    go (none e f) = absurd (omega (arith, room.enough, same_free, ap length f))
    go (found h f) = record {
      used = used;
      represents = r;
      below = h;
      enough = omega (arith, room.enough, same_free, ap length f);
      whole = ap (λ (l : List ℕ). write_all g (linked (chain_of (data_capacity g) (take k l) bytes)) (record { image = image; budget = budget })) f;
      open_still = o;
    }

-- ---- one page
module _ {g : Geometry} {target : Progress} {table : List OwnerRecord} {rest image : List ℕ} {budget : Budget} {page C : ℕ} (c : C ≡ data_capacity g) (v : Valid g) (sized : length table ≡ g.pages)
    (S : Storing g target table rest image budget page) where
  abbrev from : Progress
  from = record { image = image; budget = budget }

  some : 0 < data_capacity g
  some = omega (arith, capacity_least g v)

  -- a packet that is not the last: the next free page is there
  module _ (long : C < length rest) (next : ℕ) (n : NextFree table (page + 1) next) where
    abbrev rest' : List ℕ
    rest' = drop (data_capacity g) rest

    less : length rest' ≡ length rest - data_capacity g
    less = length-drop (data_capacity g) rest

    fewer : (length rest - 1) / data_capacity g ≡ suc ((length rest' - 1) / data_capacity g)
    fewer = pages_more (data_capacity g) (length rest) some (omega arith) ∙ ap (λ (k : ℕ). suc ((k - 1) / data_capacity g)) (sym less)

    -- what next_free tells
    record Ahead : Type 0 where
      pub small : next < g.pages
      pub head : free_from S.used (page + 1) g.pages ≡ next ∷ free_from S.used (next + 1) g.pages

    ahead : Ahead
    unfolding NextFree
    ahead = go (subst (λ (N : ℕ). Next S.used (page + 1) N next) sized (n S.used S.represents))
      where
        go : Next S.used (page + 1) g.pages next → Ahead
        go (none e f) = absurd (omega (arith, S.enough, fewer, ap length f))
        go (found h f) = record { small = h; head = f }

    later_is : later g S.used page rest ≡ next ∷ later g S.used next rest'
    later_is = ap₂ (λ (k : ℕ) (l : List ℕ). take k l) fewer ahead.head

    abbrev ps : List ℕ
    ps = next ∷ later g S.used next rest'

    -- the bytes split, the front written
    module _ (full more after : List ℕ) (left : Budget) (f : full ≡ take C rest) (m : more ≡ drop C rest)
        (w : ◌≡◌ {A = Progress} (record { image = after; budget = left }) (write_one g (write page full next) (record { image = image; budget = budget }))) where
      abbrev page_write : Write
      page_write = write page (take (data_capacity g) rest) next

      after_is : ◌≡◌ {A = Progress} (record { image = after; budget = left }) (write_one g page_write from)
      after_is = w ∙ ap (λ (l : List ℕ). write_one g (write page l next) from) (f ∙ ap (λ (k : ℕ). take k rest) c)

      to_come : target ≡ write_all g (linked (chain_of (data_capacity g) ps rest')) (record { image = after; budget = left })
      unfolding write_all
      to_come =
          S.whole ∙ ap (λ (l : List ℕ). write_all g (linked (chain_of (data_capacity g) (page ∷ l) rest)) from) later_is
          ∙ ap (λ (p : Progress). write_all g (linked (chain_of (data_capacity g) ps rest')) p) (sym after_is)

      -- no write is left: the pages to come are not written
      pub store_stop : left.stopped ≡ true → ◌≡◌ {A = Progress} (record { image = after; budget = left }) target
      store_stop z =
          let q : (write_one g page_write from).budget.stopped ≡ true = ap (λ (x : Progress). x.budget.stopped) (sym after_is) ∙ z in
          let s = subst (λ (x : Progress). Stopped x.budget) (sym after_is) (one_stopped g page_write from S.open_still q) in
          sym (to_come ∙ stopped_all g (linked (chain_of (data_capacity g) ps rest')) (record { image = after; budget = left }) s)

      pub store_on : left.stopped ≡ false → Storing g target table more after left next
      store_on z =
          subst (λ (l : List ℕ). Storing g target table l after left next) (sym (m ∙ ap (λ (k : ℕ). drop k rest) c))
          (record { used = S.used; represents = S.represents; below = ahead.small; enough = omega (arith, S.enough, fewer, ap length ahead.head); whole = to_come; open_still = z })

  -- the last packet
  module _ (fits : length rest ≤ C) where
    later_none : later g S.used page rest ≡ []
    later_none = ap (λ (k : ℕ). take k (free_from S.used (page + 1) g.pages)) (pages_last (data_capacity g) (length rest) some (omega arith))

    pub store_last : (after : Progress) → after ≡ write_one g (write page rest 0) (record { image = image; budget = budget }) → after ≡ target
    unfolding write_all
    store_last after w =
        w ∙ ap (λ (l : List ℕ). write_one g (write page l 0) from) (sym (take_all (data_capacity g) rest (omega arith)))
        ∙ sym (S.whole ∙ ap (λ (l : List ℕ). write_all g (linked (chain_of (data_capacity g) (page ∷ l) rest)) from) later_none)

-- ---- what a packet needs
pub image_fits : (g : Geometry) (image now : List ℕ) → Fit g image → length now ≡ length image → Fit g now
image_fits g image now fit e = record { valid = fit.valid; whole = e ∙ fit.whole }

pub data_room : (g : Geometry) → Valid g → (C k : ℕ) → C ≡ data_capacity g → k ≤ C → k + g.width + 3 ≤ g.size
data_room g v C k e h = omega (arith, capacity_is g, v.least, v.two)

-- ---- the pages that bytes need
pub no_bytes : (capacity n : ℕ) → n ≡ 0 → 1 ≡ pages_for capacity n
no_bytes capacity n e = let z : 0 ≡ n - 1 = omega arith in ap suc (sym (zero-div capacity) ∙ ap (λ (k : ℕ). k / capacity) z)

pub quotient_small : (capacity n : ℕ) → (n - 1) / capacity ≤ n - 1
quotient_small capacity n = div-le_self (n - 1) capacity
