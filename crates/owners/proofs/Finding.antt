-- The owner table searched page by page: what is known of a page, the first free page, and room among the lowest free pages.
use mathlib.Core.Path.{◌≡◌, refl, ap, sym, ◌∙◌}
use mathlib.Core.Bool.{Bool, true, false, not}
use mathlib.Core.List.{List}
use Prim.Native.Nat.{ℕ, zero, suc, ◌+◌, ◌-◌, ◌≤◌, ◌<◌}
use native.Mathlib.Decide.{dec_lt}
use native.Mathlib.Omega.{arith}
use native.Mathlib.Numerals.{add-one}
use lib.Dec.{eqb, ltb}
use lib.ListN.{length, take, length-append}
use lib.Seq.{take_at}
use borrow.Author.Tests.{eq-eqb, ne_eqb, lt-ltb}
use mir.Val.{bool_byte}
use Rattle.geometry.specs.ChooseLaws.{choose_true, choose_false}
use Rattle.rules.specs.PageSets.{count, free_pages}
use Rattle.rules.proofs.PageSetLaws.{mem_true, mem_false}
use Rattle.rules.specs.Owners.{OwnerRecord}
use Rattle.owners.specs.Owned.{owner_at, is_owned, nonzero, Represents, page_bit}
use Rattle.owners.specs.OwnerLaws.{nonzero_pos, owner_past, free_represents, has_owner, no_owner}
use Rattle.owners.specs.BitLaws.{bit_below, bit_from, bit_le}
use Rattle.owners.specs.Free.{free_from, found, none, NextFree, Rooms}
use Rattle.owners.specs.FreeLaws.{from_past, from_used, from_free, from_split}
use Rattle.std.specs.Prelude.{Option, Some, None, MatchOption}
use Rattle.std.specs.Option.{unwrap_or}

-- ---- whether a page has an owner
pub owned_in : (table : List OwnerRecord) (p m : ℕ) → m ≡ owner_at table p → not (eqb m 0) ≡ is_owned table p
unfolding is_owned
owned_in table p m e = ap (λ (x : ℕ). not (eqb x 0)) e

pub owned_past : (table : List OwnerRecord) (p : ℕ) → length table ≤ p → false ≡ is_owned table p
unfolding is_owned
owned_past table p h = simp (is_owned, eq-eqb (owner_at table p) 0 (owner_past table p h))

-- its bit: 1 below the bound, else whether it has an owner
owned_bit : (n : ℕ) → bool_byte (not (eqb n 0)) ≡ nonzero n
owned_bit zero = refl
owned_bit (suc n) = ap (λ (t : Bool). bool_byte (not t)) (ne_eqb (suc n) 0 (λ q. omega (arith, q)))

module _ (table : List OwnerRecord) (below p b : ℕ) (f : Bool) (e : b ≡ bool_byte f) where
  pub bit_low : p < below → f ≡ ltb p below → (b ≡ page_bit table below p) × (b ≤ 1)
  bit_low h k = let q : b ≡ 1 = e ∙ ap bool_byte (k ∙ lt-ltb p below h) in (q ∙ sym (bit_below table below p h), omega arith)

  pub bit_here : below ≤ p → f ≡ is_owned table p → (b ≡ page_bit table below p) × (b ≤ 1)
  unfolding is_owned
  bit_here h k = let q : b ≡ page_bit table below p = e ∙ ap bool_byte k ∙ owned_bit (owner_at table p) ∙ sym (bit_from table below p h) in (q, omega (arith, bit_le table below p))

-- a page with an owner is in use
in_use_lem : (table : List OwnerRecord) (used : List ℕ) (p : ℕ) → Represents table used → 0 < owner_at table p → 1 ≤ count p used
in_use_lem table used p r z = omega (arith, r p, nonzero_pos (owner_at table p) z)

-- ---- the pages from a page on up to another are in use
past_owned : (table : List OwnerRecord) (used : List ℕ) → Represents table used → (n from : ℕ) → from + n ≤ length table
    → ((k : ℕ) → from ≤ k → k < from + n → true ≡ is_owned table k) → free_from used from (length table) ≡ free_from used (from + n) (length table)
past_owned table used r zero from h o = let e : from ≡ from + 0 = omega arith in ap (λ (k : ℕ). free_from used k (length table)) e
past_owned table used r (suc n) from h o =
    let e : from + 1 + n ≡ from + suc n = omega arith in
    from_used used from (length table) (omega arith) (in_use_lem table used from r (has_owner table from true (o from (omega arith) (omega arith)) refl))
    ∙ past_owned table used r n (from + 1) (omega arith) (λ k i j. o k (omega arith) (omega arith)) ∙ ap (λ (k : ℕ). free_from used k (length table)) e

-- what a search up to N finds
abbrev pub Found : List OwnerRecord → ℕ → ℕ → Option ℕ → Type 0
Found table from N r =
    MatchOption r ((k : ℕ) → from ≤ k → k < N → true ≡ is_owned table k)
    (λ i. (from ≤ i) × (i < N) × (false ≡ is_owned table i) × ((k : ℕ) → from ≤ k → k < i → true ≡ is_owned table k))

next_found : (table : List OwnerRecord) (from : ℕ) (r : Option ℕ) → Found table from (length table) r → NextFree table from (unwrap_or r (length table))
unfolding NextFree
next_found table from None o used r = elim (dec_lt from (length table)) [
  | yes h ↦ none refl (past_owned table used r (length table - from) from (omega arith) (λ k i j. o k i (omega arith)) ∙ from_past used (from + (length table - from)) (length table) (omega arith))
  | no h ↦ none refl (from_past used from (length table) (omega arith))
]
next_found table from (Some i) (a, b, c, o) used r =
    let d : from + (i - from) ≡ i = omega arith in
    found b (past_owned table used r (i - from) from (omega arith) (λ k j l. o k j (omega arith)) ∙ ap (λ (k : ℕ). free_from used k (length table)) d
    ∙ from_free used i (length table) b (free_represents table used i r (no_owner table i false c refl)))

pub next_is : (table : List OwnerRecord) (from N q : ℕ) (r : Option ℕ) → N ≡ length table → q ≡ unwrap_or r N → Found table from N r → NextFree table from q
next_is table from N q r e k f = rw (k, e) (next_found table from r (rw e at f))

-- ---- of the pages looked for, so many are still to be found from this page on
unfoldable pub Counted : List OwnerRecord → ℕ → ℕ → ℕ → Type 0
Counted table need left page = (used : List ℕ) → Represents table used → left + length (free_pages used page) ≡ need

free_more : (used : List ℕ) (page : ℕ) → count page used ≡ 0 → length (free_pages used (page + 1)) ≡ length (free_pages used page) + 1
unfolding free_pages
free_more used page z = rw (add-one page, mem_false page used z, choose_false, length-append) refl

free_same : (used : List ℕ) (page : ℕ) → 1 ≤ count page used → length (free_pages used (page + 1)) ≡ length (free_pages used page)
unfolding free_pages
free_same used page z = rw (add-one page, mem_true page used z, choose_true, length-append) (omega arith)

module _ (table : List OwnerRecord) (need : ℕ) where
  pub count_first : Counted table need need 0
  unfolding Counted free_pages
  count_first used r = omega arith

  pub count_free : (left page m : ℕ) (b : Bool) → Counted table need left page → 0 < left → b ≡ is_owned table page → b ≡ false → m ≡ left - 1 → Counted table need m (page + 1)
  unfolding Counted
  count_free left page m b s some e z k used r = omega (arith, s used r, free_more used page (free_represents table used page r (no_owner table page b e z)))

  pub count_used : (left page m : ℕ) (b : Bool) → Counted table need left page → b ≡ is_owned table page → b ≡ true → m ≡ left → Counted table need m (page + 1)
  unfolding Counted
  count_used left page m b s e z k used r = omega (arith, s used r, free_same used page (in_use_lem table used page r (has_owner table page b e z)))

  pub too_few : (left page : ℕ) → Counted table need left page → 0 < left → page ≡ length table → Rooms table need None
  unfolding Counted Rooms
  too_few left page s some e used r = omega (arith, s used r, ap (λ (n : ℕ). length (free_pages used n)) e)

  pub enough : (left page : ℕ) → Counted table need left page → left ≡ 0 → page ≤ length table → Rooms table need (Some page)
  unfolding Counted Rooms
  enough left page s z h used r =
      let n : length (free_pages used page) ≡ need = omega (arith, s used r) in
      let e = from_split used page (length table) h in
      record {
        inside = h;
        enough = omega (arith, n, ap length e, length-append (free_pages used page) (free_from used page (length table)));
        lowest = sym (ap (take need) (sym e) ∙ take_at (free_pages used page) (free_from used page (length table)) need n);
      }
