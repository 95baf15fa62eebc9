-- Free pages found for an edit: the first joins the directory if one must, the chain has those after it.
use mathlib.Core.Path.{◌≡◌, refl, ap, sym, ◌∙◌, subst}
use mathlib.Core.List.{List, ◌∷◌}
use Prim.Native.Nat.{ℕ, ◌+◌, ◌≤◌, ◌<◌}
use native.Mathlib.Omega.{arith}
use lib.ListN.{length, drop}
use Rattle.rules.specs.PageSets.{count, free_pages}
use Rattle.rules.proofs.PageSetLaws.{hit_same}
use Rattle.rules.specs.Owners.{OwnerRecord}
use Rattle.owners.specs.Owned.{Represents}
use Rattle.owners.specs.OwnerLaws.{taken, represents_taken}
use Rattle.owners.specs.Free.{free_from, Next, found, none, NextFree, RoomBelow, RoomIs, Rooms}
use Rattle.owners.specs.FreeLaws.{from_free, from_unused, from_all}
use Rattle.std.specs.Prelude.{Option, Some, None}
use Rattle.edit.specs.Pages.{Takes}

-- the next free page, where there is one
record Ahead (used : List ℕ) (k N r : ℕ) : Type 0 where
  pub below : r < N
  pub head : free_from used k N ≡ r ∷ free_from used (r + 1) N
  pub from : free_from used r N ≡ r ∷ free_from used (r + 1) N

ahead : (used : List ℕ) (k N r : ℕ) → Next used k N r → 1 ≤ length (free_from used k N) → Ahead used k N r
ahead used k N r (found h e) n = record { below = h; head = e; from = from_free used r N h (from_unused used r k N (omega (arith, ap (count r) e, hit_same r))) }
ahead used k N r (none h e) n = absurd (omega (arith, ap length e))

module _ (table : List OwnerRecord) (extra pages : ℕ) (some : 1 ≤ pages) (r : Option ℕ) (R : Rooms table (extra + pages) r) where
  pub too_few : r ≡ None → Takes table extra pages None
  unfolding Rooms Takes
  too_few e used h = subst (RoomIs used (length table) (extra + pages)) e (R used h)

  module _ (below : ℕ) (m : r ≡ Some below) (first : ℕ) (F : NextFree table 0 first) where
    module _ (used : List ℕ) (h : Represents table used) where
      abbrev N : ℕ
      N = length table

      enough : RoomBelow used N (extra + pages) below
      unfolding Rooms
      enough = subst (RoomIs used (length table) (extra + pages)) m (R used h)

      lowest : Ahead used 0 N first
      unfolding NextFree
      lowest = ahead used 0 N first (F used h) (omega (arith, enough.enough, ap length (from_all used N)))

      all : free_pages used N ≡ first ∷ free_from used (first + 1) N
      all = sym (from_all used N) ∙ lowest.head

    -- the first is a page of the table
    pub first_inside : first < length table
    first_inside = (lowest (taken table) (represents_taken table)).below

    pub none_joins : extra ≡ 0 → Takes table extra pages (Some (record { joins = 0; start = first; below = below }))
    unfolding Takes
    none_joins z used h =
        let l = lowest used h in
        let e = enough used h in
        record {
          enough = e.enough;
          inside = e.inside;
          lowest = e.lowest;
          joins_none = λ _. refl;
          joins_is = λ q. absurd (omega arith);
          rest = ap (λ (n : ℕ). drop n (free_pages used (length table))) z ∙ all used h ∙ sym l.from;
          starts = l.from;
        }

    pub one_joins : extra ≡ 1 → (start : ℕ) → NextFree table (first + 1) start → Takes table extra pages (Some (record { joins = first; start = start; below = below }))
    unfolding Takes NextFree
    one_joins z start S used h =
        let e = enough used h in
        let a = all used h in
        let l = ahead used (first + 1) (length table) start (S used h) (omega (arith, e.enough, ap length a)) in
        record {
          enough = e.enough;
          inside = e.inside;
          lowest = e.lowest;
          joins_none = λ q. absurd (omega arith);
          joins_is = λ _. a;
          rest = ap (λ (n : ℕ). drop n (free_pages used (length table))) z ∙ ap (drop 1) a ∙ l.head ∙ sym l.from;
          starts = l.from;
        }
