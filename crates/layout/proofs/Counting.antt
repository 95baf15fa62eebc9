-- The pages that a directory's entries open, counted entry by entry: those opened so far and those still to come are the whole.
use mathlib.Core.Path.{◌≡◌, ap, sym, subst}
use mathlib.Core.Bool.{false}
use mathlib.Core.List.{List}
use Prim.Native.Nat.{ℕ, ◌+◌, ◌-◌, ◌≤◌, ◌<◌}
use native.Mathlib.Omega.{arith}
use native.Mathlib.Decide.{dec_le}
use Rattle.geometry.specs.declared.Geometry.{Geometry}
use Rattle.geometry.specs.Geometry.{Fit, first_entries, later_entries}
use Rattle.geometry.specs.Number.{Bytes}
use Rattle.packet.specs.Packet.{view_of}
use Rattle.rules.specs.declared.Entry.{Entry}
use Rattle.rules.specs.Chain.{views_of}
use Rattle.rules.specs.Names.{extended}
use Rattle.rules.specs.Tree.{Items, Token, tokens}
use Rattle.directory.specs.declared.entries.Item.{Item}
use Rattle.directory.specs.declared.entries.Item.TheVariants.{Extended}
use Rattle.entries.specs.declared.Slot.{Slot}
use Rattle.entries.specs.EntrySlots.{advanced}
use Rattle.entries.specs.TokensAt.{TokensAt, InDirectory, Begins, IsEntry, IsItemAt, NextEntry, NoEntry}
use Rattle.entries.proofs.ItemLaws.{extended_answer}
use Rattle.gathering.specs.Gather.{Bare, bare, further}
use Rattle.gathering.proofs.GatherLaid.{BareEntries}
use Rattle.listing.specs.KnownTree.{DirectoryAt}
use Rattle.layout.specs.declared.Room.{Room}
use Rattle.layout.specs.Layout.{TakesSlots}
use Rattle.layout.proofs.Remaining.{Left, left_first, left_in, left_few, left_next, left_end, left_stamp, Met, left_plain}
use Rattle.layout.proofs.PassSteps.{fits_later, fits_after, further_here, further_next}

-- `total` pages are opened in all; `fits` is that the entries fit their pages
pub record Counting (g : Geometry) (image : List ℕ) (levels total : ℕ) (fits : Type 0) (s : Slot) (stamps : ℕ) (r : Room) : Type 0 where
  pub to_come : Bare
  pub left : Left g image levels s stamps to_come
  pub sum : r.opened + further g r.left to_come ≡ total
  pub fitting : fits → BareEntries g levels to_come

module _ {g : Geometry} {image : List ℕ} (fit : Fit g image) (bytes : Bytes image) {levels : ℕ} where
  pub count_first : {start : ℕ} {s : Slot} (t : Items) → Begins g (view_of g image) start s → DirectoryAt g (views_of g image) levels start t → (first : ℕ) → first ≡ first_entries g
      → Counting g image levels (further g (first_entries g) (bare t)) (BareEntries g levels (bare t)) s 0 (record { left = first; opened = 0 })
  count_first {start} {s} t b S first e = record {
    to_come = bare t;
    left = left_first g image fit bytes levels start s t b S;
    sum = omega (arith, ap (λ (k : ℕ). further g k (bare t)) e);
    fitting = λ f. f;
  }

  module _ {total : ℕ} {fits : Type 0} {s : Slot} {stamps : ℕ} {r : Room} (C : Counting g image levels total fits s stamps r) where
    pub count_in : InDirectory g (view_of g image) s
    count_in = left_in g image fit bytes levels C.left

    pub count_done : ((ts : List Token) → TokensAt g (view_of g image) s ts → NoEntry ts) → r.opened ≡ total
    count_done n = let e = left_end g image fit bytes levels C.left (n (tokens C.left.rest) C.left.ahead) in omega (arith, C.sum, ap (further g r.left) e)

    pub opened_few : total ≤ g.pages → r.opened < 65536
    opened_few h = omega (arith, C.sum, fit.valid.few)

    module _ {at : Slot} (n : NextEntry g (view_of g image) s at) where
      abbrev here : Left g image levels at stamps C.to_come
      here = left_next g image fit bytes levels C.left n

      pub few_stamps : stamps < 256
      few_stamps = left_few g image fit bytes levels here n.under

      -- the next entry is a stamp
      pub count_stamp : (x : Item) → IsItemAt g (view_of g image) at x → x ≡ Extended → (s' : Slot) → s' ≡ advanced at → Counting g image levels total fits s' (stamps + 1) r
      count_stamp x i e s' y =
          let z = extended_answer g (view_of g image) at x i e (tokens here.rest) here.ahead in
          subst (λ (w : Slot). Counting g image levels total fits w (stamps + 1) r) (sym y) (record {
            to_come = C.to_come;
            left = left_stamp g image fit bytes levels here n.under z.at z.is_extended;
            sum = C.sum;
            fitting = C.fitting;
          })

      -- it is an entry of its own
      module _ {e : Entry} (i : IsEntry g (view_of g image) at e) (is_plain : extended e ≡ false) where
        met : Met g image fit bytes levels here n.under (i (tokens here.rest) here.ahead)
        met = left_plain g image fit bytes levels here n.under (i (tokens here.rest) here.ahead) is_plain

        pub slots_fit : fits → stamps + 1 ≤ later_entries g
        slots_fit f = omega (arith, here.number, fits_later g here.passed e levels met.part met.after (subst (BareEntries g levels) met.made_of (C.fitting f)))

        pub count_entry : (r' : Room) (later : ℕ) → later ≡ later_entries g → TakesSlots later r (stamps + 1) r' → (s' : Slot) → s' ≡ advanced at → Counting g image levels total fits s' 0 r'
        count_entry r' later l T s' y = subst (λ (w : Slot). Counting g image levels total fits w 0 r') (sym y) (record {
          to_come = met.after;
          left = met.left;
          sum = elim (dec_le (stamps + 1) r.left) [
            | yes h ↦ omega (
              arith,
              C.sum,
              ap (λ (x : Room). x.opened) (T.here h),
              ap (λ (x : Room). further g x.left met.after) (T.here h),
              ap (further g r.left) met.made_of,
              further_here g here.passed e r.left met.part met.after (omega (arith, here.number)),
              ap (λ (k : ℕ). further g (r.left - (k + 1)) met.after) here.number,
            )
            | no h ↦ omega (
              arith,
              C.sum,
              ap (λ (x : Room). x.opened) (T.next (omega arith)),
              ap (λ (x : Room). further g x.left met.after) (T.next (omega arith)),
              ap (further g r.left) met.made_of,
              further_next g here.passed e r.left met.part met.after (omega (arith, here.number)),
              ap (λ (k : ℕ). further g (later_entries g - (k + 1)) met.after) here.number,
              ap (λ (k : ℕ). further g (k - (stamps + 1)) met.after) l,
            )
          ];
          fitting = λ f. fits_after g here.passed e levels met.part met.after (subst (BareEntries g levels) met.made_of (C.fitting f));
        })
