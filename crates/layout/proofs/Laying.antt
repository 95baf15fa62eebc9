-- A directory laid entry by entry: what is still to be written gives the whole.
use mathlib.Core.Path.{◌≡◌, refl, ap, ap₂, sym, ◌∙◌, subst}
use mathlib.Core.Bool.{false}
use mathlib.Core.List.{List, [], ◌∷◌, ◌++◌, append-nil, append_assoc}
use Prim.Native.Nat.{ℕ, ◌+◌, ◌-◌, ◌*◌, ◌≤◌, ◌<◌}
use native.Mathlib.Nat.{mul-zero, mul_comm, add-mul}
use native.Mathlib.Omega.{arith}
use lib.ListN.{length, take, length-append}
use Rattle.geometry.specs.declared.Geometry.{Geometry}
use Rattle.geometry.specs.Geometry.{Fit, entry_size, control_size, first_entries, later_entries}
use Rattle.geometry.specs.Number.{Bytes}
use Rattle.geometry.specs.Page.{overwritten}
use Rattle.packet.specs.Packet.{view_of, Write, write, write_page, after_writes}
use Rattle.rules.specs.declared.Entry.{Entry}
use Rattle.rules.specs.Chain.{views_of}
use Rattle.rules.specs.Names.{extended, entry_bytes}
use Rattle.rules.specs.Tree.{Items, Token, tokens}
use Rattle.rules.specs.Control.{Parent}
use Rattle.directory.specs.declared.entries.Item.{Item}
use Rattle.directory.specs.declared.entries.Item.TheVariants.{Extended}
use Rattle.reading_theorems.specs.EntryLaws.{length_entry}
use Rattle.editing_theorems.specs.Capacity.{capacity_is, holds_first, holds_later}
use Rattle.editing_theorems.specs.AfterWrites.{after_writes_append}
use Rattle.entries.specs.declared.Slot.{Slot}
use Rattle.entries.specs.EntrySlots.{Fits, advanced}
use Rattle.entries.specs.TokensAt.{TokensAt, InDirectory, Begins, IsEntry, IsItemAt, NextEntry, NoEntry}
use Rattle.entries.proofs.ItemLaws.{extended_answer}
use Rattle.gathering.specs.Gather.{Bare, bare, further, below_size}
use Rattle.gathering.proofs.GatherLaid.{BareEntries}
use Rattle.gathering.proofs.GatherOrder.{group_bytes, pass_writes}
use Rattle.listing.specs.KnownTree.{DirectoryAt}
use Rattle.runs.proofs.TakeLaws.{length_over, front_over}
use Rattle.layout.specs.declared.Laid.{Laid}
use Rattle.layout.specs.Layout.{left_to_write, Holding, Turned, stays, turns, new_entry, bytes_behind, Added, part_writes, part_size, KnownPart, LaysPart}
use Rattle.layout.proofs.Remaining.{with_part, row_bytes, Left, left_first, left_in, left_few, left_next, left_end, left_stamp, Met, left_plain}
use Rattle.layout.proofs.PassSteps.{fits_later, fits_after, fits_part, further_here, further_next, below_part, pass_turn, pass_part}
use Rattle.layout.proofs.AddedEntries.{entry_end}

-- ---- stamps in a row, then their entry
length_row : (g : Geometry) (ss : List Entry) → length (row_bytes g.width ss) ≡ entry_size g * length ss
length_row g [] = sym (mul-zero (entry_size g))
length_row g (s ∷ ss) = omega (arith, length-append (entry_bytes g.width s) (row_bytes g.width ss), length_entry g s, length_row g ss)

group_row : (n : ℕ) (ss : List Entry) (e : Entry) → group_bytes n ss e ≡ row_bytes n ss ++ entry_bytes n e
group_row n [] e = append-nil (entry_bytes n e)
group_row n (s ∷ ss) e = ap (λ (bs : List ℕ). entry_bytes n s ++ bs) (group_row n ss e) ∙ sym (append_assoc (entry_bytes n s) (row_bytes n ss) (entry_bytes n e))

-- ---- `target` is the image when all is laid, `last` the page after the last; `tight` is that there is room and that the entries fit their pages
pub record Laying (g : Geometry) (image : List ℕ) (levels : ℕ) (here : Parent) (target : List ℕ) (last : ℕ) (tight : Type 0) (second buffer : List ℕ) (w : Laid) (s : Slot) (stamps : ℕ) : Type 0 where
  pub to_come : Bare
  pub left : Left g image levels s stamps to_come
  pub lays : after_writes g (left_to_write g here buffer w to_come) second ≡ target
  pub ends : w.chain + below_size g to_come ≡ last
  pub inner : tight → w.further + further g w.left to_come ≤ w.chain
  pub fitting : tight → BareEntries g levels to_come

module _ {g : Geometry} {image : List ℕ} (fit : Fit g image) (bytes : Bytes image) {levels : ℕ} (here : Parent) where
  -- the first page, with the control field in the buffer
  pub lay_first : {start : ℕ} {s : Slot} (t : Items) → Begins g (view_of g image) start s → DirectoryAt g (views_of g image) levels start t
      → (head second buffer : List ℕ) (p q a first : ℕ) → take (length head) buffer ≡ head → first ≡ first_entries g
      → Laying g image levels here (after_writes g (pass_writes g here head p (first_entries g) q a (bare t)) second) (a + below_size g (bare t)) (BareEntries g levels (bare t) × (q + further g (first_entries g) (bare t) ≤ a)) second buffer
      (record { page = p; held = length head; left = first; further = q; chain = a }) s 0
  lay_first {start} {s} t b S head second buffer p q a first h k = record {
    to_come = bare t;
    left = left_first g image fit bytes levels start s t b S;
    lays = ap₂ (λ (l : List ℕ) (r : ℕ). after_writes g (pass_writes g here l p r q a (bare t)) second) h k;
    ends = refl;
    inner = λ z. omega (arith, z.1, ap (λ (r : ℕ). further g r (bare t)) k);
    fitting = λ z. z.0;
  }

  module _ {target : List ℕ} {last : ℕ} {tight : Type 0} {second buffer : List ℕ} {w : Laid} {s : Slot} {stamps : ℕ} (A : Laying g image levels here target last tight second buffer w s stamps) where
    open A use {to_come, left, lays, ends, inner, fitting}

    pub lay_in : InDirectory g (view_of g image) s
    lay_in = left_in g image fit bytes levels left

    pub further_low : tight → last ≤ g.pages → w.further < 65536
    further_low z h = omega (arith, inner z, ends, fit.valid.few)

    -- no entry is ahead: the last page is written
    pub lay_done : ((ts : List Token) → TokensAt g (view_of g image) s ts → NoEntry ts) → (after : List ℕ) → after ≡ write_page g (write w.page (take w.held buffer) 0) second → (after ≡ target) × (w.chain ≡ last)
    unfolding after_writes
    lay_done n after y =
        let e = left_end g image fit bytes levels left (n (tokens left.rest) left.ahead) in
        (y ∙ ap (λ (c : Bare). after_writes g (left_to_write g here buffer w c) second) (sym e) ∙ lays, omega (arith, ends, ap (below_size g) e))

    module _ {at : Slot} (n : NextEntry g (view_of g image) s at) where
      abbrev next : Left g image levels at stamps to_come
      next = left_next g image fit bytes levels left n

      pub few_stamps : stamps < 256
      few_stamps = left_few g image fit bytes levels next n.under

      pub stamps_inside : Fits g at × (stamps ≤ at.at) × (at.at < at.count)
      stamps_inside = (next.ahead.at_slot.fits, next.inside, n.under)

      -- the next entry is a stamp
      pub lay_stamp : (x : Item) → IsItemAt g (view_of g image) at x → x ≡ Extended → (s' : Slot) → s' ≡ advanced at → Laying g image levels here target last tight second buffer w s' (stamps + 1)
      lay_stamp x i e s' y =
          let z = extended_answer g (view_of g image) at x i e (tokens next.rest) next.ahead in
          subst (λ (u : Slot). Laying g image levels here target last tight second buffer w u (stamps + 1)) (sym y) (record {
            to_come = to_come;
            left = left_stamp g image fit bytes levels next n.under z.at z.is_extended;
            lays = lays;
            ends = ends;
            inner = inner;
            fitting = fitting;
          })

      -- it is an entry of its own
      module _ {e : Entry} (i : IsEntry g (view_of g image) at e) (is_plain : extended e ≡ false) where
        met : Met g image fit bytes levels next n.under (i (tokens next.rest) next.ahead)
        met = left_plain g image fit bytes levels next n.under (i (tokens next.rest) next.ahead) is_plain

        -- the stamps that wait for it
        abbrev ss : List Entry
        ss = next.passed

        fits_all : tight → BareEntries g levels (with_part ss e met.part met.after)
        fits_all z = subst (BareEntries g levels) met.made_of (fitting z)

        pub slots_fit : tight → stamps + 1 ≤ later_entries g
        slots_fit z = omega (arith, next.number, fits_later g ss e levels met.part met.after (fits_all z))

        -- what it names stands and has room
        pub known_part : tight → last ≤ g.pages → KnownPart g (views_of g image) levels e w.chain
        known_part z h = record {
          part = met.part;
          stands = met.stands;
          fitting = fits_part g ss e levels met.part met.after (fits_all z);
          room = omega (arith, ends, ap (below_size g) met.made_of, below_part g ss e met.part met.after);
        }

        -- ---- the page closed if the entry does not fit
        module _ (wide : stamps + 1 ≤ later_entries g) where
          turned_on : w.left < stamps + 1 → (1 + further g (later_entries g) to_come ≡ further g w.left to_come)
          turned_on h = ap (λ (b : Bare). 1 + further g (later_entries g) b) met.made_of
              ∙ ap (λ (k : ℕ). 1 + k) (further_here g ss e (later_entries g) met.part met.after (omega (arith, next.number)))
              ∙ sym (further_next g ss e w.left met.part met.after (omega (arith, next.number))) ∙ ap (further g w.left) (sym met.made_of)

          pub after_turn : (w' : Laid) (second' : List ℕ) → Turned g buffer w (stamps + 1) second w' second' → Laying g image levels here target last tight second' buffer w' s stamps
          unfolding after_writes
          after_turn w' second' (stays h x y) = subst (λ (u : Laid). Laying g image levels here target last tight second' buffer u s stamps) (sym x)
              (subst (λ (l : List ℕ). Laying g image levels here target last tight l buffer w s stamps) (sym y) A)
          after_turn w' second' (turns h x y) =
              let w'' : Laid = record { page = w.further; held = 0; left = later_entries g; further = w.further + 1; chain = w.chain } in
              let f : left_to_write g here buffer w to_come ≡ write w.page (take w.held buffer) w.further ∷ left_to_write g here buffer w'' to_come =
              ap (left_to_write g here buffer w) met.made_of
              ∙ pass_turn g ss e here (take w.held buffer) w.page w.left w.further w.chain met.part met.after (omega (arith, next.number)) (omega (arith, next.number))
              ∙ ap (λ (c : Bare). write w.page (take w.held buffer) w.further ∷ left_to_write g here buffer w'' c) (sym met.made_of) in
              subst (λ (u : Laid). Laying g image levels here target last tight second' buffer u s stamps) (sym x) (record {
                to_come = to_come;
                left = left;
                lays = ap (after_writes g (left_to_write g here buffer w'' to_come)) y ∙ ap (λ (ws : List Write). after_writes g ws second) (sym f) ∙ lays;
                ends = ends;
                inner = λ z. omega (arith, inner z, turned_on h);
                fitting = fitting;
              })

          pub turn_some : (w' : Laid) (second' : List ℕ) → Turned g buffer w (stamps + 1) second w' second' → stamps < w'.left
          turn_some w' second' (stays h x y) = omega (arith, h, ap (λ (u : Laid). u.left) x)
          turn_some w' second' (turns h x y) = omega (arith, wide, ap (λ (u : Laid). u.left) x)

          pub turn_holds : tight → last ≤ g.pages → Holding g buffer w → (w' : Laid) (second' : List ℕ) → Turned g buffer w (stamps + 1) second w' second' → Holding g buffer w'
          turn_holds z h o w' second' (stays k x y) = subst (Holding g buffer) (sym x) o
          turn_holds z h o w' second' (turns k x y) = subst (Holding g buffer) (sym x) (record {
            long = o.long;
            room = λ j m. holds_later g fit.valid j m;
            most = o.most;
            order = omega arith;
            below = omega (arith, inner z, ends, turned_on k);
          })

        -- ---- the entry laid and added
        module _ (some : stamps < w.left) (second' : List ℕ) (after : ℕ) (L : LaysPart g (views_of g image) levels here e w.chain second second' after) where
          laid : (second' ≡ after_writes g (part_writes g here e w.chain met.part) second) × (after ≡ w.chain + part_size g met.part)
          laid = L met.part met.stands

          pub chain_grows : w.chain ≤ after
          chain_grows = omega (arith, laid.1)

          module _ (o : Holding g buffer w) (buffer' : List ℕ) (w' : Laid) (D : Added g image buffer w at stamps e after buffer' w') where
            abbrev E : ℕ
            E = entry_size g

            abbrev eb : List ℕ
            eb = entry_bytes g.width (new_entry e w.chain after)

            abbrev row : List ℕ
            row = bytes_behind g image at stamps

            -- the buffer with the stamps
            abbrev with_stamps_lem : List ℕ
            with_stamps_lem = overwritten w.held row buffer

            row_size : length row ≡ E * stamps
            row_size = ap length next.behind ∙ length_row g ss ∙ ap (λ (k : ℕ). E * k) next.number

            fill : w.held + E * stamps + length eb ≤ 252
            fill = omega (arith, entry_end g buffer w stamps o some, length_entry g (new_entry e w.chain after))

            stamps_long : length with_stamps_lem ≡ 256
            stamps_long = length_over w.held row buffer (omega (arith, row_size, fill, o.long)) ∙ o.long

            pub add_holds : Holding g buffer' w'
            add_holds = subst (Holding g buffer') (sym D.now) (record {
              long = ap length D.put ∙ length_over (w.held + E * stamps) eb with_stamps_lem (omega (arith, fill, stamps_long)) ∙ stamps_long;
              room = λ j m. omega (arith, o.room (j + (stamps + 1)) (omega arith), add-mul j (stamps + 1) E, add-mul stamps 1 E, mul_comm stamps E);
              most = o.most;
              order = o.order;
              below = o.below;
            })

            head_is : take (w.held + E * stamps + E) buffer' ≡ take w.held buffer ++ group_bytes g.width ss (new_entry e w.chain after)
            head_is =
                let n : w.held + E * stamps + E ≡ w.held + E * stamps + length eb = omega (arith, length_entry g (new_entry e w.chain after)) in
                let m : w.held + E * stamps ≡ w.held + length row = omega (arith, row_size) in
                ap₂ take n D.put ∙ front_over (w.held + E * stamps) eb with_stamps_lem (omega (arith, fill, stamps_long))
                ∙ ap (λ (l : List ℕ). l ++ eb) (ap (λ (k : ℕ). take k with_stamps_lem) m ∙ front_over w.held row buffer (omega (arith, fill, o.long)))
                ∙ append_assoc (take w.held buffer) row eb
                ∙ ap (λ (l : List ℕ). take w.held buffer ++ l) (ap (λ (l : List ℕ). l ++ eb) next.behind ∙ sym (group_row g.width ss (new_entry e w.chain after)))

            pub after_entry : (s' : Slot) → s' ≡ advanced at → Laying g image levels here target last tight second' buffer' w' s' 0
            after_entry s' y =
                let x = met.part in
                let b = met.after in
                let a' = laid.1 in
                let k : length ss + 1 ≡ stamps + 1 = ap (λ (m : ℕ). m + 1) next.number in
                let w'' : Laid = record { page = w.page; held = w.held + E * stamps + E; left = w.left - (stamps + 1); further = w.further; chain = after } in
                let f : left_to_write g here buffer w to_come ≡ part_writes g here e w.chain x ++ left_to_write g here buffer' w'' b =
                ap (left_to_write g here buffer w) met.made_of
                ∙ pass_part g ss e here (views_of g image) levels (take w.held buffer) w.page w.left w.further w.chain x b (omega (arith, k)) met.stands
                ∙ ap₂ (λ (m j : ℕ). part_writes g here e w.chain x ++ pass_writes g here (take w.held buffer ++ group_bytes g.width ss (new_entry e w.chain m)) w.page (w.left - j) w.further m b) (sym a') k
                ∙ ap (λ (l : List ℕ). part_writes g here e w.chain x ++ pass_writes g here l w.page (w.left - (stamps + 1)) w.further after b) (sym head_is) in
                subst (λ (u : Slot). Laying g image levels here target last tight second' buffer' w' u 0) (sym y)
                (subst (λ (u : Laid). Laying g image levels here target last tight second' buffer' u (advanced at) 0) (sym D.now) (record {
                  to_come = b;
                  left = met.left;
                  lays = ap (after_writes g (left_to_write g here buffer' w'' b)) laid.0 ∙ sym (after_writes_append g (part_writes g here e w.chain x) (left_to_write g here buffer' w'' b) second)
                      ∙ ap (λ (ws : List Write). after_writes g ws second) (sym f) ∙ lays;
                  ends = omega (arith, ends, a', ap (below_size g) met.made_of, below_part g ss e x b);
                  inner = λ z. omega (
                    arith,
                    inner z,
                    a',
                    ap (further g w.left) met.made_of,
                    further_here g ss e w.left x b (omega (arith, k)),
                    ap (λ (j : ℕ). further g (w.left - j) b) k,
                  );
                  fitting = λ z. fits_after g ss e levels x b (fits_all z);
                }))

-- ---- the first page in the buffer
pub first_holds : {g : Geometry} {image : List ℕ} → Fit g image → (head buffer : List ℕ) (p q a first : ℕ) → length buffer ≡ 256 → length head ≡ control_size g → p < q → p < g.pages → first ≡ first_entries g
    → Holding g buffer (record { page = p; held = length head; left = first; further = q; chain = a })
first_holds {g} fit head buffer p q a first l h o b k = record {
  long = l;
  room = λ j m. omega (arith, h, holds_first g fit.valid j (omega (arith, k)));
  most = omega (arith, capacity_is g, fit.valid.most, fit.valid.one);
  order = o;
  below = b;
}

pub field_front : (head buffer b : List ℕ) → b ≡ overwritten 0 head buffer → take (length head) b ≡ head
field_front head buffer b e =
    let z : length head ≡ 0 + length head = omega arith in
    ap (λ (k : ℕ). take k b) z ∙ ap (take (0 + length head)) e ∙ front_over 0 head buffer (omega arith)

pub field_long : (head buffer b : List ℕ) → length buffer ≡ 256 → length head ≤ 256 → b ≡ overwritten 0 head buffer → length b ≡ 256
field_long head buffer b l h e = ap length e ∙ length_over 0 head buffer (omega arith) ∙ l

pub fit_same : (g : Geometry) (a b : List ℕ) → Fit g a → length b ≡ length a → Fit g b
fit_same g a b f e = record { valid = f.valid; whole = e ∙ f.whole }
