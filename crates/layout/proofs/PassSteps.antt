-- One entry of the pass over a directory: whether it fits the page at hand, what is written for it, and the pages and slots that it takes.
use mathlib.Core.Path.{◌≡◌, refl, ap, ◌∙◌}
use mathlib.Core.Bool.{false}
use mathlib.Core.List.{List, [], ◌∷◌, ◌++◌}
use Prim.Native.Nat.{ℕ, ◌+◌, ◌-◌, ◌≤◌, ◌<◌}
use native.Mathlib.Omega.{arith}
use lib.ListN.{length}
use borrow.Author.Tests.{lt-leb}
use Rattle.geometry.specs.declared.Geometry.{Geometry}
use Rattle.geometry.specs.ChooseLaws.{choose_true, choose_false}
use Rattle.geometry.specs.Geometry.{data_capacity, later_entries}
use Rattle.packet.specs.Packet.{write}
use Rattle.rules.specs.declared.Entry.{Entry}
use Rattle.rules.specs.Chain.{Views, content, linked}
use Rattle.rules.proofs.ChainLaws.{length_chain_of}
use Rattle.rules.specs.Tree.{Label, label_of, width}
use Rattle.rules.proofs.StampLaws.{with_stamps}
use Rattle.rules.proofs.EditLaws.{width_is}
use Rattle.rules.specs.Control.{Parent}
use Rattle.rules.specs.Check.{Part, chain, directory}
use Rattle.rules.specs.Format.{upward}
use Rattle.editing_theorems.specs.NewChains.{length_upward}
use Rattle.gathering.specs.Gather.{Bare, fits_here, further, file_size, below_size, file_chain}
use Rattle.gathering.proofs.GatherLeast.{fits_true}
use Rattle.gathering.proofs.GatherLaid.{BareEntries}
use Rattle.gathering.proofs.GatherOrder.{group_bytes, pass_writes}
use Rattle.listing.specs.KnownTree.{PartAt}
use Rattle.layout.specs.Layout.{new_entry, pages_in, part_writes, part_size, PartFits}
use Rattle.layout.proofs.Remaining.{with_part}

pub fits_false : (r : ℕ) (l : Label) → r < width l → fits_here r l ≡ false
unfolding fits_here
fits_false r l h = lt-leb (width l) r h

module _ (g : Geometry) (ss : List Entry) (e : Entry) where
  abbrev label : Label
  label = with_stamps ss (label_of e)

  pub label_width : width (with_stamps ss (label_of e)) ≡ length ss + 1
  label_width = width_is (with_stamps ss (label_of e)) ∙ omega arith

  -- the entries fit their pages, what it names too
  pub fits_later : (levels : ℕ) (x : Part) (b : Bare) → BareEntries g levels (with_part ss e x b) → length ss + 1 ≤ later_entries g
  fits_later levels (chain ls) b w = omega (arith, label_width, w.2)
  fits_later levels (directory d) b w = omega (arith, label_width, w.2)

  pub fits_after : (levels : ℕ) (x : Part) (b : Bare) → BareEntries g levels (with_part ss e x b) → BareEntries g levels b
  fits_after levels (chain ls) b w = w.4
  fits_after levels (directory d) b w = w.5

  pub fits_part : (levels : ℕ) (x : Part) (b : Bare) → BareEntries g levels (with_part ss e x b) → PartFits g levels x
  fits_part levels (chain ls) b w = tt
  fits_part levels (directory d) b w = w.4

  -- ---- the slots
  pub further_here : (r : ℕ) (x : Part) (b : Bare) → length ss + 1 ≤ r → further g r (with_part ss e x b) ≡ further g (r - (length ss + 1)) b
  further_here r (chain ls) b h = rw (fits_true r label (omega (arith, label_width)), label_width) (omega arith)
  further_here r (directory d) b h = rw (fits_true r label (omega (arith, label_width)), label_width) (omega arith)

  pub further_next : (r : ℕ) (x : Part) (b : Bare) → r < length ss + 1 → further g r (with_part ss e x b) ≡ 1 + further g (later_entries g - (length ss + 1)) b
  further_next r (chain ls) b h = rw (fits_false r label (omega (arith, label_width)), label_width) refl
  further_next r (directory d) b h = rw (fits_false r label (omega (arith, label_width)), label_width) refl

  pub below_part : (x : Part) (b : Bare) → below_size g (with_part ss e x b) ≡ part_size g x + below_size g b
  below_part (chain ls) b = refl
  below_part (directory d) b = omega arith

  -- ---- what is written
  module _ (here : Parent) where
    -- it does not fit: the page is closed, the next one opened
    pub pass_turn : (head : List ℕ) (p r q a : ℕ) (x : Part) (b : Bare) → r < length ss + 1 → length ss + 1 ≤ later_entries g
        → pass_writes g here head p r q a (with_part ss e x b) ≡ write p head q ∷ pass_writes g here [] q (later_entries g) (q + 1) a (with_part ss e x b)
    pass_turn head p r q a (chain ls) b h k =
        let z : q + 1 + 0 ≡ q + 1 = omega arith in
        rw (fits_false r label (omega (arith, label_width)), fits_true (later_entries g) label (omega (arith, label_width)), z) refl
    pass_turn head p r q a (directory d) b h k =
        let z : q + 1 + 0 ≡ q + 1 = omega arith in
        rw (fits_false r label (omega (arith, label_width)), fits_true (later_entries g) label (omega (arith, label_width)), z) refl

    -- it fits: what it names, then the rest with the entry and its stamps on the page
    pub pass_part : (vs : Views) (levels : ℕ) (head : List ℕ) (p r q a : ℕ) (x : Part) (b : Bare) → length ss + 1 ≤ r → PartAt g vs levels e x
        → pass_writes g here head p r q a (with_part ss e x b)
        ≡ part_writes g here e a x ++ pass_writes g here (head ++ group_bytes g.width ss (new_entry e a (a + part_size g x))) p (r - (length ss + 1)) q (a + part_size g x) b
    pass_part vs levels head p r q a (chain ls) b h s =
        let q₀ : q + 0 ≡ q = omega arith in
        let n : length (file_chain g a (content ls)) ≡ pages_in e a (a + file_size g (content ls)) =
        length_chain_of (data_capacity g) (upward a (file_size g (content ls))) (content ls) ∙ length_upward a (file_size g (content ls)) ∙ rw (s.2, choose_false) (omega arith) in
        rw (fits_true r label (omega (arith, label_width)), label_width, q₀) (ap (λ (k : ℕ). linked (file_chain g a (content ls))
        ++ pass_writes g here (head ++ group_bytes g.width ss (record { name = e.name; extension = e.extension; start = a; pages = k })) p (r - (length ss + 1)) q (a + file_size g (content ls)) b) n)
    pass_part vs levels head p r q a (directory d) b h s =
        let q₀ : q + 0 ≡ q = omega arith in
        let n : 0 ≡ pages_in e a (a + part_size g (directory d)) = rw (s.2, choose_true) refl in
        rw (fits_true r label (omega (arith, label_width)), label_width, q₀) (ap (λ (k : ℕ). part_writes g here e a (directory d)
        ++ pass_writes g here (head ++ group_bytes g.width ss (record { name = e.name; extension = e.extension; start = a; pages = k })) p (r - (length ss + 1)) q (a + part_size g (directory d)) b) n)
