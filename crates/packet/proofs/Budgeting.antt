-- One page write within a budget: a law for each way out.
use mathlib.Core.Path.{◌≡◌, ap, sym, ◌∙◌}
use mathlib.Core.Bool.{Bool, true, false}
use mathlib.Core.List.{List}
use Prim.Native.Nat.{ℕ, ◌-◌}
use borrow.Author.Tests.{eq-eqb, ne_eqb}
use Rattle.geometry.specs.declared.Geometry.{Geometry}
use Rattle.geometry.specs.Choose.{choose}
use Rattle.geometry.specs.ChooseLaws.{choose_true, choose_false}
use Rattle.geometry.specs.Page.{page_of}
use Rattle.packet.specs.declared.Budget.{Budget}
use Rattle.packet.specs.Packet.{packet_of, write, write_page, is_packet_of, view_of, unchanged}
use Rattle.packet.specs.Budgets.{Progress, spend, write_one}

module _ (g : Geometry) (p : ℕ) (b : List ℕ) (n : ℕ) (image : List ℕ) (budget : Budget) where
  abbrev before : Progress
  before = record { image = image; budget = budget }

  abbrev after : Progress
  after = write_one g (write p b n) (record { image = image; budget = budget })

  -- without a limit
  pub one_unlimited : budget.limited ≡ false → (now : List ℕ) → now ≡ write_page g (write p b n) image → ◌≡◌ {A = Progress} (record { image = now; budget = budget }) after
  unfolding write_one
  one_unlimited l now w =
      ap (λ (i : List ℕ). record { image = i; budget = budget }) w
      ∙ sym (ap (λ (t : Bool). choose t (choose (unchanged g (write p b n) image) before (spend g (write p b n) before)) (record { image = write_page g (write p b n) image; budget = budget })) l ∙ choose_false _ _)

  module _ (l : budget.limited ≡ true) (page : List ℕ) (q : page ≡ page_of g p image) (r : Bool) (h : r ≡ is_packet_of (packet_of g.width p page) b n) where
    stands : unchanged g (write p b n) image ≡ r
    unfolding unchanged view_of
    stands = ap (λ (x : List ℕ). is_packet_of (packet_of g.width p x) b n) (sym q) ∙ sym h

    within : after ≡ choose r before (spend g (write p b n) before)
    unfolding write_one
    within =
        ap (λ (t : Bool). choose t (choose (unchanged g (write p b n) image) before (spend g (write p b n) before)) (record { image = write_page g (write p b n) image; budget = budget })) l
        ∙ choose_true _ _ ∙ ap (λ (t : Bool). choose t before (spend g (write p b n) before)) stands

    -- the packet stands already
    pub one_passed : r ≡ true → before ≡ after
    one_passed t = sym (within ∙ ap (λ (u : Bool). choose u before (spend g (write p b n) before)) t ∙ choose_true _ _)

    changing : r ≡ false → after ≡ spend g (write p b n) before
    changing t = within ∙ ap (λ (u : Bool). choose u before (spend g (write p b n) before)) t ∙ choose_false _ _

    abbrev held : Progress
    held = record { image = image; budget = record { limited = true; left = 0; stopped = true } }

    abbrev one : List ℕ → Progress
    one now = record { image = now; budget = record { limited = true; left = budget.left - 1; stopped = budget.stopped } }

    -- no write is left
    pub one_held : r ≡ false → budget.left ≡ 0 → held ≡ after
    one_held t z = sym (changing t ∙ ap (λ (u : Bool). choose u held (one (write_page g (write p b n) image))) (eq-eqb budget.left 0 z) ∙ choose_true _ _)

    pub one_written : r ≡ false → (budget.left ≡ 0 → ⊥) → (now : List ℕ) → now ≡ write_page g (write p b n) image → one now ≡ after
    one_written t z now w =
        ap one w ∙ sym (changing t ∙ ap (λ (u : Bool). choose u held (one (write_page g (write p b n) image))) (ne_eqb budget.left 0 z) ∙ choose_false _ _)
