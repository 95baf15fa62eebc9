-- A directory's pages changed: entries of one page exchanged, or a page that joins written before the page that then points to it.
use mathlib.Core.Path.{◌≡◌, ap, sym, ◌∙◌, subst}
use mathlib.Core.Bool.{Bool, true}
use mathlib.Core.List.{List, [], ◌∷◌}
use Prim.Native.Nat.{ℕ, ◌+◌, ◌*◌}
use native.Mathlib.Omega.{arith}
use lib.ListN.{length}
use borrow.Author.Tests.{eq-eqb, ne_eqb}
use Rattle.geometry.specs.declared.Geometry.{Geometry}
use Rattle.geometry.specs.Choose.{choose}
use Rattle.geometry.specs.ChooseLaws.{choose_true, choose_false}
use Rattle.geometry.specs.Geometry.{entry_size, Fit}
use Rattle.geometry.specs.Number.{Bytes}
use Rattle.packet.specs.Packet.{view_of, Write, write}
use Rattle.packet.specs.declared.Budget.{Budget}
use Rattle.packet.specs.Budgets.{Progress, Open, write_one, write_all}
use Rattle.packet.specs.BudgetLaws.{one_stopped, stopped_all}
use Rattle.reading_theorems.specs.DirectoryComplete.{pages_fit}
use Rattle.editing_theorems.specs.AfterWrites.{WriteFits}
use Rattle.editing_theorems.specs.BudgetedWrites.{one_fit, one_elsewhere}
use Rattle.writes.specs.declared.Change.{Change}
use Rattle.writes.specs.Changes.{spliced, HasSpan, Rewrites, entry_from, JoinFits, change_writes, Changes}

module _ (g : Geometry) (image : List ℕ) (c : Change) (new : List ℕ) (budget : Budget) where
  abbrev from : Progress
  from = record { image = image; budget = budget }

  abbrev exchanged : List ℕ → Write
  exchanged bytes = write c.slot.page (spliced (entry_from g c.slot c.first) (entry_from g c.slot c.last) new bytes) c.slot.next.page

  -- entries exchanged
  pub change_exchange : c.joins ≡ 0 → (w : ℕ) → w ≡ entry_size g → (after : List ℕ) (left : Budget)
      → Rewrites g c.slot.page (c.slot.skip + w * c.first) (c.slot.skip + w * c.last) new c.slot.next.page image budget after left → Changes g c new image budget after left
  unfolding write_all
  change_exchange z w e after left h bytes n p =
      h bytes n p
      ∙ ap (λ (k : ℕ). write_one g (write c.slot.page (spliced (c.slot.skip + k * c.first) (c.slot.skip + k * c.last) new bytes) c.slot.next.page) from) e
      ∙ ap (λ (ws : List Write). write_all g ws from)
      (sym (ap (λ (t : Bool). choose t (exchanged bytes ∷ []) (write c.joins new 0 ∷ write c.slot.page bytes c.joins ∷ [])) (eq-eqb c.joins 0 z) ∙ choose_true _ _))

  -- a page that joins
  module _ (z : c.joins ≡ 0 → ⊥) (mid : List ℕ) (rest : Budget) (w : ◌≡◌ {A = Progress} (record { image = mid; budget = rest }) (write_one g (write c.joins new 0) (record { image = image; budget = budget }))) where
    both : (bytes : List ℕ) → change_writes g c new bytes ≡ write c.joins new 0 ∷ write c.slot.page bytes c.joins ∷ []
    both bytes = ap (λ (t : Bool). choose t (exchanged bytes ∷ []) (write c.joins new 0 ∷ write c.slot.page bytes c.joins ∷ [])) (ne_eqb c.joins 0 z) ∙ choose_false _ _

    -- no write is left for the page that is to point to it
    pub join_stop : Open budget → rest.stopped ≡ true → Changes g c new image budget mid rest
    unfolding write_all
    join_stop o q bytes n p =
        let e : (write_one g (write c.joins new 0) from).budget.stopped ≡ true = ap (λ (x : Progress). x.budget.stopped) (sym w) ∙ q in
        w ∙ sym (ap (λ (ws : List Write). write_all g ws from) (both bytes)
        ∙ stopped_all g (write c.slot.page bytes c.joins ∷ []) (write_one g (write c.joins new 0) from) (one_stopped g (write c.joins new 0) from o e))

    module _ (fit : Fit g image) (are_bytes : Bytes new) (J : JoinFits g (view_of g image) c (length new)) (o : Open budget) where
      fits : WriteFits g c.joins new 0
      fits = record { below = J.inside; room = J.room; pointer = omega (arith, pages_fit g fit.valid, J.inside); bytes = are_bytes }

      elsewhere : view_of g mid c.slot.page ≡ view_of g image c.slot.page
      elsewhere = ap (λ (x : Progress). view_of g x.image c.slot.page) w ∙ one_elsewhere g c.joins new 0 fits from fit o c.slot.page J.other

      pub join_fit : Fit g mid
      join_fit = subst (λ (x : Progress). Fit g x.image) (sym w) (one_fit g c.joins new 0 fits from fit o)

      pub join_span : HasSpan g (view_of g mid) c.slot.page 0 0 0
      join_span =
          let s = J.last.span in
          record { bytes = J.last.bytes; next = J.last.next; span = record { packet = elsewhere ∙ s.packet; order = s.order; inside = s.inside; room = s.room } }

      pub join_done : (after : List ℕ) (left : Budget) → Rewrites g c.slot.page 0 0 [] c.joins mid rest after left → Changes g c new image budget after left
      unfolding write_all
      join_done after left h bytes n p =
          h bytes n (elsewhere ∙ p) ∙ ap (write_one g (write c.slot.page bytes c.joins)) w ∙ sym (ap (λ (ws : List Write). write_all g ws from) (both bytes))
