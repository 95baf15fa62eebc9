-- Laws of page writes within a budget: lists joined, no limit, and a budget that has stopped.
use Rattle.std.specs.Prelude.{◌≡◌, Bool, false, eqb}
use Rattle.std.proofs.Math.Path.{refl, ap}
use Rattle.std.proofs.Common.{sym, ◌∙◌, arith, eq-eqb, ne_eqb}
use Rattle.std.proofs.Math.Bool.{true}
use Rattle.std.proofs.lemmas.Bool.{false≢true}
use mathlib.Core.List.{List, [], ◌∷◌, ◌++◌}
use Prim.Native.Nat.{ℕ, zero, suc, ◌-◌}
use Rattle.geometry.specs.declared.Geometry.{Geometry}
use Rattle.geometry.specs.Choose.{choose}
use Rattle.geometry.specs.ChooseLaws.{choose_true, choose_false}
use Rattle.packet.specs.declared.Budget.{Budget}
use Rattle.packet.specs.Packet.{Write, write_page, after_writes, unchanged}
use Rattle.packet.specs.Budgets.{Progress, Open, Stopped, spend, write_one, write_all}

module _ (g : Geometry) where
  pub all_joined : (ws us : List Write) (s : Progress) → write_all g (ws ++ us) s ≡ write_all g us (write_all g ws s)
  unfolding write_all
  all_joined [] us s = refl
  all_joined (w ∷ ws) us s = all_joined ws us (write_one g w s)

  -- ---- without a limit
  one_free : (w : Write) (s : Progress) → s.budget.limited ≡ false → write_one g w s ≡ record { image = write_page g w s.image; budget = s.budget }
  unfolding write_one
  one_free w s e = rw (e, choose_false)

  pub all_free_lem : (ws : List Write) (s : Progress) → s.budget.limited ≡ false → write_all g ws s ≡ record { image = after_writes g ws s.image; budget = s.budget }
  unfolding write_all after_writes
  all_free_lem [] s e = refl
  all_free_lem (w ∷ ws) s e = ap (write_all g ws) (one_free w s e) ∙ all_free_lem ws (record { image = write_page g w s.image; budget = s.budget }) e

  -- ---- a budget that has stopped writes nothing more
  stopped_one : (w : Write) (s : Progress) → Stopped s.budget → write_one g w s ≡ s
  unfolding write_one
  stopped_one w s h =
      ap (λ (l : Bool). choose l (choose (unchanged g w s.image) s (spend g w s)) free) h.limited ∙ choose_true _ _ ∙ by (unchanged g w s.image)
    where
      free : Progress
      free = record { image = write_page g w s.image; budget = s.budget }

      same : record { image = s.image; budget = record { limited = true; left = 0; stopped = true } } ≡ s
      same = λ i. record { image = s.image; budget = record { limited = sym h.limited i; left = sym h.none i; stopped = sym h.told i } }

      by : (t : Bool) → choose t s (spend g w s) ≡ s
      by true = choose_true _ _
      by false = choose_false _ _ ∙ ap (λ (b : Bool). choose b stop (record { image = write_page g w s.image; budget = one })) (eq-eqb s.budget.left 0 h.none) ∙ choose_true _ _ ∙ same
        where
          stop : Progress
          stop = record { image = s.image; budget = record { limited = true; left = 0; stopped = true } }

          one : Budget
          one = record { limited = true; left = s.budget.left - 1; stopped = s.budget.stopped }

  pub stopped_all : (ws : List Write) (s : Progress) → Stopped s.budget → write_all g ws s ≡ s
  unfolding write_all
  stopped_all [] s h = refl
  stopped_all (w ∷ ws) s h = ap (write_all g ws) (stopped_one w s h) ∙ stopped_all ws s h

  -- ---- an open budget, after a write: written, or the packet stood already; or it has stopped
  pub data Wrote (w : Write) (s t : Progress) : Type 0 where
    written : t.image ≡ write_page g w s.image → Open t.budget → Wrote w s t
    passed : unchanged g w s.image ≡ true → t.image ≡ s.image → Open t.budget → Wrote w s t
    held : t.image ≡ s.image → Stopped t.budget → Wrote w s t

  pub wrote : (w : Write) (s : Progress) → Open s.budget → Wrote w s (write_one g w s)
  unfolding write_one
  wrote w s o = by s.budget.limited
    where
      one : (n : ℕ) → Wrote w s (choose (eqb n 0)
          (record { image = s.image; budget = record { limited = true; left = 0; stopped = true } })
          (record { image = write_page g w s.image; budget = record { limited = true; left = n - 1; stopped = s.budget.stopped } }))
      one zero = simp choose_true (held refl (record { limited = refl; none = refl; told = refl }))
      one (suc n) = simp (ne_eqb (suc n) 0 (λ q. omega (arith, q)), choose_false) (written refl o)

      on : (u : Bool) → unchanged g w s.image ≡ u → Wrote w s (choose u s (spend g w s))
      on true e = simp choose_true (passed e refl o)
      on false e = simp choose_false (one s.budget.left)

      by : (l : Bool) → Wrote w s (choose l (choose (unchanged g w s.image) s (spend g w s)) (record { image = write_page g w s.image; budget = s.budget }))
      by true = simp choose_true (on (unchanged g w s.image) refl)
      by false = simp choose_false (written refl o)

  pub one_stopped : (w : Write) (s : Progress) → Open s.budget → (write_one g w s).budget.stopped ≡ true → Stopped (write_one g w s).budget
  one_stopped w s o e = go (wrote w s o)
    where
      go : Wrote w s (write_one g w s) → Stopped (write_one g w s).budget
      go (written a b) = absurd (false≢true (sym b ∙ e))
      go (passed a b c) = absurd (false≢true (sym c ∙ e))
      go (held a b) = b
