-- Page writes within a budget: a page write changes no other page; as long as nothing was held back the image is that of all the writes.
use Rattle.std.specs.Prelude.{◌≡◌, Bool, true, false, ℕ}
use Rattle.std.proofs.Math.Path.{refl, ap, subst}
use Rattle.std.proofs.Common.{sym, ◌∙◌}
use Rattle.std.proofs.lemmas.Bool.{false≢true}
use mathlib.Core.List.{List, [], ◌∷◌}
use borrow.Author.Tests.{eq-eqb}
use Rattle.geometry.specs.declared.Geometry.{Geometry}
use Rattle.geometry.specs.Choose.{choose}
use Rattle.geometry.specs.ChooseLaws.{choose_true, choose_false}
use Rattle.geometry.specs.Geometry.{Fit}
use Rattle.geometry.specs.Number.{Bytes}
use Rattle.packet.specs.Packet.{good, view_of, Write, write, write_page, after_writes, unchanged}
use Rattle.packet.specs.Budgets.{Progress, Open, Stopped, spend, write_one, write_all}
use Rattle.packet.specs.BudgetLaws.{Wrote, written, passed, held, wrote, stopped_all}
use Rattle.rules.specs.WellFormed.{HasPackets}
use Rattle.editing_theorems.specs.AfterWrites.{WriteFits, WritesFit, write_fit, bytes_write, view_elsewhere}
use Rattle.editing_theorems.specs.MadeWrites.{unchanged_same}
use Rattle.editing_theorems.specs.PageChange.{same_itself}

-- ---- one write
module _ (g : Geometry) (p : ℕ) (b : List ℕ) (n : ℕ) (f : WriteFits g p b n) (s : Progress) (fit : Fit g s.image) (o : Open s.budget) where
  abbrev t : Progress
  t = write_one g (write p b n) s

  -- what holds of the image as it is and as it is with the page written holds of the image after
  either : (P : List ℕ → Type 0) → P s.image → P (write_page g (write p b n) s.image) → P (write_one g (write p b n) s).image
  either P x y = go (wrote g (write p b n) s o)
    where
      go : Wrote g (write p b n) s t → P t.image
      go (written e u) = subst P (sym e) y
      go (passed a e u) = subst P (sym e) x
      go (held e u) = subst P (sym e) x

  pub one_fit : Fit g (write_one g (write p b n) s).image
  one_fit = either (Fit g) fit (write_fit g p b n f s.image fit)

  pub one_elsewhere : (x : ℕ) → (x ≡ p → ⊥) → view_of g (write_one g (write p b n) s).image x ≡ view_of g s.image x
  one_elsewhere x h = either (λ (i : List ℕ). view_of g i x ≡ view_of g s.image x) refl (view_elsewhere g p b n f s.image fit x h)

-- ---- a list of writes
module _ (g : Geometry) where
  pub all_open : (ws : List Write) → WritesFit g ws → (s : Progress) → Fit g s.image → Bytes s.image → Open s.budget → Open (write_all g ws s).budget
      → (write_all g ws s).image ≡ after_writes g ws s.image
  unfolding write_all after_writes
  all_open [] f s fit h o q = refl
  all_open (write p b n ∷ ws) f s fit h o q = go (λ fit' h' o'. all_open ws f.1 (write_one g (write p b n) s) fit' h' o' q) (wrote g (write p b n) s o)
    where
      t : Progress
      t = write_one g (write p b n) s

      go : (Fit g t.image → Bytes t.image → Open t.budget → (write_all g ws t).image ≡ after_writes g ws t.image) → Wrote g (write p b n) s t
          → (write_all g ws t).image ≡ after_writes g ws (write_page g (write p b n) s.image)
      go r (written e u) = r (subst (Fit g) (sym e) (write_fit g p b n f.0 s.image fit)) (subst Bytes (sym e) (bytes_write g p b n f.0 s.image fit h)) u ∙ ap (after_writes g ws) e
      go r (passed a e u) = r (subst (Fit g) (sym e) fit) (subst Bytes (sym e) h) u ∙ ap (after_writes g ws) (e ∙ sym (unchanged_same g (write p b n) s.image h a))
      go r (held e u) = absurd (false≢true (sym q ∙ ap (λ (x : Progress). x.budget.stopped) (stopped_all g ws t u) ∙ u.told))

  pub all_stopped : (ws : List Write) (s : Progress) → Open s.budget → (write_all g ws s).budget.stopped ≡ true → Stopped (write_all g ws s).budget
  unfolding write_all
  all_stopped [] s o q = absurd (false≢true (sym o ∙ q))
  all_stopped (w ∷ ws) s o q = go (λ u. all_stopped ws (write_one g w s) u q) (wrote g w s o)
    where
      go : (Open (write_one g w s).budget → Stopped (write_all g ws (write_one g w s)).budget) → Wrote g w s (write_one g w s) → Stopped (write_all g ws (write_one g w s)).budget
      go r (written e u) = r u
      go r (passed a e u) = r u
      go r (held e u) = subst (λ (x : Progress). Stopped x.budget) (sym (stopped_all g ws (write_one g w s) u)) u

  -- ---- packets that stand already
  pub stands_unchanged : (image : List ℕ) (p : ℕ) (b : List ℕ) (n : ℕ) → view_of g image p ≡ good b n → unchanged g (write p b n) image ≡ true
  unfolding unchanged
  stands_unchanged image p b n e = rw (e, same_itself b, eq-eqb n n refl) refl

  pub one_stands : (p : ℕ) (b : List ℕ) (n : ℕ) (s : Progress) → view_of g s.image p ≡ good b n → Bytes s.image → write_one g (write p b n) s ≡ s
  unfolding write_one
  one_stands p b n s e h = by s.budget.limited
    where
      w : Write
      w = write p b n

      free : Progress
      free = record { image = write_page g w s.image; budget = s.budget }

      by : (l : Bool) → choose l (choose (unchanged g w s.image) s (spend g w s)) free ≡ s
      by true = choose_true _ _ ∙ ap (λ (t : Bool). choose t s (spend g w s)) (stands_unchanged s.image p b n e) ∙ choose_true _ _
      by false = choose_false _ _ ∙ ap (λ (i : List ℕ). record { image = i; budget = s.budget }) (unchanged_same g w s.image h (stands_unchanged s.image p b n e))

  pub all_stand : (ws : List Write) (s : Progress) → HasPackets (view_of g s.image) ws → Bytes s.image → write_all g ws s ≡ s
  unfolding write_all
  all_stand [] s h k = refl
  all_stand (write p b n ∷ ws) s h k = ap (write_all g ws) (one_stands p b n s h.0 k) ∙ all_stand ws s h.1 k
