-- Page writes within a limit make the first k of those that change a packet; a part of the writes made leaves what a part of all the writes leaves.
use Rattle.std.specs.Prelude.{◌≡◌, Bool, take}
use Rattle.std.proofs.Math.Path.{refl, ap, sym}
use Rattle.std.proofs.Common.{◌∙◌}
use Rattle.std.proofs.Math.Bool.{true, false}
use mathlib.Core.List.{List, [], ◌∷◌, ◌++◌}
use Prim.Native.Nat.{ℕ, zero, suc, ◌-◌, ◌≤◌}
use native.Mathlib.Omega.{arith}
use Rattle.std.proofs.Math.Decide.{dec_lt}
use Rattle.std.proofs.Math.Dec.{ltb}
use Rattle.std.proofs.Math.ListN.{length}
use borrow.Author.Tests.{lt-ltb, le-ltb, ne_eqb}
use Rattle.geometry.specs.declared.Geometry.{Geometry}
use Rattle.geometry.specs.Choose.{choose}
use Rattle.geometry.specs.ChooseLaws.{choose_true, choose_false}
use Rattle.geometry.specs.Geometry.{Fit}
use Rattle.geometry.specs.Number.{Bytes}
use Rattle.packet.specs.Packet.{Write, write, write_page, after_writes, unchanged, made}
use Rattle.packet.specs.Budgets.{Progress, with_limit, write_one, write_all}
use Rattle.packet.specs.BudgetLaws.{stopped_all}
use Rattle.rules.specs.Careful.{halted_at}
use Rattle.editing_theorems.specs.AfterWrites.{WritesFit, write_fit, bytes_write}
use Rattle.editing_theorems.specs.MadeWrites.{unchanged_same}

-- an image with so many writes left
abbrev pub limited_to : ℕ → List ℕ → Progress
limited_to k image = record { image = image; budget = with_limit k }

-- what the first k of these writes come to
abbrev pub spent : Geometry → ℕ → List Write → List ℕ → Progress
spent g k ms image = record { image = after_writes g (take k ms) image; budget = record { limited = true; left = k - length ms; stopped = ltb k (length ms) } }

ltb_suc : (a b : ℕ) → ltb (suc a) (suc b) ≡ ltb a b
ltb_suc a b = elim (dec_lt a b) [ yes q ↦ lt-ltb (suc a) (suc b) (omega arith) ∙ sym (lt-ltb a b q) | no q ↦ le-ltb (suc a) (suc b) (omega arith) ∙ sym (le-ltb a b (omega arith)) ]

module _ (g : Geometry) where
  all_first : (w : Write) (ws : List Write) (s : Progress) → write_all g (w ∷ ws) s ≡ write_all g ws (write_one g w s)
  unfolding write_all
  all_first w ws s = refl

  -- a packet that would not change is passed
  one_passed : (w : Write) (image : List ℕ) (k : ℕ) → unchanged g w image ≡ true → write_one g w (limited_to k image) ≡ limited_to k image
  unfolding write_one
  one_passed w image k e = simp (choose_true, e)

  one_made : (w : Write) (image : List ℕ) (k : ℕ) → unchanged g w image ≡ false → write_one g w (limited_to (suc k) image) ≡ limited_to k (write_page g w image)
  unfolding write_one
  one_made w image k e =
      let z : suc k - 1 ≡ k = omega arith in
      simp (choose_true, e, choose_false, ne_eqb (suc k) 0 (λ q. omega (arith, q))) (ap (λ (n : ℕ). limited_to n (write_page g w image)) z)

  -- with none left a write that changes a packet stops the rest
  one_held : (w : Write) (ws : List Write) (image : List ℕ) → unchanged g w image ≡ false → write_all g (w ∷ ws) (limited_to 0 image) ≡ record { image = image; budget = record { limited = true; left = 0; stopped = true } }
  unfolding write_all write_one
  one_held w ws image e = simp (choose_true, e, choose_false) (stopped_all g ws (record { image = image; budget = record { limited = true; left = 0; stopped = true } }) (record { limited = refl; none = refl; told = refl }))

  none_more : (ms : List Write) (image : List ℕ) → record { image = image; budget = record { limited = true; left = 0; stopped = ltb 0 (length ms) } } ≡ spent g 0 ms image
  unfolding after_writes
  none_more ms image = let e : 0 - length ms ≡ 0 = omega arith in rw e refl

  none_left : (ws : List Write) (image : List ℕ) → write_all g ws (limited_to 0 image) ≡ record { image = image; budget = record { limited = true; left = 0; stopped = ltb 0 (length (made g ws image)) } }
  unfolding made
  none_left [] image = unfold write_all in rw (le-ltb 0 0 (omega arith)) refl
  none_left (w ∷ ws) image = go (unchanged g w image) refl (none_left ws image)
    where
      go : (t : Bool) → unchanged g w image ≡ t → write_all g ws (limited_to 0 image) ≡ record { image = image; budget = record { limited = true; left = 0; stopped = ltb 0 (length (made g ws image)) } }
          → write_all g (w ∷ ws) (limited_to 0 image)
          ≡ record { image = image; budget = record { limited = true; left = 0; stopped = ltb 0 (length (choose t (made g ws image) (w ∷ made g ws (write_page g w image)))) } }
      go true e a = simp choose_true (all_first w ws _ ∙ ap (write_all g ws) (one_passed w image 0 e) ∙ a)
      go false e a =
          let h : ltb 0 (suc (length (made g ws (write_page g w image)))) ≡ true = lt-ltb 0 (suc (length (made g ws (write_page g w image)))) (omega arith) in
          simp choose_false (rw h (one_held w ws image e))

  one_more : (w : Write) (ms : List Write) (image : List ℕ) (k : ℕ) → spent g k ms (write_page g w image) ≡ spent g (suc k) (w ∷ ms) image
  unfolding after_writes
  one_more w ms image k = let e : suc k - suc (length ms) ≡ k - length ms = omega arith in rw (e, ltb_suc k (length ms)) refl

  -- writes within a limit of k are the first k that change a packet
  pub all_spent : (ws : List Write) (image : List ℕ) (k : ℕ) → write_all g ws (limited_to k image) ≡ spent g k (made g ws image) image
  unfolding made
  all_spent ws image zero = none_left ws image ∙ none_more (made g ws image) image
  all_spent [] image (suc k) = let e : suc k - 0 ≡ suc k = omega arith in rw (e, le-ltb (suc k) 0 (omega arith)) (unfold write_all after_writes in refl)
  all_spent (w ∷ ws) image (suc k) = go (unchanged g w image) refl (all_spent ws image (suc k)) (all_spent ws (write_page g w image) k)
    where
      go : (t : Bool) → unchanged g w image ≡ t → write_all g ws (limited_to (suc k) image) ≡ spent g (suc k) (made g ws image) image
          → write_all g ws (limited_to k (write_page g w image)) ≡ spent g k (made g ws (write_page g w image)) (write_page g w image)
          → write_all g (w ∷ ws) (limited_to (suc k) image) ≡ spent g (suc k) (choose t (made g ws image) (w ∷ made g ws (write_page g w image))) image
      go true e a b = simp choose_true (all_first w ws _ ∙ ap (write_all g ws) (one_passed w image (suc k) e) ∙ a)
      go false e a b = simp choose_false (all_first w ws _ ∙ ap (write_all g ws) (one_made w image k e) ∙ b ∙ one_more w (made g ws (write_page g w image)) image k)

  -- so a call that has them answers as the rule does
  pub record Tells (k : ℕ) (ws : List Write) (image : List ℕ) (p : Progress) : Type 0 where
    pub image_is : (halted_at g k ws image).image ≡ p.image
    pub made_is : (halted_at g k ws image).answer.made ≡ k - p.budget.left
    pub left_is : (halted_at g k ws image).answer.left ≡ p.budget.stopped

  pub halt_tells : (k : ℕ) (ws : List Write) (image : List ℕ) (p : Progress) → p ≡ write_all g ws (limited_to k image) → Tells k ws image p
  unfolding halted_at
  halt_tells k ws image p e =
      let q : p ≡ spent g k (made g ws image) image = e ∙ all_spent ws image k in
      record {
        image_is = sym (ap (λ (x : Progress). x.image) q);
        made_is = omega (arith, ap (λ (x : Progress). x.budget.left) q);
        left_is = sym (ap (λ (x : Progress). x.budget.stopped) q);
      }

  -- ---- a part of the writes made leaves what a part of all the writes leaves
  pub record Prefix (ws : List Write) (image after : List ℕ) : Type 0 where
    pub size : ℕ
    pub most : size ≤ length ws
    pub leaves : after ≡ after_writes g (take size ws) image

  pub made_prefix : (ws : List Write) → WritesFit g ws → (image : List ℕ) → Fit g image → Bytes image → (k : ℕ) → Prefix ws image (after_writes g (take k (made g ws image)) image)
  unfolding made after_writes
  made_prefix ws f image fit h zero = record { size = 0; most = omega arith; leaves = refl }
  made_prefix [] f image fit h (suc k) = record { size = 0; most = omega arith; leaves = refl }
  made_prefix (write p b n ∷ ws) f image fit h (suc k) =
      go (unchanged g (write p b n) image) refl (made_prefix ws f.1 image fit h (suc k))
      (made_prefix ws f.1 (write_page g (write p b n) image) (write_fit g p b n f.0 image fit) (bytes_write g p b n f.0 image fit h) k)
    where
      go : (t : Bool) → unchanged g (write p b n) image ≡ t → Prefix ws image (after_writes g (take (suc k) (made g ws image)) image)
          → Prefix ws (write_page g (write p b n) image) (after_writes g (take k (made g ws (write_page g (write p b n) image))) (write_page g (write p b n) image))
          → Prefix (write p b n ∷ ws) image (after_writes g (take (suc k) (choose t (made g ws image) (write p b n ∷ made g ws (write_page g (write p b n) image)))) image)
      go true e x y = simp choose_true (record {
        size = suc x.size;
        most = omega (arith, x.most);
        leaves = x.leaves ∙ ap (after_writes g (take x.size ws)) (sym (unchanged_same g (write p b n) image h e));
      })
      go false e x y = simp choose_false (record { size = suc y.size; most = omega (arith, y.most); leaves = y.leaves })

  -- the writes made of two lists, one after the other
  pub made_joined : (ws us : List Write) (image : List ℕ) → made g (ws ++ us) image ≡ made g ws image ++ made g us (after_writes g (made g ws image) image)
  unfolding made after_writes
  made_joined [] us image = refl
  made_joined (w ∷ ws) us image = go (unchanged g w image) (made_joined ws us image) (made_joined ws us (write_page g w image))
    where
      go : (t : Bool) → made g (ws ++ us) image ≡ made g ws image ++ made g us (after_writes g (made g ws image) image)
          → made g (ws ++ us) (write_page g w image) ≡ made g ws (write_page g w image) ++ made g us (after_writes g (made g ws (write_page g w image)) (write_page g w image))
          → choose t (made g (ws ++ us) image) (w ∷ made g (ws ++ us) (write_page g w image))
          ≡ choose t (made g ws image) (w ∷ made g ws (write_page g w image)) ++ made g us (after_writes g (choose t (made g ws image) (w ∷ made g ws (write_page g w image))) image)
      go true a b = simp choose_true a
      go false a b = simp choose_false (ap (λ (l : List Write). w ∷ l) b)

  -- the first of the writes made, where it changes a packet
  pub made_first : (w : Write) (ws : List Write) (image : List ℕ) → unchanged g w image ≡ false → made g (w ∷ ws) image ≡ w ∷ made g ws (write_page g w image)
  unfolding made
  made_first w ws image e = rw (e, choose_false) refl
