-- The writes made, whole: the old tree stands before the visible write, the new one from it on, and all of them leave what the list leaves.
use Rattle.std.specs.Prelude.{◌≡◌}
use Rattle.std.proofs.Math.Path.{sym, subst}
use mathlib.Core.List.{List, [], ◌∷◌, ◌++◌}
use Prim.Native.Nat.{ℕ, ◌≤◌, ◌<◌}
use Rattle.std.proofs.Math.ListN.{length, take}
use Rattle.geometry.specs.declared.Geometry.{Geometry}
use Rattle.geometry.specs.Geometry.{Fit}
use Rattle.geometry.specs.Number.{Bytes}
use Rattle.packet.specs.Packet.{Write, after_writes, made}
use Rattle.rules.specs.Tree.{Items}
use Rattle.editing_theorems.specs.AfterWrites.{WritesFit}
use Rattle.editing_theorems.specs.MadeWrites.{made_whole}
use Rattle.careful_theorems.proofs.MarkLaws.{Left}
use Rattle.careful_theorems.proofs.MadeStops.{Stop, X, Z, made_is, early, late, all_fit}

module _ (g : Geometry) (image : List ℕ) (fit : Fit g image) (bytes : Bytes image) (F C : List Write) (w : Write) (t u : Items) (ps : List ℕ)
    (fits_f : WritesFit g F) (fits_w : WritesFit g (w ∷ [])) (fits_c : WritesFit g C) (image_s : List ℕ) (seen : after_writes g (F ++ (w ∷ [])) image ≡ image_s)
    (before_seen : (k : ℕ) → Left g (after_writes g (take k F) image) t ps) (from_seen : (k : ℕ) → Left g (after_writes g (take k C) image_s) u ps) (differ : t ≡ u → ⊥) where
  abbrev front : List Write
  front = X g image fit bytes F C w t u ps fits_f fits_w fits_c image_s seen before_seen from_seen differ

  abbrev back : List Write
  back = Z g image fit bytes F C w t u ps fits_f fits_w fits_c image_s seen before_seen from_seen differ

  parts : made g (F ++ (w ∷ C)) image ≡ front ++ (w ∷ back)
  parts = made_is g image fit bytes F C w t u ps fits_f fits_w fits_c image_s seen before_seen from_seen differ

  before : (k : ℕ) → k ≤ length front → Left g (after_writes g (take k (front ++ (w ∷ back))) image) t ps
  before = early g image fit bytes F C w t u ps fits_f fits_w fits_c image_s seen before_seen from_seen differ

  from : (k : ℕ) → length front < k → Left g (after_writes g (take k (front ++ (w ∷ back))) image) u ps
  from = late g image fit bytes F C w t u ps fits_f fits_w fits_c image_s seen before_seen from_seen differ

  fits : WritesFit g (F ++ (w ∷ C))
  fits = all_fit g image fit bytes F C w t u ps fits_f fits_w fits_c image_s seen before_seen from_seen differ

  pub stop : (ws : List Write) → ws ≡ F ++ (w ∷ C) → Stop g image ws w t u ps
  stop ws e = subst (λ (us : List Write). Stop g image us w t u ps) (sym e) (record {
    front = front;
    back = back;
    made_is = parts;
    before = λ k h. subst (λ (us : List Write). Left g (after_writes g (take k us) image) t ps) (sym parts) (before k h);
    from = λ k h. subst (λ (us : List Write). Left g (after_writes g (take k us) image) u ps) (sym parts) (from k h);
    whole = made_whole g (F ++ (w ∷ C)) fits image fit bytes;
    fits = fits;
    bytes = bytes;
  })
