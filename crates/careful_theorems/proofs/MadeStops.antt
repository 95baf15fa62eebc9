-- The same for the writes that are made: exactly one of them is the visible one, before it the old tree stands, from it on the new one.
use Rattle.std.specs.Prelude.{◌≡◌, refl, Bool, true, false}
use Rattle.std.proofs.Math.Path.{ap, sym, subst}
use Rattle.std.proofs.Common.{◌∙◌}
use mathlib.Core.List.{List, [], ◌∷◌, ◌++◌}
use Prim.Native.Nat.{ℕ, suc, ◌-◌, ◌≤◌, ◌<◌}
use native.Mathlib.Omega.{arith}
use Rattle.std.proofs.Math.ListN.{length, take}
use Rattle.geometry.specs.declared.Geometry.{Geometry}
use Rattle.geometry.specs.Geometry.{Fit}
use Rattle.geometry.specs.Number.{Bytes}
use Rattle.packet.specs.Packet.{Write, write_page, after_writes, unchanged, made}
use Rattle.rules.proofs.ResultLaws.{ok_inj}
use Rattle.rules.specs.Chain.{views_of}
use Rattle.rules.specs.Tree.{Items}
use Rattle.rules.specs.Check.{Scan}
use Rattle.reading_theorems.specs.CheckComplete.{scan_complete}
use Rattle.editing_theorems.specs.AfterWrites.{WritesFit, after_writes_append, bytes_after_writes}
use Rattle.editing_theorems.specs.HeldPackets.{fits_join}
use Rattle.editing_theorems.specs.MadeWrites.{made_whole, unchanged_same}
use Rattle.careful_theorems.proofs.HaltLaws.{made_prefix, made_joined, made_first}
use Rattle.careful_theorems.proofs.MarkLaws.{Left}
use Rattle.careful_theorems.proofs.Stops.{take_joined, take_whole, append_none}

-- one image has one tree
pub left_unique : (g : Geometry) (image : List ℕ) (t u : Items) (ps qs : List ℕ) → Left g image t ps → Left g image u qs → t ≡ u
left_unique g image t u ps qs a b =
    let f = scan_complete g a.stands.fits.valid (views_of g image) a.bits (record { tree = t; map = a.map }) a.stands.holds in
    let h = scan_complete g b.stands.fits.valid (views_of g image) b.bits (record { tree = u; map = b.map }) b.stands.holds in
    ap (λ (s : Scan). s.image.tree) (ok_inj (sym f ∙ h))

pub record Stop (g : Geometry) (image : List ℕ) (ws : List Write) (w : Write) (t u : Items) (ps : List ℕ) : Type 0 where
  -- the visible write is one of those made
  pub front : List Write
  pub back : List Write
  pub made_is : made g ws image ≡ front ++ (w ∷ back)
  -- before it the old tree stands, from it on the new one, and the marks cover the pages in use
  pub before : (k : ℕ) → k ≤ length front → Left g (after_writes g (take k (made g ws image)) image) t ps
  pub from : (k : ℕ) → length front < k → Left g (after_writes g (take k (made g ws image)) image) u ps
  -- all of them leave what the whole list leaves
  pub whole : after_writes g (made g ws image) image ≡ after_writes g ws image
  pub fits : WritesFit g ws
  pub bytes : Bytes image

module _ (g : Geometry) (image : List ℕ) (fit : Fit g image) (bytes : Bytes image) (F C : List Write) (w : Write) (t u : Items) (ps : List ℕ)
    (fits_f : WritesFit g F) (fits_w : WritesFit g (w ∷ [])) (fits_c : WritesFit g C) (image_s : List ℕ) (seen : after_writes g (F ++ (w ∷ [])) image ≡ image_s)
    (before_seen : (k : ℕ) → Left g (after_writes g (take k F) image) t ps) (from_seen : (k : ℕ) → Left g (after_writes g (take k C) image_s) u ps) (differ : t ≡ u → ⊥) where
  abbrev pub image_f : List ℕ
  image_f = after_writes g F image

  bytes_f : Bytes image_f
  bytes_f = bytes_after_writes g F fits_f image fit bytes

  write_is : write_page g w image_f ≡ image_s
  unfolding after_writes
  write_is = sym (after_writes_append g F (w ∷ []) image) ∙ seen

  left_f : Left g image_f t ps
  left_f = subst (λ (us : List Write). Left g (after_writes g us image) t ps) (take_whole (length F) F (omega arith)) (before_seen (length F))

  left_s : Left g image_s u ps
  unfolding after_writes
  left_s = from_seen 0

  -- the visible write changes its packet
  changes_it : unchanged g w image_f ≡ false
  changes_it = go (unchanged g w image_f) refl
    where
      go : (b : Bool) → unchanged g w image_f ≡ b → unchanged g w image_f ≡ false
      go true e = absurd (differ (left_unique g image_f t u ps ps left_f (subst (λ (l : List ℕ). Left g l u ps) (sym write_is ∙ unchanged_same g w image_f bytes_f e) left_s)))
      go false e = e

  abbrev pub X : List Write
  X = made g F image

  abbrev pub Z : List Write
  Z = made g C image_s

  pub made_is : made g (F ++ (w ∷ C)) image ≡ X ++ (w ∷ Z)
  made_is = made_joined g F (w ∷ C) image ∙ ap (λ (l : List ℕ). X ++ made g (w ∷ C) l) (made_whole g F fits_f image fit bytes)
      ∙ ap (λ (ws : List Write). X ++ ws) (made_first g w C image_f changes_it ∙ ap (λ (l : List ℕ). w ∷ made g C l) write_is)

  pub early : (k : ℕ) → k ≤ length X → Left g (after_writes g (take k (X ++ (w ∷ Z))) image) t ps
  early k h =
      let y : k - length X ≡ 0 = omega arith in
      let e : take k (X ++ (w ∷ Z)) ≡ take k X = take_joined k X (w ∷ Z) ∙ ap (λ (n : ℕ). take k X ++ take n (w ∷ Z)) y ∙ append_none (take k X) in
      let p = made_prefix g F fits_f image fit bytes k in
      subst (λ (l : List ℕ). Left g l t ps) (sym (ap (λ (us : List Write). after_writes g us image) e ∙ p.leaves)) (before_seen p.size)

  pub late : (k : ℕ) → length X < k → Left g (after_writes g (take k (X ++ (w ∷ Z))) image) u ps
  unfolding after_writes
  late k h =
      let y : k - length X ≡ suc (k - length X - 1) = omega arith in
      let j = k - length X - 1 in
      let e : take k (X ++ (w ∷ Z)) ≡ X ++ (w ∷ take j Z) =
      take_joined k X (w ∷ Z) ∙ ap (λ (us : List Write). us ++ take (k - length X) (w ∷ Z)) (take_whole k X (omega arith)) ∙ ap (λ (n : ℕ). X ++ take n (w ∷ Z)) y in
      let a : after_writes g (X ++ (w ∷ take j Z)) image ≡ after_writes g (take j Z) image_s =
      after_writes_append g X (w ∷ take j Z) image ∙ ap (after_writes g (w ∷ take j Z)) (made_whole g F fits_f image fit bytes) ∙ ap (after_writes g (take j Z)) write_is in
      let p = made_prefix g C fits_c image_s left_s.stands.fits left_s.stands.are_bytes j in
      subst (λ (l : List ℕ). Left g l u ps) (sym (ap (λ (us : List Write). after_writes g us image) e ∙ a ∙ p.leaves)) (from_seen p.size)

  pub all_fit : WritesFit g (F ++ (w ∷ C))
  all_fit = fits_join g F (w ∷ C) fits_f (fits_join g (w ∷ []) C fits_w fits_c)
