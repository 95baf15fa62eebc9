-- The copy that a gathering leaves, over bytes, and what the call states.
use Rattle.std.specs.Prelude.{Option, Some, None, ◌≡◌, Bool, true, false, List, ◌∷◌, ℕ, zero, suc, ◌-◌, ◌*◌, ◌≤◌, ◌<◌, length, take, drop, replicate}
use Rattle.std.proofs.Math.Path.{refl, ap, sym, subst}
use Rattle.std.proofs.Common.{◌∙◌, arith, eqb-true, eq-eqb}
use Rattle.std.proofs.Math.Nat.{mul-le-mul_right, mul_comm, suc-mul}
use Rattle.std.proofs.Math.Dec.{eqb}
use Rattle.geometry.specs.declared.Geometry.{Geometry}
use Rattle.geometry.specs.Choose.{choose}
use Rattle.geometry.specs.ChooseLaws.{choose_true, choose_false}
use Rattle.geometry.specs.Geometry.{Fit, geometry_of}
use Rattle.geometry.specs.ShapeLaws.{fit_of}
use Rattle.geometry.specs.Number.{Bytes}
use Rattle.geometry.specs.Page.{page_of}
use Rattle.rules.specs.Result.{Res, ok, err, and_then}
use Rattle.rules.proofs.ResultLaws.{ok_inj, clash, on_then, then_ok}
use Rattle.rules.specs.Tree.{Image}
use Rattle.rules.specs.WellFormed.{WellFormed}
use Rattle.rules.specs.Format.{upward}
use Rattle.rules.specs.Calls.{shape, in_geometry}
use Rattle.rules.specs.Demand2.{WellFormedAt}
use Rattle.reading_theorems.specs.Accepted.{accepted_iff, accepted}
use Rattle.editing_theorems.specs.AfterWrites.{WritesFit, length_after_writes, bytes_after_writes, rest_of_page}
use Rattle.gathering.specs.Gather.{BareImage, bare_of, gathered_image, gathered_bytes, gather, gathered, gather_call}
use Rattle.gathering.specs.GatherPromises.{packet_end, Gathered, Gathers}
use Rattle.gathering.proofs.GatherPages.{in_order_lem, length_gathered}
use Rattle.gathering.proofs.GatherLeast.{gathered_least}
use Rattle.gathering.proofs.GatherLaid.{blank, blank_fit, Layable, the_writes, gathered_fits, gathered_stands, bare_gathered, layable}
use Rattle.gathering.proofs.GatherShape.{gathered_shape}

-- ---- all FF
drop_same : (k n x : ℕ) → drop k (replicate n x) ≡ replicate (n - k) x
drop_same zero n x = let e : n - 0 ≡ n = omega arith in rw e refl
drop_same (suc k) zero x = let e : 0 - suc k ≡ 0 = omega arith in rw e refl
drop_same (suc k) (suc n) x = let e : suc n - suc k ≡ n - k = omega arith in rw e (drop_same k n x)

take_same : (k n x : ℕ) → k ≤ n → take k (replicate n x) ≡ replicate k x
take_same zero n x h = refl
take_same (suc k) zero x h = absurd (omega arith)
take_same (suc k) (suc n) x h = ap (λ (l : List ℕ). x ∷ l) (take_same k n x (omega arith))

bytes_same : (n x : ℕ) → x < 256 → Bytes (replicate n x)
bytes_same zero x h = tt
bytes_same (suc n) x h = (h, bytes_same n x h)

module _ (g : Geometry) where
  blank_page : (p : ℕ) → p < g.pages → page_of g p (blank g) ≡ replicate g.size 0xFF
  unfolding page_of
  blank_page p h =
      ap (take g.size) (drop_same (p * g.size) (g.size * g.pages) 0xFF)
      ∙ take_same g.size (g.size * g.pages - p * g.size) 0xFF (omega (arith, mul-le-mul_right g.size h, suc-mul p g.size, mul_comm g.size g.pages))

  -- ---- the copy of a well-formed image
  module _ (source : List ℕ) (bytes : Bytes source) (i : Image) (w : WellFormed g source i) where
    abbrev b : BareImage
    b = bare_of i

    able : Layable g b
    able = layable g source i bytes w

    fits : WritesFit g (the_writes g w.fits.valid b able)
    fits = gathered_fits g w.fits.valid b able

    -- well formed, of the source's length, all bytes, FF after the packets
    pub copy_formed : WellFormed g (gathered_bytes g b) (gathered_image g b)
    unfolding gathered_bytes
    copy_formed = gathered_stands g w.fits.valid b able (blank g) (blank_fit g w.fits.valid)

    pub copy_sized : length (gathered_bytes g b) ≡ length source
    unfolding gathered_bytes
    copy_sized =
        let valid = w.fits.valid in
        length_after_writes g (the_writes g valid b able) fits (blank g) (blank_fit g valid) ∙ (blank_fit g valid).whole ∙ sym w.fits.whole

    pub copy_bytes : Bytes (gathered_bytes g b)
    unfolding gathered_bytes
    copy_bytes =
        let valid = w.fits.valid in
        bytes_after_writes g (the_writes g valid b able) fits (blank g) (blank_fit g valid) (bytes_same (g.size * g.pages) 0xFF (omega arith))

    pub copy_unused : (p : ℕ) → p < g.pages → drop (packet_end g (gathered_image g b) p) (page_of g p (gathered_bytes g b)) ≡ replicate (g.size - packet_end g (gathered_image g b) p) 0xFF
    unfolding gathered_bytes
    copy_unused p h =
        let valid = w.fits.valid in
        let k = packet_end g (gathered_image g b) p in
        rest_of_page g (the_writes g valid b able) fits (blank g) (blank_fit g valid) p ∙ ap (drop k) (blank_page p h) ∙ drop_same k g.size 0xFF

    pub gathered_copy : Gathered g source (gathered_bytes g b)
    gathered_copy =
        let valid = w.fits.valid in
        let s = gathered_shape g valid b in
        record {
          before = i;
          was = w;
          tree = gathered_image g b;
          well_formed = copy_formed;
          sized = copy_sized;
          are_bytes = copy_bytes;
          same = bare_gathered g valid b able;
          order = in_order_lem g b ∙ ap (upward 0) (sym (length_gathered g b));
          full_files = s.full_files;
          full_map = s.full_map;
          filled_root = s.filled_root;
          filled_below = s.filled_below;
          unused = copy_unused;
          least = λ other j h l a e. gathered_least g b other j h ((accepted_iff g other (record { valid = valid; whole = l ∙ w.fits.whole }) h j).0 a) e;
        }

  pub gather_done : (source after : List ℕ) → Fit g source → Bytes source → gather g source ≡ ok after → Gathered g source after
  unfolding gather
  gather_done source after fit bytes e = on_then _ _ _ e λ i a e. subst (Gathered g source) (ok_inj e) (gathered_copy source bytes i ((accepted_iff g source fit bytes i).0 a))

-- ---- the call
module _ (P N : ℕ) (source second table : List ℕ) where
  abbrev Answer : Type 0
  Answer = Res (Unit {0}) × List ℕ × List ℕ

  abbrev in_shape : Option Geometry → Answer
  in_shape s = in_geometry s (err 1 0, second, table) (λ g. gathered P N source second table g (gather g source))

  abbrev whole : Bool → Answer
  whole t = choose t (in_shape (shape P N source table)) (err 1 0, second, table)

  answered_ok : (g : Geometry) (r : Res (List ℕ)) → (gathered P N source second table g r).0 ≡ ok tt → r ≡ ok (gathered P N source second table g r).1
  answered_ok g (ok copy) e = refl
  answered_ok g (err n p) e = clash e

  answered_err : (g : Geometry) (r : Res (List ℕ)) → ((gathered P N source second table g r).0 ≡ ok tt → ⊥) → (gathered P N source second table g r).1 ≡ second
  answered_err g (ok copy) h = absurd (h refl)
  answered_err g (err n p) h = refl

  kept : (s : Option Geometry) → ((in_shape s).0 ≡ ok tt → ⊥) → (in_shape s).1 ≡ second
  kept None h = refl
  kept (Some g) h = answered_err g (gather g source) h

  kept_whole : (t : Bool) → ((whole t).0 ≡ ok tt → ⊥) → (whole t).1 ≡ second
  kept_whole true h = simp choose_true (kept (shape P N source table) (simp choose_true at h))
  kept_whole false h = simp choose_false refl

  -- a call that is done
  done_whole : (t : Bool) → (whole t).0 ≡ ok tt → (t ≡ true) × (whole t ≡ in_shape (shape P N source table))
  done_whole true e = (refl, choose_true (in_shape (shape P N source table)) (err 1 0, second, table))
  done_whole false e = clash (simp choose_false at e)

  module _ (bytes : Bytes source) where
    done_shape : (s : Option Geometry) → geometry_of P N (length source) (length table) ≡ s → (in_shape s).0 ≡ ok tt → WellFormedAt P N source table
    unfolding gather
    done_shape None q e = clash e
    done_shape (Some g) q e = on_then _ _ _ (answered_ok g (gather g source) e) λ i a _.
        record { geometry = g; right = q; reading = i; formed = (accepted_iff g source (fit_of P N source table g q) bytes i).0 a }

    shape_done : (w : WellFormedAt P N source table) → (in_shape (shape P N source table)).0 ≡ ok tt
    unfolding gather
    shape_done w =
        let e : gather w.geometry source ≡ ok (gathered_bytes w.geometry (bare_of w.reading))
        = ap (λ (r : Res Image). and_then r λ i. ok (gathered_bytes w.geometry (bare_of i))) (accepted w.geometry source w.reading w.formed) ∙ then_ok w.reading _ in
        ap (λ (s : Option Geometry). (in_shape s).0) w.right ∙ ap (λ (r : Res (List ℕ)). (gathered P N source second table w.geometry r).0) e

    pub gather_stated : Gathers P N source second table ((gather_call P N source second table).0 ≡ ok tt) (gather_call P N source second table).1
    unfolding gather_call
    gather_stated =
        let t = eqb (length second) (length source) in
        record {
          exactly = (
            λ e. let d = done_whole t e in (eqb-true (length second) (length source) d.0, done_shape (shape P N source table) refl (sym (ap (λ (x : Answer). x.0) d.1) ∙ e)),
            λ h. rw (eq-eqb (length second) (length source) h.0) (ap (λ (x : Answer). x.0) (choose_true (in_shape (shape P N source table)) (err 1 0, second, table)) ∙ shape_done h.1),
          );
          done = λ g f e.
              let d = done_whole t e in
              let q : whole t ≡ gathered P N source second table g (gather g source) = d.1 ∙ ap in_shape f in
              subst (Gathered g source) (sym (ap (λ (x : Answer). x.1) q))
              (gather_done g source _ (fit_of P N source table g f) bytes (answered_ok g (gather g source) (sym (ap (λ (x : Answer). x.0) q) ∙ e)));
          refused = λ h. kept_whole t h;
        }
