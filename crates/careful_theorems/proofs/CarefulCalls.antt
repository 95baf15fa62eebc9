-- What the careful calls and the mend state, of the rules' calls.
use Rattle.std.proofs.Math.Path.{◌≡◌, refl, ap}
use Rattle.std.proofs.Common.{sym, ◌∙◌, arith, lt-ltb, le-ltb, le-leb, eq-eqb, eqb-true}
use Rattle.std.specs.Prelude.{None, Bool, length}
use Rattle.std.proofs.Math.Bool.{true, false}
use Rattle.std.proofs.lemmas.Bool.{false≢true}
use mathlib.Core.List.{List}
use Prim.Native.Nat.{ℕ, ◌+◌, ◌*◌}
use Rattle.std.proofs.Math.Decide.{dec_lt}
use Rattle.std.proofs.Math.Dec.{eqb}
use Rattle.geometry.specs.declared.Geometry.{Geometry}
use Rattle.geometry.specs.ChooseLaws.{choose_true, choose_false}
use Rattle.geometry.specs.Geometry.{Fit}
use Rattle.geometry.specs.ShapeLaws.{fit_of}
use Rattle.geometry.specs.Number.{Bytes}
use Rattle.packet.specs.Packet.{after_writes}
use Rattle.rules.specs.declared.WriteCount.{WriteCount}
use Rattle.rules.specs.Result.{Res, ok, err, and_then, and_after, refuse_unless}
use Rattle.rules.proofs.ResultLaws.{ok_inj, clash, on_then, on_refuse, then_ok, then_err, refuse_true, refuse_false}
use Rattle.rules.specs.PageSets.{bit, count, mem}
use Rattle.rules.proofs.PageSetLaws.{mem_false, range_above}
use Rattle.rules.specs.Chain.{views_of}
use Rattle.rules.specs.Tree.{Image, map_pages, used}
use Rattle.rules.specs.Bitmap.{bit_at, lowest_difference}
use Rattle.rules.proofs.BitmapLaws.{difference_agree}
use Rattle.rules.specs.Check.{Scan, judge_bits, scan, check}
use Rattle.rules.specs.Calls.{Effect, shape, effect, effective}
use Rattle.rules.proofs.CallLaws.{effective_refused}
use Rattle.rules.specs.Careful.{careful_put, careful_delete, all_mendable, unowned, mend_writes, mend, careful_put_call, careful_delete_call, mend_call, no_writes, count_of, cleared_of}
use Rattle.rules.specs.CarefulPromises.{IsDone, CarefullyPuts, CarefullyDeletes, Mends}
use Rattle.reading_theorems.specs.Accepted.{scanned_iff}
use Rattle.careful_theorems.proofs.MarkLaws.{Left, all_mendable_lem}
use Rattle.careful_theorems.proofs.MendLaws.{mend_of, mend_gives}
use Rattle.careful_theorems.proofs.CarefulDeletes.{careful_delete_lem}
use Rattle.careful_theorems.proofs.CarefulPuts.{careful_put_lem}

-- ---- a mend refuses as the check does
module _ (g : Geometry) (image : List ℕ) (fit : Fit g image) (bytes : Bytes image) where
  -- the bits that a scan has met
  abbrev bits : Scan → ℕ
  bits s = 8 * length s.raw

  abbrev lowest : Scan → ℕ
  lowest s = lowest_difference s.raw (used s.image) 0 (bits s)

  agree_mendable : (s : Scan) → scan g (views_of g image) ≡ ok s → lowest s ≡ bits s → all_mendable g.pages s.raw (used s.image) 0 (bits s) ≡ true
  agree_mendable s e d =
      let us = used s.image in
      let w = (scanned_iff g image fit bytes s).0 e in
      let d' : lowest_difference s.raw us 0 (8 * length s.raw) ≡ 0 + 8 * length s.raw = d ∙ omega arith in
      all_mendable_lem g.pages s.raw us 0 (8 * length s.raw) (λ x p q.
      let a = difference_agree s.raw us 0 (8 * length s.raw) d' x p q in
      elim (dec_lt x g.pages) [
        | yes r ↦ rw (lt-ltb x g.pages r, choose_true) (le-leb (bit (mem x us)) (bit_at s.raw x) (omega arith))
        | no r ↦
            let z : count x us ≡ 0 = omega (arith, w.apart x, range_above x g.pages (omega arith)) in
            rw (le-ltb x g.pages (omega arith), choose_false) (eq-eqb (bit_at s.raw x) 0 (a ∙ ap bit (mem_false x us z)))
      ])

  rest : Scan → Res (Effect ℕ)
  rest s = and_after (refuse_unless (all_mendable g.pages s.raw (used s.image) 0 (bits s)) 13 (lowest s))
      (ok (record { answer = unowned s.raw (used s.image) 0 (bits s); image = after_writes g (mend_writes g s.image) image }))

  judged : Scan → Res Image
  judged s = and_after (refuse_unless (eqb (lowest s) (bits s)) 13 (lowest s)) (ok s.image)

  same_fault : {A B : Type 0} (a b n p : ℕ) → ◌≡◌ {A = Res A} (err a b) (err n p) → ◌≡◌ {A = Res B} (err a b) (err n p)
  same_fault a b n p e = let q : a ≡ n = cc in let r : b ≡ p = cc in cc

  -- an accepted image has its pages marked
  pub accepted_mendable : (i : Image) → check g (views_of g image) ≡ ok i
      → (s : Scan) × (scan g (views_of g image) ≡ ok s) × (all_mendable g.pages s.raw (used s.image) 0 (8 * length s.raw) ≡ true)
  unfolding check judge_bits
  accepted_mendable i e = on_then _ _ _ e λ s q e. on_refuse _ _ _ _ _ e λ a _. (s, q, agree_mendable s q (eqb-true _ _ a))

  -- where the check refuses, a mend is done or refuses alike
  pub data Alike (n p : ℕ) : Type 0 where
    mended : (x : Effect ℕ) → mend g image ≡ ok x → Alike n p
    refused : mend g image ≡ err n p → Alike n p

  pub mend_alike : (n p : ℕ) → check g (views_of g image) ≡ err n p → Alike n p
  unfolding mend check judge_bits rest judged
  mend_alike n p e = go (scan g (views_of g image)) refl e
    where
      by : (s : Scan) → scan g (views_of g image) ≡ ok s → (t u : Bool) → all_mendable g.pages s.raw (used s.image) 0 (bits s) ≡ t → eqb (lowest s) (bits s) ≡ u
          → judged s ≡ err n p → Alike n p
      by s q true u a b h = mended (record { answer = unowned s.raw (used s.image) 0 (bits s); image = after_writes g (mend_writes g s.image) image }) (simp (q, then_ok, a, refuse_true))
      by s q false true a b h = absurd (false≢true (sym a ∙ agree_mendable s q (eqb-true _ _ b)))
      by s q false false a b h =
          let z : ◌≡◌ {A = Res Image} (err 13 (lowest s)) (err n p) = simp (b, refuse_false, then_err) at h in
          refused (simp (q, then_ok, a, refuse_false, then_err) (same_fault 13 (lowest s) n p z))

      go : (r : Res Scan) → scan g (views_of g image) ≡ r → and_then r judged ≡ err n p → Alike n p
      go (ok s) q h = by s q _ _ refl refl (simp then_ok at h)
      go (err a b) q h = let z : ◌≡◌ {A = Res Image} (err a b) (err n p) = simp then_err at h in refused (simp (q, then_err) (same_fault a b n p z))

-- ---- the calls
module _ (P N : ℕ) (image table : List ℕ) where
  effect_ok : {A : Type 0} (g : Geometry) (r : Res (Effect A)) (x : A) → (effect P N image table g r).0 ≡ ok x → r ≡ ok (record { answer = x; image = (effect P N image table g r).1 })
  effect_ok {A} g (ok s) x e = ap (λ (d : A). ok (record { answer = d; image = s.image })) (ok_inj e)
  effect_ok g (err n p) x e = clash e

  -- a refusal leaves the image
  halted_refused : {A : Type 0} (call : Geometry → Res (Effect A)) → (IsDone (effective P N image table call).0 → ⊥) → (effective P N image table call).1 ≡ image
  halted_refused {A} call h = go (effective P N image table call).0 refl
    where
      go : (r : Res A) → (effective P N image table call).0 ≡ r → (effective P N image table call).1 ≡ image
      go (ok x) e = absurd (h (x, e))
      go (err n p) e = effective_refused P N image table (shape P N image table) call n p e

  told_none : (r : Res WriteCount) → (IsDone r → ⊥) → count_of r ≡ no_writes
  told_none (ok c) h = absurd (h (c, refl))
  told_none (err n p) h = refl

  cleared_none : (r : Res ℕ) → (IsDone r → ⊥) → cleared_of r ≡ 0
  cleared_none (ok c) h = absurd (h (c, refl))
  cleared_none (err n p) h = refl

  -- refusal 1 leaves image and table
  module _ (wrong : shape P N image table ≡ None) where
    pub careful_put_invalid : (k : ℕ) (path bytes : List ℕ) → careful_put_call P N image table k path bytes ≡ (err 1 0, image, table)
    unfolding careful_put_call
    careful_put_invalid k path bytes = rw wrong refl

    pub careful_delete_invalid : (k : ℕ) (path : List ℕ) → careful_delete_call P N image table k path ≡ (err 1 0, image, table)
    unfolding careful_delete_call
    careful_delete_invalid k path = rw wrong refl

    pub mend_invalid : mend_call P N image table ≡ (err 1 0, image, table)
    unfolding mend_call
    mend_invalid = rw wrong refl

  module _ (image_bytes : Bytes image) where
    pub careful_put_stated : (k : ℕ) (path bytes : List ℕ) → Bytes path → Bytes bytes
        → CarefullyPuts P N image table k path bytes (IsDone (careful_put_call P N image table k path bytes).0) (count_of (careful_put_call P N image table k path bytes).0) (careful_put_call P N image table k path bytes).1
    unfolding careful_put_call
    careful_put_stated k path bytes p b = record {
      done = λ g f h.
          let q : careful_put_call P N image table k path bytes ≡ effect P N image table g (careful_put g k path bytes image) = rw f refl in
          rw (ap count_of h.1, q) (careful_put_lem g k path bytes image _ (fit_of P N image table g f) image_bytes p b (effect_ok g (careful_put g k path bytes image) h.0 (rw q at h.1)));
      refused = λ h. (halted_refused (λ g. careful_put g k path bytes image) h, told_none _ h);
    }

    pub careful_delete_stated : (k : ℕ) (path : List ℕ)
        → CarefullyDeletes P N image table k path (IsDone (careful_delete_call P N image table k path).0) (count_of (careful_delete_call P N image table k path).0) (careful_delete_call P N image table k path).1
    unfolding careful_delete_call
    careful_delete_stated k path = record {
      done = λ g f h.
          let q : careful_delete_call P N image table k path ≡ effect P N image table g (careful_delete g k path image) = rw f refl in
          rw (ap count_of h.1, q) (careful_delete_lem g k path image _ (fit_of P N image table g f) image_bytes (effect_ok g (careful_delete g k path image) h.0 (rw q at h.1)));
      refused = λ h. (halted_refused (λ g. careful_delete g k path image) h, told_none _ h);
    }

    pub mend_stated : Mends P N image table (IsDone (mend_call P N image table).0) (λ r. (mend_call P N image table).0 ≡ r) (cleared_of (mend_call P N image table).0) (mend_call P N image table).1
    unfolding mend_call
    mend_stated = record {
      done = λ g f h.
          let q : mend_call P N image table ≡ effect P N image table g (mend g image) = rw f refl in
          rw (ap cleared_of h.1, q) (mend_gives g image _ (fit_of P N image table g f) image_bytes (effect_ok g (mend g image) h.0 (rw q at h.1)));
      exactly = λ g f s c m.
          let q : mend_call P N image table ≡ effect P N image table g (mend g image) = rw f refl in
          let fit = fit_of P N image table g f in
          let l : Left g image s.image.tree (map_pages s.image.map) = record {
            bits = s.raw;
            map = s.image.map;
            map_pages_same = refl;
            stands = record { fits = fit; are_bytes = image_bytes; holds = (scanned_iff g image fit image_bytes s).0 c };
            covers = m;
          } in
          let r = mend_of g image s.image.tree (map_pages s.image.map) l in
          (r.mended.answer, ap (λ (w : Res ℕ × List ℕ × List ℕ). w.0) q ∙ ap (λ (x : Res (Effect ℕ)). (effect P N image table g x).0) r.is);
      refused = λ h. (halted_refused (λ g. mend g image) h, cleared_none _ h);
      fault = λ g f n p c h.
          let q : mend_call P N image table ≡ effect P N image table g (mend g image) = rw f refl in
          elim (mend_alike g image (fit_of P N image table g f) image_bytes n p c) [
            | mended x e ↦ absurd (h (x.answer, ap (λ (w : Res ℕ × List ℕ × List ℕ). w.0) q ∙ ap (λ (x : Res (Effect ℕ)). (effect P N image table g x).0) e))
            | refused e ↦ ap (λ (w : Res ℕ × List ℕ × List ℕ). w.0) q ∙ ap (λ (x : Res (Effect ℕ)). (effect P N image table g x).0) e
          ];
    }
