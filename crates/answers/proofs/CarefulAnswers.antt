-- The careful calls and the mend as the caller sees them.
use mathlib.Core.Path.{◌≡◌, refl, ap, sym, subst}
use mathlib.Core.Logic.{◌↔◌}
use mathlib.Core.Bool.{Bool, true, false}
use mathlib.Core.List.{List}
use Prim.Native.Nat.{ℕ, ◌<◌}
use native.Mathlib.Omega.{arith}
use lib.Dec.{eqb}
use Rattle.geometry.specs.declared.Geometry.{Geometry}
use Rattle.geometry.specs.Number.{Bytes}
use Rattle.rules.specs.declared.WriteCount.{WriteCount}
use Rattle.rules.specs.Result.{Res, ok, err}
use Rattle.rules.specs.PageSets.{bit}
use Rattle.rules.specs.Careful.{careful_put, careful_delete, mend, careful_put_call, careful_delete_call, mend_call, count_of, cleared_of}
use Rattle.rules.specs.CarefulPromises.{Carefully, CarefullyPuts, CarefullyDeletes, Mends}
use Rattle.rules.proofs.CarefulLaws.{careful_put_most, careful_delete_most, mend_most}
use Rattle.careful_theorems.proofs.CarefulCalls.{careful_put_stated, careful_delete_stated, mend_stated}
use Rattle.answers.specs.declared.OwfsWrites.{OwfsWrites}
use Rattle.answers.specs.declared.OwfsMended.{OwfsMended}
use Rattle.answers.specs.ExportedAnswers.{writes_for, mended_for, count_told, careful_put_answer, careful_delete_answer, mend_answer}
use Rattle.answers.specs.Small.{Small, LengthSmall, WritesSmall}
use Rattle.answers.proofs.CallFaults.{some_pages, careful_put_told, careful_delete_told, mend_told}
use Rattle.answers.proofs.EffectLaws.{small_effective, number_done}

-- ---- the numbers are small
module _ (P N : ℕ) (image t : List ℕ) (k : ℕ) where
  module _ (few : k < 4294967296) where
    pub careful_put_small : (path bytes : List ℕ) (q : Res WriteCount) (after x : List ℕ) → (q, after, x) ≡ careful_put_call P N image t k path bytes → Small WritesSmall q
    unfolding careful_put_call
    careful_put_small path bytes q after x e = subst (Small WritesSmall) (sym (ap (λ (y : Res WriteCount × List ℕ × List ℕ). y.0) e))
        (small_effective P N image t WritesSmall (λ g. careful_put g k path bytes image) (careful_put_told image path k bytes) (λ g f y z. omega (arith, few, careful_put_most g k path image y bytes z)))

    pub careful_delete_small : (path : List ℕ) (q : Res WriteCount) (after x : List ℕ) → (q, after, x) ≡ careful_delete_call P N image t k path → Small WritesSmall q
    unfolding careful_delete_call
    careful_delete_small path q after x e = subst (Small WritesSmall) (sym (ap (λ (y : Res WriteCount × List ℕ × List ℕ). y.0) e))
        (small_effective P N image t WritesSmall (λ g. careful_delete g k path image) (careful_delete_told image path k) (λ g f y z. omega (arith, few, careful_delete_most g k path image y z)))

module _ (P N : ℕ) (image t : List ℕ) where
  pub mend_small : (q : Res ℕ) (after x : List ℕ) → (q, after, x) ≡ mend_call P N image t → Small LengthSmall q
  unfolding mend_call
  mend_small q after x e = subst (Small LengthSmall) (sym (ap (λ (y : Res ℕ × List ℕ × List ℕ). y.0) e))
      (small_effective P N image t LengthSmall (λ g. mend g image) (mend_told image) (λ g f y z. omega (arith, mend_most g (some_pages f) image y z, f.valid.few)))

-- ---- what the calls state, of the answers
bit_told : (b : Bool) → eqb (bit b) 1 ≡ b
bit_told true = refl
bit_told false = refl

count_told_lem : (q : Res WriteCount) → count_told (writes_for q) ≡ count_of q
count_told_lem (ok c) = ap (λ (b : Bool). record { made = c.made; left = b }) (bit_told c.left)
count_told_lem (err n p) = refl

cleared_told : (q : Res ℕ) → (mended_for q).cleared ≡ cleared_of q
cleared_told (ok n) = refl
cleared_told (err n p) = refl

module _ (P N : ℕ) (image t : List ℕ) where
  -- "done" said in other words
  carefully_said : {Left : Geometry → Type 0} {Says Said : Type 0} {told : WriteCount} {after : List ℕ} → Says ↔ Said
      → Carefully P N image t Left Said told after → Carefully P N image t Left Says told after
  carefully_said d c = record { done = λ g f a. c.done g f (d.0 a); refused = λ h. c.refused (λ a. h (d.1 a)) }

  mends_said : {Says Said : Type 0} {tells told : Res ℕ → Type 0} {cleared : ℕ} {after : List ℕ} → Says ↔ Said → ((x : Res ℕ) → told x → tells x)
      → Mends P N image t Said told cleared after → Mends P N image t Says tells cleared after
  mends_said d k c = record {
    done = λ g f a. c.done g f (d.0 a);
    exactly = λ g f s e v. d.1 (c.exactly g f s e v);
    refused = λ h. c.refused (λ a. h (d.1 a));
    fault = λ g f n p e h. k (err n p) (c.fault g f n p e (λ a. h (d.1 a)));
  }

module _ (P N : ℕ) (image owners : List ℕ) (image_bytes : Bytes image) where
  pub carefully_puts : (k : ℕ) (path text : List ℕ) → Bytes path → Bytes text → (r : OwfsWrites) (after b : List ℕ) → (r, after, b) ≡ careful_put_answer P N image owners path text k
      → CarefullyPuts P N image owners k path text (r.number ≡ 0) (count_told r) after
  unfolding careful_put_answer careful_put_call
  carefully_puts k path text pb tb r after b e =
      let c = careful_put_call P N image owners k path text in
      let told : r ≡ writes_for c.0 = ap (λ (x : OwfsWrites × List ℕ × List ℕ). x.0) e in
      let left : after ≡ c.1 = ap (λ (x : OwfsWrites × List ℕ × List ℕ). x.1) e in
      let d = number_done P N image owners (λ g. careful_put g k path text image) (careful_put_told image path k text) (λ q. (writes_for q).number) (λ x. refl) (λ n p. refl) in
      rw (left, told, count_told_lem c.0) (carefully_said P N image owners d (careful_put_stated P N image owners image_bytes k path text pb tb))

  pub carefully_deletes : (k : ℕ) (path : List ℕ) (r : OwfsWrites) (after b : List ℕ) → (r, after, b) ≡ careful_delete_answer P N image owners path k
      → CarefullyDeletes P N image owners k path (r.number ≡ 0) (count_told r) after
  unfolding careful_delete_answer careful_delete_call
  carefully_deletes k path r after b e =
      let c = careful_delete_call P N image owners k path in
      let told : r ≡ writes_for c.0 = ap (λ (x : OwfsWrites × List ℕ × List ℕ). x.0) e in
      let left : after ≡ c.1 = ap (λ (x : OwfsWrites × List ℕ × List ℕ). x.1) e in
      let d = number_done P N image owners (λ g. careful_delete g k path image) (careful_delete_told image path k) (λ q. (writes_for q).number) (λ x. refl) (λ n p. refl) in
      rw (left, told, count_told_lem c.0) (carefully_said P N image owners d (careful_delete_stated P N image owners image_bytes k path))

  pub mends : (r : OwfsMended) (after b : List ℕ) → (r, after, b) ≡ mend_answer P N image owners
      → Mends P N image owners (r.number ≡ 0) (λ x. r ≡ mended_for x) r.cleared after
  unfolding mend_answer mend_call
  mends r after b e =
      let c = mend_call P N image owners in
      let told : r ≡ mended_for c.0 = ap (λ (x : OwfsMended × List ℕ × List ℕ). x.0) e in
      let left : after ≡ c.1 = ap (λ (x : OwfsMended × List ℕ × List ℕ). x.1) e in
      let d = number_done P N image owners (λ g. mend g image) (mend_told image) (λ q. (mended_for q).number) (λ x. refl) (λ n p. refl) in
      rw (left, told, cleared_told c.0) (mends_said P N image owners d (λ x h. ap mended_for h) (mend_stated P N image owners image_bytes))
