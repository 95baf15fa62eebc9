-- The numbers and pages that the refusals of the careful calls and the mend tell; no more writes are told than were allowed, and no more marks than the bitmap has bits.
use Rattle.std.specs.Prelude.{◌≡◌, List, ℕ, zero, suc, ◌+◌, ◌*◌, ◌≤◌, ◌<◌}
use Rattle.std.proofs.Math.Path.{subst}
use Rattle.std.proofs.Common.{arith}
use Rattle.std.proofs.Math.ListN.{length}
use Rattle.geometry.specs.declared.Geometry.{Geometry}
use Rattle.packet.specs.Packet.{Write}
use Rattle.rules.specs.declared.WriteCount.{WriteCount}
use Rattle.rules.specs.Result.{ok}
use Rattle.rules.proofs.ResultLaws.{ok_inj, on_then, on_refuse}
use Rattle.rules.specs.Chain.{views_of}
use Rattle.rules.specs.Tree.{used}
use Rattle.rules.proofs.BitmapLaws.{bit_most, lowest}
use Rattle.rules.proofs.RefusalLaws.{Refuses, refuses_ok, refuses_then, refuses_test, refuses_within}
use Rattle.rules.proofs.FuelLaws.{scan_faults, raw_short, check_faults}
use Rattle.rules.proofs.CallLaws.{put_target_faults, delete_target_faults}
use Rattle.rules.specs.Put.{put_edit}
use Rattle.rules.specs.Calls.{Effect}
use Rattle.rules.specs.Careful.{halted_at, careful_put, careful_delete, unowned, mend}

module _ (g : Geometry) (some : 0 < g.pages) (k : ℕ) (path image : List ℕ) where
  pub careful_put_faults : (bytes : List ℕ) → Refuses 2 22 (g.pages + 33) (careful_put g k path bytes image)
  unfolding careful_put put_edit
  careful_put_faults bytes =
      let m = g.pages + 33 in
      refuses_then _ _ (refuses_within 2 22 m (omega arith) (omega arith) (omega arith) (check_faults g (views_of g image) some)) λ i _.
      refuses_then _ _ (refuses_within 2 22 m (omega arith) (omega arith) (omega arith) (put_target_faults path i.tree)) λ x _.
      refuses_then _ _ (refuses_test _ 17 _ _ tt (omega arith) refuses_ok) λ e _. refuses_ok

  pub careful_delete_faults : Refuses 2 22 (g.pages + 33) (careful_delete g k path image)
  unfolding careful_delete
  careful_delete_faults =
      let m = g.pages + 33 in
      refuses_then _ _ (refuses_within 2 22 m (omega arith) (omega arith) (omega arith) (check_faults g (views_of g image) some)) λ i _.
      refuses_then _ _ (refuses_within 2 22 m (omega arith) (omega arith) (omega arith) (delete_target_faults path i.tree)) λ x _. refuses_ok

-- ---- no more writes than were allowed
halted_most : (g : Geometry) (k : ℕ) (ws : List Write) (image : List ℕ) → (halted_at g k ws image).answer.made ≤ k
unfolding halted_at
halted_most g k ws image = omega arith

module _ (g : Geometry) (k : ℕ) (path image : List ℕ) (x : Effect WriteCount) where
  pub careful_put_most : (bytes : List ℕ) → careful_put g k path bytes image ≡ ok x → x.answer.made ≤ k
  unfolding careful_put
  careful_put_most bytes e = on_then _ _ _ e λ i _ e. on_then _ _ _ e λ t _ e. on_then _ _ _ e λ p _ e.
      subst (λ (y : Effect WriteCount). y.answer.made ≤ k) (ok_inj e) (halted_most g k _ image)

  pub careful_delete_most : careful_delete g k path image ≡ ok x → x.answer.made ≤ k
  unfolding careful_delete
  careful_delete_most e = on_then _ _ _ e λ i _ e. on_then _ _ _ e λ t _ e. subst (λ (y : Effect WriteCount). y.answer.made ≤ k) (ok_inj e) (halted_most g k _ image)

-- ---- a mend
pub unowned_most : (raw us : List ℕ) (k n : ℕ) → unowned raw us k n ≤ n
unfolding unowned
unowned_most raw us k zero = omega arith
unowned_most raw us k (suc n) = omega (arith, bit_most raw k, unowned_most raw us (k + 1) n)

module _ (g : Geometry) (some : 0 < g.pages) (image : List ℕ) where
  pub mend_faults : Refuses 2 13 (g.pages + 33) (mend g image)
  unfolding mend
  mend_faults =
      refuses_then _ _ (refuses_within 2 13 (g.pages + 33) (omega arith) (omega arith) (omega arith) (scan_faults g (views_of g image) some)) λ s e.
      refuses_test _ 13 _ _ tt (omega (arith, (lowest s.raw (used s.image) 0 (8 * length s.raw)).high, raw_short g (views_of g image) some s e)) refuses_ok

  pub mend_most : (x : Effect ℕ) → mend g image ≡ ok x → x.answer ≤ g.pages + 32
  unfolding mend
  mend_most x e = on_then _ _ _ e λ s q e. on_refuse _ _ _ _ _ e λ _ e.
      subst (λ (y : Effect ℕ). y.answer ≤ g.pages + 32) (ok_inj e)
      (omega (arith, unowned_most s.raw (used s.image) 0 (8 * length s.raw), raw_short g (views_of g image) some s q))
