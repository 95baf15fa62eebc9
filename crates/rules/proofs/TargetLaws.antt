-- A path in a tree: first the path is judged, then its directories, then what stands there.
use Rattle.std.specs.Prelude.{◌≡◌, true, false, List, ℕ}
use Rattle.std.proofs.Common.{◌∙◌}
use Rattle.std.proofs.Math.Path.{subst}
use Rattle.std.proofs.lemmas.Bool.{not-true}
use Rattle.rules.specs.Result.{Res, ok, err, and_then}
use Rattle.rules.proofs.ResultLaws.{ok_inj, on_then, refuse_inv, refuse_true, refuse_false, then_ok, then_err, then_assoc, then_cong}
use Rattle.rules.specs.Tree.{Items}
use Rattle.rules.specs.Paths.{Path, directory_path_of, file_key, Found, find, Place, root_place, directory_at, Target, target_at, target_of, shown}
use Rattle.rules.specs.Put.{writable, put_target}
use Rattle.rules.specs.Delete.{present, delete_target}
use Rattle.rules.specs.Directories.{vacant, make_target, present_directory, shown_directory, without_entries, removal_target}

-- no directory on the way to a place is hidden, or one is
pub is_shown : (p : Place) → p.hidden ≡ false → shown p ≡ ok tt
unfolding shown
is_shown p h = simp (h, refuse_true)

pub not_shown : (p : Place) → p.hidden ≡ true → shown p ≡ err 22 0
unfolding shown
not_shown p h = simp (h, refuse_false)

pub shown_inv : (p : Place) (u : Unit {0}) → shown p ≡ ok u → p.hidden ≡ false
unfolding shown
shown_inv p u e = not-true p.hidden (refuse_inv _ _ _ _ e)

-- what a path that leads to a directory has met
pub record Reached (asked : Res Path) (t : Items) (x : Target) : Type 0 where
  pub formed : asked ≡ ok x.to
  pub there : directory_at x.to.directories (root_place t) ≡ ok x.place

module _ (asked : Res Path) (t : Items) where
  pub reached : (x : Target) → target_at asked t ≡ ok x → Reached asked t x
  unfolding target_at
  reached x e = on_then _ _ _ e λ q f e. on_then _ _ _ e λ d n e. subst (Reached asked t) (ok_inj e) (record { formed = f; there = n })

  pub target_malformed : (n p : ℕ) → asked ≡ err n p → target_at asked t ≡ err n p
  unfolding target_at
  target_malformed n p e = simp (e, then_err)

  module _ (q : Path) (formed : asked ≡ ok q) where
    pub target_nowhere : (n p : ℕ) → directory_at q.directories (root_place t) ≡ err n p → target_at asked t ≡ err n p
    unfolding target_at
    target_nowhere n p e = simp (formed, then_ok, e, then_err)

    pub target_is : (d : Place) → directory_at q.directories (root_place t) ≡ ok d → target_at asked t ≡ ok (record { to = q; place = d })
    unfolding target_at
    target_is d e = simp (formed, then_ok, e)

  -- what follows a path in a tree
  pub target_then : {A : Type 0} (f : Target → Res A)
      → and_then (target_at asked t) f ≡ and_then asked (λ q. and_then (directory_at q.directories (root_place t)) (λ d. f (record { to = q; place = d })))
  unfolding target_at
  target_then f = then_assoc _ _ _ ∙ then_cong _ _ _ (λ q _. then_assoc _ _ _ ∙ then_cong _ _ _ (λ d _. then_ok _ _))

module _ (path : List ℕ) (t : Items) where
  -- ---- the target of a put, and of a delete
  pub put_target_none : (n p : ℕ) → target_of path t ≡ err n p → put_target path t ≡ err n p
  unfolding put_target
  put_target_none n p e = simp (e, then_err)

  pub delete_target_none : (n p : ℕ) → target_of path t ≡ err n p → delete_target path t ≡ err n p
  unfolding delete_target
  delete_target_none n p e = simp (e, then_err)

  module _ (x : Target) (at : target_of path t ≡ ok x) where
    pub put_target_hidden : x.place.hidden ≡ true → put_target path t ≡ err 22 0
    unfolding put_target
    put_target_hidden h = simp (at, then_ok, not_shown x.place h, then_err)

    pub delete_target_absent : (n p : ℕ) → present (find (file_key x.to) x.place.items) ≡ err n p → delete_target path t ≡ err n p
    unfolding delete_target
    delete_target_absent n p h = simp (at, then_ok, h, then_err)

    pub delete_target_hidden : present (find (file_key x.to) x.place.items) ≡ ok tt → x.place.hidden ≡ true → delete_target path t ≡ err 22 0
    unfolding delete_target
    delete_target_hidden h s = simp (at, then_ok, h, not_shown x.place s, then_err)

    module _ (seen : x.place.hidden ≡ false) where
      pub put_target_is : writable (find (file_key x.to) x.place.items) ≡ ok tt → put_target path t ≡ ok x
      unfolding put_target
      put_target_is w = simp (at, then_ok, is_shown x.place seen, w)

      pub put_target_kept : (n p : ℕ) → writable (find (file_key x.to) x.place.items) ≡ err n p → put_target path t ≡ err n p
      unfolding put_target
      put_target_kept n p w = simp (at, then_ok, is_shown x.place seen, w, then_err)

      pub delete_target_is : present (find (file_key x.to) x.place.items) ≡ ok tt → writable (find (file_key x.to) x.place.items) ≡ ok tt → delete_target path t ≡ ok x
      unfolding delete_target
      delete_target_is h w = simp (at, then_ok, h, is_shown x.place seen, w)

      pub delete_target_kept : (n p : ℕ) → present (find (file_key x.to) x.place.items) ≡ ok tt → writable (find (file_key x.to) x.place.items) ≡ err n p → delete_target path t ≡ err n p
      unfolding delete_target
      delete_target_kept n p h w = simp (at, then_ok, h, is_shown x.place seen, w, then_err)

  -- what a target that was given has met
  pub record PutMet (x : Target) : Type 0 where
    pub at : target_of path t ≡ ok x
    pub seen : x.place.hidden ≡ false
    pub may : writable (find (file_key x.to) x.place.items) ≡ ok tt

  pub put_met : (x : Target) → put_target path t ≡ ok x → PutMet x
  unfolding put_target
  put_met x e = on_then _ _ _ e λ y f e. on_then _ _ _ e λ u s e. on_then _ _ _ e λ u₂ w e. subst PutMet (ok_inj e) (record { at = f; seen = shown_inv y.place u s; may = w })

  pub record DeleteMet (x : Target) : Type 0 where
    pub at : target_of path t ≡ ok x
    pub is : present (find (file_key x.to) x.place.items) ≡ ok tt
    pub seen : x.place.hidden ≡ false
    pub may : writable (find (file_key x.to) x.place.items) ≡ ok tt

  pub delete_met : (x : Target) → delete_target path t ≡ ok x → DeleteMet x
  unfolding delete_target
  delete_met x e = on_then _ _ _ e λ y f e. on_then _ _ _ e λ u h e. on_then _ _ _ e λ u₂ s e. on_then _ _ _ e λ u₃ w e.
      subst DeleteMet (ok_inj e) (record { at = f; is = h; seen = shown_inv y.place u₂ s; may = w })

  -- ---- the target of a making, and of a removal
  abbrev at_directory : Target → Found
  at_directory x = find (file_key x.to) x.place.items

  abbrev pub directory_target : Res Target
  directory_target = target_at (directory_path_of path) t

  pub make_target_none : (n p : ℕ) → directory_target ≡ err n p → make_target path t ≡ err n p
  unfolding make_target
  make_target_none n p e = simp (e, then_err)

  pub removal_target_none : (n p : ℕ) → directory_target ≡ err n p → removal_target path t ≡ err n p
  unfolding removal_target
  removal_target_none n p e = simp (e, then_err)

  module _ (x : Target) (at : directory_target ≡ ok x) where
    pub make_target_hidden : x.place.hidden ≡ true → make_target path t ≡ err 22 0
    unfolding make_target
    make_target_hidden h = simp (at, then_ok, not_shown x.place h, then_err)

    pub removal_target_absent : (n p : ℕ) → present_directory (at_directory x) ≡ err n p → removal_target path t ≡ err n p
    unfolding removal_target
    removal_target_absent n p h = simp (at, then_ok, h, then_err)

    pub removal_target_below : present_directory (at_directory x) ≡ ok tt → x.place.hidden ≡ true → removal_target path t ≡ err 22 0
    unfolding removal_target
    removal_target_below h s = simp (at, then_ok, h, not_shown x.place s, then_err)

    module _ (seen : x.place.hidden ≡ false) where
      pub make_target_is : vacant (at_directory x) ≡ ok tt → make_target path t ≡ ok x
      unfolding make_target
      make_target_is w = simp (at, then_ok, is_shown x.place seen, w)

      pub make_target_taken : (n p : ℕ) → vacant (at_directory x) ≡ err n p → make_target path t ≡ err n p
      unfolding make_target
      make_target_taken n p w = simp (at, then_ok, is_shown x.place seen, w, then_err)

      module _ (h : present_directory (at_directory x) ≡ ok tt) where
        pub removal_target_hidden : (n p : ℕ) → shown_directory (at_directory x) ≡ err n p → removal_target path t ≡ err n p
        unfolding removal_target
        removal_target_hidden n p s = simp (at, then_ok, h, is_shown x.place seen, s, then_err)

        pub removal_target_kept : (n p : ℕ) → shown_directory (at_directory x) ≡ ok tt → without_entries (at_directory x) ≡ err n p → removal_target path t ≡ err n p
        unfolding removal_target
        removal_target_kept n p s e = simp (at, then_ok, h, is_shown x.place seen, s, e, then_err)

        pub removal_target_is : shown_directory (at_directory x) ≡ ok tt → without_entries (at_directory x) ≡ ok tt → removal_target path t ≡ ok x
        unfolding removal_target
        removal_target_is s e = simp (at, then_ok, h, is_shown x.place seen, s, e)

  pub record MakeMet (x : Target) : Type 0 where
    pub at : directory_target ≡ ok x
    pub seen : x.place.hidden ≡ false
    pub may : vacant (at_directory x) ≡ ok tt

  pub make_met : (x : Target) → make_target path t ≡ ok x → MakeMet x
  unfolding make_target
  make_met x e = on_then _ _ _ e λ y f e. on_then _ _ _ e λ u s e. on_then _ _ _ e λ u₂ w e. subst MakeMet (ok_inj e) (record { at = f; seen = shown_inv y.place u s; may = w })

  pub record RemovalMet (x : Target) : Type 0 where
    pub at : directory_target ≡ ok x
    pub is : present_directory (at_directory x) ≡ ok tt
    pub none : without_entries (at_directory x) ≡ ok tt

  pub removal_met : (x : Target) → removal_target path t ≡ ok x → RemovalMet x
  unfolding removal_target
  removal_met x e = on_then _ _ _ e λ y f e. on_then _ _ _ e λ u h e. on_then _ _ _ e λ u₂ s e. on_then _ _ _ e λ u₃ v e. on_then _ _ _ e λ u₄ w e.
      subst RemovalMet (ok_inj e) (record { at = f; is = h; none = w })
