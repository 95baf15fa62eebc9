-- A refusal changes no byte, not of the image and not of the output, and refusal 1 leaves the owner table too; the numbers and pages that the calls' refusals tell.
use Rattle.std.specs.Prelude.{Option, Some, None, ◌≡◌, Bool, List, ℕ, ◌+◌, ◌<◌}
use Rattle.std.proofs.Math.Path.{refl}
use Rattle.std.proofs.Common.{sym, arith}
use Rattle.geometry.specs.declared.Geometry.{Geometry}
use Rattle.rules.specs.Result.{Res, ok, err, and_then}
use Rattle.rules.proofs.ResultLaws.{clash, on_refused}
use Rattle.rules.specs.Chain.{views_of}
use Rattle.rules.proofs.RefusalLaws.{Refuses, refuses_ok, refuses_then, refuses_test, refuses_within, path_faults, directory_path_faults, target_faults}
use Rattle.rules.proofs.RefusalLaws.{shown_faults, vacant_faults, directory_faults, hidden_faults, entries_faults, writable_faults, present_faults, bytes_faults}
use Rattle.rules.proofs.FuelLaws.{check_faults}
use Rattle.rules.specs.Tree.{Items, Image}
use Rattle.rules.specs.Check.{check}
use Rattle.rules.specs.Owners.{table_after}
use Rattle.rules.specs.Format.{format}
use Rattle.rules.specs.Paths.{path_of, directory_path_of, Place, Target}
use Rattle.rules.specs.Put.{put_target, put_edit, put_at, put}
use Rattle.rules.specs.Delete.{delete_target, remove_at, delete}
use Rattle.rules.specs.Directories.{make_target, new_directory, make_directory, make_call, removal_target, remove_directory, remove_call}
use Rattle.rules.specs.Calls.{in_geometry, file_at, read_bytes, length_of, filled, shape, asked, Effect, plainly, effect, changed, check_call, list_call, read_call, format_call, put_call, delete_call}

filled_refused : (out : List ℕ) (r : Res (List ℕ)) (n p : ℕ) → length_of r ≡ err n p → filled out r ≡ out
filled_refused out (ok bytes) n p e = clash (sym e)
filled_refused out (err m q) n p e = refl

module _ (P N : ℕ) (image table : List ℕ) where
  effect_refused : {A : Type 0} (g : Geometry) (r : Res (Effect A)) (n p : ℕ) → (effect P N image table g r).0 ≡ err n p → (effect P N image table g r).1 ≡ image
  effect_refused g (ok x) n p e = clash (sym e)
  effect_refused g (err m q) n p e = refl

  -- a call that may change the image, in any geometry
  pub effective_refused : {A : Type 0} (s : Option Geometry) (call : Geometry → Res (Effect A)) (n p : ℕ)
      → (in_geometry s (err 1 0, image, table) (λ g. effect P N image table g (call g))).0 ≡ err n p
      → (in_geometry s (err 1 0, image, table) (λ g. effect P N image table g (call g))).1 ≡ image
  effective_refused None call n p e = refl
  effective_refused (Some g) call n p e = effect_refused g (call g) n p e

  pub changed_refused : (edit : Geometry → Res (List ℕ)) (n p : ℕ) → (changed P N image table edit).0 ≡ err n p → (changed P N image table edit).1 ≡ image
  changed_refused edit n p e = effective_refused (shape P N image table) (λ g. plainly (edit g)) n p e

  pub format_refused : (local : Bool) (n p : ℕ) → (format_call P N image table local).0 ≡ err n p → (format_call P N image table local).1 ≡ image
  unfolding format_call
  format_refused local n p e = changed_refused (λ g. format g local image) n p e

  pub put_refused : (path bytes : List ℕ) (n p : ℕ) → (put_call P N image table path bytes).0 ≡ err n p → (put_call P N image table path bytes).1 ≡ image
  unfolding put_call
  put_refused path bytes n p e = changed_refused (λ g. put g path bytes image) n p e

  pub delete_refused : (path : List ℕ) (n p : ℕ) → (delete_call P N image table path).0 ≡ err n p → (delete_call P N image table path).1 ≡ image
  unfolding delete_call
  delete_refused path n p e = changed_refused (λ g. delete g path image) n p e

  pub read_refused : (path out : List ℕ) (n p : ℕ) → (read_call P N image table path out).0 ≡ err n p → (read_call P N image table path out).1 ≡ out
  unfolding read_call
  read_refused path out n p e = filled_refused out (asked P N image table (read_bytes path out)).0 n p e

  -- ---- a question about an image in its geometry
  pub asked_fits : {A : Type 0} (g : Geometry) → shape P N image table ≡ Some g → (question : Image → Res A)
      → asked P N image table question ≡ (and_then (check g (views_of g image)) question, table_after g.pages (check g (views_of g image)) table)
  asked_fits g e question = rw e refl

  pub asked_invalid : {A : Type 0} → shape P N image table ≡ None → (question : Image → Res A) → asked P N image table question ≡ (err 1 0, table)
  asked_invalid e question = rw e refl

  -- ---- refusal 1: the sizes are not those of an image, or the table is too short
  module _ (wrong : shape P N image table ≡ None) where
    pub check_invalid : check_call P N image table ≡ (err 1 0, table)
    unfolding check_call
    check_invalid = rw wrong refl

    pub list_invalid : (k : ℕ) → list_call P N image table k ≡ (err 1 0, table)
    unfolding list_call
    list_invalid k = rw wrong refl

    pub read_invalid : (path out : List ℕ) → read_call P N image table path out ≡ (err 1 0, out, table)
    unfolding read_call
    read_invalid path out = rw wrong refl

    pub format_invalid : (local : Bool) → format_call P N image table local ≡ (err 1 0, image, table)
    unfolding format_call
    format_invalid local = rw wrong refl

    pub put_invalid : (path bytes : List ℕ) → put_call P N image table path bytes ≡ (err 1 0, image, table)
    unfolding put_call
    put_invalid path bytes = rw wrong refl

    pub delete_invalid : (path : List ℕ) → delete_call P N image table path ≡ (err 1 0, image, table)
    unfolding delete_call
    delete_invalid path = rw wrong refl

    pub make_invalid : (path : List ℕ) → make_call P N image table path ≡ (err 1 0, image, table)
    unfolding make_call
    make_invalid path = rw wrong refl

    pub remove_invalid : (path : List ℕ) → remove_call P N image table path ≡ (err 1 0, image, table)
    unfolding remove_call
    remove_invalid path = rw wrong refl

-- ---- the numbers and pages of the calls' refusals
pub read_faults : (path out : List ℕ) (i : Image) → Refuses 14 18 1 (read_bytes path out i)
unfolding read_bytes file_at
read_faults path out i =
    refuses_then _ _ (refuses_then _ _ (refuses_within 14 18 1 (omega arith) (omega arith) (omega arith) (target_faults (path_of path) i.tree (path_faults path))) λ x _.
    refuses_within 14 18 1 (omega arith) (omega arith) (omega arith) (bytes_faults _)) λ bytes _. refuses_test _ 18 _ _ tt (omega arith) refuses_ok

pub put_target_faults : (path : List ℕ) (t : Items) → Refuses 14 22 1 (put_target path t)
unfolding put_target
put_target_faults path t =
    refuses_then _ _ (refuses_within 14 22 1 (omega arith) (omega arith) (omega arith) (target_faults (path_of path) t (path_faults path))) λ x _.
    refuses_then _ _ (refuses_within 14 22 1 (omega arith) (omega arith) (omega arith) (shown_faults _)) λ _ _.
    refuses_then _ _ (refuses_within 14 22 1 (omega arith) (omega arith) (omega arith) (writable_faults _)) λ _ _. refuses_ok

-- none of them is for room
pub put_target_room : {C : Type 0} (path : List ℕ) (t : Items) (p : ℕ) → put_target path t ≡ err 17 p → C
unfolding put_target
put_target_room path t p e =
    on_refused _ _ _ _ e (λ f. absurd (omega (arith, ((target_faults (path_of path) t (path_faults path)).number 17 p f).1))) λ x _ e.
    on_refused _ _ _ _ e (λ f. absurd (omega (arith, ((shown_faults x.place).number 17 p f).0))) λ _ _ e.
    on_refused _ _ _ _ e (λ f. absurd (omega (arith, ((writable_faults _).number 17 p f).1))) λ _ _ e. clash (sym e)

pub delete_target_faults : (path : List ℕ) (t : Items) → Refuses 14 22 1 (delete_target path t)
unfolding delete_target
delete_target_faults path t =
    refuses_then _ _ (refuses_within 14 22 1 (omega arith) (omega arith) (omega arith) (target_faults (path_of path) t (path_faults path))) λ x _.
    refuses_then _ _ (refuses_within 14 22 1 (omega arith) (omega arith) (omega arith) (present_faults _)) λ _ _.
    refuses_then _ _ (refuses_within 14 22 1 (omega arith) (omega arith) (omega arith) (shown_faults _)) λ _ _.
    refuses_then _ _ (refuses_within 14 22 1 (omega arith) (omega arith) (omega arith) (writable_faults _)) λ _ _. refuses_ok

-- a making and a removal
pub make_target_faults : (path : List ℕ) (t : Items) → Refuses 14 22 1 (make_target path t)
unfolding make_target
make_target_faults path t =
    refuses_then _ _ (refuses_within 14 22 1 (omega arith) (omega arith) (omega arith) (target_faults (directory_path_of path) t (directory_path_faults path))) λ x _.
    refuses_then _ _ (refuses_within 14 22 1 (omega arith) (omega arith) (omega arith) (shown_faults _)) λ _ _.
    refuses_then _ _ (refuses_within 14 22 1 (omega arith) (omega arith) (omega arith) (vacant_faults _)) λ _ _. refuses_ok

pub make_target_room : {C : Type 0} (path : List ℕ) (t : Items) (p : ℕ) → make_target path t ≡ err 17 p → C
unfolding make_target
make_target_room path t p e =
    on_refused _ _ _ _ e (λ f. absurd (omega (arith, ((target_faults (directory_path_of path) t (directory_path_faults path)).number 17 p f).1))) λ x _ e.
    on_refused _ _ _ _ e (λ f. absurd (omega (arith, ((shown_faults x.place).number 17 p f).0))) λ _ _ e.
    on_refused _ _ _ _ e (λ f. absurd (omega (arith, ((vacant_faults _).number 17 p f).0))) λ _ _ e. clash (sym e)

pub removal_target_faults : (path : List ℕ) (t : Items) → Refuses 14 22 1 (removal_target path t)
unfolding removal_target
removal_target_faults path t =
    refuses_then _ _ (refuses_within 14 22 1 (omega arith) (omega arith) (omega arith) (target_faults (directory_path_of path) t (directory_path_faults path))) λ x _.
    refuses_then _ _ (refuses_within 14 22 1 (omega arith) (omega arith) (omega arith) (directory_faults _)) λ _ _.
    refuses_then _ _ (refuses_within 14 22 1 (omega arith) (omega arith) (omega arith) (shown_faults _)) λ _ _.
    refuses_then _ _ (refuses_within 14 22 1 (omega arith) (omega arith) (omega arith) (hidden_faults _)) λ _ _.
    refuses_then _ _ (refuses_within 14 22 1 (omega arith) (omega arith) (omega arith) (entries_faults _)) λ _ _. refuses_ok

-- a call that puts something refuses as its target does, or for room; one that removes something as its target does
module _ (g : Geometry) (some : 0 < g.pages) (image : List ℕ) (target : Items → Res Target) (h : (t : Items) → Refuses 14 22 1 (target t)) where
  pub put_at_faults : (bytes : Place → List ℕ) → Refuses 2 22 (g.pages + 33) (put_at g target bytes image)
  unfolding put_at put_edit
  put_at_faults bytes =
      let m = g.pages + 33 in
      refuses_then _ _ (refuses_within 2 22 m (omega arith) (omega arith) (omega arith) (check_faults g (views_of g image) some)) λ i _.
      refuses_then _ _ (refuses_within 2 22 m (omega arith) (omega arith) (omega arith) (h i.tree)) λ x _.
      refuses_then _ _ (refuses_test _ 17 _ _ tt (omega arith) refuses_ok) λ e _. refuses_ok

  pub remove_at_faults : Refuses 2 22 (g.pages + 33) (remove_at g target image)
  unfolding remove_at
  remove_at_faults =
      let m = g.pages + 33 in
      refuses_then _ _ (refuses_within 2 22 m (omega arith) (omega arith) (omega arith) (check_faults g (views_of g image) some)) λ i _.
      refuses_then _ _ (refuses_within 2 22 m (omega arith) (omega arith) (omega arith) (h i.tree)) λ x _. refuses_ok

module _ (g : Geometry) (some : 0 < g.pages) (path image : List ℕ) where
  pub put_faults : (bytes : List ℕ) → Refuses 2 22 (g.pages + 33) (put g path bytes image)
  put_faults bytes = put_at_faults g some image (put_target path) (put_target_faults path) (λ _. bytes)

  pub delete_faults : Refuses 2 22 (g.pages + 33) (delete g path image)
  delete_faults = remove_at_faults g some image (delete_target path) (delete_target_faults path)

  pub make_faults : Refuses 2 22 (g.pages + 33) (make_directory g path image)
  make_faults = put_at_faults g some image (make_target path) (make_target_faults path) (new_directory g)

  pub remove_faults : Refuses 2 22 (g.pages + 33) (remove_directory g path image)
  remove_faults = remove_at_faults g some image (removal_target path) (removal_target_faults path)
