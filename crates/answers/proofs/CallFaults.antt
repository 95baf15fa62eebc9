-- What the refusals tell of a call that may change the image: a number from 1 to 22, and a page of the image, a bit of its bitmap or 0.
use mathlib.Core.Bool.{Bool}
use mathlib.Core.List.{List}
use Prim.Native.Nat.{ℕ, ◌+◌, ◌<◌}
use native.Mathlib.Omega.{arith}
use Rattle.geometry.specs.declared.Geometry.{Geometry}
use Rattle.geometry.specs.Geometry.{Fit}
use Rattle.rules.specs.Result.{Res, ok, err}
use Rattle.rules.proofs.ResultLaws.{err_same}
use Rattle.rules.proofs.RefusalLaws.{Refuses, refuses_within, refuses_ok, format_faults}
use Rattle.rules.proofs.CallLaws.{put_faults, delete_faults, make_faults, remove_faults}
use Rattle.rules.proofs.CarefulLaws.{careful_put_faults, careful_delete_faults, mend_faults}
use Rattle.rules.specs.Calls.{Effect, plainly}
use Rattle.rules.specs.Format.{format}
use Rattle.rules.specs.Put.{put}
use Rattle.rules.specs.Delete.{delete}
use Rattle.rules.specs.Directories.{make_directory, remove_directory}
use Rattle.rules.specs.Careful.{careful_put, careful_delete, mend}

pub some_pages : {g : Geometry} {image : List ℕ} → Fit g image → 0 < g.pages
some_pages f = omega (arith, f.valid.some)

abbrev pub CallFaults : {A : Type 0} → List ℕ → (Geometry → Res (Effect A)) → Type 0
CallFaults image call = (g : Geometry) → Fit g image → Refuses 1 22 (g.pages + 33) (call g)

-- an edit refuses as its rule does
plain_faults : {a b c : ℕ} (r : Res (List ℕ)) → Refuses a b c r → Refuses a b c (plainly r)
plain_faults (ok after) h = refuses_ok
plain_faults (err m q) h = record { number = λ n p e. h.number n p (err_same e); page = λ n p e. h.page n p (err_same e) }

module _ (image : List ℕ) where
  pub format_told : (local : Bool) → CallFaults image (λ g. plainly (format g local image))
  format_told local g f = refuses_within 1 22 (g.pages + 33) (omega arith) (omega arith) (omega arith) (plain_faults _ (format_faults g local image))

  module _ (path : List ℕ) where
    pub delete_told : CallFaults image (λ g. plainly (delete g path image))
    delete_told g f = refuses_within 1 22 (g.pages + 33) (omega arith) (omega arith) (omega arith) (plain_faults _ (delete_faults g (some_pages f) path image))

    pub put_told : (bytes : List ℕ) → CallFaults image (λ g. plainly (put g path bytes image))
    put_told bytes g f = refuses_within 1 22 (g.pages + 33) (omega arith) (omega arith) (omega arith) (plain_faults _ (put_faults g (some_pages f) path image bytes))

    pub make_told : CallFaults image (λ g. plainly (make_directory g path image))
    make_told g f = refuses_within 1 22 (g.pages + 33) (omega arith) (omega arith) (omega arith) (plain_faults _ (make_faults g (some_pages f) path image))

    pub remove_told : CallFaults image (λ g. plainly (remove_directory g path image))
    remove_told g f = refuses_within 1 22 (g.pages + 33) (omega arith) (omega arith) (omega arith) (plain_faults _ (remove_faults g (some_pages f) path image))

    pub careful_delete_told : (k : ℕ) → CallFaults image (λ g. careful_delete g k path image)
    careful_delete_told k g f = refuses_within 1 22 (g.pages + 33) (omega arith) (omega arith) (omega arith) (careful_delete_faults g (some_pages f) k path image)

    pub careful_put_told : (k : ℕ) (bytes : List ℕ) → CallFaults image (λ g. careful_put g k path bytes image)
    careful_put_told k bytes g f = refuses_within 1 22 (g.pages + 33) (omega arith) (omega arith) (omega arith) (careful_put_faults g (some_pages f) k path image bytes)

  pub mend_told : CallFaults image (λ g. mend g image)
  mend_told g f = refuses_within 1 22 (g.pages + 33) (omega arith) (omega arith) (omega arith) (mend_faults g (some_pages f) image)
