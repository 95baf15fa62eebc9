-- The calls: an edit that answers 0 leaves what is shown of the edit, in the image that the call leaves.
use Rattle.std.specs.Prelude.{Some, ◌≡◌, Bool, List, ℕ}
use Rattle.std.proofs.Math.Path.{refl}
use Rattle.geometry.specs.declared.Geometry.{Geometry}
use Rattle.geometry.specs.ShapeLaws.{fit_of}
use Rattle.geometry.specs.Number.{Bytes}
use Rattle.rules.specs.Result.{Res, ok, err}
use Rattle.rules.proofs.ResultLaws.{clash}
use Rattle.rules.specs.Chain.{Link}
use Rattle.rules.specs.Tree.{Label, Items}
use Rattle.rules.specs.Paths.{Path, Found, Place, Target}
use Rattle.rules.specs.Format.{format}
use Rattle.rules.specs.Put.{put_at}
use Rattle.rules.specs.Delete.{remove_at}
use Rattle.rules.specs.Calls.{shape, plainly, effect, changed, format_call}
use Rattle.rules.specs.Demand2.{Formatted, Deleted, PutDone}
use Rattle.editing_theorems.specs.FormatLaws.{format_done}
use Rattle.editing_theorems.specs.DeleteLaws.{RemoveCall, delete_done}
use Rattle.editing_theorems.proofs.PutDone.{PutCall, put_gives}

-- an edit that answers 0 leaves what the rule tells
pub done_ok : (P N : ℕ) (image table : List ℕ) (g : Geometry) (r : Res (List ℕ)) → (effect P N image table g (plainly r)).0 ≡ ok tt → r ≡ ok (effect P N image table g (plainly r)).1
done_ok P N image table g (ok after) e = refl
done_ok P N image table g (err n p) e = clash e

module _ (P N : ℕ) (image table : List ℕ) (g : Geometry) (fits : shape P N image table ≡ Some g) where
  module _ (image_bytes : Bytes image) where
    pub format_call_lem : (local : Bool) → (format_call P N image table local).0 ≡ ok tt → Formatted g local image (format_call P N image table local).1
    unfolding format_call
    format_call_lem local e =
        let q : format_call P N image table local ≡ effect P N image table g (plainly (format g local image)) = rw fits refl in
        rw q (format_done g local image _ (fit_of P N image table g fits) image_bytes (done_ok P N image table g (format g local image) (rw q at e)))

    -- a call that removes something, and one that puts something
    pub remove_call_lem : {asked : Res Path} {Stood : Found → Type 0} {target : Items → Res Target} → RemoveCall asked Stood target
        → (changed P N image table (λ g. remove_at g target image)).0 ≡ ok tt → Deleted g asked Stood image (changed P N image table (λ g. remove_at g target image)).1
    remove_call_lem {asked} {Stood} {target} C e =
        let q : changed P N image table (λ g. remove_at g target image) ≡ effect P N image table g (plainly (remove_at g target image)) = rw fits refl in
        rw q (delete_done C (fit_of P N image table g fits) image_bytes _ (done_ok P N image table g (remove_at g target image) (rw q at e)))

    pub put_call_lem : {asked : Res Path} {Allowed Wanted : Found → Type 0} {target : Items → Res Target} {bytes : Geometry → Place → List ℕ} {stands : Label → List Link → Found}
        → PutCall asked Allowed Wanted target bytes stands
        → (changed P N image table (λ g. put_at g target (bytes g) image)).0 ≡ ok tt → PutDone g asked stands (bytes g) image (changed P N image table (λ g. put_at g target (bytes g) image)).1
    put_call_lem {asked} {target = target} {bytes} {stands} C e =
        let q : changed P N image table (λ g. put_at g target (bytes g) image) ≡ effect P N image table g (plainly (put_at g target (bytes g) image)) = rw fits refl in
        rw q (put_gives C g image (fit_of P N image table g fits) image_bytes _ (done_ok P N image table g (put_at g target (bytes g) image) (rw q at e)))
