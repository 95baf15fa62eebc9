-- An image is accepted exactly when it is well formed, and its tree is unique.
use Rattle.std.specs.Prelude.{◌≡◌, ◌↔◌, List, ℕ}
use Rattle.std.proofs.Common.{sym, ◌∙◌}
use Rattle.geometry.specs.declared.Geometry.{Geometry}
use Rattle.geometry.specs.Geometry.{Valid, Fit}
use Rattle.geometry.specs.Number.{Bytes}
use Rattle.rules.specs.Result.{ok, err}
use Rattle.rules.proofs.ResultLaws.{ok_inj, clash}
use Rattle.rules.specs.Chain.{Views, views_of}
use Rattle.rules.specs.Tree.{Image}
use Rattle.rules.specs.WellFormed.{WellFormedWith, WellFormedIn, WellFormed}
use Rattle.rules.specs.Check.{Scan, scan, check}
use Rattle.reading_theorems.specs.PacketLaws.{ByteView, byte_view}
use Rattle.reading_theorems.specs.CheckSound.{scan_sound, check_sound}
use Rattle.reading_theorems.specs.CheckComplete.{scan_complete, check_complete}

-- in any views in which directories and the bitmap file hold bytes; of the views of files nothing is asked
module _ (g : Geometry) (vs : Views) (valid : Valid g) where
  pub accepted_in : ByteView g vs.pages → (i : Image) → (check g vs ≡ ok i) ↔ WellFormedIn g vs i
  accepted_in bv i = (check_sound g vs valid bv i, check_complete g valid vs i)

  -- the same of the scan, with the bitmap's bytes as they stand
  pub scanned_in : ByteView g vs.pages → (s : Scan) → (scan g vs ≡ ok s) ↔ WellFormedWith g vs s.raw s.image
  scanned_in bv s = (scan_sound g vs valid bv s, scan_complete g valid vs s.raw s.image)

  -- one tree only
  pub unique_in : (i j : Image) → WellFormedIn g vs i → WellFormedIn g vs j → i ≡ j
  unique_in i j w u = ok_inj (sym (check_complete g valid vs i w) ∙ check_complete g valid vs j u)

-- of an image's bytes
module _ (g : Geometry) (image : List ℕ) (fit : Fit g image) (bytes : Bytes image) where
  pub accepted_iff : (i : Image) → (check g (views_of g image) ≡ ok i) ↔ WellFormed g image i
  accepted_iff i =
      let a = accepted_in g (views_of g image) fit.valid (byte_view g image bytes) i in
      (λ e. record { fits = fit; holds = a.0 e }, λ w. a.1 w.holds)

  pub scanned_iff : (s : Scan) → (scan g (views_of g image) ≡ ok s) ↔ WellFormedWith g (views_of g image) s.raw s.image
  scanned_iff = scanned_in g (views_of g image) fit.valid (byte_view g image bytes)

-- whatever the bytes: a well-formed image is accepted with its tree, so it has one tree only, and a refused one has none
pub accepted : (g : Geometry) (image : List ℕ) (i : Image) → WellFormed g image i → check g (views_of g image) ≡ ok i
accepted g image i w = check_complete g w.fits.valid (views_of g image) i w.holds

pub tree_unique : (g : Geometry) (image : List ℕ) (i j : Image) → WellFormed g image i → WellFormed g image j → i ≡ j
tree_unique g image i j w u = unique_in g (views_of g image) w.fits.valid i j w.holds u.holds

pub refused : (g : Geometry) (image : List ℕ) (n p : ℕ) → check g (views_of g image) ≡ err n p → (i : Image) → WellFormed g image i → ⊥
refused g image n p e i w = clash (sym e ∙ accepted g image i w)
