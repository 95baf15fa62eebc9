-- The image without entries: what the code writes is what the rules write.
use mathlib.Core.Path.{◌≡◌, refl, ap, ap₂, sym, ◌∙◌, subst}
use mathlib.Core.Bool.{Bool, true, false, not, ◌||◌}
use mathlib.Core.List.{List, [], ◌∷◌, ◌++◌, append-nil}
use Prim.Native.Nat.{ℕ}
use lib.Dec.{leb}
use Rattle.geometry.specs.declared.Geometry.{Geometry}
use Rattle.geometry.specs.ChooseLaws.{choose_true, choose_false}
use Rattle.geometry.specs.Geometry.{data_capacity, bitmap_size, Valid, Fit}
use Rattle.geometry.specs.Number.{Bytes}
use Rattle.packet.specs.Packet.{Write, write, write_page, after_writes}
use Rattle.rules.specs.Result.{Res, ok, err}
use Rattle.rules.proofs.ResultLaws.{then_ok, then_err, refuse_true, refuse_false}
use Rattle.rules.specs.PageSets.{hit}
use Rattle.rules.proofs.PageSetLaws.{range_le}
use Rattle.rules.specs.Chain.{Link, linked, chain_of, pages_for}
use Rattle.rules.proofs.ChainLaws.{length_chain_of}
use Rattle.rules.specs.Tree.{in_root, in_file}
use Rattle.rules.specs.Control.{root_control, place_bytes, most_local, local_allowed}
use Rattle.rules.specs.Bitmap.{bitmap_from, refill}
use Rattle.rules.proofs.BitmapLaws.{length_bitmap, bytes_bitmap, refill_same}
use Rattle.owners.specs.Owned.{Marks}
use Rattle.rules.specs.Format.{upward, empty_image, format_writes, format}
use Rattle.rules.specs.Owners.{OwnerRecord}
use Rattle.editing_theorems.specs.AfterWrites.{bytes_after_writes, after_writes_packets, after_writes_same}
use Rattle.editing_theorems.specs.NewChains.{length_upward}
use Rattle.editing_theorems.specs.FormatLaws.{root_fits, map_content, map_bits_lem}
use Rattle.marks.specs.MarkLaws.{marks_are}
use Rattle.format.specs.Formats.{control_field, map_page_count, bits_writes, emptied}
use Rattle.volume.specs.Edits.{leaves}

-- ---- a local bitmap: page 0 written once is page 0 written twice
bits_of_zero : bitmap_from (0 ∷ []) 0 4 ≡ 1 ∷ 0 ∷ 0 ∷ 0 ∷ []
unfolding bitmap_from hit
bits_of_zero = refl

abbrev local_write : Geometry → Write
local_write g = write 0 (root_control g.width (bitmap_from (0 ∷ []) 0 4) in_root ++ []) 0

local_writes : (g : Geometry) → format_writes g (empty_image g true) ≡ local_write g ∷ local_write g ∷ []
unfolding format_writes empty_image
local_writes g = rw choose_true refl

field_local : (g : Geometry) → control_field g.width 128 (1 ∷ 0 ∷ 0 ∷ 0 ∷ []) ≡ root_control g.width (bitmap_from (0 ∷ []) 0 4) in_root ++ []
unfolding control_field root_control
field_local g = rw bits_of_zero (sym (append-nil (control_field g.width 128 (1 ∷ 0 ∷ 0 ∷ 0 ∷ []))))

pub local_emptied : (g : Geometry) (image after : List ℕ) → Fit g image → Bytes image → after ≡ write_page g (write 0 (control_field g.width 128 (1 ∷ 0 ∷ 0 ∷ 0 ∷ [])) 0) image → after ≡ emptied g true image
unfolding emptied after_writes
local_emptied g image after fit bytes e =
    let w : List Write = local_write g ∷ [] in
    let f = root_fits g fit.valid (bitmap_from (0 ∷ []) 0 4) in_root (bytes_bitmap (0 ∷ []) 0 4) (length_bitmap (0 ∷ []) 0 4) in
    let s = after_writes_packets g w f image fit (λ x. range_le x 1) in
    e ∙ ap (λ (b : List ℕ). write_page g (write 0 b 0) image) (field_local g) ∙ sym (after_writes_same g w (after_writes g w image) (bytes_after_writes g w f image fit bytes) s)
    ∙ sym (ap (λ (ws : List Write). after_writes g ws image) (local_writes g))

-- ---- a bitmap file
module _ (g : Geometry) (valid : Valid g) where
  abbrev file_bits : List ℕ
  file_bits = bitmap_from (0 ∷ upward 1 (pages_for (data_capacity g) (bitmap_size g))) 0 (bitmap_size g)

  abbrev file_chain : List Link
  file_chain = chain_of (data_capacity g) (upward 1 (pages_for (data_capacity g) (bitmap_size g))) file_bits

  file_writes_lem : format_writes g (empty_image g false) ≡ write 0 (root_control g.width file_bits (in_file file_chain) ++ []) 0 ∷ linked file_chain
  unfolding format_writes empty_image
  file_writes_lem =
      let r : refill file_chain file_bits ≡ file_chain = ap (refill file_chain) (sym (map_content g valid)) ∙ refill_same file_chain in
      rw choose_false (rw (map_bits_lem g valid) (ap (λ (ls : List Link). write 0 (root_control g.width file_bits (in_file file_chain) ++ []) 0 ∷ linked ls) r))

  field_file : control_field g.width 0 (place_bytes g.width 1 (map_page_count g)) ≡ root_control g.width file_bits (in_file file_chain) ++ []
  unfolding control_field root_control map_page_count
  field_file =
      let c = length_chain_of (data_capacity g) (upward 1 (pages_for (data_capacity g) (bitmap_size g))) file_bits ∙ length_upward 1 (pages_for (data_capacity g) (bitmap_size g)) in
      ap (λ (m : ℕ). control_field g.width 0 (place_bytes g.width 1 m)) (sym c) ∙ sym (append-nil (root_control g.width file_bits (in_file file_chain)))

  pub file_emptied : (image root after : List ℕ) (table : List OwnerRecord) (below : ℕ) (four : List ℕ) (count : ℕ) → count ≡ map_page_count g → Marks table below (0 ∷ upward 1 count)
      → four ≡ place_bytes g.width 1 count → root ≡ write_page g (write 0 (control_field g.width 0 four) 0) image → after ≡ after_writes g (bits_writes g table below) root → after ≡ emptied g false image
  unfolding emptied after_writes bits_writes map_page_count
  file_emptied image root after table below four count c h p e f =
      let h' : Marks table below (0 ∷ upward 1 (pages_for (data_capacity g) (bitmap_size g))) = subst (λ (m : ℕ). Marks table below (0 ∷ upward 1 m)) c h in
      let b : bits_writes g table below ≡ linked file_chain = ap (λ (xs : List ℕ). linked (chain_of (data_capacity g) (upward 1 (pages_for (data_capacity g) (bitmap_size g))) xs)) (marks_are table below _ h' (bitmap_size g) 0) in
      let r : root ≡ write_page g (write 0 (root_control g.width file_bits (in_file file_chain) ++ []) 0) image = e ∙ ap (λ (x : List ℕ). write_page g (write 0 (control_field g.width 0 x) 0) image) (p ∙ ap (place_bytes g.width 1) c)
      ∙ ap (λ (x : List ℕ). write_page g (write 0 x 0) image) field_file in
      f ∙ ap₂ (λ (ws : List Write) (x : List ℕ). after_writes g ws x) b r ∙ sym (ap (λ (ws : List Write). after_writes g ws image) file_writes_lem)

pub emptied_as : (g : Geometry) (local asked : Bool) (image after : List ℕ) → local ≡ asked → after ≡ emptied g asked image → after ≡ emptied g local image
emptied_as g local asked image after e k = k ∙ ap (λ (b : Bool). emptied g b image) (sym e)

-- ---- the answer
module _ (g : Geometry) (local : Bool) (image : List ℕ) (t : Bool) (e : t ≡ (not local || local_allowed g)) where
  pub leaves_done : (after : List ℕ) → t ≡ true → after ≡ emptied g local image → ◌≡◌ {A = Res (Unit {0}) × List ℕ} (ok tt, after) (leaves image (format g local image))
  unfolding format emptied
  leaves_done after h k = simp (sym e ∙ h, refuse_true, then_ok) (ap (λ (x : List ℕ). (ok tt, x)) k)

  pub leaves_refused : t ≡ false → ◌≡◌ {A = Res (Unit {0}) × List ℕ} (err 4 0, image) (leaves image (format g local image))
  unfolding format
  leaves_refused h = simp (sym e ∙ h, refuse_false, then_err)

-- ---- where the bitmap may stand
pub allowed_local : (g : Geometry) (local : Bool) → local ≡ true → leb g.pages most_local ≡ (not local || local_allowed g)
allowed_local g local h = rw h refl

pub allowed_file : (g : Geometry) (local : Bool) → local ≡ false → true ≡ (not local || local_allowed g)
allowed_file g local h = rw h refl
