-- Format: the image after it is well formed without entries; it refuses only a local bitmap with N above 32; other bytes stay.
use Rattle.std.specs.Prelude.{◌≡◌, Bool, not, ◌||◌, ℕ, suc, ◌+◌, ◌-◌, ◌*◌, ◌/◌, ◌≤◌, ◌<◌, leb, length}
use Rattle.std.proofs.Math.Path.{refl, ap}
use Rattle.std.proofs.Common.{sym, ◌∙◌, subst, mul-le-mul_left, arith, length-append, leb-true, leb-false}
use Rattle.std.proofs.Math.Bool.{true, false}
use mathlib.Core.List.{List, [], ◌∷◌, ◌++◌}
use Rattle.std.proofs.lemmas.Bool.{lt-leb}
use Rattle.geometry.specs.declared.Geometry.{Geometry}
use Rattle.geometry.specs.ChooseLaws.{choose_true, choose_false}
use Rattle.geometry.specs.Geometry.{Fit, Valid, data_capacity, bitmap_size}
use Rattle.geometry.specs.Number.{Bytes}
use Rattle.geometry.specs.NumberLaws.{bytes_append}
use Rattle.packet.specs.Packet.{view_of, Write, write, after_writes}
use Rattle.rules.specs.Result.{ok, err, and_after, refuse_unless}
use Rattle.rules.proofs.ResultLaws.{ok_inj, clash, on_refuse, then_ok, then_err, refuse_true, refuse_false}
use Rattle.rules.specs.PageSets.{count, Once, Within}
use Rattle.rules.proofs.PageSetLaws.{range_le}
use Rattle.rules.specs.Chain.{Link, pages, content, linked, chain_of, pages_for}
use Rattle.rules.proofs.ChainLaws.{pages_chain_of, content_chain_of, pages_enough, pages_least}
use Rattle.rules.specs.Tree.{end, page, Map, in_root, in_file, Image, used}
use Rattle.rules.specs.Control.{root_control, most_local, local_allowed}
use Rattle.rules.specs.Bitmap.{bitmap_from, bitmap_of, map_size, refill}
use Rattle.rules.proofs.BitmapLaws.{length_bitmap, bytes_bitmap, refill_same}
use Rattle.rules.specs.WellFormed.{HasPackets, WellFormed}
use Rattle.rules.specs.Paths.{nothing}
use Rattle.rules.specs.Candidate.{at_path}
use Rattle.rules.specs.Format.{upward, empty_image, format_writes, format}
use Rattle.rules.specs.Demand2.{Formatted}
use Rattle.reading_theorems.specs.ControlLaws.{control_size_lem}
use Rattle.reading_theorems.specs.DirectoryComplete.{pages_fit}
use Rattle.editing_theorems.specs.Capacity.{capacity_least}
use Rattle.editing_theorems.specs.AfterWrites.{write_pages, WritesFit, after_writes_append, length_after_writes, fit_after_writes, bytes_after_writes, after_writes_packets}
use Rattle.editing_theorems.specs.MadeWrites.{made_rest}
use Rattle.editing_theorems.specs.HeldPackets.{pages_linked, image_stands, fits_join}
use Rattle.editing_theorems.specs.MapWrites.{root_bytes, root_length}
use Rattle.editing_theorems.specs.NewChains.{chain_of_fits, upward_within, length_upward}

abbrev empty_with : Map → Image
empty_with m = record { tree = page 0 end; map = m }

module _ (g : Geometry) (valid : Valid g) where
  -- ---- the root's page
  pub root_fits : (bits : List ℕ) (m : Map) → Bytes bits → length bits ≡ map_size g m → WritesFit g (write 0 (root_control g.width bits m ++ []) 0 ∷ [])
  root_fits bits m b l = (
    record {
      below = omega (arith, valid.some);
      room = omega (arith, length-append (root_control g.width bits m) [], root_length g bits m valid l, control_size_lem g, valid.least, valid.two);
      pointer = omega (arith, valid.some, pages_fit g valid);
      bytes = bytes_append (root_control g.width bits m) [] (root_bytes g bits m valid b) tt;
    },
    tt,
  )

  -- ---- the bitmap file's pages
  abbrev map_needs : ℕ
  map_needs = pages_for (data_capacity g) (bitmap_size g)

  abbrev map_range : List ℕ
  map_range = upward 1 map_needs

  abbrev map_bits : List ℕ
  map_bits = bitmap_from (0 ∷ map_range) 0 (bitmap_size g)

  abbrev map_chain : List Link
  map_chain = chain_of (data_capacity g) map_range map_bits

  size_is : bitmap_size g ≡ (g.pages + 7) / 8
  unfolding bitmap_size
  size_is = refl

  pub map_room : suc map_needs ≤ g.pages
  map_room =
      let c = capacity_least g valid in
      let m : (g.pages - 1) * 1 ≤ (g.pages - 1) * data_capacity g = mul-le-mul_left (g.pages - 1) (omega arith) in
      let k = pages_least (data_capacity g) (bitmap_size g) (g.pages - 1) (omega arith) (omega (arith, valid.some)) (omega (arith, size_is, valid.some)) in
      omega (arith, valid.some)

  map_within : Within g.pages (0 ∷ map_range)
  map_within = upward_within map_needs g.pages map_room

  pub map_content : content map_chain ≡ map_bits
  map_content = content_chain_of (data_capacity g) map_range map_bits
      (rw (length_upward 1 map_needs, length_bitmap (0 ∷ map_range) 0 (bitmap_size g)) (pages_enough (data_capacity g) (bitmap_size g) (omega (arith, capacity_least g valid))))

  pub map_bits_lem : bitmap_of g (used (empty_with (in_file map_chain))) (in_file map_chain) ≡ map_bits
  map_bits_lem = ap (λ (ps : List ℕ). bitmap_from (0 ∷ ps) 0 (bitmap_size g)) (pages_chain_of (data_capacity g) map_range map_bits)

  -- ---- each image without entries
  module _ (image : List ℕ) (fit : Fit g image) where
    abbrev Leaves : Map → Type 0
    Leaves m = WritesFit g (format_writes g (empty_with m)) × WellFormed g (after_writes g (format_writes g (empty_with m)) image) (empty_with m)

    local_leaves : g.pages ≤ most_local → Leaves in_root
    unfolding format_writes
    local_leaves h =
        let bits = bitmap_of g (used (empty_with in_root)) in_root in
        let f = root_fits bits in_root (bytes_bitmap (used (empty_with in_root)) 0 4) (length_bitmap (used (empty_with in_root)) 0 4) in
        let w : List Write = write 0 (root_control g.width bits in_root ++ []) 0 ∷ [] in
        let fit₁ = fit_after_writes g w f image fit in
        let fs = fits_join g w w f f in
        let once : Once (write_pages w) = λ x. range_le x 1 in
        let s : HasPackets (view_of g (after_writes g (w ++ w) image)) w = rw (after_writes_append g w w image) (after_writes_packets g w f (after_writes g w image) fit₁ once) in (
          fs,
          image_stands g (after_writes g (w ++ w) image) (empty_with in_root) (fit_after_writes g (w ++ w) fs image fit) tt refl (λ x. omega arith) tt h
              (λ x. omega (arith, upward_within 0 g.pages (omega (arith, valid.some)) x)) (record { own = s; below = tt; map = tt }),
        )

    file_leaves : (ls : List Link) → 0 < length ls → content ls ≡ bitmap_of g (0 ∷ pages ls) (in_file ls) → Within g.pages (0 ∷ pages ls) → WritesFit g (linked ls) → Leaves (in_file ls)
    unfolding format_writes
    file_leaves ls h c f fs =
        let bits = bitmap_of g (0 ∷ pages ls) (in_file ls) in
        let w : List Write = write 0 (root_control g.width bits (in_file ls) ++ []) 0 ∷ [] in
        let r : refill ls bits ≡ ls = ap (refill ls) (sym c) ∙ refill_same ls in
        let f₀ = root_fits bits (in_file ls) (bytes_bitmap (0 ∷ pages ls) 0 (bitmap_size g)) (length_bitmap (0 ∷ pages ls) 0 (bitmap_size g)) in
        let ws = fits_join g w (linked ls) f₀ fs in
        let s = after_writes_packets g (w ++ linked ls) ws image fit (λ x. omega (arith, f x, range_le x g.pages, ap (count x) (pages_linked ls))) in
        rw r (
          ws,
          image_stands g (after_writes g (w ++ linked ls) image) (empty_with (in_file ls)) (fit_after_writes g (w ++ linked ls) ws image fit) tt refl (λ x. omega arith) tt (h, c)
              f (record { own = (s.0, tt); below = tt; map = s.1 }),
        )

    map_leaves : Leaves (in_file map_chain)
    map_leaves = file_leaves map_chain (omega arith) (map_content ∙ sym map_bits_lem) (λ x. omega (arith, map_within x, ap (count x) (pages_chain_of (data_capacity g) map_range map_bits)))
        (chain_of_fits g valid map_range map_bits (λ x. omega (arith, map_within x)) (bytes_bitmap (0 ∷ map_range) 0 (bitmap_size g)))

    leaves : (local : Bool) → (not local || local_allowed g) ≡ true → Leaves (empty_image g local).map
    unfolding empty_image
    leaves true e = rw choose_true (local_leaves (leb-true g.pages most_local e))
    leaves false e = rw choose_false map_leaves

-- ---- format
pub format_done : (g : Geometry) (local : Bool) (image after : List ℕ) → Fit g image → Bytes image → format g local image ≡ ok after → Formatted g local image after
unfolding format empty_image
format_done g local image after fit bytes e = on_refuse _ _ _ _ _ e λ t e.
    let l = leaves g fit.valid image fit local t in
    let ws = format_writes g (empty_image g local) in
    subst (Formatted g local image) (ok_inj e) (record {
      well_formed = l.1;
      no_entries = refl;
      sized = length_after_writes g ws l.0 image fit;
      are_bytes = bytes_after_writes g ws l.0 image fit bytes;
      rest = made_rest g ws l.0 image fit bytes;
    })

-- no key leads to anything
pub format_paths : (g : Geometry) (local : Bool) (k : ℕ) (ks : List ℕ) → at_path (k ∷ ks) (empty_image g local) ≡ nothing
unfolding at_path empty_image
format_paths g local k [] = refl
format_paths g local k (j ∷ ks) = refl

-- it refuses exactly a local bitmap with N above 32, and then with 4
pub format_refuses : (g : Geometry) (image : List ℕ) → most_local < g.pages → format g true image ≡ err 4 0
unfolding format
format_refuses g image h = simp (lt-leb g.pages most_local h, refuse_false, then_err)

pub format_fault : (g : Geometry) (local : Bool) (image : List ℕ) (n p : ℕ) → format g local image ≡ err n p → (n ≡ 4) × (p ≡ 0) × (local ≡ true) × (most_local < g.pages)
unfolding format
format_fault g false image n p e = clash (sym (simp (refuse_true, then_ok) at e))
format_fault g true image n p e = go (leb g.pages most_local) refl e
  where
    go : (t : Bool) → leb g.pages most_local ≡ t → and_after (refuse_unless t 4 0) (ok (after_writes g (format_writes g (empty_image g true)) image)) ≡ err n p
        → (n ≡ 4) × (p ≡ 0) × (true ≡ true) × (most_local < g.pages)
    go true q e = clash (sym (simp (refuse_true, then_ok) at e))
    go false q e =
        let r : err 4 0 ≡ err n p = simp (refuse_false, then_err) at e in
        let e₁ : n ≡ 4 = cc in
        let e₂ : p ≡ 0 = cc in
        (e₁, e₂, refl, omega (arith, leb-false g.pages most_local q))
