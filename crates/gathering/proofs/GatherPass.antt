-- For contracts: the gathered bytes as the code writes them: the bitmap file, then one pass over the source; and the bitmap's bytes as numbers.
use Rattle.std.specs.Prelude.{◌≡◌, ltb, length}
use Rattle.std.proofs.Math.Path.{ap, sym}
use Rattle.std.proofs.Common.{ap₂, ◌∙◌, subst, pow-suc, arith, length-append, take_at, drop_at, take_all, lt-ltb, le-ltb}
use mathlib.Core.List.{List, [], ◌∷◌, ◌++◌, append_assoc}
use Prim.Native.Nat.{ℕ, zero, suc, ◌+◌, ◌-◌, ◌/◌, ◌^◌, ◌≤◌, ◌<◌, min}
use Rattle.std.proofs.Math.Nat.{add-div_left, div-eq_of_lt}
use Rattle.std.proofs.Math.Decide.{dec_lt}
use Rattle.geometry.specs.declared.Geometry.{Geometry}
use Rattle.geometry.specs.Geometry.{Valid, Fit, data_capacity, first_entries}
use Rattle.packet.specs.Packet.{Write, write, after_writes}
use Rattle.rules.specs.PageSets.{bit, count, range, mem}
use Rattle.rules.proofs.PageSetLaws.{range_above, range_below, range_le}
use Rattle.rules.specs.Chain.{linked, chain_of}
use Rattle.rules.specs.Tree.{directory_links, used}
use Rattle.rules.specs.Control.{root_control, the_root}
use Rattle.rules.specs.Bitmap.{byte_for, map_size, bitmap_of}
use Rattle.rules.proofs.BitmapLaws.{length_bitmap, bytes_bitmap}
use Rattle.rules.specs.WellFormed.{map_packets}
use Rattle.rules.specs.Format.{upward}
use Rattle.editing_theorems.specs.Capacity.{capacity_least, holds_first}
use Rattle.editing_theorems.specs.AfterWrites.{write_pages, WritesFit, after_writes_append, fit_after_writes}
use Rattle.editing_theorems.specs.HeldPackets.{count_joined, fits_left, fits_right}
use Rattle.editing_theorems.specs.MapWrites.{root_bytes, root_length}
use Rattle.editing_theorems.specs.NewChains.{count_upward}
use Rattle.gathering.specs.Gather.{BareImage, file_size, file_chain, further, map_needs, gathered_image, below_writes, image_writes, gathered_bytes}
use Rattle.gathering.proofs.GatherLaid.{blank, blank_fit, Layable, gathered_fits, gathered_within, count_packets}
use Rattle.gathering.proofs.GatherOrder.{pass_writes, pass_same}
use Rattle.gathering.proofs.WriteOrder.{writes_exchange}

-- ---- the bitmap of pages 0 to n - 1
mem_upward : (x n : ℕ) → mem x (upward 0 n) ≡ ltb x n
mem_upward x n = elim (dec_lt x n) [
  | yes h ↦ lt-ltb 0 (count x (upward 0 n)) (omega (arith, count_upward x 0 n, ap (λ (m : ℕ). count x (range m)) (zero_plus n), range_below x n h)) ∙ sym (lt-ltb x n h)
  | no h ↦ le-ltb 0 (count x (upward 0 n)) (omega (arith, count_upward x 0 n, ap (λ (m : ℕ). count x (range m)) (zero_plus n), range_above x n (omega arith))) ∙ sym (le-ltb x n (omega arith))
]
  where
    zero_plus : (n : ℕ) → 0 + n ≡ n
    zero_plus n = omega arith

pub run_byte : (n k m : ℕ) → byte_for (upward 0 n) k m + 1 ≡ 2 ^ min m (n - k)
run_byte n k zero = let e : min 0 (n - k) ≡ 0 = omega arith in rw e (omega arith)
run_byte n k (suc m) = elim (dec_lt k n) [
  | yes h ↦
      let e : min (suc m) (n - k) ≡ suc (min m (n - (k + 1))) = omega arith in
      rw (e, pow-suc 2 (min m (n - (k + 1)))) (omega (arith, ap bit (mem_upward k n ∙ lt-ltb k n h), run_byte n (k + 1) m))
  | no h ↦
      let e : min (suc m) (n - k) ≡ 0 = omega arith in
      let f : min m (n - (k + 1)) ≡ 0 = omega arith in
      rw e (omega (arith, ap bit (mem_upward k n ∙ le-ltb k n (omega arith)), rw f at (run_byte n (k + 1) m)))
]

-- ---- a file's chain, packet by packet: a full one with more to come, and the last
module _ (g : Geometry) (valid : Valid g) where
  pub size_more : (xs ys : List ℕ) → length xs ≡ data_capacity g → 0 < length ys → file_size g (xs ++ ys) ≡ suc (file_size g ys)
  size_more xs ys e h =
      let c = data_capacity g in
      let s : length (xs ++ ys) - 1 ≡ c + (length ys - 1) = omega (arith, length-append xs ys) in
      let d : (c + (length ys - 1)) / c ≡ (length ys - 1) / c + 1 = add-div_left (length ys - 1) {k = c} (omega (arith, capacity_least g valid)) in
      ap (λ (n : ℕ). suc (n / c)) s ∙ omega (arith, d)

  pub chain_more : (a : ℕ) (xs ys : List ℕ) → length xs ≡ data_capacity g → 0 < length ys → linked (file_chain g a (xs ++ ys)) ≡ write a xs (a + 1) ∷ linked (file_chain g (a + 1) ys)
  chain_more a xs ys e h =
      let c = data_capacity g in
      ap (λ (n : ℕ). linked (chain_of c (upward a n) (xs ++ ys))) (size_more xs ys e h)
      ∙ ap₂ (λ (u w : List ℕ). write a u (a + 1) ∷ linked (chain_of c (upward (a + 1) (file_size g ys)) w)) (take_at xs ys c e) (drop_at xs ys c e)

  pub size_last : (xs : List ℕ) → length xs ≤ data_capacity g → file_size g xs ≡ 1
  size_last xs h = ap suc (div-eq_of_lt {n = length xs - 1} {m = data_capacity g} (omega (arith, capacity_least g valid)))

  pub chain_last : (a : ℕ) (xs : List ℕ) → length xs ≤ data_capacity g → linked (file_chain g a xs) ≡ write a xs 0 ∷ []
  chain_last a xs h =
      let c = data_capacity g in
      ap (λ (n : ℕ). linked (chain_of c (upward a n) xs)) (size_last xs h) ∙ ap (λ (u : List ℕ). write a u 0 ∷ []) (take_all c xs h)

-- ---- the bitmap file, then the pass from the root
-- the pass over a tree without its pages: the root's first page is 0, its further pages come after the bitmap file's
abbrev pub root_pass : Geometry → BareImage → List Write
root_pass g b =
    let i = gathered_image g b in
    let q = suc (map_needs g b.local) in
    pass_writes g the_root (root_control g.width (bitmap_of g (used i) i.map) i.map) 0 (first_entries g) q (q + further g (first_entries g) b.tree) b.tree

module _ (g : Geometry) (valid : Valid g) (b : BareImage) (able : Layable g b) where
  -- the rule's writes but the bitmap file's, and these
  abbrev tree_part : List Write
  tree_part =
      let i = gathered_image g b in
      linked (directory_links g (root_control g.width (bitmap_of g (used i) i.map) i.map) i.tree) ++ below_writes g the_root i.tree

  abbrev map_part : List Write
  map_part = map_packets (gathered_image g b).map

  in_parts : image_writes g (gathered_image g b) ≡ tree_part ++ map_part
  in_parts =
      let i = gathered_image g b in
      sym (append_assoc (linked (directory_links g (root_control g.width (bitmap_of g (used i) i.map) i.map) i.tree)) (below_writes g the_root i.tree) map_part)

  parts_fit : WritesFit g tree_part × WritesFit g map_part
  parts_fit = let all = subst (WritesFit g) in_parts (gathered_fits g valid b able) in (fits_left g tree_part map_part all, fits_right g tree_part map_part all)

  parts_apart : (x : ℕ) → count x (write_pages tree_part) + count x (write_pages map_part) ≤ 1
  parts_apart x =
      let i = gathered_image g b in
      omega (
        arith,
        count_packets g i x,
        ap (λ (ws : List Write). count x (write_pages ws)) in_parts,
        count_joined x tree_part map_part,
        gathered_within g valid b able x,
        range_le x g.pages,
      )

  pass_is : (image : List ℕ) → Fit g image → after_writes g (root_pass g b) image ≡ after_writes g tree_part image
  unfolding gathered_image
  pass_is image fit =
      let i = gathered_image g b in
      let bits = bitmap_of g (used i) i.map in
      let q = suc (map_needs g b.local) in
      let l = root_length g bits i.map valid (length_bitmap (used i) 0 (map_size g i.map)) in
      pass_same g valid 8 the_root (root_control g.width bits i.map) 0 (first_entries g) q (q + further g (first_entries g) b.tree) b.tree able.entries
      (root_bytes g bits i.map valid (bytes_bitmap (used i) 0 (map_size g i.map))) (λ k h. omega (arith, l, holds_first g valid k h)) (omega arith) (omega arith) (omega (arith, able.room)) image fit

  -- the pass, then the bitmap file; or the bitmap file first
  pub gathered_then_map : gathered_bytes g b ≡ after_writes g map_part (after_writes g (root_pass g b) (blank g))
  unfolding gathered_bytes
  gathered_then_map = ap (λ (ws : List Write). after_writes g ws (blank g)) in_parts ∙ after_writes_append g tree_part map_part (blank g) ∙ ap (after_writes g map_part) (sym (pass_is (blank g) (blank_fit g valid)))

  pub gathered_pass : gathered_bytes g b ≡ after_writes g (root_pass g b) (after_writes g map_part (blank g))
  unfolding gathered_bytes
  gathered_pass =
      ap (λ (ws : List Write). after_writes g ws (blank g)) in_parts ∙ after_writes_append g tree_part map_part (blank g) ∙ writes_exchange g tree_part map_part parts_fit.0 parts_fit.1 parts_apart (blank g) (blank_fit g valid)
      ∙ sym (pass_is (after_writes g map_part (blank g)) (fit_after_writes g map_part parts_fit.1 (blank g) (blank_fit g valid)))
