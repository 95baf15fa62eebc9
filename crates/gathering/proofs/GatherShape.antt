-- The shape of a gathered image in the words of the request: packets full but the last, directory pages filled in order.
use Rattle.std.specs.Prelude.{◌≡◌, refl, Bool, true, false, List, [], ◌∷◌, length, drop}
use Prim.Native.Nat.{ℕ, zero, suc, ◌+◌, ◌-◌, ◌*◌, ◌/◌, ◌≤◌, ◌<◌}
use Rattle.std.proofs.Common.{le-div_iff_mul-le, arith, length-take, length-drop, leb-false}
use Rattle.geometry.specs.declared.Geometry.{Geometry}
use Rattle.geometry.specs.Geometry.{Valid, data_capacity, first_entries, later_entries, bitmap_size}
use Rattle.rules.specs.Chain.{chain_of, pages_for}
use Rattle.rules.specs.Tree.{Label, width, Items, page, file, dir, Image}
use Rattle.rules.specs.Bitmap.{bitmap_from}
use Rattle.rules.proofs.BitmapLaws.{length_bitmap}
use Rattle.rules.specs.Format.{upward}
use Rattle.editing_theorems.specs.NewChains.{length_upward}
use Rattle.gathering.specs.Gather.{Bare, bare_end, bare_file, bare_dir, BareImage, fits_here, opens, opened, left_after, slots_left, further}
use Rattle.gathering.specs.Gather.{own_size, file_size, below_size, file_chain, laid, map_needs, gathered_size, gathered_map, gathered_image}
use Rattle.gathering.specs.GatherPromises.{FullChain, FullMap, FullFiles, next_slots, Filled, FilledDirectory, FilledBelow}
use Rattle.gathering.proofs.GatherLaid.{some_capacity}

-- ---- packets
full_chain_of : (capacity k : ℕ) (ps bs : List ℕ) → length ps ≡ suc k → k * capacity ≤ length bs → FullChain capacity (chain_of capacity ps bs)
full_chain_of capacity k [] bs e h = tt
full_chain_of capacity k (p ∷ []) bs e h = tt
full_chain_of capacity zero (p ∷ (q ∷ ps)) bs e h = absurd (omega arith)
full_chain_of capacity (suc k) (p ∷ (q ∷ ps)) bs e h = (
  omega (arith, length-take capacity bs),
  full_chain_of capacity k (q ∷ ps) (drop capacity bs) (omega arith) (omega (arith, length-drop capacity bs)),
)

full_run : (capacity a : ℕ) (bs : List ℕ) → 0 < capacity → FullChain capacity (chain_of capacity (upward a (pages_for capacity (length bs))) bs)
full_run capacity a bs c =
    let k = (length bs - 1) / capacity in
    let m : k * capacity ≤ length bs - 1 = (le-div_iff_mul-le {k = capacity} {x = k} {y = length bs - 1} c).0 (omega arith) in
    full_chain_of capacity k (upward a (suc k)) bs (length_upward a (suc k)) (omega arith)

full_opened : (capacity : ℕ) (c : Bool) (q : ℕ) (t : Items) → FullFiles capacity t → FullFiles capacity (opened c q t)
full_opened capacity true q t h = h
full_opened capacity false q t h = h

-- ---- directory pages
fits_not : (r : ℕ) (l : Label) → fits_here r l ≡ false → r < width l
unfolding fits_here
fits_not r l e = leb-false (width l) r e

-- an entry followed by a rest that fills the slots left
filled_opened : (c : Bool) (later r q : ℕ) (l : Label) (t rest : Items) → fits_here r l ≡ c → next_slots t ≡ width l → ((k : ℕ) → Filled later (k - width l) rest → Filled later k t)
    → Filled later (slots_left c later r l) rest → Filled later r (opened c q t)
filled_opened true later r q l t rest e n f h = f r h
filled_opened false later r q l t rest e n f h = (omega (arith, n, fits_not r l e), f later h)

filled_below_opened : (g : Geometry) (c : Bool) (q : ℕ) (t : Items) → FilledBelow g t → FilledBelow g (opened c q t)
filled_below_opened g true q t h = h
filled_below_opened g false q t h = h

module _ (g : Geometry) (valid : Valid g) where
  full_laid : (r q a : ℕ) (b : Bare) → FullFiles (data_capacity g) (laid g r q a b)
  full_laid r q a bare_end = tt
  full_laid r q a (bare_file l bs t) =
      let rest = laid g (left_after g r l) (q + opens (fits_here r l)) (a + file_size g bs) t in
      full_opened (data_capacity g) (fits_here r l) q (file l (file_chain g a bs) rest)
      (full_run (data_capacity g) a bs (some_capacity g valid), full_laid (left_after g r l) (q + opens (fits_here r l)) (a + file_size g bs) t)
  full_laid r q a (bare_dir l d t) =
      let sub = laid g (first_entries g) (a + 1) (a + own_size g d) d in
      let next = a + (own_size g d + below_size g d) in
      full_opened (data_capacity g) (fits_here r l) q (dir l (page a sub) (laid g (left_after g r l) (q + opens (fits_here r l)) next t))
      (full_laid (first_entries g) (a + 1) (a + own_size g d) d, full_laid (left_after g r l) (q + opens (fits_here r l)) next t)

  full_map_lem : (local : Bool) (in_use : List ℕ) → FullMap (data_capacity g) (gathered_map g local in_use)
  full_map_lem true in_use = tt
  full_map_lem false in_use =
      let bs = bitmap_from in_use 0 (bitmap_size g) in
      let h : FullChain (data_capacity g) (chain_of (data_capacity g) (upward 1 (pages_for (data_capacity g) (length bs))) bs) = full_run (data_capacity g) 1 bs (some_capacity g valid) in
      rw (length_bitmap in_use 0 (bitmap_size g)) at h

  filled_laid : (r q a : ℕ) (b : Bare) → Filled (later_entries g) r (laid g r q a b)
  filled_laid r q a bare_end = tt
  filled_laid r q a (bare_file l bs t) =
      let rest = laid g (left_after g r l) (q + opens (fits_here r l)) (a + file_size g bs) t in
      filled_opened (fits_here r l) (later_entries g) r q l (file l (file_chain g a bs) rest) rest refl refl (λ k h. h)
      (filled_laid (left_after g r l) (q + opens (fits_here r l)) (a + file_size g bs) t)
  filled_laid r q a (bare_dir l d t) =
      let sub = laid g (first_entries g) (a + 1) (a + own_size g d) d in
      let next = a + (own_size g d + below_size g d) in
      let rest = laid g (left_after g r l) (q + opens (fits_here r l)) next t in
      filled_opened (fits_here r l) (later_entries g) r q l (dir l (page a sub) rest) rest refl refl (λ k h. h)
      (filled_laid (left_after g r l) (q + opens (fits_here r l)) next t)

  below_laid : (r q a : ℕ) (b : Bare) → FilledBelow g (laid g r q a b)
  below_laid r q a bare_end = tt
  below_laid r q a (bare_file l bs t) =
      let rest = laid g (left_after g r l) (q + opens (fits_here r l)) (a + file_size g bs) t in
      filled_below_opened g (fits_here r l) q (file l (file_chain g a bs) rest) (below_laid (left_after g r l) (q + opens (fits_here r l)) (a + file_size g bs) t)
  below_laid r q a (bare_dir l d t) =
      let sub = laid g (first_entries g) (a + 1) (a + own_size g d) d in
      let next = a + (own_size g d + below_size g d) in
      filled_below_opened g (fits_here r l) q (dir l (page a sub) (laid g (left_after g r l) (q + opens (fits_here r l)) next t))
      (filled_laid (first_entries g) (a + 1) (a + own_size g d) d, below_laid (first_entries g) (a + 1) (a + own_size g d) d, below_laid (left_after g r l) (q + opens (fits_here r l)) next t)

  -- ---- the image
  pub record GatheredShape (i : Image) : Type 0 where
    pub full_files : FullFiles (data_capacity g) i.tree
    pub full_map : FullMap (data_capacity g) i.map
    pub filled_root : FilledDirectory g i.tree
    pub filled_below : FilledBelow g i.tree

  pub gathered_shape : (b : BareImage) → GatheredShape (gathered_image g b)
  unfolding gathered_image
  gathered_shape b =
      let q = suc (map_needs g b.local) in
      let a = q + further g (first_entries g) b.tree in
      record {
        full_files = full_laid (first_entries g) q a b.tree;
        full_map = full_map_lem b.local (upward 0 (gathered_size g b));
        filled_root = filled_laid (first_entries g) q a b.tree;
        filled_below = below_laid (first_entries g) q a b.tree;
      }
