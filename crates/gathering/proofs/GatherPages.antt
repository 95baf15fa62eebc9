-- The pages of a gathered image: which they are, in which order, how many.
use Rattle.std.specs.Prelude.{◌≡◌, refl, Bool, true, false, length}
use Rattle.std.proofs.Math.Path.{ap}
use Rattle.std.proofs.Common.{ap₂, sym, ◌∙◌}
use mathlib.Core.List.{List, ◌∷◌, ◌++◌}
use Prim.Native.Nat.{ℕ, zero, suc, ◌+◌, ◌≤◌}
use native.Mathlib.Omega.{arith}
use Rattle.geometry.specs.declared.Geometry.{Geometry}
use Rattle.geometry.specs.Geometry.{data_capacity, first_entries, bitmap_size}
use Rattle.rules.specs.PageSets.{count, Within}
use Rattle.rules.proofs.PageSetLaws.{count_append, count_split, pigeon}
use Rattle.rules.specs.Chain.{pages}
use Rattle.rules.proofs.ChainLaws.{pages_chain_of}
use Rattle.rules.specs.Tree.{Items, page, file, dir, own_pages, inner_pages, map_pages, Image, used}
use Rattle.rules.specs.Bitmap.{bitmap_from}
use Rattle.rules.specs.Format.{upward}
use Rattle.editing_theorems.specs.NewChains.{range_more, count_upward, length_upward}
use Rattle.gathering.specs.Gather.{Bare, bare_end, bare_file, bare_dir, BareImage, fits_here, opens, opened, left_after, further, own_size, file_size, below_size, file_chain, laid, map_needs, gathered_size, gathered_map, gathered_image}
use Rattle.gathering.specs.GatherPromises.{in_order}

-- ---- pages upward
pub upward_append : (a j k : ℕ) → upward a j ++ upward (a + j) k ≡ upward a (j + k)
upward_append a zero k = let e : 0 + k ≡ k = omega arith in let f : a + 0 ≡ a = omega arith in rw (e, f) refl
upward_append a (suc j) k =
    let e : suc j + k ≡ suc (j + k) = omega arith in
    let f : a + suc j ≡ a + 1 + j = omega arith in
    rw (e, f) (ap (λ (l : List ℕ). a ∷ l) (upward_append (a + 1) j k))

pub upward_in : (a k N : ℕ) → a + k ≤ N → Within N (upward a k)
upward_in a k N h x = omega (arith, count_upward x a k, range_more x (a + k) N h)

-- two runs, three runs
join : (a j k : ℕ) (xs ys : List ℕ) → xs ≡ upward a j → ys ≡ upward (a + j) k → xs ++ ys ≡ upward a (j + k)
join a j k xs ys e f = ap₂ (λ (u w : List ℕ). u ++ w) e f ∙ upward_append a j k

join_three : (a j k m : ℕ) (xs ys zs : List ℕ) → xs ≡ upward a j → ys ≡ upward (a + j) k → zs ≡ upward (a + (j + k)) m → xs ++ (ys ++ zs) ≡ upward a (j + (k + m))
join_three a j k m xs ys zs e f h =
    let s : a + (j + k) ≡ a + j + k = omega arith in
    join a j (k + m) xs (ys ++ zs) e (join (a + j) k m ys zs f (h ∙ ap (λ (b : ℕ). upward b m) s))

-- ---- an entry's place
own_opened : (c : Bool) (q k : ℕ) (t : Items) → own_pages t ≡ upward (q + opens c) k → own_pages (opened c q t) ≡ upward q (opens c + k)
own_opened true q k t h = let e : q + 0 ≡ q = omega arith in let f : 0 + k ≡ k = omega arith in rw (f, ← e) h
own_opened false q k t h = let f : 1 + k ≡ suc k = omega arith in rw f (ap (λ (l : List ℕ). q ∷ l) h)

pub inner_opened : (c : Bool) (q : ℕ) (t : Items) → inner_pages (opened c q t) ≡ inner_pages t
inner_opened true q t = refl
inner_opened false q t = refl

module _ (g : Geometry) where
  pub file_pages : (a : ℕ) (bs : List ℕ) → pages (file_chain g a bs) ≡ upward a (file_size g bs)
  file_pages a bs = pages_chain_of (data_capacity g) (upward a (file_size g bs)) bs

  -- the pages that a directory's entries open, and those of every chain below it
  pub own_laid : (r q a : ℕ) (b : Bare) → own_pages (laid g r q a b) ≡ upward q (further g r b)
  own_laid r q a bare_end = refl
  own_laid r q a (bare_file l bs t) =
      own_opened (fits_here r l) q (further g (left_after g r l) t) _ (own_laid (left_after g r l) (q + opens (fits_here r l)) (a + file_size g bs) t)
  own_laid r q a (bare_dir l d t) =
      own_opened (fits_here r l) q (further g (left_after g r l) t) _ (own_laid (left_after g r l) (q + opens (fits_here r l)) (a + (own_size g d + below_size g d)) t)

  pub inner_laid : (r q a : ℕ) (b : Bare) → inner_pages (laid g r q a b) ≡ upward a (below_size g b)
  inner_laid r q a bare_end = refl
  inner_laid r q a (bare_file l bs t) =
      let rest = laid g (left_after g r l) (q + opens (fits_here r l)) (a + file_size g bs) t in
      inner_opened (fits_here r l) q (file l (file_chain g a bs) rest)
      ∙ join a (file_size g bs) (below_size g t) (pages (file_chain g a bs)) (inner_pages rest) (file_pages a bs) (inner_laid (left_after g r l) (q + opens (fits_here r l)) (a + file_size g bs) t)
  inner_laid r q a (bare_dir l d t) =
      let next = a + (own_size g d + below_size g d) in
      let sub = laid g (first_entries g) (a + 1) (a + own_size g d) d in
      let rest = laid g (left_after g r l) (q + opens (fits_here r l)) next t in
      inner_opened (fits_here r l) q (dir l (page a sub) rest)
      ∙ join_three a (own_size g d) (below_size g d) (below_size g t) (a ∷ own_pages sub) (inner_pages sub) (inner_pages rest)
      (ap (λ (ps : List ℕ). a ∷ ps) (own_laid (first_entries g) (a + 1) (a + own_size g d) d))
      (inner_laid (first_entries g) (a + 1) (a + own_size g d) d) (inner_laid (left_after g r l) (q + opens (fits_here r l)) next t)

  -- ---- the gathered image
  pub map_pages_lem : (local : Bool) (in_use : List ℕ) → map_pages (gathered_map g local in_use) ≡ upward 1 (map_needs g local)
  map_pages_lem true in_use = refl
  map_pages_lem false in_use = pages_chain_of (data_capacity g) (upward 1 (map_needs g false)) (bitmap_from in_use 0 (bitmap_size g))

  pub in_order_lem : (b : BareImage) → in_order (gathered_image g b) ≡ upward 0 (gathered_size g b)
  unfolding gathered_image
  in_order_lem b =
      let m = map_needs g b.local in
      let o = further g (first_entries g) b.tree in
      let t = laid g (first_entries g) (suc m) (suc m + o) b.tree in
      let s₁ : 1 + m ≡ suc m = omega arith in
      let s₂ : 1 + (m + o) ≡ suc m + o = omega arith in
      ap (λ (l : List ℕ). 0 ∷ l) (join_three 1 m o (below_size g b.tree) (map_pages (gathered_map g b.local (upward 0 (gathered_size g b)))) (own_pages t) (inner_pages t)
      (map_pages_lem b.local (upward 0 (gathered_size g b)))
      (own_laid (first_entries g) (suc m) (suc m + o) b.tree ∙ ap (λ (p : ℕ). upward p o) (sym s₁))
      (inner_laid (first_entries g) (suc m) (suc m + o) b.tree ∙ ap (λ (p : ℕ). upward p (below_size g b.tree)) (sym s₂)))

-- in use are just these pages
pub count_order : (x : ℕ) (i : Image) → count x (in_order i) ≡ count x (used i)
count_order x i =
    let o = own_pages i.tree in
    let n = inner_pages i.tree in
    let m = map_pages i.map in
    simp count_append (omega (arith, count_split x 1 o))

pub length_order : (i : Image) → length (in_order i) ≡ length (used i)
length_order i = omega (
  arith,
  pigeon (in_order i) (used i) (λ x. omega (arith, count_order x i)),
  pigeon (used i) (in_order i) (λ x. omega (arith, count_order x i)),
)

module _ (g : Geometry) (b : BareImage) where
  pub count_gathered : (x : ℕ) → count x (used (gathered_image g b)) ≡ count x (upward 0 (gathered_size g b))
  count_gathered x = sym (count_order x (gathered_image g b)) ∙ ap (count x) (in_order_lem g b)

  -- the number of pages in use
  pub length_gathered : length (used (gathered_image g b)) ≡ gathered_size g b
  length_gathered = sym (length_order (gathered_image g b)) ∙ ap length (in_order_lem g b) ∙ length_upward 0 (gathered_size g b)
