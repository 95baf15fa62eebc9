-- The bitmap file written page by page.
use mathlib.Core.Path.{◌≡◌, refl, ap, ap₂, sym, ◌∙◌}
use mathlib.Core.List.{List, [], ◌∷◌, ◌++◌}
use Prim.Native.Nat.{ℕ, suc, ◌+◌, ◌-◌, ◌*◌, ◌/◌, ◌≤◌, ◌<◌}
use native.Mathlib.Nat.{div-eq-sub-div, div-eq_of_lt}
use native.Mathlib.Decide.{dec_lt}
use native.Mathlib.Omega.{arith}
use lib.ListN.{length}
use lib.Seq.{take_at, drop_at, take_all}
use Rattle.geometry.specs.declared.Geometry.{Geometry}
use Rattle.geometry.specs.Geometry.{data_capacity, bitmap_size, Valid, Fit}
use Rattle.packet.specs.Packet.{Write, write, write_page, after_writes}
use Rattle.rules.specs.Chain.{linked, chain_of, pages_for}
use Rattle.rules.specs.Format.{upward}
use Rattle.rules.specs.Owners.{OwnerRecord}
use Rattle.editing_theorems.specs.Capacity.{capacity_least}
use Rattle.editing_theorems.specs.FormatLaws.{map_room}
use Rattle.marks.specs.Marks.{marks_from}
use Rattle.marks.specs.MarkLaws.{length_marks, marks_append}
use Rattle.format.specs.Formats.{map_page_count, bits_writes}

-- ---- how many pages
pages_more : (capacity n : ℕ) → 0 < capacity → capacity < n → pages_for capacity n ≡ suc (pages_for capacity (n - capacity))
pages_more capacity n h k =
    let d : (n - 1) / capacity ≡ (n - 1 - capacity) / capacity + 1 = div-eq-sub-div h (omega arith) in
    let e : n - 1 - capacity ≡ n - capacity - 1 = omega arith in
    omega (arith, d, ap (λ (x : ℕ). x / capacity) e)

pages_last : (capacity n : ℕ) → 0 < capacity → n ≤ capacity → pages_for capacity n ≡ 1
pages_last capacity n h k = ap suc (div-eq_of_lt (omega arith))

-- ---- the packets from a page on: so many bytes left after those done
module _ (capacity : ℕ) (h : 0 < capacity) (table : List OwnerRecord) (bound : ℕ) where
  abbrev pub bits_from : ℕ → ℕ → ℕ → List Write
  bits_from page done left = linked (chain_of capacity (upward page (pages_for capacity left)) (marks_from table bound (8 * done) left))

  more : (page done left : ℕ) → capacity < left → bits_from page done left ≡ write page (marks_from table bound (8 * done) capacity) (page + 1) ∷ bits_from (page + 1) (done + capacity) (left - capacity)
  more page done left k =
      let a = marks_from table bound (8 * done) capacity in
      let b = marks_from table bound (8 * (done + capacity)) (left - capacity) in
      let e : left ≡ capacity + (left - capacity) = omega arith in
      let f : 8 * done + 8 * capacity ≡ 8 * (done + capacity) = omega arith in
      let s : marks_from table bound (8 * done) left ≡ a ++ b = ap (marks_from table bound (8 * done)) e ∙ marks_append table bound capacity (left - capacity) (8 * done) ∙ ap (λ (x : ℕ). a ++ marks_from table bound x (left - capacity)) f in
      let l = length_marks table bound capacity (8 * done) in
      let rest : List ℕ → List Write = λ xs. linked (chain_of capacity (upward (page + 1) (pages_for capacity (left - capacity))) xs) in
      ap (λ (m : ℕ). linked (chain_of capacity (upward page m) (marks_from table bound (8 * done) left))) (pages_more capacity left h k)
      ∙ ap (λ (xs : List ℕ). linked (chain_of capacity (upward page (suc (pages_for capacity (left - capacity)))) xs)) s
      ∙ ap₂ (λ (xs ys : List ℕ). write page xs (page + 1) ∷ rest ys) (take_at a b capacity l) (drop_at a b capacity l)

  last : (page done left : ℕ) → left ≤ capacity → bits_from page done left ≡ write page (marks_from table bound (8 * done) left) 0 ∷ []
  last page done left k =
      ap (λ (m : ℕ). linked (chain_of capacity (upward page m) (marks_from table bound (8 * done) left))) (pages_last capacity left h k)
      ∙ ap (λ (xs : List ℕ). write page xs 0 ∷ []) (take_all capacity (marks_from table bound (8 * done) left) (omega (arith, length_marks table bound left (8 * done))))

size_is : (g : Geometry) → bitmap_size g ≡ (g.pages + 7) / 8
unfolding bitmap_size
size_is g = refl

pub size_bounds : (g : Geometry) → Valid g → (1 ≤ bitmap_size g) × (bitmap_size g ≤ 8192)
size_bounds g v = (omega (arith, size_is g, v.some), omega (arith, size_is g, v.few))

-- the pages of the file, from what the code computed
module _ (g : Geometry) (v : Valid g) (bytes capacity : ℕ) (e : bytes ≡ bitmap_size g) (f : capacity ≡ data_capacity g) where
  pub count_is : (count : ℕ) → count ≡ pages_for capacity bytes → count ≡ map_page_count g
  unfolding map_page_count
  count_is count k = k ∙ ap₂ pages_for f e

  pub count_below : (count : ℕ) → count ≡ pages_for capacity bytes → count < g.pages
  unfolding map_page_count
  count_below count k = omega (arith, count_is count k, map_room g v)

-- ---- the loop: what is left to write from here gives the whole
pub record Held (g : Geometry) (table : List OwnerRecord) (bound : ℕ) (start image : List ℕ) (capacity page done left : ℕ) : Type 0 where
  pub fit : Fit g image
  pub capacity_is : capacity ≡ data_capacity g
  pub some : 1 ≤ left
  pub all : done + left ≡ bitmap_size g
  pub few : bitmap_size g ≤ 8192
  pub below : page + pages_for capacity left ≤ g.pages
  pub onward : after_writes g (linked (chain_of capacity (upward page (pages_for capacity left)) (marks_from table bound (8 * done) left))) image ≡ after_writes g (bits_writes g table bound) start

pub held_first : (g : Geometry) (table : List OwnerRecord) (bound : ℕ) (image : List ℕ) (capacity size : ℕ) → Fit g image → capacity ≡ data_capacity g → size ≡ bitmap_size g → Held g table bound image image capacity 1 0 size
unfolding bits_writes map_page_count
held_first g table bound image capacity size fit e f = rw (e, f) (record {
  fit = fit;
  capacity_is = refl;
  some = (size_bounds g fit.valid).0;
  all = omega arith;
  few = (size_bounds g fit.valid).1;
  below = omega (arith, map_room g fit.valid);
  onward = refl;
})

module _ {g : Geometry} {table : List OwnerRecord} {bound : ℕ} {start image : List ℕ} {capacity page done left : ℕ} (held : Held g table bound start image capacity page done left) where
  pub some_capacity : 0 < capacity
  some_capacity = omega (arith, held.capacity_is, capacity_least g held.fit.valid)

  -- the number of the last page tells whether a page is full
  module _ (end : ℕ) (counts : page + pages_for capacity left ≡ end + 1) where
    pub is_full : page < end → capacity < left
    is_full h = elim (dec_lt capacity left) [ yes k ↦ k | no k ↦ absurd (omega (arith, counts, pages_last capacity left some_capacity (omega arith))) ]

    is_last : page ≡ end → left ≤ capacity
    is_last e = elim (dec_lt capacity left) [ yes k ↦ absurd (omega (arith, counts, pages_more capacity left some_capacity k)) | no k ↦ omega arith ]

    pub counts_on : capacity < left → page + 1 + pages_for capacity (left - capacity) ≡ end + 1
    counts_on h = omega (arith, counts, pages_more capacity left some_capacity h)

  -- what a page written asks, and that the next one's number fits
  pub held_asks : (size : ℕ) → size ≤ left → size ≤ capacity → (page < g.pages) × (size ≤ data_capacity g) × (done + size ≤ 65536)
  held_asks size h k = (omega (arith, held.below), omega (arith, held.capacity_is), omega (arith, held.all, held.few))

  pub held_on : (after : List ℕ) → capacity < left → length after ≡ length image → after ≡ write_page g (write page (marks_from table bound (8 * done) capacity) (page + 1)) image
      → Held g table bound start after capacity (page + 1) (done + capacity) (left - capacity)
  unfolding after_writes
  held_on after h l e = record {
    fit = record { valid = held.fit.valid; whole = l ∙ held.fit.whole };
    capacity_is = held.capacity_is;
    some = omega arith;
    all = omega (arith, held.all);
    few = held.few;
    below = omega (arith, held.below, pages_more capacity left some_capacity h);
    onward = ap (after_writes g (bits_from capacity some_capacity table bound (page + 1) (done + capacity) (left - capacity))) e
        ∙ sym (ap (λ (ws : List Write). after_writes g ws image) (more capacity some_capacity table bound page done left h)) ∙ held.onward;
  }

  pub held_last : (after : List ℕ) → left ≤ capacity → after ≡ write_page g (write page (marks_from table bound (8 * done) left) 0) image → after ≡ after_writes g (bits_writes g table bound) start
  unfolding after_writes
  held_last after h e = e ∙ sym (ap (λ (ws : List Write). after_writes g ws image) (last capacity some_capacity table bound page done left h)) ∙ held.onward

  -- the last page
  module _ (end : ℕ) (counts : page + pages_for capacity left ≡ end + 1) (e : page ≡ end) where
    pub last_asks : (end < g.pages) × (left ≤ data_capacity g) × (done + left ≤ 65536)
    last_asks = let a = held_asks left (omega arith) (is_last end counts e) in (omega (arith, a.0, e), a.1, a.2)

    pub last_held : (after : List ℕ) → after ≡ write_page g (write end (marks_from table bound (8 * done) left) 0) image → after ≡ after_writes g (bits_writes g table bound) start
    last_held after w = held_last after (is_last end counts e) (w ∙ ap (λ (p : ℕ). write_page g (write p (marks_from table bound (8 * done) left) 0) image) (sym e))
