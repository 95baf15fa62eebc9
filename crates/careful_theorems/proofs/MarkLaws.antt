-- Marks that cover the pages in use: what the check answers of them, and what a mend leaves.
use Rattle.std.specs.Prelude.{◌≡◌, Bool, List, ◌++◌, ℕ, zero, suc, ◌+◌, ◌*◌, ◌/◌, ◌%◌, ◌^◌, ◌≤◌, ◌<◌}
use Rattle.std.proofs.Math.Path.{refl, sym}
use Rattle.std.proofs.Common.{ap, ap₂, ◌∙◌, subst, inl, inr}
use Rattle.std.proofs.Math.Bool.{true, false}
use native.Mathlib.Omega.{arith}
use Rattle.std.proofs.Math.Decide.{dec_lt}
use Rattle.std.proofs.Math.Dec.{eqb}
use Rattle.std.proofs.Math.ListN.{length}
use borrow.Author.Tests.{lt-ltb, le-ltb, le-leb, eq-eqb, eqb-false}
use Rattle.geometry.specs.declared.Geometry.{Geometry}
use Rattle.geometry.specs.ChooseLaws.{choose_true, choose_false}
use Rattle.geometry.specs.Geometry.{bitmap_size}
use Rattle.geometry.specs.Number.{Bytes}
use Rattle.packet.specs.Packet.{after_writes}
use Rattle.rules.specs.Result.{ok, err}
use Rattle.rules.proofs.ResultLaws.{then_ok, then_err, refuse_true, refuse_false}
use Rattle.rules.specs.PageSets.{bit, count}
use Rattle.rules.proofs.PageSetLaws.{mem_true, mem_false}
use Rattle.rules.specs.Chain.{views_of}
use Rattle.rules.specs.Tree.{Items, all_pages, Map, in_root, in_file, map_pages, Image, used}
use Rattle.rules.specs.Bitmap.{bit_at, lowest_difference, bitmap_from, map_size, bitmap_of, remap}
use Rattle.rules.proofs.BitmapLaws.{bit_most, length_bitmap, bytes_bitmap, bits_bitmap, lowest, pages_remap}
use Rattle.rules.specs.BitmapLaws.{IsLowest}
use Rattle.rules.specs.Check.{judge_bits, scan, check}
use Rattle.rules.specs.WellFormed.{MapHolds, WellFormedWith, WellFormed}
use Rattle.rules.specs.Writes.{map_writes}
use Rattle.reading_theorems.specs.CheckComplete.{scan_complete}
use Rattle.editing_theorems.specs.MapWrites.{map_size_lem}
use Rattle.rules.specs.Careful.{mendable, all_mendable, unowned, mend_writes, mend}
use Rattle.rules.specs.CarefulPromises.{Covers}
use Rattle.careful_theorems.proofs.MapStops.{MarkedImage, Mixed, map_all}

pub map_room : (g : Geometry) (bits : List ℕ) (m : Map) → MapHolds g bits m → g.pages ≤ 8 * map_size g m
unfolding bitmap_size
map_room g bits in_root h = omega (arith, h)
map_room g bits (in_file ls) h = omega arith

-- the bits of these pages and more
pub covers_bitmap : (N n : ℕ) (us vs : List ℕ) → N ≤ 8 * n → ((x : ℕ) → 1 ≤ count x us → 1 ≤ count x vs) → ((x : ℕ) → 1 ≤ count x vs → x < N) → Covers N (bitmap_from vs 0 n) us
covers_bitmap N n us vs l h b = record {
  marked = λ x j. bits_bitmap vs n x (omega (arith, b x (h x j))) ∙ ap bit (mem_true x vs (h x j));
  above = λ x p q. bits_bitmap vs n x (omega (arith, length_bitmap vs 0 n)) ∙ ap bit (mem_false x vs (none x p));
}
  where
    none : (x : ℕ) → N ≤ x → count x vs ≡ 0
    none x p = elim (dec_lt 0 (count x vs)) [ yes q ↦ absurd (omega (arith, b x (omega arith))) | no q ↦ omega arith ]

pub covers_mixed : (N : ℕ) (bits new old us : List ℕ) → Mixed bits new old → length bits ≡ length old → length new ≡ length old → Covers N new us → Covers N old us → Covers N bits us
unfolding bit_at
covers_mixed N bits new old us m e f a b = record {
  marked = λ x j. elim (m (x / 8)) [
    | inl q ↦ ap (λ (y : ℕ). y / 2 ^ (x % 8) % 2) q ∙ a.marked x j
    | inr q ↦ ap (λ (y : ℕ). y / 2 ^ (x % 8) % 2) q ∙ b.marked x j
  ];
  above = λ x p k. elim (m (x / 8)) [
    | inl q ↦ ap (λ (y : ℕ). y / 2 ^ (x % 8) % 2) q ∙ a.above x p (omega arith)
    | inr q ↦ ap (λ (y : ℕ). y / 2 ^ (x % 8) % 2) q ∙ b.above x p (omega arith)
  ];
}

pub covers_fewer : (N : ℕ) (bits us vs : List ℕ) → ((x : ℕ) → 1 ≤ count x us → 1 ≤ count x vs) → Covers N bits vs → Covers N bits us
covers_fewer N bits us vs h c = record { marked = λ x j. c.marked x (h x j); above = c.above }

-- ---- what is left by a call that was stopped: a tree that stands, with the bitmap file's pages ps, and marks that cover the pages in use
pub record Left (g : Geometry) (image : List ℕ) (t : Items) (ps : List ℕ) : Type 0 where
  pub bits : List ℕ
  pub map : Map
  pub map_pages_same : map_pages map ≡ ps
  pub stands : MarkedImage g image bits (record { tree = t; map = map })
  pub covers : Covers g.pages bits (all_pages t ++ map_pages map)

pub all_mendable_lem : (N : ℕ) (raw us : List ℕ) (k n : ℕ) → ((x : ℕ) → k ≤ x → x < k + n → mendable N raw us x ≡ true) → all_mendable N raw us k n ≡ true
unfolding all_mendable
all_mendable_lem N raw us k zero h = refl
all_mendable_lem N raw us k (suc n) h = rw (h k (omega arith) (omega arith)) (all_mendable_lem N raw us (k + 1) n (λ x p q. h x (omega arith) (omega arith)))

pub covers_mendable : (N : ℕ) (bits us : List ℕ) → Covers N bits us → (x : ℕ) → x < 8 * length bits → mendable N bits us x ≡ true
covers_mendable N bits us c x l = elim (dec_lt x N) [
  | yes q ↦ rw (lt-ltb x N q, choose_true) (elim (dec_lt 0 (count x us)) [
    | yes j ↦ rw (mem_true x us (omega arith), c.marked x (omega arith)) refl
    | no j ↦ rw (mem_false x us (omega arith)) (le-leb 0 (bit_at bits x) (omega arith))
  ])
  | no q ↦ rw (le-ltb x N (omega arith), choose_false) (eq-eqb (bit_at bits x) 0 (c.above x (omega arith) l))
]

-- ---- the mend of it
pub record MendOf (g : Geometry) (image : List ℕ) (t : Items) (ps bits after : List ℕ) : Type 0 where
  pub done : mend g image ≡ ok (record { image = after; answer = unowned bits (all_pages t ++ ps) 0 (8 * length bits) })
  pub map : Map
  pub map_pages_same : map_pages map ≡ ps
  pub accepted : WellFormed g after (record { tree = t; map = map })
  pub are_bytes : Bytes after

pub mend_left : (g : Geometry) (image : List ℕ) (t : Items) (ps : List ℕ) (l : Left g image t ps)
    → MendOf g image t ps l.bits (after_writes g (map_writes g (bitmap_of g (all_pages t ++ map_pages l.map) l.map) t l.map) image)
unfolding mend mend_writes
mend_left g image t ps l =
    let m = l.map in
    let i : Image = record { tree = t; map = m } in
    let bits = l.bits in
    let s = l.stands in
    let w = s.holds in
    let new = bitmap_of g (used i) m in
    let r = map_all g image bits t m s new (length_bitmap (used i) 0 (map_size g m) ∙ sym w.room) (bytes_bitmap (used i) 0 (map_size g m)) in
    let a = all_mendable_lem g.pages bits (used i) 0 (8 * length bits) (λ x p q. covers_mendable g.pages bits (used i) l.covers x (omega arith)) in
    let after = after_writes g (map_writes g new t m) image in
    let us : used (record { tree = t; map = remap new m }) ≡ used i = ap (λ (ps : List ℕ). all_pages t ++ ps) (pages_remap new m) in
    let bs : bitmap_of g (used (record { tree = t; map = remap new m })) (remap new m) ≡ new = ap₂ (λ (us : List ℕ) (n : ℕ). bitmap_from us 0 n) us (map_size_lem g new m) in
    record {
      done = simp (scan_complete g s.fits.valid (views_of g image) bits i w, then_ok, a, refuse_true)
          (ap (λ (qs : List ℕ). ok (record { image = after; answer = unowned bits (all_pages t ++ qs) 0 (8 * length bits) })) l.map_pages_same);
      map = remap new m;
      map_pages_same = pages_remap new m ∙ l.map_pages_same;
      accepted = record { fits = r.fits; holds = subst (λ (b : List ℕ). WellFormedWith g (views_of g after) b (record { tree = t; map = remap new m })) (sym bs) r.holds };
      are_bytes = r.are_bytes;
    }

-- ---- the check of it: accepted, or 13 with a page that is marked and that no chain owns
pub data Checked (g : Geometry) (image bits us : List ℕ) (i : Image) : Type 0 where
  accepted : check g (views_of g image) ≡ ok i → Checked g image bits us i
  marked_free : (p : ℕ) → check g (views_of g image) ≡ err 13 p → p < g.pages → bit_at bits p ≡ 1 → count p us ≡ 0 → Checked g image bits us i

module _ (g : Geometry) (image : List ℕ) (t : Items) (ps : List ℕ) (l : Left g image t ps) where
  abbrev i : Image
  i = record { tree = t; map = l.map }

  abbrev bits : List ℕ
  bits = l.bits

  abbrev d : ℕ
  d = lowest_difference bits (used i) 0 (8 * length bits)

  scanned : scan g (views_of g image) ≡ ok (record { image = i; raw = bits })
  scanned = scan_complete g l.stands.fits.valid (views_of g image) bits i l.stands.holds

  low : IsLowest bits (used i) 0 (8 * length bits) d
  low = lowest bits (used i) 0 (8 * length bits)

  pub check_left : Checked g image l.bits (all_pages t ++ map_pages l.map) (record { tree = t; map = l.map })
  unfolding check judge_bits
  check_left = go (eqb d (8 * length bits)) refl
    where
      go : (b : Bool) → eqb d (8 * length bits) ≡ b → Checked g image bits (used i) i
      go true e = accepted (simp (scanned, then_ok, e, refuse_true))
      go false e =
          let n : d < 8 * length bits = omega (arith, low.high, eqb-false d (8 * length bits) e) in
          let z : count d (used i) ≡ 0 = elim (dec_lt 0 (count d (used i))) [
            | yes q ↦ absurd (low.differs (omega arith) (l.covers.marked d (omega arith) ∙ sym (ap bit (mem_true d (used i) (omega arith)))))
            | no q ↦ omega arith
          ] in
          let y : bit_at bits d ≡ 0 → ⊥ = λ y. low.differs (omega arith) (y ∙ sym (ap bit (mem_false d (used i) z))) in
          let m : bit_at bits d ≡ 1 = elim (dec_lt 0 (bit_at bits d)) [ yes q ↦ omega (arith, bit_most bits d) | no q ↦ absurd (y (omega arith)) ] in
          marked_free d (simp (scanned, then_ok, e, refuse_false, then_err)) (elim (dec_lt d g.pages) [ yes q ↦ q | no q ↦ absurd (y (l.covers.above d (omega arith) n)) ]) m z
