-- The mend: done exactly where the first half of the check finds no fault and the marks cover the pages in use; what it leaves, and its number.
use Rattle.std.specs.Prelude.{◌≡◌, refl, true, List, ℕ, zero, suc, ◌+◌, ◌*◌, ◌≤◌, ◌<◌, eqb, leb, length}
use Rattle.std.proofs.Common.{sym, ◌∙◌, subst, arith, lt-ltb, le-ltb, leb-true, eqb-true}
use Rattle.std.proofs.Math.Decide.{dec_lt}
use Rattle.geometry.specs.declared.Geometry.{Geometry}
use Rattle.geometry.specs.ChooseLaws.{choose_true, choose_false}
use Rattle.geometry.specs.BoolLaws.{both}
use Rattle.geometry.specs.Geometry.{Fit}
use Rattle.geometry.specs.Number.{Bytes}
use Rattle.packet.specs.Packet.{after_writes}
use Rattle.rules.specs.Result.{ok}
use Rattle.rules.proofs.ResultLaws.{ok_inj, on_then, on_refuse}
use Rattle.rules.specs.PageSets.{bit, mem, Within}
use Rattle.rules.proofs.PageSetLaws.{mem_true, range_of}
use Rattle.rules.specs.Chain.{views_of}
use Rattle.rules.specs.Tree.{Items, map_pages, Image, used}
use Rattle.rules.specs.Bitmap.{bit_at, map_size, bitmap_of}
use Rattle.rules.proofs.BitmapLaws.{bit_most, length_bitmap, bytes_bitmap}
use Rattle.rules.specs.Check.{Scan, scan}
use Rattle.rules.specs.Writes.{map_writes}
use Rattle.reading_theorems.specs.Accepted.{scanned_iff}
use Rattle.reading_theorems.specs.CheckComplete.{scan_complete}
use Rattle.editing_theorems.specs.AfterWrites.{length_after_writes}
use Rattle.editing_theorems.specs.MadeWrites.{made_rest}
use Rattle.rules.specs.Calls.{Effect}
use Rattle.rules.specs.Careful.{mendable, all_mendable, unowned, mend_writes, mend}
use Rattle.careful_theorems.proofs.MapStops.{map_fit}
use Rattle.careful_theorems.proofs.MarkLaws.{map_room, Left, mend_left}
use Rattle.rules.specs.CarefulPromises.{Covers, MendDone}
use Rattle.careful_theorems.proofs.MendCount.{unowned_are}

-- ---- what a mend leaves
pub record MendLeft (g : Geometry) (image : List ℕ) (t : Items) : Type 0 where
  pub mended : Effect ℕ
  pub is : mend g image ≡ ok mended
  pub done : MendDone g image mended.answer mended.image
  pub tree_is : done.tree.tree ≡ t

pub mend_of : (g : Geometry) (image : List ℕ) (t : Items) (ps : List ℕ) → Left g image t ps → MendLeft g image t
unfolding mend mend_writes
mend_of g image t ps l =
    let m = l.map in
    let i : Image = record { tree = t; map = m } in
    let bits = l.bits in
    let s = l.stands in
    let new = bitmap_of g (used i) m in
    let r = mend_left g image t (map_pages m) (record { bits = bits; map = m; map_pages_same = refl; stands = s; covers = l.covers }) in
    let after : Effect ℕ = record { answer = unowned bits (used i) 0 (8 * length bits); image = after_writes g (map_writes g new t m) image } in
    let f = map_fit g image bits t m s new (length_bitmap (used i) 0 (map_size g m) ∙ sym s.holds.room) (bytes_bitmap (used i) 0 (map_size g m)) in
    record {
      mended = after;
      is = r.done;
      done = record {
        was = record { image = i; raw = bits };
        scanned = scan_complete g s.fits.valid (views_of g image) bits i s.holds;
        covered = l.covers;
        tree = record { tree = t; map = r.map };
        well_formed = r.accepted;
        same_tree = refl;
        same_map = r.map_pages_same;
        are_bytes = r.are_bytes;
        sized = length_after_writes g (map_writes g new t m) f image s.fits;
        written = refl;
        rest = made_rest g (map_writes g new t m) f image s.fits s.are_bytes;
        number = unowned_are g.pages (8 * length bits) bits (used i) l.covers (omega (arith, map_room g bits m s.holds.map, s.holds.room)) s.holds.apart;
      };
      tree_is = refl;
    }

-- ---- marks that a mend takes cover the pages in use
mendable_each : (N : ℕ) (raw us : List ℕ) (k n : ℕ) → all_mendable N raw us k n ≡ true → (x : ℕ) → k ≤ x → x < k + n → mendable N raw us x ≡ true
unfolding all_mendable
mendable_each N raw us k zero e x p q = absurd (omega arith)
mendable_each N raw us k (suc n) e x p q =
    let h = both (mendable N raw us k) (all_mendable N raw us (k + 1) n) e in
    elim (dec_lt k x) [
      | yes r ↦ mendable_each N raw us (k + 1) n h.1 x (omega arith) (omega arith)
      | no r ↦ let i : x ≡ k = omega arith in rw i h.0
    ]

mendable_covers : (N : ℕ) (raw us : List ℕ) → N ≤ 8 * length raw → Within N us → all_mendable N raw us 0 (8 * length raw) ≡ true → Covers N raw us
mendable_covers N raw us l w e = record {
  marked = λ x j.
      let b : x < N = range_of x N (omega (arith, w x)) in
      let h : mendable N raw us x ≡ true = mendable_each N raw us 0 (8 * length raw) e x (omega arith) (omega arith) in
      let h₁ : leb (bit (mem x us)) (bit_at raw x) ≡ true = simp (lt-ltb x N b, choose_true) at h in
      let h₂ : leb 1 (bit_at raw x) ≡ true = rw (mem_true x us j) at h₁ in
      omega (arith, leb-true 1 (bit_at raw x) h₂, bit_most raw x);
  above = λ x p q.
      let h : mendable N raw us x ≡ true = mendable_each N raw us 0 (8 * length raw) e x (omega arith) (omega arith) in
      let h₁ : eqb (bit_at raw x) 0 ≡ true = simp (le-ltb x N p, choose_false) at h in
      eqb-true (bit_at raw x) 0 h₁;
}

-- a mend that is done met such marks
pub mend_met : (g : Geometry) (image : List ℕ) → Fit g image → Bytes image → (s : Scan) → scan g (views_of g image) ≡ ok s
    → all_mendable g.pages s.raw (used s.image) 0 (8 * length s.raw) ≡ true → Left g image s.image.tree (map_pages s.image.map)
mend_met g image fit bytes s e a =
    let w = (scanned_iff g image fit bytes s).0 e in
    record {
      bits = s.raw;
      map = s.image.map;
      map_pages_same = refl;
      stands = record { fits = fit; are_bytes = bytes; holds = w };
      covers = mendable_covers g.pages s.raw (used s.image) (omega (arith, map_room g s.raw s.image.map w.map, w.room)) w.apart a;
    }

pub mend_gives : (g : Geometry) (image : List ℕ) (now : Effect ℕ) → Fit g image → Bytes image → mend g image ≡ ok now → MendDone g image now.answer now.image
unfolding mend
mend_gives g image now fit bytes e = on_then _ _ _ e λ s f q. on_refuse _ _ _ _ _ q λ a r.
    let m = mend_of g image s.image.tree (map_pages s.image.map) (mend_met g image fit bytes s f a) in
    subst (λ (x : Effect ℕ). MendDone g image x.answer x.image) (ok_inj (sym m.is ∙ e)) m.done
