-- A place in a directory: the entry that is read there, and what is left in its page.
use mathlib.Core.Path.{◌≡◌, ap, sym, ◌∙◌}
use mathlib.Core.List.{List, ◌∷◌, ◌++◌}
use Prim.Native.Nat.{ℕ, suc, ◌+◌, ◌-◌, ◌*◌, ◌/◌, ◌≤◌, ◌<◌}
use native.Mathlib.Nat.{mul-le-mul_left, mul-le-mul_right, mul-div-le}
use native.Mathlib.Omega.{arith}
use lib.ListN.{length, take, drop, length-drop}
use lib.Seq.{drop-drop, take-take, get_or-take}
use Rattle.geometry.specs.declared.Geometry.{Geometry}
use Rattle.geometry.specs.Geometry.{entry_size, Valid, Fit}
use Rattle.geometry.specs.ListLaws.{drop_of_take}
use Rattle.geometry.specs.Number.{number}
use Rattle.geometry.specs.Page.{page_of}
use Rattle.packet.specs.Packet.{good, view_of}
use Rattle.packet.specs.Reading.{right_packet}
use Rattle.rules.specs.declared.Entry.{Entry}
use Rattle.rules.specs.Chain.{Link, first}
use Rattle.rules.specs.Names.{entry_of}
use Rattle.rules.specs.Tree.{Token, entry, entries_in}
use Rattle.entries.specs.declared.Slot.{Slot}
use Rattle.entries.specs.EntrySlots.{Fits}
use Rattle.entries.specs.TokensAt.{AtSlot, entries_at}
use Rattle.entries.proofs.KeyLaws.{entry_least}

-- ---- one entry of a page
-- the bytes from a place of a packet's data on, as the code reads them from the page
pub data_from : (g : Geometry) (image : List ℕ) (p at : ℕ) (b : List ℕ) (n : ℕ) → view_of g image p ≡ good b n → at ≤ length b → drop at b ≡ take (length b - at) (drop (1 + at) (page_of g p image))
unfolding view_of
data_from g image p at b n e i =
    let r = right_packet g.width p (page_of g p image) b n e in
    ap (drop at) r.bytes_are ∙ drop_of_take at (length b) (drop 1 (page_of g p image)) i ∙ ap (take (length b - at)) (drop-drop at 1 (page_of g p image))

entry_cut : (n s : ℕ) (l : List ℕ) → 5 + 2 * n ≤ s → entry_of n (take s l) ≡ entry_of n l
entry_cut n s l h = λ i. record {
  name = number (take-take 4 s l (omega arith) i);
  extension = get_or-take s l 4 0 (omega arith) i;
  start = number (part 5 n (omega arith) i);
  pages = number (part (5 + n) n (omega arith) i);
}
  where
    part : (a n : ℕ) → a + n ≤ s → take n (drop a (take s l)) ≡ take n (drop a l)
    part a n k = ap (take n) (drop_of_take a s l (omega arith)) ∙ take-take n (s - a) (drop a l) (omega arith)

-- the entry that the code reads from the page is that of the packet's data
pub entry_read : (g : Geometry) (image : List ℕ) (s : Slot) (b : List ℕ) (more : List Link) (e : Entry) → Fit g image → AtSlot g (view_of g image) s b more → s.at < s.count
    → e ≡ entry_of g.width (drop (1 + s.skip + entry_size g * s.at) (page_of g s.page image)) → e ≡ entry_of g.width (entries_at g s.skip s.at b)
unfolding entry_size
entry_read g image s b more e fit h l q =
    let es = entry_size g in
    let k : es * suc s.at ≤ es * s.count = mul-le-mul_left es l in
    let j : es * (length (drop s.skip b) / es) ≤ length (drop s.skip b) = mul-div-le (length (drop s.skip b)) es in
    let m : es * s.count ≡ es * (length (drop s.skip b) / es) = ap (λ (x : ℕ). es * x) h.count_is in
    let a = s.skip + es * s.at in
    let i : a + es ≤ length b = omega (arith, length-drop s.skip b) in
    let d : entries_at g s.skip s.at b ≡ take (length b - a) (drop (1 + a) (page_of g s.page image)) =
    drop-drop (es * s.at) s.skip b ∙ data_from g image s.page a b (first more) h.here (omega arith) in
    let c : 1 + s.skip + es * s.at ≡ 1 + a = omega arith in
    q ∙ ap (λ (x : ℕ). entry_of g.width (drop x (page_of g s.page image))) c ∙ sym (ap (entry_of g.width) d ∙ entry_cut g.width (length b - a) (drop (1 + a) (page_of g s.page image)) (omega arith))

-- the first of what is left in a page
module _ (g : Geometry) (skip i n : ℕ) (b : List ℕ) (h : i < n) where
  after_one : drop (entry_size g) (entries_at g skip i b) ≡ entries_at g skip (i + 1) b
  after_one = let q : entry_size g * i + entry_size g ≡ entry_size g * (i + 1) = omega arith in drop-drop (entry_size g) (entry_size g * i) (drop skip b) ∙ ap (λ (x : ℕ). drop x (drop skip b)) q

  pub first_token : (ts : List Token) → entries_in g (n - i) (entries_at g skip i b) ++ ts ≡ entry (entry_of g.width (entries_at g skip i b)) ∷ (entries_in g (n - (i + 1)) (entries_at g skip (i + 1) b) ++ ts)
  first_token ts =
      let s : n - i ≡ suc (n - (i + 1)) = omega arith in
      ap (λ (x : ℕ). entries_in g x (entries_at g skip i b) ++ ts) s ∙ ap (λ (x : List ℕ). entry (entry_of g.width (entries_at g skip i b)) ∷ (entries_in g (n - (i + 1)) x ++ ts)) after_one

-- ---- counts that fit
pub slot_few : {g : Geometry} {s : Slot} → Valid g → Fits g s → s.count < 256
slot_few {g} {s} v f = let a : 7 * s.count ≤ entry_size g * s.count = mul-le-mul_right s.count (entry_least g v) in omega (arith, f.room, v.most)
