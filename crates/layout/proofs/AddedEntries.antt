-- The page at hand: what it holds can be written, and an entry with its stamps is added to it.
use mathlib.Core.Path.{◌≡◌, refl, ap, ap₂, ◌∙◌}
use mathlib.Core.Bool.{true, false}
use mathlib.Core.List.{List, ◌++◌}
use Prim.Native.Nat.{ℕ, ◌+◌, ◌-◌, ◌*◌, ◌≤◌, ◌<◌}
use native.Mathlib.Nat.{mul-le-mul_left, mul-add, mul_comm}
use native.Mathlib.Omega.{arith}
use lib.ListN.{length, take, drop, length-take, length-drop}
use Rattle.geometry.specs.declared.Geometry.{Geometry}
use Rattle.geometry.specs.ChooseLaws.{choose_true, choose_false}
use Rattle.geometry.specs.Geometry.{Valid, entry_size}
use Rattle.geometry.specs.Page.{page_of, overwritten}
use Rattle.rules.specs.declared.Entry.{Entry}
use Rattle.rules.specs.Names.{directory_number, entry_bytes}
use Rattle.reading_theorems.specs.EntryLaws.{entry_size_lem, length_entry}
use Rattle.editing_theorems.specs.Capacity.{capacity_is}
use Rattle.entries.specs.declared.Slot.{Slot}
use Rattle.entries.specs.EntrySlots.{Fits}
use Rattle.runs.proofs.TakeLaws.{length_over}
use Rattle.layout.specs.declared.Laid.{Laid}
use Rattle.layout.specs.Layout.{pages_in, new_entry, bytes_behind, Holding, Added}

-- ---- the number of pages in an entry
pub pages_none : (e : Entry) (from next : ℕ) → directory_number e.extension ≡ true → 0 ≡ pages_in e from next
pages_none e from next h = rw (h, choose_true) refl

pub pages_some : (e : Entry) (from next : ℕ) → directory_number e.extension ≡ false → next - from ≡ pages_in e from next
pages_some e from next h = rw (h, choose_false) refl

-- ---- the page at hand can be written
pub head_room : (g : Geometry) (buffer : List ℕ) (w : Laid) → Valid g → Holding g buffer w → length (take w.held buffer) + g.width + 3 ≤ g.size
head_room g buffer w valid h = omega (arith, length-take w.held buffer, h.room 0 (omega arith), capacity_is g, valid.least, valid.two)

-- ---- the stamps in the source's page
module _ (g : Geometry) (here : Slot) (k size : ℕ) (is : size ≡ entry_size g) (fits : Fits g here) (few : k ≤ here.at) (under : here.at < here.count) where
  abbrev from : ℕ
  from = 1 + here.skip + size * (here.at - k)

  pub stamps_inside : from + size * k ≤ g.size
  stamps_inside =
      let o : size * (here.at - k + k) ≡ size * (here.at - k) + size * k = mul-add size (here.at - k) k in
      let i : here.at - k + k ≡ here.at = omega arith in
      omega (arith, o, ap (λ (x : ℕ). size * x) i, mul-le-mul_left {m = here.at} {n = here.count} size (omega arith), ap (λ (x : ℕ). x * here.count) is, fits.room)

  pub stamps_are : (image page : List ℕ) → page ≡ page_of g here.page image → take (from + size * k - from) (drop from page) ≡ bytes_behind g image here k
  stamps_are image page e =
      let n : from + size * k - from ≡ size * k = omega arith in
      ap₂ (λ (x : ℕ) (l : List ℕ). take x (drop from l)) n e ∙ ap (λ (x : ℕ). take (x * k) (drop (1 + here.skip + x * (here.at - k)) (page_of g here.page image))) is

  pub stamps_size : (image page : List ℕ) → page ≡ page_of g here.page image → length (take (from + size * k - from) (drop from page)) ≤ entry_size g * k
  stamps_size image page e = omega (arith, length-take (from + size * k - from) (drop from page), ap (λ (x : ℕ). x * k) is)

-- ---- the entry behind them
module _ (g : Geometry) (buffer : List ℕ) (w : Laid) (stamps : ℕ) (h : Holding g buffer w) (some : stamps < w.left) where
  pub entry_end : w.held + entry_size g * stamps + entry_size g ≤ 252
  entry_end =
      let r : w.held + (stamps + 1) * entry_size g ≤ 252 = omega (arith, h.room (stamps + 1) (omega arith), h.most) in
      let c : (stamps + 1) * entry_size g ≡ entry_size g * stamps + entry_size g = mul_comm (stamps + 1) (entry_size g) ∙ omega arith in
      omega arith

  pub entry_ends : (size : ℕ) → size ≡ entry_size g → w.held + size * stamps + size ≤ 252
  entry_ends size e = omega (arith, entry_end, ap (λ (x : ℕ). x * stamps) e)

  module _ (image : List ℕ) (here : Slot) (now : List ℕ) (put : now ≡ overwritten w.held (bytes_behind g image here stamps) buffer) (size : ℕ) (is : size ≡ entry_size g) where
    abbrev at : ℕ
    at = w.held + size * stamps

    pub now_long : length now ≡ 256
    now_long = ap length put ∙ length_over w.held (bytes_behind g image here stamps) buffer
        (omega (arith, length-take (entry_size g * stamps) (drop (1 + here.skip + entry_size g * (here.at - stamps)) (page_of g here.page image)), entry_end, h.long)) ∙ h.long

    pub entry_part : length (take (at + size - at) (drop at now)) ≡ 5 + 2 * g.width
    entry_part = omega (arith, length-take (at + size - at) (drop at now), length-drop at now, now_long, entry_ends size is, entry_size_lem g)

    pub entry_added : (e : Entry) (next pages : ℕ) (last : List ℕ) → pages ≡ pages_in e w.chain next
        → last ≡ entry_bytes g.width (record { name = e.name; extension = e.extension; start = w.chain; pages = pages })
        → Added g image buffer w here stamps e next (take at now ++ (last ++ drop (at + size - at) (drop at now)))
        (record { page = w.page; held = at + size; left = w.left - (stamps + 1); further = w.further; chain = next })
    unfolding overwritten
    entry_added e next pages last p l =
        let eb = entry_bytes g.width (new_entry e w.chain next) in
        let l' : last ≡ eb = l ∙ ap (λ (x : ℕ). entry_bytes g.width (record { name = e.name; extension = e.extension; start = w.chain; pages = x })) p in
        let n : at + size - at ≡ length eb = omega (arith, is, length_entry g (new_entry e w.chain next)) in
        let a : at ≡ w.held + entry_size g * stamps = ap (λ (x : ℕ). w.held + x * stamps) is in
        record {
          put = ap₂ (λ (x : List ℕ) (k : ℕ). take at now ++ (x ++ drop k (drop at now))) l' n ∙ ap₂ (λ (x : ℕ) (b : List ℕ). overwritten x eb b) a put;
          now = ap₂ (λ (x y : ℕ). record { page = w.page; held = x + y; left = w.left - (stamps + 1); further = w.further; chain = next }) a is;
        }
