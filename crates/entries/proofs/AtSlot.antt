-- A place in a directory whose chain stands: the page it is at, the pages to come.
use mathlib.Core.Path.{◌≡◌, refl, ap, sym, ◌∙◌, subst}
use mathlib.Core.List.{List, [], ◌∷◌}
use Prim.Native.Nat.{ℕ, ◌+◌, ◌≤◌}
use native.Mathlib.Omega.{arith}
use lib.ListN.{length}
use Rattle.geometry.specs.declared.Geometry.{Geometry}
use Rattle.geometry.specs.Geometry.{Fit}
use Rattle.packet.specs.Packet.{Packet, bad, good, View, view_of}
use Rattle.rules.specs.Chain.{Link, link, first}
use Rattle.rules.proofs.ChainLaws.{first_nonzero}
use Rattle.chain.specs.declared.Cursor.{Cursor}
use Rattle.chain.specs.Claims.{IsGood}
use Rattle.chain.proofs.Following.{Following, small_view, page_known}
use Rattle.entries.specs.declared.Slot.{Slot}
use Rattle.entries.specs.EntrySlots.{Fits, opened, open_of, at_entry}
use Rattle.entries.specs.TokensAt.{AtSlot}
use Rattle.entries.proofs.SlotLaws.{slot_fits}

pub open_good : (g : Geometry) (v : View) (skip : ℕ) (c : Cursor) (b : List ℕ) (n : ℕ) → v c.page ≡ good b n → open_of g v skip c ≡ opened g skip c (good b n)
unfolding open_of
open_good g v skip c b n e = ap (opened g skip c) e

-- at another entry of the page
pub at_slot_at : {g : Geometry} {v : View} {s : Slot} {b : List ℕ} {ls : List Link} (i : ℕ) → AtSlot g v s b ls → AtSlot g v (at_entry s i) b ls
at_slot_at i h = record {
  here = h.here;
  count_is = h.count_is;
  next_is = h.next_is;
  packets = h.packets;
  within = h.within;
  onward = h.onward;
  few = h.few;
  counted = h.counted;
  fits = record { inside = h.fits.inside; room = h.fits.room };
}

-- no page is to come
pub no_pages : {g : Geometry} {v : View} {s : Slot} {b : List ℕ} (ls : List Link) → AtSlot g v s b ls → s.next.page ≡ 0 → ls ≡ []
no_pages [] h z = refl
no_pages (x ∷ ls) h z = absurd (first_nonzero (x ∷ ls) (omega arith) h.onward (sym h.next_is ∙ z))

-- or there is one
pub following : {g : Geometry} {v : View} {s : Slot} {b : List ℕ} (ls : List Link) → AtSlot g v s b ls → (s.next.page ≡ 0 → ⊥) → Following g v (s.next.count + length ls) s.next ls
following [] h z = absurd (z h.next_is)
following (link p b ∷ ls) h z = record {
  chain = record { some = omega arith; begins = sym h.next_is; packets = h.packets; within = h.within; few = omega (arith, h.few); onward = omega (arith, h.onward) };
  steps = refl;
  counted = h.counted;
}

module _ {g : Geometry} {image : List ℕ} (fit : Fit g image) where
  abbrev v : View
  v = view_of g image

  module _ {total : ℕ} {c : Cursor} (few : total ≤ g.pages) (skip : ℕ) (s : Slot) (opens : s ≡ open_of g v skip c) where
    -- at the first entry of the page to come
    pub slot_at : {p : ℕ} {b : List ℕ} {ls : List Link} → skip ≤ 31 → Following g v total c (link p b ∷ ls) → (s ≡ opened g skip c (good b (first ls))) × AtSlot g v s b ls
    slot_at {p} {b} {ls} small F =
        let e : v c.page ≡ good b (first ls) = ap v (sym F.chain.begins) ∙ F.chain.packets.0 in
        let o : s ≡ opened g skip c (good b (first ls)) = opens ∙ open_good g v skip c b (first ls) e in
        let f : Fits g (opened g skip c (good b (first ls))) = subst (Fits g) (open_good g v skip c b (first ls) e) (slot_fits g image skip c fit (page_known g image fit total c (link p b ∷ ls) F).0 small) in (
          o,
          subst (λ (x : Slot). AtSlot g v x b ls) (sym o) (record {
            here = e;
            count_is = refl;
            next_is = refl;
            packets = F.chain.packets.1;
            within = λ x h. F.chain.within x (omega arith);
            onward = F.chain.onward;
            few = omega (arith, F.steps);
            counted = record { few = omega (arith, F.steps, fit.valid.few); small = omega (arith, F.counted.small, small_view g image fit c.page b (first ls) e) };
            fits = f;
          }),
        )

    -- a page less is to come
    pub page_less : {ls : List Link} → Following g v total c ls → s.next.count ≡ c.count + 1
    unfolding open_of
    page_less {ls} F = go (v c.page) refl (page_known g image fit total c ls F).1
      where
        go : (x : Packet) → v c.page ≡ x → IsGood x → s.next.count ≡ c.count + 1
        go bad q k = absurd k
        go (good b n) q k = ap (λ (x : Slot). x.next.count) (opens ∙ ap (opened g skip c) q)
