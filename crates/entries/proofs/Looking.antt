-- The search for a key among a directory's first entries, page by page: what is left to be searched decides.
use mathlib.Core.Path.{◌≡◌, refl, ap, ap₂, sym, ◌∙◌}
use mathlib.Core.Bool.{Bool, true, false}
use mathlib.Core.List.{List, []}
use Prim.Native.Nat.{ℕ, zero, suc, ◌+◌, ◌-◌, ◌*◌, ◌/◌, ◌≤◌, ◌<◌, min}
use native.Mathlib.Decide.{dec_le}
use native.Mathlib.Nat.{mul-le-mul_left, mul-div-le}
use native.Mathlib.Omega.{arith}
use lib.ListN.{length, take, drop, length-drop}
use Rattle.geometry.specs.declared.Geometry.{Geometry}
use Rattle.geometry.specs.Geometry.{entry_size, control_size, Fit}
use Rattle.geometry.specs.Page.{page_of}
use Rattle.geometry.specs.PageLaws.{page_length}
use Rattle.packet.specs.Packet.{good, View, view_of}
use Rattle.rules.specs.PageSets.{mem}
use Rattle.rules.specs.Chain.{Link, first}
use Rattle.rules.specs.Tree.{Token, link_tokens}
use Rattle.entries.specs.declared.Slot.{Slot}
use Rattle.entries.specs.EntrySlots.{keys_from, chain_keys}
use Rattle.entries.specs.TokensAt.{entries_at, TokensAt, PageAt, PageAhead, LastPage}
use Rattle.entries.proofs.KeyLaws.{keys_cut, in_first, not_in_first, in_rest, entry_least}
use Rattle.entries.proofs.Places.{data_from}
use Rattle.entries.proofs.TokenLaws.{token_keys, token_keys_lem, first_keys, keys_after}

-- the keys of a page's entries, as the code reads them from the page
page_keys : (g : Geometry) (image : List ℕ) (p skip m : ℕ) (b : List ℕ) (n : ℕ) → 7 ≤ entry_size g → view_of g image p ≡ good b n → m ≤ length (drop skip b) / entry_size g
    → keys_from g m (drop (1 + skip) (page_of g p image)) ≡ keys_from g m (drop skip b)
page_keys g image p skip m b n h e k =
    let l : entry_size g * m ≤ entry_size g * (length (drop skip b) / entry_size g) = mul-le-mul_left (entry_size g) k in
    let j : entry_size g * (length (drop skip b) / entry_size g) ≤ length (drop skip b) = mul-div-le (length (drop skip b)) (entry_size g) in
    elim (dec_le skip (length b)) [
      | yes i ↦ sym (ap (keys_from g m) (data_from g image p skip b n e i) ∙ keys_cut g h m (length b - skip) (drop (1 + skip) (page_of g p image)) (omega (arith, length-drop skip b)))
      | no i ↦ let z : m ≡ 0 = none m (omega (arith, length-drop skip b)) in rw z refl
    ]
  where
    none : (m : ℕ) → entry_size g * m ≡ 0 → m ≡ 0
    none zero q = refl
    none (suc m) q = absurd (omega arith)

-- at the first entry of a page, where `left` keys are still to be searched
pub record Looking (g : Geometry) (v : View) (k : ℕ) (answer : Bool) (s : Slot) (left : ℕ) : Type 0 where
  pub ts : List Token
  pub ahead : TokensAt g v s ts
  pub at_start : s.at ≡ 0
  pub enough : left ≤ length (token_keys ts)
  pub same : mem k (take left (token_keys ts)) ≡ answer

pub look_first : {g : Geometry} {v : View} {s : Slot} (k m : ℕ) (ls : List Link) → PageAt g v (control_size g) s (link_tokens g (control_size g) ls) → m ≤ length (chain_keys g (control_size g) ls)
    → Looking g v k (mem k (take m (chain_keys g (control_size g) ls))) s m
look_first {g} k m ls p n =
    let e : token_keys p.later ≡ chain_keys g (control_size g) ls = ap token_keys (sym p.split) ∙ token_keys_lem g (control_size g) ls in
    record { ts = p.later; ahead = p.ahead; at_start = p.at_start; enough = omega (arith, ap length e); same = ap (λ (l : List ℕ). mem k (take m l)) e }

module _ {g : Geometry} {image : List ℕ} (fit : Fit g image) {k : ℕ} {answer : Bool} {s : Slot} {left : ℕ} (L : Looking g (view_of g image) k answer s left) where
  open L use {ts, ahead, at_start, enough, same}

  abbrev v : View
  v = view_of g image

  module _ (page : List ℕ) (e : page ≡ page_of g s.page image) (j : ℕ) (i : j ≡ min left s.count) where
    -- what is searched lies in the page
    pub searched : (1 + s.skip + entry_size g * j ≤ length page) × (length page ≤ 256)
    searched =
        let a : entry_size g * j ≤ entry_size g * s.count = mul-le-mul_left (entry_size g) (omega arith) in
        let l = ap length e ∙ page_length g image s.page fit ahead.at_slot.fits.inside in
        (omega (arith, ahead.at_slot.fits.room), omega (arith, fit.valid.most))

    module _ (r : Bool) (f : r ≡ mem k (keys_from g j (drop (1 + s.skip) page))) where
      -- it is the page's part of what is left
      read : r ≡ mem k (take (min left s.count) (token_keys ts))
      read =
          let m = min left s.count in
          let n : m ≤ s.count - s.at = omega (arith, at_start) in
          let b = entries_at g s.skip s.at ahead.bytes in
          let z : entry_size g * s.at ≡ 0 = ap (λ (x : ℕ). entry_size g * x) at_start ∙ omega arith in
          let o : keys_from g m (drop (1 + s.skip) (page_of g s.page image)) ≡ keys_from g m b =
          page_keys g image s.page s.skip m ahead.bytes (first ahead.more) (entry_least g fit.valid) ahead.at_slot.here (omega (arith, ahead.at_slot.count_is))
          ∙ ap (λ (x : ℕ). keys_from g m (drop x (drop s.skip ahead.bytes))) (sym z) in
          let q : keys_from g m b ≡ take m (token_keys ts) = sym (first_keys g m (s.count - s.at) b (link_tokens g 0 ahead.more) n) ∙ ap (λ (x : List Token). take m (token_keys x)) (sym ahead.are) in
          f ∙ ap₂ (λ (a : ℕ) (x : List ℕ). mem k (keys_from g a (drop (1 + s.skip) x))) i e ∙ ap (mem k) (o ∙ q)

      pub look_found : r ≡ true → true ≡ answer
      look_found z = sym (in_first k left s.count (token_keys ts) (sym read ∙ z)) ∙ same

      module _ (z : r ≡ false) where
        pub look_done : left ≤ s.count → false ≡ answer
        look_done l = sym (not_in_first k left s.count (token_keys ts) (sym read ∙ z) l) ∙ same

        -- some are left, so there is a next page
        module _ (l : s.count < left) where
          pub look_some : LastPage s ts → ⊥
          look_some x = omega (arith, enough, ap (λ (y : List Token). length (token_keys y)) x.rest.split, (keys_after x.entries []).0, x.rest.count_is)

          pub look_on : {s' : Slot} → PageAhead g v s ts s' → Looking g v k answer s' (left - s.count)
          look_on p =
              let a = keys_after p.entries p.after in
              let n : length p.entries ≡ s.count = omega (arith, p.rest.count_is, at_start) in
              let later : token_keys p.after ≡ token_keys p.page.later = ap token_keys p.page.split in
              let d : drop s.count (token_keys ts) ≡ token_keys p.page.later =
              ap₂ (λ (x : ℕ) (y : List Token). drop x (token_keys y)) (sym n) p.rest.split ∙ a.1 ∙ later in
              record {
                ts = p.page.later;
                ahead = p.page.ahead;
                at_start = p.page.at_start;
                enough = omega (arith, enough, ap (λ (y : List Token). length (token_keys y)) p.rest.split, a.0, ap length later);
                same = ap (λ (x : List ℕ). mem k (take (left - s.count) x)) (sym d) ∙ sym (in_rest k left s.count (token_keys ts) (sym read ∙ z) l) ∙ same;
              }
