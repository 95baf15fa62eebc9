-- The tokens from a place on: its next entry, the rest of its page, the page after it; and the keys of entries among tokens.
use mathlib.Core.Path.{◌≡◌, refl, ap, ap₂, sym, ◌∙◌}
use mathlib.Core.List.{List, [], ◌∷◌, ◌++◌}
use Prim.Native.Nat.{ℕ, zero, suc, ◌+◌, ◌-◌, ◌*◌, ◌/◌, ◌≤◌, ◌<◌}
use native.Mathlib.Nat.{div-le_self}
use native.Mathlib.Omega.{arith}
use lib.ListN.{length, take, drop, length-append, length-drop}
use Rattle.geometry.specs.declared.Geometry.{Geometry}
use Rattle.geometry.specs.Geometry.{entry_size, control_size, Fit}
use Rattle.geometry.specs.Page.{page_of}
use Rattle.packet.specs.Packet.{good, View, view_of}
use Rattle.rules.specs.declared.Entry.{Entry}
use Rattle.rules.specs.Chain.{Link, link, first, linked}
use Rattle.rules.specs.Names.{key, entry_of}
use Rattle.rules.specs.Tree.{Token, new_page, entry, entry_tokens, entries_in, link_tokens}
use Rattle.rules.specs.TreeLaws.{page_tokens}
use Rattle.rules.specs.WellFormed.{HasPackets}
use Rattle.chain.specs.declared.Cursor.{Cursor}
use Rattle.chain.specs.Steps.{first_step}
use Rattle.chain.proofs.Following.{Following, follow, small_view}
use Rattle.entries.specs.declared.Slot.{Slot}
use Rattle.entries.specs.EntrySlots.{entry_key, keys_from, chain_keys, open_of}
use Rattle.entries.specs.TokensAt.{entries_at, TokensAt, PageAt, Begins, IsEntry, PageRest}
use Rattle.entries.proofs.KeyLaws.{length_keys}
use Rattle.entries.proofs.AtSlot.{at_slot_at, slot_at}
use Rattle.entries.proofs.Places.{entry_read, first_token}

-- ---- the keys of the entries among tokens
abbrev pub token_keys : List Token → List ℕ
token_keys [] = []
token_keys (new_page p ∷ ts) = token_keys ts
token_keys (entry e ∷ ts) = key e.name e.extension ∷ token_keys ts

token_keys_in : (g : Geometry) (m : ℕ) (b : List ℕ) (ts : List Token) → token_keys (entries_in g m b ++ ts) ≡ keys_from g m b ++ token_keys ts
token_keys_in g zero b ts = refl
token_keys_in g (suc m) b ts = ap (λ (x : List ℕ). entry_key b ∷ x) (token_keys_in g m (drop (entry_size g) b) ts)

pub token_keys_lem : (g : Geometry) (skip : ℕ) (ls : List Link) → token_keys (link_tokens g skip ls) ≡ chain_keys g skip ls
token_keys_lem g skip [] = refl
token_keys_lem g skip (link p b ∷ ls) =
    let m = length (drop skip b) / entry_size g in
    token_keys_in g m (drop skip b) (link_tokens g 0 ls) ∙ ap (λ (x : List ℕ). keys_from g m (drop skip b) ++ x) (token_keys_lem g 0 ls)

-- the first of them
pub first_keys : (g : Geometry) (m k : ℕ) (b : List ℕ) (ts : List Token) → m ≤ k → take m (token_keys (entries_in g k b ++ ts)) ≡ keys_from g m b
first_keys g zero k b ts h = refl
first_keys g (suc m) zero b ts h = absurd (omega arith)
first_keys g (suc m) (suc k) b ts h = ap (λ (x : List ℕ). entry_key b ∷ x) (first_keys g m k (drop (entry_size g) b) ts (omega arith))

-- those after entries; pages have none
pub keys_after : (es : List Entry) (ts : List Token) → (length (token_keys (entry_tokens es ++ ts)) ≡ length es + length (token_keys ts)) × (drop (length es) (token_keys (entry_tokens es ++ ts)) ≡ token_keys ts)
keys_after [] ts = (omega arith, refl)
keys_after (e ∷ es) ts = let k = keys_after es ts in (omega arith, k.1)

pub keys_pages : (ps : List ℕ) (ts : List Token) → token_keys (page_tokens ps ++ ts) ≡ token_keys ts
keys_pages [] ts = refl
keys_pages (p ∷ ps) ts = keys_pages ps ts

-- they are few
pub keys_few : {g : Geometry} {image : List ℕ} → Fit g image → (skip : ℕ) (ls : List Link) → HasPackets (view_of g image) (linked ls) → length (chain_keys g skip ls) ≤ 256 * length ls
keys_few f skip [] s = omega arith
keys_few {g} {image} f skip (link p b ∷ ls) s =
    let n = length (drop skip b) / entry_size g in
    let m : n ≤ length (drop skip b) = div-le_self (length (drop skip b)) (entry_size g) in
    omega (arith, length-append (keys_from g n (drop skip b)) (chain_keys g 0 ls), length_keys g n (drop skip b), length-drop skip b, small_view g image f p b (first ls) s.0, keys_few f 0 ls s.1)

-- ---- the rest of a page
abbrev entries_of : Geometry → ℕ → List ℕ → List Entry
entries_of g zero b = []
entries_of g (suc k) b = entry_of g.width b ∷ entries_of g k (drop (entry_size g) b)

entries_are : (g : Geometry) (k : ℕ) (b : List ℕ) → entries_in g k b ≡ entry_tokens (entries_of g k b)
entries_are g zero b = refl
entries_are g (suc k) b = ap (λ (ts : List Token). entry (entry_of g.width b) ∷ ts) (entries_are g k (drop (entry_size g) b))

length_of_lem : (g : Geometry) (k : ℕ) (b : List ℕ) → length (entries_of g k b) ≡ k
length_of_lem g zero b = refl
length_of_lem g (suc k) b = ap suc (length_of_lem g k (drop (entry_size g) b))

module _ {g : Geometry} {v : View} {s : Slot} {ts : List Token} (A : TokensAt g v s ts) where
  open A use {bytes, more, at_slot, at_most, are}

  abbrev pub rest_entries : List Entry
  rest_entries = entries_of g (s.count - s.at) (entries_at g s.skip s.at bytes)

  pub page_rest : PageRest s ts rest_entries (link_tokens g 0 more)
  page_rest = record {
    split = are ∙ ap (λ (x : List Token). x ++ link_tokens g 0 more) (entries_are g (s.count - s.at) (entries_at g s.skip s.at bytes));
    count_is = omega (arith, at_most, length_of_lem g (s.count - s.at) (entries_at g s.skip s.at bytes));
  }

  -- the next page's number is the pointer of the page
  pub next_pointer : (b : List ℕ) (n : ℕ) → v s.page ≡ good b n → s.next.page ≡ n
  next_pointer b n e = let q : good b n ≡ good bytes (first more) = sym e ∙ at_slot.here in let i : n ≡ first more = cc in at_slot.next_is ∙ sym i

-- ---- over the image
module _ {g : Geometry} {image : List ℕ} (fit : Fit g image) where
  abbrev v : View
  v = view_of g image

  -- a page opened
  pub page_opened : {total : ℕ} {c : Cursor} {more : List Link} → total ≤ g.pages → (skip : ℕ) (s : Slot) → s ≡ open_of g v skip c → skip ≤ 31 → Following g v total c more → PageAt g v skip s (link_tokens g skip more)
  page_opened {more = []} few skip s o small F = absurd (omega (arith, F.chain.some))
  page_opened {c} {more = link p b ∷ ls} few skip s o small F =
      let n = slot_at fit few skip s o small F in
      let m = length (drop skip b) / entry_size g in
      let i : s.skip ≡ skip = ap (λ (x : Slot). x.skip) n.0 in
      let z : s.at ≡ 0 = ap (λ (x : Slot). x.at) n.0 in
      let q : s.page ≡ p = ap (λ (x : Slot). x.page) n.0 ∙ sym F.chain.begins in
      let k : m ≡ s.count - s.at = ap (λ (x : ℕ). length (drop x b) / entry_size g) (sym i) ∙ sym n.1.count_is ∙ omega arith in
      let e : entry_size g * s.at ≡ 0 = ap (λ (x : ℕ). entry_size g * x) z ∙ omega arith in
      let d : drop skip b ≡ entries_at g s.skip s.at b = ap (λ (x : ℕ). drop x b) (sym i) ∙ ap (λ (x : ℕ). drop x (drop s.skip b)) (sym e) in
      record {
        later = entries_in g m (drop skip b) ++ link_tokens g 0 ls;
        split = ap (λ (x : ℕ). new_page x ∷ (entries_in g m (drop skip b) ++ link_tokens g 0 ls)) (sym q);
        at_start = z;
        skip_is = i;
        ahead = record { bytes = b; more = ls; at_slot = n.1; at_most = omega arith; are = ap₂ (λ (x : ℕ) (y : List ℕ). entries_in g x y ++ link_tokens g 0 ls) k d };
      }

  -- the entry at a place
  pub entry_at : (s : Slot) → s.at < s.count → (e : Entry) → e ≡ entry_of g.width (drop (1 + s.skip + entry_size g * s.at) (page_of g s.page image)) → IsEntry g v s e
  entry_at s i e q ts A =
      let o : e ≡ entry_of g.width (entries_at g s.skip s.at A.bytes) = entry_read g image s A.bytes A.more e fit A.at_slot i q in
      let later = entries_in g (s.count - (s.at + 1)) (entries_at g s.skip (s.at + 1) A.bytes) ++ link_tokens g 0 A.more in
      record {
        later = later;
        split = A.are ∙ first_token g s.skip s.at s.count A.bytes i (link_tokens g 0 A.more) ∙ ap (λ (x : Entry). entry x ∷ later) (sym o);
        ahead = record { bytes = A.bytes; more = A.more; at_slot = at_slot_at (s.at + 1) A.at_slot; at_most = omega arith; are = refl };
      }

  -- a directory's first page
  pub first_opened : (start : ℕ) (c : Cursor) → c ≡ first_step start start → (n : ℕ) → n ≡ control_size g → n ≤ 31 → (s : Slot) → s ≡ open_of g v n c → Begins g v start s
  first_opened start c e n z small s o ls d = page_opened d.few (control_size g) s (o ∙ ap (λ (m : ℕ). open_of g v m c) z) (omega arith) (follow g v start c ls e d)
