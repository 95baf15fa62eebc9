-- The step to the next page and to the next entry, as the code goes: whatever is the next entry from a later page on is the next entry.
use Rattle.std.specs.Prelude.{Option, Some, None}
use mathlib.Core.Path.{◌≡◌, refl, ap, sym, ◌∙◌, subst}
use mathlib.Core.List.{List, [], ◌∷◌, ◌++◌}
use Prim.Native.Nat.{ℕ, ◌+◌, ◌≤◌, ◌<◌}
use native.Mathlib.Omega.{arith}
use lib.ListN.{length}
use Rattle.geometry.specs.declared.Geometry.{Geometry}
use Rattle.geometry.specs.Geometry.{Fit}
use Rattle.packet.specs.Packet.{View, view_of}
use Rattle.rules.specs.declared.Entry.{Entry}
use Rattle.rules.specs.Tree.{Token, new_page, entry, entry_tokens, link_tokens}
use Rattle.rules.specs.TreeLaws.{page_tokens, last_page}
use Rattle.chain.specs.Claims.{IsGood, Counted}
use Rattle.chain.proofs.Following.{page_known}
use Rattle.entries.specs.declared.Slot.{Slot}
use Rattle.entries.specs.EntrySlots.{open_of, advanced}
use Rattle.entries.specs.TokensAt.{TokensAt, InDirectory, PageAt, IsEntry, entries_ahead, PageRest, LastPage, NextPage, IsNextPage, Reached, EntryAt, EntryAhead, NextEntry, NoEntry, IsNextEntry}
use Rattle.entries.proofs.AtSlot.{no_pages, following, page_less}
use Rattle.entries.proofs.TokenLaws.{rest_entries, page_rest, page_opened}

-- ---- the next page
pub page_end : (g : Geometry) (v : View) (s : Slot) → s.next.page ≡ 0 → IsNextPage g v s None
unfolding IsNextPage
page_end g v s z ts A = record {
  entries = rest_entries A;
  rest = subst (PageRest s ts (rest_entries A)) (ap (link_tokens g 0) (no_pages A.more A.at_slot z)) (page_rest A);
}

module _ {g : Geometry} {image : List ℕ} (fit : Fit g image) {s : Slot} (D : InDirectory g (view_of g image) s) (z : s.next.page ≡ 0 → ⊥) where
  abbrev v : View
  v = view_of g image

  pub page_there : Counted s.next × (s.next.page < g.pages) × IsGood (v s.next.page)
  page_there =
      let h = D.ahead.at_slot in
      let k = page_known g image fit _ s.next D.ahead.more (following D.ahead.more h z) in
      (h.counted, k.0, k.1)

  pub page_on : (s' : Slot) → s' ≡ open_of g v 0 s.next → IsNextPage g v s (Some s')
  unfolding IsNextPage
  page_on s' o =
      let h = D.ahead.at_slot in
      let F = following D.ahead.more h z in
      record {
        less = omega (arith, page_less fit h.few 0 s' o F, F.chain.some, h.few);
        ahead = λ ts A. record {
          entries = rest_entries A;
          after = link_tokens g 0 A.more;
          rest = page_rest A;
          page = page_opened fit A.at_slot.few 0 s' o (omega arith) (following A.more A.at_slot z);
        };
      }

-- ---- the answers taken apart
module _ (g : Geometry) (v : View) (s : Slot) (r : Option Slot) where
  module _ (h : IsNextPage g v s r) where
    pub page_answer : (s' : Slot) → r ≡ Some s' → NextPage g v s s'
    unfolding IsNextPage
    page_answer s' e = subst (IsNextPage g v s) e h

    pub last_answer : r ≡ None → (ts : List Token) → TokensAt g v s ts → LastPage s ts
    unfolding IsNextPage
    last_answer e = subst (IsNextPage g v s) e h

  module _ (h : IsNextEntry g v s r) where
    pub entry_answer : (s' : Slot) → r ≡ Some s' → NextEntry g v s s'
    unfolding IsNextEntry
    entry_answer s' e = subst (IsNextEntry g v s) e h

    pub end_answer : r ≡ None → (ts : List Token) → TokensAt g v s ts → NoEntry ts
    unfolding IsNextEntry
    end_answer e = subst (IsNextEntry g v s) e h

-- ---- the next entry
pub entry_here : (g : Geometry) (v : View) (s : Slot) → s.at < s.count → IsNextEntry g v s (Some s)
unfolding IsNextEntry
entry_here g v s i = record { under = i; less = omega arith; ahead = λ ts A. record { pages = []; after = ts; split = refl; page_is = refl; reached = refl; ahead = A } }

-- no entry is left on a page
none_left : {s : Slot} {ts : List Token} {es : List Entry} {after : List Token} → s.count ≤ s.at → PageRest s ts es after → ts ≡ after
none_left {s} {ts} {es} {after} i r = go es r.split r.count_is
  where
    go : (es : List Entry) → ts ≡ entry_tokens es ++ after → s.at + length es ≡ s.count → ts ≡ after
    go [] q n = q
    go (e ∷ es) q n = absurd (omega arith)

pub entry_end : (g : Geometry) (v : View) (s : Slot) → s.count ≤ s.at → ((ts : List Token) → TokensAt g v s ts → LastPage s ts) → IsNextEntry g v s None
unfolding IsNextEntry
entry_end g v s i h ts A = record { pages = []; are = none_left i (h ts A).rest }

module _ {g : Geometry} {v : View} {s s' : Slot} (h : NextPage g v s s') where
  pub page_in : InDirectory g v s → InDirectory g v s'
  page_in D = let p = (h.ahead D.ts D.ahead).page in record { ts = p.later; ahead = p.ahead }

  module _ (i : s.count ≤ s.at) where
    -- the next page begins before what is ahead there
    page_begins : (ts : List Token) → TokensAt g v s ts → PageAt g v 0 s' ts
    page_begins ts A = let p = h.ahead ts A in subst (PageAt g v 0 s') (sym (none_left i p.rest)) p.page

    reached_on : {ts : List Token} → PageAt g v 0 s' ts → (ps : List ℕ) (x : Slot) → Reached s' ps x → (x.skip ≡ 0) × (x.at ≡ 0)
    reached_on p [] x e = (ap (λ (y : Slot). y.skip) e ∙ p.skip_is, ap (λ (y : Slot). y.at) e ∙ p.at_start)
    reached_on p (q ∷ ps) x e = e

    pub entry_on : s'.count < 256 → (r : Option Slot) → IsNextEntry g v s' r → IsNextEntry g v s r
    unfolding IsNextEntry
    entry_on few (Some x) n = record {
      under = n.under;
      less = omega (arith, n.less, h.less);
      ahead = λ ts A.
          let p = page_begins ts A in
          let a = n.ahead p.later p.ahead in
          record {
            pages = s'.page ∷ a.pages;
            after = a.after;
            split = p.split ∙ ap (λ (y : List Token). new_page s'.page ∷ y) a.split;
            page_is = a.page_is;
            reached = reached_on p a.pages x a.reached;
            ahead = a.ahead;
          };
    }
    entry_on few None n = λ ts A.
        let p = page_begins ts A in
        let a = n p.later p.ahead in
        record { pages = s'.page ∷ a.pages; are = p.split ∙ ap (λ (y : List Token). new_page s'.page ∷ y) a.are }

-- ---- for a loop over the entries: the next one, read, and what comes after it
pub record ReadAhead (g : Geometry) (v : View) (s : Slot) (ts : List Token) (at : Slot) (e : Entry) : Type 0 where
  pub pages : List ℕ
  pub later : List Token
  pub split : ts ≡ page_tokens pages ++ (entry e ∷ later)
  pub page_is : at.page ≡ last_page s.page pages
  pub reached : Reached s pages at
  pub ahead : TokensAt g v (advanced at) later

pub read_on : {g : Geometry} {v : View} {s at : Slot} {ts : List Token} {e : Entry} (a : EntryAhead g v s ts at) → EntryAt g v at a.after e → ReadAhead g v s ts at e
read_on a b = record {
  pages = a.pages;
  later = b.later;
  split = a.split ∙ ap (λ (y : List Token). page_tokens a.pages ++ y) b.split;
  page_is = a.page_is;
  reached = a.reached;
  ahead = b.ahead;
}

module _ {g : Geometry} {v : View} {s at : Slot} (n : NextEntry g v s at) where
  pub entry_in : InDirectory g v s → InDirectory g v at
  entry_in D = let a = n.ahead D.ts D.ahead in record { ts = a.after; ahead = a.ahead }

  pub read_ahead : {e : Entry} → IsEntry g v at e → (ts : List Token) → TokensAt g v s ts → ReadAhead g v s ts at e
  read_ahead r ts A = let a = n.ahead ts A in read_on a (r a.after a.ahead)

  -- past it there is less to go
  pub past_less : (s' : Slot) → s' ≡ advanced at → entries_ahead g s' < entries_ahead g s
  past_less s' y = rw y (omega (arith, n.under, n.less))
