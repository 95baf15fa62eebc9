-- The search for a page with space as the code goes: where the pages before are full, a new entry goes to the rest as it goes to the whole.
use mathlib.Core.Path.{◌≡◌, refl, ap, sym, ◌∙◌, subst}
use mathlib.Core.Bool.{true, false}
use mathlib.Core.List.{List, [], ◌∷◌, ◌++◌, append_assoc}
use Prim.Native.Nat.{ℕ, zero, suc, ◌-◌, ◌≤◌, ◌<◌}
use native.Mathlib.Omega.{arith}
use lib.ListN.{length}
use Rattle.geometry.specs.declared.Geometry.{Geometry}
use Rattle.geometry.specs.Geometry.{first_entries, later_entries}
use Rattle.packet.specs.Packet.{View}
use Rattle.rules.specs.declared.Entry.{Entry}
use Rattle.rules.specs.Chain.{Views, Link, link}
use Rattle.rules.specs.Tree.{Label, label_of, width, Items, end, page, file, dir, Token, new_page, entry, entry_tokens, tokens, link_tokens}
use Rattle.rules.proofs.TreeLaws.{no_tokens, page_first, EntryFirst, stamped, plain, entry_first, tokens_add}
use Rattle.rules.proofs.StampLaws.{stamp_tokens_lem}
use Rattle.rules.specs.Check.{Part, chain, directory, add, stamp_label, stamp, followed}
use Rattle.rules.specs.Put.{insert, is_full}
use Rattle.rules.proofs.EditLaws.{width_is}
use Rattle.entries.specs.declared.Slot.{Slot}
use Rattle.entries.specs.EntrySlots.{at_entry}
use Rattle.entries.specs.TokensAt.{TokensAt, InDirectory, Begins, PageRest, PageAhead, LastPage}
use Rattle.entries.proofs.TokenLaws.{page_rest, next_pointer}
use Rattle.lookup.specs.Searches.{TreeAt}
use Rattle.lookup.proofs.Passed.{Passed, passed_first, passed_on, passed_entries, passed_page}
use Rattle.lookup.specs.Spaces.{PageEnd, SpaceAt, NoSpace}

-- ---- a new entry in a tree by its tokens
-- the tree t with r entries free on this page and `next` on the next one, past the tokens ts: the tree left, n free and `on` on the next page
pub record Past (later next r : ℕ) (t : Items) (ts : List Token) (on n : ℕ) (us : List Token) : Type 0 where
  pub rest : Items
  pub left : tokens rest ≡ us
  pub whole : tokens t ≡ ts ++ us
  pub full : is_full later next r t ≡ is_full later on n rest
  pub inserted : (new : Items → Items) (q : ℕ) → tokens (insert new later q next r t) ≡ ts ++ tokens (insert new later q on n rest)

-- further on
past_more : {later next r : ℕ} {t : Items} {ts : List Token} {on n : ℕ} {us vs : List Token} {on' n' : ℕ} {ws : List Token} (P : Past later next r t ts on n us) → Past later on n P.rest vs on' n' ws
    → Past later next r t (ts ++ vs) on' n' ws
past_more {later} {ts = ts} {vs = vs} {on'} {n'} {ws} P Q = record {
  rest = Q.rest;
  left = Q.left;
  whole = P.whole ∙ ap (λ (x : List Token). ts ++ x) (sym P.left ∙ Q.whole) ∙ sym (append_assoc ts vs ws);
  full = P.full ∙ Q.full;
  inserted = λ new q. P.inserted new q ∙ ap (λ (x : List Token). ts ++ x) (Q.inserted new q) ∙ sym (append_assoc ts vs (tokens (insert new later q on' n' Q.rest)));
}

module _ (later next : ℕ) where
  -- a page after a full one
  past_page : (p : ℕ) (t : Items) (us : List Token) → tokens t ≡ new_page p ∷ us → Past later next 0 t (new_page p ∷ []) later next us
  past_page p t us e =
      let o = page_first p us t e in
      subst (λ (x : Items). Past later next 0 x (new_page p ∷ []) later next us) (sym o.is)
      (record { rest = o.rest; left = o.left; whole = ap (λ (x : List Token). new_page p ∷ x) o.left; full = refl; inserted = λ new q. refl })

  -- entries: each takes one of the free
  full_add : (r : ℕ) (e : Entry) (x : Part) (t : Items) → is_full later next r (add e x t) ≡ is_full later next (r - 1) t
  full_add r e (chain ls) t = ap (λ (n : ℕ). is_full later next (r - n) t) (width_is (label_of e))
  full_add r e (directory d) t = ap (λ (n : ℕ). is_full later next (r - n) t) (width_is (label_of e))

  insert_add : (new : Items → Items) (q r : ℕ) (e : Entry) (x : Part) (t : Items) → insert new later q next r (add e x t) ≡ add e x (insert new later q next (r - 1) t)
  insert_add new q r e (chain ls) t = rw (width_is (label_of e)) refl
  insert_add new q r e (directory d) t = rw (width_is (label_of e)) refl

  -- and so does each stamp
  stamp_free : (r : ℕ) (e : Entry) (l : Label) → r - width (stamp_label e l) ≡ r - 1 - width l
  stamp_free r e l = omega (arith, width_is l, width_is (stamp_label e l))

  full_stamp : (r : ℕ) (e : Entry) (t : Items) → followed (tokens t) ≡ true → is_full later next r (stamp e t) ≡ is_full later next (r - 1) t
  unfolding followed
  full_stamp r e end f = absurd (let z : ◌≡◌ {A = ℕ} 0 1 = cc in omega arith)
  full_stamp r e (page p t) f = absurd (let z : ◌≡◌ {A = ℕ} 0 1 = cc in omega arith)
  full_stamp r e (file l ls t) f = ap (λ (n : ℕ). is_full later next n t) (stamp_free r e l)
  full_stamp r e (dir l d t) f = ap (λ (n : ℕ). is_full later next n t) (stamp_free r e l)

  insert_stamp : (new : Items → Items) (q r : ℕ) (e : Entry) (t : Items) → followed (tokens t) ≡ true
      → tokens (insert new later q next r (stamp e t)) ≡ entry e ∷ tokens (insert new later q next (r - 1) t)
  unfolding followed
  insert_stamp new q r e end f = absurd (let z : ◌≡◌ {A = ℕ} 0 1 = cc in omega arith)
  insert_stamp new q r e (page p t) f = absurd (let z : ◌≡◌ {A = ℕ} 0 1 = cc in omega arith)
  insert_stamp new q r e (file l ls t) f = ap (λ (n : ℕ). tokens (file (stamp_label e l) ls (insert new later q next n t))) (stamp_free r e l)
  insert_stamp new q r e (dir l d t) f = ap (λ (n : ℕ). tokens (dir (stamp_label e l) d (insert new later q next n t))) (stamp_free r e l)

  past_entry : (r : ℕ) (e : Entry) (t : Items) (us : List Token) → tokens t ≡ entry e ∷ us → Past later next r t (entry e ∷ []) next (r - 1) us
  past_entry r e t us z = go (entry_first e us t z)
    where
      go : EntryFirst e us t → Past later next r t (entry e ∷ []) next (r - 1) us
      go (plain part rest is entry_is left) = subst (λ (x : Items). Past later next r x (entry e ∷ []) next (r - 1) us) (sym is) (record {
        rest = rest;
        left = left;
        whole = tokens_add e part rest entry_is ∙ ap (λ (x : List Token). entry e ∷ x) left;
        full = full_add r e part rest;
        inserted = λ new q. ap tokens (insert_add new q r e part rest) ∙ tokens_add e part (insert new later q next (r - 1) rest) entry_is;
      })
      go (stamped rest is f left) =
          let f' : followed (tokens rest) ≡ true = ap followed left ∙ f in
          subst (λ (x : Items). Past later next r x (entry e ∷ []) next (r - 1) us) (sym is) (record {
            rest = rest;
            left = left;
            whole = stamp_tokens_lem e rest f' ∙ ap (λ (x : List Token). entry e ∷ x) left;
            full = full_stamp r e rest f';
            inserted = λ new q. insert_stamp new q r e rest f';
          })

  past_entries : (r n : ℕ) (es : List Entry) (t : Items) (us : List Token) → n ≡ r - length es → tokens t ≡ entry_tokens es ++ us → Past later next r t (entry_tokens es) next n us
  past_entries r n [] t us h e =
      let i : r ≡ n = omega arith in
      subst (λ (x : ℕ). Past later next r t [] next x us) i (record { rest = t; left = e; whole = e; full = refl; inserted = λ new q. refl })
  past_entries r n (x ∷ es) t us h e =
      let P = past_entry r x t (entry_tokens es ++ us) e in
      past_more P (past_entries (r - 1) n es P.rest us (omega arith) P.left)

  -- after a page's entries: a free one takes the new entry
  abbrev Takes : ℕ → Items → Type 0
  Takes r t = (is_full later next r t ≡ false) × ((new : Items → Items) (q : ℕ) → insert new later q next r t ≡ new t)

  takes_end : (r : ℕ) → 0 < r → Takes r end
  takes_end zero h = absurd (omega arith)
  takes_end (suc r) h = (refl, λ new q. refl)

  takes_page : (r p : ℕ) (t : Items) → 0 < r → Takes r (page p t)
  takes_page zero p t h = absurd (omega arith)
  takes_page (suc r) p t h = (refl, λ new q. refl)

  free_end : (g : Geometry) (r : ℕ) (t : Items) (more : List Link) → tokens t ≡ link_tokens g 0 more → 0 < r → Takes r t
  free_end g r t [] e h = subst (Takes r) (sym (no_tokens t e)) (takes_end r h)
  free_end g r t (link p b ∷ more) e h = let o = page_first p _ t e in subst (Takes r) (sym o.is) (takes_page r p o.rest h)

  -- at the end of all with none free, a page joins
  full_end : (t : Items) → tokens t ≡ []
      → (is_full later next 0 t ≡ true) × ((new : Items → Items) (q : ℕ) → tokens (insert new later q next 0 t) ≡ new_page q ∷ tokens (new end))
  full_end t e = rw (no_tokens t e) (refl, λ new q. refl)

-- ---- at the first entry of a page with room for so many; the pages before it are full
pub record Filling (g : Geometry) (v : View) (t₀ : Items) (s : Slot) (room : ℕ) : Type 0 where
  pub ts : List Token
  pub ahead : TokensAt g v s ts
  pub at_start : s.at ≡ 0
  pub past : List Token
  pub passed : Passed g s past
  pub filled : Past (later_entries g) (first_entries g) 0 t₀ past (later_entries g) room ts

pub fill_first : {g : Geometry} {vs : Views} {start : ℕ} {t : Items} {s : Slot} {room : ℕ} → Begins g vs.pages start s → TreeAt g vs start t → room ≡ first_entries g → Filling g vs.pages t s room
fill_first {g} {vs} {start} {t} {s} b T r =
    let c = T.stands.chained in
    let p = b c.links c.chain in
    subst (Filling g vs.pages t s) (sym r) (record {
      ts = p.later;
      ahead = p.ahead;
      at_start = p.at_start;
      past = new_page s.page ∷ [];
      passed = passed_first p;
      filled = past_page (later_entries g) (first_entries g) s.page t p.later (sym c.shape ∙ p.split);
    })

module _ {g : Geometry} {v : View} {t₀ : Items} {s : Slot} {room : ℕ} (F : Filling g v t₀ s room) where
  open F use {ts, ahead, at_start, past, passed, filled}

  pub fill_in : InDirectory g v s
  fill_in = record { ts = ts; ahead = ahead }

  -- past the page's entries, with n free
  module _ {es : List Entry} {after : List Token} (r : PageRest s ts es after) (n : ℕ) (h : n ≡ room - s.count) where
    at_end : Passed g (at_entry s s.count) (past ++ entry_tokens es)
    at_end = passed_entries passed es s.count r.count_is

    ended : Past (later_entries g) (first_entries g) 0 t₀ (past ++ entry_tokens es) (later_entries g) n after
    ended = past_more filled (past_entries (later_entries g) (later_entries g) room n es filled.rest after (omega (arith, r.count_is, at_start)) (filled.left ∙ r.split))

    page_is : PageEnd g v t₀ s at_end.before at_end.entries after
    page_is = record {
      shape = ended.whole ∙ passed_on at_end after;
      count_is = at_end.at_is;
      fits = ahead.at_slot.fits;
      skip_is = at_end.skip_is;
      next_is = next_pointer ahead;
    }

    -- the directory with the new entry after the page's
    inserted : (new : Items → Items) (q : ℕ) (us : List Token) → tokens (insert new (later_entries g) q (later_entries g) n ended.rest) ≡ us
        → tokens (insert new (later_entries g) q (first_entries g) 0 t₀) ≡ at_end.before ++ (new_page s.page ∷ (entry_tokens at_end.entries ++ us))
    inserted new q us e = ended.inserted new q ∙ ap (λ (x : List Token). (past ++ entry_tokens es) ++ x) e ∙ passed_on at_end us

  pub has_space : s.count < room → SpaceAt g v t₀ s
  has_space h =
      let r = page_rest ahead in
      let n = room - s.count in
      let P = ended r n refl in
      let k = free_end (later_entries g) (later_entries g) g n P.rest ahead.more P.left (omega arith) in
      record {
        before = (at_end r n refl).before;
        entries = (at_end r n refl).entries;
        later = link_tokens g 0 ahead.more;
        page = page_is r n refl;
        space = P.full ∙ k.0;
        inserted = λ new e h q. inserted r n refl new q (entry e ∷ link_tokens g 0 ahead.more) (ap tokens (k.1 new q) ∙ h P.rest ∙ ap (λ (x : List Token). entry e ∷ x) P.left);
      }

  module _ (h : room ≤ s.count) where
    none_free : 0 ≡ room - s.count
    none_free = omega arith

    pub no_space : LastPage s ts → NoSpace g v t₀ s
    no_space x =
        let r = x.rest in
        let P = ended r 0 none_free in
        let k = full_end (later_entries g) (later_entries g) P.rest P.left in
        record {
          before = (at_end r 0 none_free).before;
          entries = (at_end r 0 none_free).entries;
          page = page_is r 0 none_free;
          full = P.full ∙ k.0;
          inserted = λ new e h q. inserted r 0 none_free new q (new_page q ∷ (entry e ∷ [])) (k.1 new q ∙ ap (λ (x : List Token). new_page q ∷ x) (h end));
        }

    pub fill_on : {s' : Slot} {room' : ℕ} → PageAhead g v s ts s' → room' ≡ later_entries g → Filling g v t₀ s' room'
    fill_on {s'} x e =
        let p = x.page in
        let P = ended x.rest 0 none_free in
        subst (Filling g v t₀ s') (sym e) (record {
          ts = p.later;
          ahead = p.ahead;
          at_start = p.at_start;
          past = (past ++ entry_tokens x.entries) ++ (new_page s'.page ∷ []);
          passed = passed_page passed x.entries p;
          filled = past_more P (past_page (later_entries g) (later_entries g) s'.page P.rest p.later (P.left ∙ p.split));
        })
