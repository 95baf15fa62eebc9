-- The packets of a directory that an edit changes: the one that makes the change visible, and before it, in the order of writing, at most one of a page that joins.
use Rattle.std.specs.Prelude.{◌≡◌, refl, Bool, true, false, List, [], ◌∷◌, ◌++◌, ℕ, zero, suc, ◌+◌, ◌-◌, ◌≤◌}
use Rattle.std.proofs.Common.{ap, ap₂, sym, ◌∙◌, subst, arith, eq-eqb, ne_eqb}
use Rattle.geometry.specs.ChooseLaws.{choose_true, choose_false}
use Rattle.packet.specs.Packet.{Write, write}
use Rattle.rules.specs.PageSets.{count}
use Rattle.rules.proofs.PageSetLaws.{same, other, hits, hit_same}
use Rattle.rules.specs.Chain.{Link, link, pages, first, linked}
use Rattle.rules.specs.declared.Entry.{Entry}
use Rattle.rules.specs.Names.{entry_bytes}
use Rattle.rules.specs.Tree.{Label, key_of, width, Items, end, page, file, dir, file_entry, directory_entry, Token, new_page, entry, stamp_tokens, tokens, token_bytes, token_links}
use Rattle.rules.proofs.StampLaws.{group_links}
use Rattle.rules.specs.Writes.{same_write, changes}
use Rattle.rules.specs.Put.{insert, replace}
use Rattle.rules.specs.Delete.{remove}
use Rattle.editing_theorems.specs.DirectoryWrites.{same_write_lem}
use Rattle.editing_theorems.specs.PageChange.{same_itself, write_itself, nothing_changed}
use Rattle.rules.specs.CarefulPromises.{page_written}

-- two chains that differ in the bytes of one page, or in a page that joins the end
pub data Change : List Link → List Link → Type 0 where
  here : (p : ℕ) (b c : List ℕ) (ls : List Link) → Change (link p b ∷ ls) (link p c ∷ ls)
  grow : (p : ℕ) (b : List ℕ) (q : ℕ) (c : List ℕ) → Change (link p b ∷ []) (link p b ∷ (link q c ∷ []))
  next : (p : ℕ) (b : List ℕ) {ls ms : List Link} → Change ls ms → Change (link p b ∷ ls) (link p b ∷ ms)

change_first : {ls ms : List Link} → Change ls ms → first ms ≡ first ls
change_first (here p b c ls) = refl
change_first (grow p b q c) = refl
change_first (next p b c) = refl

-- the packets that differ: none, or the visible one and those of pages that join
pub data Turned (ls ms : List Link) : Type 0 where
  none : changes (linked ls) (linked ms) ≡ [] → linked ls ≡ linked ms → Turned ls ms
  some : (w : Write) (fresh : List Link) → changes (linked ls) (linked ms) ≡ w ∷ linked fresh → ((x : ℕ) → count x (pages fresh) + count x (pages ls) ≤ count x (pages ms)) → 1 ≤ count (page_written w) (pages ls) → Turned ls ms

pub turned : {ls ms : List Link} → Change ls ms → count 0 (pages ms) ≤ count 0 (pages ls) → Turned ls ms
turned (here p b c ls) z = go (same_write (write p b (first ls)) (write p c (first ls))) refl
  where
    go : (t : Bool) → same_write (write p b (first ls)) (write p c (first ls)) ≡ t → Turned (link p b ∷ ls) (link p c ∷ ls)
    go true e = none (rw (e, choose_true) (nothing_changed (linked ls))) (ap (λ (w : Write). w ∷ linked ls) (same_write_lem (write p b (first ls)) (write p c (first ls)) e))
    go false e = some (write p c (first ls)) [] (rw (e, choose_false) (ap (λ (ws : List Write). write p c (first ls) ∷ ws) (nothing_changed (linked ls)))) (λ x. omega arith) (omega (arith, hit_same p))
turned (grow p b q c) z = elim (hits 0 q) [
  | same y i ↦ absurd (omega arith)
  | other y i ↦
      let e : same_write (write p b 0) (write p b q) ≡ false = rw (eq-eqb p p refl, same_itself b, ne_eqb 0 q y) refl in
      some (write p b q) (link q c ∷ []) (rw (e, choose_false) refl) (λ x. omega arith) (omega (arith, hit_same p))
]
turned (next p b {ls} {ms} c) z = go (turned c (omega arith))
  where
    alike : same_write (write p b (first ls)) (write p b (first ms)) ≡ true
    alike = rw (change_first c) (write_itself (write p b (first ls)))

    go : Turned ls ms → Turned (link p b ∷ ls) (link p b ∷ ms)
    go (none e f) = none (rw (alike, choose_true) e) (ap₂ (λ (n : ℕ) (ws : List Write). write p b n ∷ ws) (sym (change_first c)) f)
    go (some w fresh e f h) = some w fresh (rw (alike, choose_true) e) (λ x. omega (arith, f x)) (omega arith)

-- ---- edits of a directory
module _ (n : ℕ) where
  -- in the page at hand; in a later page; or in a page that joins
  pub data Touch (ts us : List Token) : Type 0 where
    in_page : token_links n [] us ≡ token_links n [] ts → Touch ts us
    later : token_bytes n us ≡ token_bytes n ts → Change (token_links n [] ts) (token_links n [] us) → Touch ts us
    joins : (q : ℕ) (b : List ℕ) → token_bytes n us ≡ token_bytes n ts → token_links n [] ts ≡ [] → token_links n [] us ≡ link q b ∷ [] → Touch ts us

  pub touch_page : (control : List ℕ) (p : ℕ) (ts us : List Token) → Touch ts us → Change (token_links n control (new_page p ∷ ts)) (token_links n control (new_page p ∷ us))
  touch_page control p ts us (in_page e) = rw e (here p (control ++ token_bytes n ts) (control ++ token_bytes n us) (token_links n [] ts))
  touch_page control p ts us (later e c) = rw e (next p (control ++ token_bytes n ts) c)
  touch_page control p ts us (joins q b i j k) = rw (i, j, k) (grow p (control ++ token_bytes n ts) q b)

  -- behind an entry, behind an entry with its stamps
  touch_entry : (e : Entry) (ts us : List Token) → Touch ts us → Touch (entry e ∷ ts) (entry e ∷ us)
  touch_entry e ts us (in_page i) = in_page i
  touch_entry e ts us (later i c) = later (ap (λ (b : List ℕ). entry_bytes n e ++ b) i) c
  touch_entry e ts us (joins q b i j k) = joins q b (ap (λ (b : List ℕ). entry_bytes n e ++ b) i) j k

  touch_group : (ss : List Entry) (e : Entry) (ts us : List Token) → Touch ts us → Touch (stamp_tokens ss (entry e ∷ ts)) (stamp_tokens ss (entry e ∷ us))
  touch_group [] e ts us h = touch_entry e ts us h
  touch_group (s ∷ ss) e ts us h = touch_entry s (stamp_tokens ss (entry e ∷ ts)) (stamp_tokens ss (entry e ∷ us)) (touch_group ss e ts us h)

  -- a new entry e with the stamps of l, put in front by `new`
  pub insert_touch : (l : Label) (e : Entry) (new : Items → Items) → ((t : Items) → tokens (new t) ≡ stamp_tokens l.stamps (entry e ∷ tokens t)) → (most q room r : ℕ) (t : Items)
      → Touch (tokens t) (tokens (insert new most q room r t))
  insert_touch l e new is most q room zero end =
      let b = token_bytes n (stamp_tokens l.stamps (entry e ∷ [])) in
      subst (λ (ts : List Token). Touch [] (new_page q ∷ ts)) (sym (is end)) (joins q b refl refl (ap (λ (ls : List Link). link q b ∷ ls) (group_links n [] l e [])))
  insert_touch l e new is most q room (suc r) end = subst (Touch []) (sym (is end)) (in_page (group_links n [] l e []))
  insert_touch l e new is most q room zero (page p t) = later refl (touch_page [] p (tokens t) (tokens (insert new most q most room t)) (insert_touch l e new is most q most room t))
  insert_touch l e new is most q room (suc r) (page p t) = subst (Touch (tokens (page p t))) (sym (is (page p t))) (in_page (group_links n [] l e (tokens (page p t))))
  insert_touch l e new is most q room r (file m ls t) =
      touch_group m.stamps (file_entry m ls) (tokens t) (tokens (insert new most q room (r - width m) t)) (insert_touch l e new is most q room (r - width m) t)
  insert_touch l e new is most q room r (dir m d t) =
      touch_group m.stamps (directory_entry m d) (tokens t) (tokens (insert new most q room (r - width m) t)) (insert_touch l e new is most q room (r - width m) t)

  pub replace_touch : (k : ℕ) (new : List Link) (t : Items) → Touch (tokens t) (tokens (replace k new t))
  replace_touch k new end = in_page refl
  replace_touch k new (page p t) = later refl (touch_page [] p (tokens t) (tokens (replace k new t)) (replace_touch k new t))
  replace_touch k new (file l ls t) = elim (hits k (key_of l)) [
    | same e i ↦ simp (eq-eqb k (key_of l) e, choose_true) (in_page (group_links n [] l (file_entry l new) (tokens t) ∙ sym (group_links n [] l (file_entry l ls) (tokens t))))
    | other e i ↦ simp (ne_eqb k (key_of l) e, choose_false) (touch_group l.stamps (file_entry l ls) (tokens t) (tokens (replace k new t)) (replace_touch k new t))
  ]
  replace_touch k new (dir l d t) = touch_group l.stamps (directory_entry l d) (tokens t) (tokens (replace k new t)) (replace_touch k new t)

  pub remove_touch : (k : ℕ) (t : Items) → Touch (tokens t) (tokens (remove k t))
  remove_touch k end = in_page refl
  remove_touch k (page p t) = later refl (touch_page [] p (tokens t) (tokens (remove k t)) (remove_touch k t))
  remove_touch k (file l ls t) = elim (hits k (key_of l)) [
    | same e i ↦ simp (eq-eqb k (key_of l) e, choose_true) (in_page (sym (group_links n [] l (file_entry l ls) (tokens t))))
    | other e i ↦ simp (ne_eqb k (key_of l) e, choose_false) (touch_group l.stamps (file_entry l ls) (tokens t) (tokens (remove k t)) (remove_touch k t))
  ]
  remove_touch k (dir l d t) = elim (hits k (key_of l)) [
    | same e i ↦ simp (eq-eqb k (key_of l) e, choose_true) (in_page (sym (group_links n [] l (directory_entry l d) (tokens t))))
    | other e i ↦ simp (ne_eqb k (key_of l) e, choose_false) (touch_group l.stamps (directory_entry l d) (tokens t) (tokens (remove k t)) (remove_touch k t))
  ]
