-- Entries of one page of a directory changed: one packet of its chain differs, and that page is all that is written.
use Rattle.std.specs.Prelude.{◌≡◌, refl, true, false, List, [], ◌∷◌, ◌++◌, ℕ}
use Rattle.std.proofs.Common.{ap, ap₂, sym, ◌∙◌, append_assoc, eq-eqb, ne_eqb}
use Rattle.geometry.specs.ChooseLaws.{choose_true, choose_false}
use Rattle.packet.specs.Packet.{Write, write, same_list}
use Rattle.rules.specs.declared.Entry.{Entry}
use Rattle.rules.specs.Chain.{first, linked}
use Rattle.rules.specs.Names.{entry_bytes}
use Rattle.rules.specs.Tree.{Token, new_page, entry, entry_tokens, token_bytes, token_links}
use Rattle.rules.specs.Writes.{same_write, changes}

-- ---- two chains of packets that differ in one
pub record OneChange (old new : List Write) (p : ℕ) (b c : List ℕ) (next : ℕ) : Type 0 where
  pub before : List Write
  pub after : List Write
  pub old_is : old ≡ before ++ (write p b next ∷ after)
  pub new_is : new ≡ before ++ (write p c next ∷ after)

pub same_itself : (b : List ℕ) → same_list b b ≡ true
same_itself [] = refl
same_itself (x ∷ b) = rw (eq-eqb x x refl) (same_itself b)

pub write_itself : (w : Write) → same_write w w ≡ true
write_itself (write p b n) = rw (eq-eqb p p refl, same_itself b, eq-eqb n n refl) refl

pub nothing_changed : (ws : List Write) → changes ws ws ≡ []
nothing_changed [] = refl
nothing_changed (w ∷ ws) = rw (write_itself w, choose_true) (nothing_changed ws)

changes_behind : (ws old new : List Write) → changes (ws ++ old) (ws ++ new) ≡ changes old new
changes_behind [] old new = refl
changes_behind (w ∷ ws) old new = rw (write_itself w, choose_true) (changes_behind ws old new)

-- the packet that differs is all that changes; where it does not differ nothing changes
pub changes_none : (old new : List Write) (p : ℕ) (b : List ℕ) (next : ℕ) → OneChange old new p b b next → changes old new ≡ []
changes_none old new p b next o = ap₂ changes o.old_is o.new_is ∙ nothing_changed (o.before ++ (write p b next ∷ o.after))

pub changes_one : (old new : List Write) (p : ℕ) (b c : List ℕ) (next : ℕ) → OneChange old new p b c next → same_write (write p b next) (write p c next) ≡ false → changes old new ≡ write p c next ∷ []
changes_one old new p b c next o h = ap₂ changes o.old_is o.new_is ∙ changes_behind o.before (write p b next ∷ o.after) (write p c next ∷ o.after)
    ∙ rw (h, choose_false) (ap (λ (ws : List Write). write p c next ∷ ws) (nothing_changed o.after))

-- ---- entries one after the other
abbrev pub entries_bytes : ℕ → List Entry → List ℕ
entries_bytes n [] = []
entries_bytes n (e ∷ es) = entry_bytes n e ++ entries_bytes n es

module _ (n : ℕ) where
  pub bytes_of_entries : (es : List Entry) (ts : List Token) → token_bytes n (entry_tokens es ++ ts) ≡ entries_bytes n es ++ token_bytes n ts
  bytes_of_entries [] ts = refl
  bytes_of_entries (e ∷ es) ts = ap (λ (b : List ℕ). entry_bytes n e ++ b) (bytes_of_entries es ts) ∙ sym (append_assoc (entry_bytes n e) (entries_bytes n es) (token_bytes n ts))

  pub links_of_entries : (control : List ℕ) (es : List Entry) (ts : List Token) → token_links n control (entry_tokens es ++ ts) ≡ token_links n control ts
  links_of_entries control [] ts = refl
  links_of_entries control (e ∷ es) ts = links_of_entries control es ts

  -- what stands before a page does not hang on what comes after
  bytes_until : (a : List Token) (p : ℕ) (xs ys : List Token) → token_bytes n (a ++ (new_page p ∷ xs)) ≡ token_bytes n (a ++ (new_page p ∷ ys))
  bytes_until [] p xs ys = refl
  bytes_until (new_page q ∷ a) p xs ys = refl
  bytes_until (entry e ∷ a) p xs ys = ap (λ (b : List ℕ). entry_bytes n e ++ b) (bytes_until a p xs ys)

  first_until : (a : List Token) (control : List ℕ) (p : ℕ) (xs ys : List Token) → first (token_links n control (a ++ (new_page p ∷ xs))) ≡ first (token_links n control (a ++ (new_page p ∷ ys)))
  first_until [] control p xs ys = refl
  first_until (new_page q ∷ a) control p xs ys = refl
  first_until (entry e ∷ a) control p xs ys = first_until a control p xs ys

  -- the control field in front of a page's entries: the directory's on its first page, none on the others
  abbrev pub control_on : List ℕ → List Token → List ℕ
  control_on control [] = control
  control_on control (new_page q ∷ a) = control_on [] a
  control_on control (entry e ∷ a) = control_on control a

  -- the packets from page p on, xs the tokens after it
  abbrev pub from_page : ℕ → List ℕ → List Token → List Write
  from_page p control xs = write p (control ++ token_bytes n xs) (first (token_links n [] xs)) ∷ linked (token_links n [] xs)

  -- the tokens after a page changed: the packets before it stay
  pub record Parted (p : ℕ) (xs ys a : List Token) (control : List ℕ) : Type 0 where
    pub before : List Write
    pub old_is : linked (token_links n control (a ++ (new_page p ∷ xs))) ≡ before ++ from_page p (control_on control a) xs
    pub new_is : linked (token_links n control (a ++ (new_page p ∷ ys))) ≡ before ++ from_page p (control_on control a) ys

  pub parted : (p : ℕ) (xs ys a : List Token) (control : List ℕ) → Parted p xs ys a control
  parted p xs ys [] control = record { before = []; old_is = refl; new_is = refl }
  parted p xs ys (entry e ∷ a) control = let o = parted p xs ys a control in record { before = o.before; old_is = o.old_is; new_is = o.new_is }
  parted p xs ys (new_page q ∷ a) control =
      let o = parted p xs ys a [] in
      let b = token_bytes n (a ++ (new_page p ∷ xs)) in
      let f = first (token_links n [] (a ++ (new_page p ∷ xs))) in
      record {
        before = write q (control ++ b) f ∷ o.before;
        old_is = ap (λ (ws : List Write). write q (control ++ b) f ∷ ws) o.old_is;
        new_is = ap₂ (λ (x : List ℕ) (y : ℕ). write q (control ++ x) y ∷ linked (token_links n [] (a ++ (new_page p ∷ ys)))) (bytes_until a p ys xs) (first_until a [] p ys xs)
            ∙ ap (λ (ws : List Write). write q (control ++ b) f ∷ ws) o.new_is;
      }

  -- after the tokens a, page p with the entries es, then mid, then what comes after; mid becomes new
  module _ (p : ℕ) (es mid new : List Entry) (post : List Token) where
    abbrev pub page_with : List Entry → List Token
    page_with m = new_page p ∷ (entry_tokens es ++ (entry_tokens m ++ post))

    abbrev pub page_bytes : List ℕ → List Entry → List ℕ
    page_bytes control m = control ++ (entries_bytes n es ++ (entries_bytes n m ++ token_bytes n post))

    here : (control : List ℕ) (m : List Entry) → from_page p control (entry_tokens es ++ (entry_tokens m ++ post)) ≡ write p (page_bytes control m) (first (token_links n [] post)) ∷ linked (token_links n [] post)
    here control m =
        let b : token_bytes n (entry_tokens es ++ (entry_tokens m ++ post)) ≡ entries_bytes n es ++ (entries_bytes n m ++ token_bytes n post) =
        bytes_of_entries es (entry_tokens m ++ post) ∙ ap (λ (x : List ℕ). entries_bytes n es ++ x) (bytes_of_entries m post) in
        let l : token_links n [] (entry_tokens es ++ (entry_tokens m ++ post)) ≡ token_links n [] post = links_of_entries [] es (entry_tokens m ++ post) ∙ links_of_entries [] m post in
        rw (b, l) refl

    pub page_change : (a : List Token) (control : List ℕ)
        → OneChange (linked (token_links n control (a ++ page_with mid))) (linked (token_links n control (a ++ page_with new))) p (page_bytes (control_on control a) mid) (page_bytes (control_on control a) new)
        (first (token_links n [] post))
    page_change a control =
        let o = parted p (entry_tokens es ++ (entry_tokens mid ++ post)) (entry_tokens es ++ (entry_tokens new ++ post)) a control in
        record {
          before = o.before;
          after = linked (token_links n [] post);
          old_is = o.old_is ∙ ap (λ (ws : List Write). o.before ++ ws) (here (control_on control a) mid);
          new_is = o.new_is ∙ ap (λ (ws : List Write). o.before ++ ws) (here (control_on control a) new);
        }

-- ---- a page that joins the end of a chain: the last packet points to it
pub changes_grown : (before : List Write) (p q : ℕ) (b c : List ℕ) → (q ≡ 0 → ⊥) → changes (before ++ (write p b 0 ∷ [])) (before ++ (write p b q ∷ (write q c 0 ∷ []))) ≡ write p b q ∷ (write q c 0 ∷ [])
changes_grown before p q b c h = changes_behind before (write p b 0 ∷ []) (write p b q ∷ (write q c 0 ∷ [])) ∙ rw (differ, choose_false) refl
  where
    differ : same_write (write p b 0) (write p b q) ≡ false
    differ = rw (eq-eqb p p refl, same_itself b, ne_eqb 0 q (λ e. h (sym e))) refl
