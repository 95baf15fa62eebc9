-- The search for a key in a directory as the code goes: what is found from a place on is what is found in the whole. An entry's stamps, passed before it, belong to what is found.
use Rattle.std.specs.Prelude.{Some, None}
use mathlib.Core.Path.{◌≡◌, refl, ap, sym, ◌∙◌, subst}
use mathlib.Core.Logic.{◌⊎◌, inl, inr}
use mathlib.Core.Bool.{true, false, false≢true}
use mathlib.Core.List.{List, [], ◌∷◌, ◌++◌, append_assoc, append-nil}
use Prim.Native.Nat.{ℕ, ◌+◌, ◌*◌, ◌%◌, ◌≤◌, ◌<◌}
use native.Mathlib.Nat.{mul_comm, mul-le-mul_left}
use native.Mathlib.Omega.{arith}
use lib.Dec.{eqb}
use lib.ListN.{length, length-append}
use borrow.Author.Tests.{eq-eqb, ne_eqb, le-ltb}
use Rattle.geometry.specs.declared.Geometry.{Geometry}
use Rattle.geometry.specs.Geometry.{entry_size, Fit}
use Rattle.geometry.specs.ChooseLaws.{choose_true, choose_false}
use Rattle.packet.specs.Packet.{View}
use Rattle.rules.specs.declared.Entry.{Entry}
use Rattle.rules.specs.Names.{key, extended}
use Rattle.rules.specs.Chain.{Views, Link}
use Rattle.rules.specs.Tree.{Label, label_of, Items, end, page, file, dir, file_entry, Token, new_page, entry, entry_tokens, tokens}
use Rattle.rules.proofs.TreeLaws.{entries_join, page_first, part_entry, EntryFirst, stamped, plain, entry_first, part_found, on_pages, pages_first, only_pages, tokens_pages, find_pages}
use Rattle.rules.specs.TreeLaws.{page_tokens, last_page}
use Rattle.rules.proofs.StampLaws.{stamp_all, with_stamps, all_file, all_dir}
use Rattle.rules.specs.Check.{Part, chain, directory, add, stamp, followed}
use Rattle.rules.specs.Paths.{nothing, a_file, find}
use Rattle.rules.proofs.EditLaws.{directory_no_file, file_label_lem}
use Rattle.rules.specs.Put.{replace}
use Rattle.rules.specs.Delete.{remove}
use Rattle.directory.specs.declared.entries.Item.{Item}
use Rattle.directory.specs.declared.entries.Item.TheVariants.{Extended}
use Rattle.entries.specs.declared.Slot.{Slot}
use Rattle.entries.specs.EntrySlots.{at_entry, advanced}
use Rattle.entries.specs.TokensAt.{TokensAt, InDirectory, Begins, IsEntry, IsItemAt, NextEntry, NoEntry, Reached}
use Rattle.entries.proofs.KeyLaws.{entry_least}
use Rattle.entries.proofs.TokenLaws.{next_pointer}
use Rattle.entries.proofs.ItemLaws.{extended_answer}
use Rattle.listing.specs.KnownTree.{Kinds, Below}
use Rattle.lookup.specs.Searches as searches
use Rattle.lookup.proofs.Passed.{Passed, passed_first, passed_on, passed_entries, passed_pages}

-- ---- an entry with the stamps before it
abbrev group : List Entry → Entry → Part → Items → Items
group ss e (chain ls) t = file (with_stamps ss (label_of e)) ls t
group ss e (directory d) t = dir (with_stamps ss (label_of e)) d t

group_is : (ss : List Entry) (e : Entry) (x : Part) (t : Items) → stamp_all ss (add e x t) ≡ group ss e x t
group_is ss e (chain ls) t = all_file ss (label_of e) ls t
group_is ss e (directory d) t = all_dir ss (label_of e) d t

tokens_group : (ss : List Entry) (e : Entry) (x : Part) (t : Items) → e ≡ part_entry (label_of e) x → tokens (group ss e x t) ≡ entry_tokens ss ++ (entry e ∷ tokens t)
tokens_group ss e (chain ls) t q = ap (λ (y : Entry). entry_tokens ss ++ (entry y ∷ tokens t)) (sym q)
tokens_group ss e (directory d) t q = ap (λ (y : Entry). entry_tokens ss ++ (entry y ∷ tokens t)) (sym q)

-- one stamp more
all_more : (ss : List Entry) (s : Entry) (t : Items) → stamp_all ss (stamp s t) ≡ stamp_all (ss ++ (s ∷ [])) t
all_more [] s t = refl
all_more (x ∷ ss) s t = ap (stamp x) (all_more ss s t)

-- ---- the kinds of a directory's entries
abbrev AllKinds : Items → Type 0
AllKinds end = Unit {0}
AllKinds (page p t) = AllKinds t
AllKinds (file l ls t) = Kinds l × AllKinds t
AllKinds (dir l d t) = Kinds l × AllKinds t

below_kinds : (g : Geometry) (vs : Views) (levels : ℕ) (t : Items) → Below g vs levels t → AllKinds t
below_kinds g vs levels end b = tt
below_kinds g vs levels (page p t) b = below_kinds g vs levels t b
below_kinds g vs levels (file l ls t) b = (b.3, below_kinds g vs levels t b.2)
below_kinds g vs levels (dir l d t) b = (b.4, below_kinds g vs levels t b.3)

kinds_pages : (ps : List ℕ) (t : Items) → AllKinds (on_pages ps t) → AllKinds t
kinds_pages [] t h = h
kinds_pages (p ∷ ps) t h = kinds_pages ps t h

kinds_stamp : (e : Entry) (t : Items) → followed (tokens t) ≡ true → AllKinds (stamp e t) → (extended e ≡ true) × AllKinds t
unfolding followed
kinds_stamp e end f h = absurd (let z : ◌≡◌ {A = ℕ} 0 1 = cc in omega arith)
kinds_stamp e (page p t) f h = absurd (let z : ◌≡◌ {A = ℕ} 0 1 = cc in omega arith)
kinds_stamp e (file l ls t) f h = (h.0.0.0, ((h.0.0.1, h.0.1), h.1))
kinds_stamp e (dir l d t) f h = (h.0.0.0, ((h.0.0.1, h.0.1), h.1))

kinds_add : (e : Entry) (x : Part) (t : Items) → AllKinds (add e x t) → (extended e ≡ false) × AllKinds t
unfolding extended
kinds_add e (chain ls) t h = (le-ltb 127 (e.name % 256) h.0.1, h.1)
kinds_add e (directory d) t h = (le-ltb 127 (e.name % 256) h.0.1, h.1)

-- ---- a change of the directory that passes what has another key
pub record Passes (k : ℕ) (f : Items → Items) : Type 0 where
  pub page_on : (p : ℕ) (t : Items) → f (page p t) ≡ page p (f t)
  pub entry_on : (ss : List Entry) (e : Entry) (x : Part) (t : Items) → (k ≡ key e.name e.extension → ⊥) → f (group ss e x t) ≡ group ss e x (f t)

passes_none : (k : ℕ) → Passes k (λ t. t)
passes_none k = record { page_on = λ p t. refl; entry_on = λ ss e x t h. refl }

passes_remove : (k : ℕ) → Passes k (remove k)
passes_remove k = record { page_on = λ p t. refl; entry_on = on }
  where
    on : (ss : List Entry) (e : Entry) (x : Part) (t : Items) → (k ≡ key e.name e.extension → ⊥) → remove k (group ss e x t) ≡ group ss e x (remove k t)
    on ss e (chain ls) t h = simp (ne_eqb k (key e.name e.extension) h, choose_false) refl
    on ss e (directory d) t h = simp (ne_eqb k (key e.name e.extension) h, choose_false) refl

passes_replace : (k : ℕ) (new : List Link) → Passes k (replace k new)
passes_replace k new = record { page_on = λ p t. refl; entry_on = on }
  where
    on : (ss : List Entry) (e : Entry) (x : Part) (t : Items) → (k ≡ key e.name e.extension → ⊥) → replace k new (group ss e x t) ≡ group ss e x (replace k new t)
    on ss e (chain ls) t h = simp (ne_eqb k (key e.name e.extension) h, choose_false) refl
    on ss e (directory d) t h = refl

passes_pages : {k : ℕ} {f : Items → Items} → Passes k f → (ps : List ℕ) (t : Items) → f (on_pages ps t) ≡ on_pages ps (f t)
passes_pages h [] t = refl
passes_pages h (p ∷ ps) t = h.page_on p (on_pages ps t) ∙ ap (page p) (passes_pages h ps t)

-- ---- the search of t₀ up to a place, where the directory's rest is t
pub record UpTo (g : Geometry) (k : ℕ) (t₀ : Items) (s : Slot) (t : Items) : Type 0 where
  pub same : find k t₀ ≡ find k t
  pub past : List Token
  pub passed : Passed g s past
  pub changed : (f : Items → Items) → Passes k f → tokens (f t₀) ≡ past ++ tokens (f t)

-- pages are passed
up_to_pages : {g : Geometry} {k : ℕ} {t₀ : Items} {s at : Slot} {t : Items} → UpTo g k t₀ s t → (ps : List ℕ) → at.page ≡ last_page s.page ps → Reached s ps at → (rest : Items) → t ≡ on_pages ps rest → UpTo g k t₀ at rest
up_to_pages {k = k} U ps p r rest i =
    record {
      same = U.same ∙ ap (find k) i ∙ find_pages k ps rest;
      past = U.past ++ page_tokens ps;
      passed = passed_pages U.passed ps p r;
      changed = λ f p. U.changed f p ∙ ap (λ (x : List Token). U.past ++ x) (ap (λ (x : Items). tokens (f x)) i ∙ ap tokens (passes_pages p ps rest) ∙ tokens_pages ps (f rest))
          ∙ sym (append_assoc U.past (page_tokens ps) (tokens (f rest)));
    }

-- the search up to the place where the stamps of an entry begin; the entry is at s
module _ {g : Geometry} {k : ℕ} {t₀ : Items} {s : Slot} {from : ℕ} (ss : List Entry) (e : Entry) (x : Part) (t : Items) (q : e ≡ part_entry (label_of e) x)
    (here : from + length ss ≡ s.at) (U : UpTo g k t₀ (at_entry s from) (group ss e x t)) where
  open U use {same, past, passed, changed}

  -- an entry with another key is passed
  up_to_entry : (key e.name e.extension ≡ k → ⊥) → UpTo g k t₀ (advanced s) t
  up_to_entry h =
      let j : k ≡ key e.name e.extension → ⊥ = λ z. h (sym z) in
      let m : from + length (ss ++ (e ∷ [])) ≡ s.at + 1 = omega (arith, length-append ss (e ∷ [])) in
      record {
        same = same ∙ find_past x j;
        past = past ++ entry_tokens (ss ++ (e ∷ []));
        passed = passed_entries passed (ss ++ (e ∷ [])) (s.at + 1) m;
        changed = λ f p. changed f p ∙ ap (λ (y : List Token). past ++ y) (ap tokens (p.entry_on ss e x t j) ∙ tokens_group ss e x (f t) q ∙ entries_join ss (e ∷ []) (tokens (f t)))
            ∙ sym (append_assoc past (entry_tokens (ss ++ (e ∷ []))) (tokens (f t)));
      }
    where
      find_past : (y : Part) → (k ≡ key e.name e.extension → ⊥) → find k (group ss e y t) ≡ find k t
      find_past (chain ls) j = simp (ne_eqb k (key e.name e.extension) j, choose_false) refl
      find_past (directory d) j = simp (ne_eqb k (key e.name e.extension) j, choose_false) refl

  -- an entry with the key is found and can be removed; a file with it can be replaced
  module _ (h : key e.name e.extension ≡ k) where
    yes_key : eqb k (key e.name e.extension) ≡ true
    yes_key = eq-eqb k (key e.name e.extension) (sym h)

    find_here : (y : Part) → find k (group ss e y t) ≡ part_found (with_stamps ss (label_of e)) y
    find_here (chain ls) = rw (yes_key, choose_true) refl
    find_here (directory d) = rw (yes_key, choose_true) refl

    found_is : (y : Part) → e ≡ part_entry (label_of e) y → Some e ≡ searches.entry_of (part_found (with_stamps ss (label_of e)) y)
    found_is (chain ls) z = ap Some z
    found_is (directory d) z = ap Some z

    -- the tokens up to the entry's stamps, and those from them on
    whole : (f : Items → Items) → Passes k f → (ts : List Token) → tokens (f (group ss e x t)) ≡ ts → tokens (f t₀) ≡ passed.before ++ (new_page s.page ∷ (entry_tokens passed.entries ++ ts))
    whole f p ts z = changed f p ∙ ap (λ (y : List Token). past ++ y) z ∙ passed_on passed ts

    removed_is : (y : Part) → tokens (remove k (group ss e y t)) ≡ tokens t
    removed_is (chain ls) = rw (yes_key, choose_true) refl
    removed_is (directory d) = rw (yes_key, choose_true) refl

    replaced_is : (y : Part) (l : Label) (ls new : List Link) → part_found (with_stamps ss (label_of e)) y ≡ a_file l ls → tokens (replace k new (group ss e y t)) ≡ entry_tokens ss ++ (entry (file_entry l new) ∷ tokens t)
    replaced_is (chain ls) l ms new z = rw (yes_key, choose_true) (ap (λ (a : Label). entry_tokens ss ++ (entry (file_entry a new) ∷ tokens t)) (file_label_lem z))
    replaced_is (directory d) l ms new z = absurd (directory_no_file z)

    found_at : {v : View} (m : ℕ) → length ss ≡ m → TokensAt g v (advanced s) (tokens t) → s.at < s.count → searches.PlaceOf g v k t₀ s m e
    found_at {v} m c A i = record {
      found = found_is x q ∙ ap searches.entry_of (sym (same ∙ find_here x));
      before = passed.before;
      entries = passed.entries;
      stamps = ss;
      later = tokens t;
      shape = whole (λ t. t) (passes_none k) (entry_tokens ss ++ (entry e ∷ tokens t)) (tokens_group ss e x t q);
      removed = whole (remove k) (passes_remove k) (tokens t) (removed_is x);
      replaced = λ l ls new z. whole (replace k new) (passes_replace k new) (entry_tokens ss ++ (entry (file_entry l new) ∷ tokens t)) (replaced_is x l ls new (sym (same ∙ find_here x) ∙ z));
      stamped_is = c;
      at_is = omega (arith, passed.at_is);
      under = i;
      fits = record { inside = A.at_slot.fits.inside; room = A.at_slot.fits.room };
      skip_is = passed.skip_is;
      next_is = next_pointer A;
    }

-- ---- what is found from a place on, with so many stamps passed right before it: they belong to an entry that follows in the page
pub record Finding (g : Geometry) (v : View) (k : ℕ) (t₀ : Items) (s : Slot) (m : ℕ) : Type 0 where
  pub stamps : List Entry
  pub rest : Items
  pub from : ℕ
  pub ahead : TokensAt g v s (tokens rest)
  pub kinds : AllKinds rest
  pub count_is : length stamps ≡ m
  pub from_is : from + length stamps ≡ s.at
  pub attached : (length stamps ≡ 0) ⊎ (followed (tokens rest) ≡ true)
  pub up_to : UpTo g k t₀ (at_entry s from) (stamp_all stamps rest)

-- the first page
pub find_first : {g : Geometry} {vs : Views} (k : ℕ) {start : ℕ} {t : Items} {s : Slot} → Begins g vs.pages start s → searches.TreeAt g vs start t → Finding g vs.pages k t s 0
find_first {g} {vs} k {t = t} {s} b T =
    let c = T.stands.chained in
    let p = b c.links c.chain in
    let o = page_first s.page p.later t (sym c.shape ∙ p.split) in
    record {
      stamps = [];
      rest = o.rest;
      from = s.at;
      ahead = subst (TokensAt g vs.pages s) (sym o.left) p.ahead;
      kinds = subst AllKinds o.is (below_kinds g vs T.levels t T.stands.below);
      count_is = refl;
      from_is = omega arith;
      attached = inl refl;
      up_to = record {
        same = ap (find k) o.is;
        past = new_page s.page ∷ [];
        passed = passed_first p;
        changed = λ f q. ap (λ (x : Items). tokens (f x)) o.is ∙ ap tokens (q.page_on s.page o.rest);
      };
    }

-- a page that begins: no entry follows
no_page_follows : (p : ℕ) (ps : List ℕ) (ts : List Token) → followed (page_tokens (p ∷ ps) ++ ts) ≡ true → ⊥
unfolding followed
no_page_follows p ps ts h = false≢true h

module _ {g : Geometry} {v : View} {k : ℕ} {t₀ : Items} {s : Slot} {m : ℕ} (F : Finding g v k t₀ s m) where
  open F use {stamps, rest, from, ahead, kinds, count_is, from_is, attached, up_to}

  pub find_in : InDirectory g v s
  find_in = record { ts = tokens rest; ahead = ahead }

  -- without stamps, the place is where they would begin
  bare : length stamps ≡ 0 → UpTo g k t₀ s rest
  bare z = go stamps z from_is up_to
    where
      go : (ss : List Entry) → length ss ≡ 0 → from + length ss ≡ s.at → UpTo g k t₀ (at_entry s from) (stamp_all ss rest) → UpTo g k t₀ s rest
      go [] z i U = let j : from ≡ s.at = omega arith in subst (λ (n : ℕ). UpTo g k t₀ (at_entry s n) rest) j U
      go (x ∷ ss) z i U = absurd (omega arith)

  -- no entry follows: there are no stamps
  loose : (ps : List ℕ) (ts : List Token) → tokens rest ≡ page_tokens ps ++ ts → followed ts ≡ false ⊎ (0 < length ps) → length stamps ≡ 0
  loose ps ts q h = go attached
    where
      none : (qs : List ℕ) → followed (page_tokens qs ++ ts) ≡ true → followed ts ≡ false ⊎ (0 < length qs) → ⊥
      none [] z (inl f) = false≢true (sym f ∙ z)
      none [] z (inr f) = absurd (omega arith)
      none (p ∷ qs) z f = no_page_follows p qs ts z

      go : (length stamps ≡ 0) ⊎ (followed (tokens rest) ≡ true) → length stamps ≡ 0
      go (inl z) = z
      go (inr z) = absurd (none ps (sym (ap followed q) ∙ z) h)

  pub not_found : ((ts : List Token) → TokensAt g v s ts → NoEntry ts) → None ≡ searches.entry_of (find k t₀)
  unfolding followed
  not_found n =
      let o = n (tokens rest) ahead in
      let U = bare (loose o.pages [] (o.are ∙ sym (append-nil (page_tokens o.pages))) (inl refl)) in
      let e : find k t₀ ≡ nothing = U.same ∙ ap (find k) (only_pages o.pages rest o.are) ∙ find_pages k o.pages end in
      ap searches.entry_of (sym e)

  -- the stamps fit in the page
  pub few_stamps : {image : List ℕ} → Fit g image → s.at < s.count → m < 256
  few_stamps f u = let k : s.count * 1 ≤ s.count * entry_size g = mul-le-mul_left s.count (omega (arith, entry_least g f.valid)) in
      omega (arith, count_is, from_is, ahead.at_slot.fits.room, f.valid.most, mul_comm s.count (entry_size g))

  -- at the next entry
  pub find_next : {at : Slot} → NextEntry g v s at → Finding g v k t₀ at m
  find_next {at} n = let a = n.ahead (tokens rest) ahead in go a.pages a.after a.split a.page_is a.reached a.ahead
    where
      go : (ps : List ℕ) (after : List Token) → tokens rest ≡ page_tokens ps ++ after → at.page ≡ last_page s.page ps → Reached s ps at → TokensAt g v at after → Finding g v k t₀ at m
      go [] after q p r A = subst (λ (x : Slot). Finding g v k t₀ x m) (sym r) F
      go (x ∷ ps) after q p r A =
          let z = loose (x ∷ ps) after q (inr (omega arith)) in
          let o = pages_first (x ∷ ps) after rest q in
          record {
            stamps = [];
            rest = o.rest;
            from = at.at;
            ahead = subst (TokensAt g v at) (sym o.left) A;
            kinds = kinds_pages (x ∷ ps) o.rest (subst AllKinds o.is kinds);
            count_is = sym z ∙ count_is;
            from_is = omega arith;
            attached = inl refl;
            up_to = up_to_pages (bare z) (x ∷ ps) p r o.rest o.is;
          }

  -- it is a stamp
  pub find_stamp : (r : Item) → IsItemAt g v s r → r ≡ Extended → (s' : Slot) → s' ≡ advanced s → Finding g v k t₀ s' (m + 1)
  find_stamp r h x s' y =
      let z = extended_answer g v s r h x (tokens rest) ahead in
      subst (λ (z : Slot). Finding g v k t₀ z (m + 1)) (sym y) (go z.stamp z.is_extended z.at.later z.at.ahead (entry_first z.stamp z.at.later rest z.at.split))
    where
      go : (e : Entry) → extended e ≡ true → (later : List Token) → TokensAt g v (advanced s) later → EntryFirst e later rest → Finding g v k t₀ (advanced s) (m + 1)
      go e h later A (plain part rest' is entry_is left) = absurd (false≢true (sym (kinds_add e part rest' (subst AllKinds is kinds)).0 ∙ h))
      go e h later A (stamped rest' is f left) =
          let f' : followed (tokens rest') ≡ true = ap followed left ∙ f in
          record {
            stamps = stamps ++ (e ∷ []);
            rest = rest';
            from = from;
            ahead = subst (TokensAt g v (advanced s)) (sym left) A;
            kinds = (kinds_stamp e rest' f' (subst AllKinds is kinds)).1;
            count_is = omega (arith, count_is, length-append stamps (e ∷ []));
            from_is = omega (arith, from_is, length-append stamps (e ∷ []));
            attached = inr f';
            up_to = subst (UpTo g k t₀ (at_entry s from)) (ap (stamp_all stamps) is ∙ all_more stamps e rest') up_to;
          }

  -- it is a plain entry
  module _ {e : Entry} (i : IsEntry g v s e) (is_plain : extended e ≡ false) where
    -- what it names and what comes after it
    record Read : Type 0 where
      pub part : Part
      pub later : Items
      pub entry_is : e ≡ part_entry (label_of e) part
      pub ahead : TokensAt g v (advanced s) (tokens later)
      pub kinds : AllKinds later
      pub up_to : UpTo g k t₀ (at_entry s from) (group stamps e part later)

    read : Read
    read = let b = i (tokens rest) ahead in go b.later b.ahead (entry_first e b.later rest b.split)
      where
        go : (later : List Token) → TokensAt g v (advanced s) later → EntryFirst e later rest → Read
        go later A (stamped rest' is f left) = absurd (false≢true (sym is_plain ∙ (kinds_stamp e rest' (ap followed left ∙ f) (subst AllKinds is kinds)).0))
        go later A (plain part rest' is entry_is left) = record {
          part = part;
          later = rest';
          entry_is = entry_is;
          ahead = subst (TokensAt g v (advanced s)) (sym left) A;
          kinds = (kinds_add e part rest' (subst AllKinds is kinds)).1;
          up_to = subst (UpTo g k t₀ (at_entry s from)) (ap (stamp_all stamps) is ∙ group_is stamps e part rest') up_to;
        }

    pub found : key e.name e.extension ≡ k → s.at < s.count → searches.PlaceOf g v k t₀ s m e
    found h under = found_at stamps e read.part read.later read.entry_is from_is read.up_to h m count_is read.ahead under

    pub find_on : (key e.name e.extension ≡ k → ⊥) → (s' : Slot) → s' ≡ advanced s → Finding g v k t₀ s' 0
    find_on h s' y = subst (λ (x : Slot). Finding g v k t₀ x 0) (sym y) (record {
      stamps = [];
      rest = read.later;
      from = s.at + 1;
      ahead = read.ahead;
      kinds = read.kinds;
      count_is = refl;
      from_is = omega arith;
      attached = inl refl;
      up_to = up_to_entry stamps e read.part read.later read.entry_is from_is read.up_to h;
    })
