-- The search over a directory's entries as the code goes: a place in the chain, and that whatever answers what is ahead answers all.
use Rattle.std.specs.declared.ops.ControlFlow.TheVariants.{Break, Continue}
use mathlib.Core.Path.{◌≡◌, refl, ap, sym, ◌∙◌, subst}
use mathlib.Core.Bool.{true, false, false≢true}
use mathlib.Core.List.{List, [], ◌∷◌, ◌++◌}
use Prim.Native.Nat.{ℕ, zero, suc, ◌%◌}
use native.Mathlib.Omega.{arith}
use borrow.Author.Tests.{le-ltb}
use Rattle.geometry.specs.declared.Geometry.{Geometry}
use Rattle.rules.specs.declared.Entry.{Entry}
use Rattle.rules.specs.declared.Line.{Line}
use Rattle.rules.specs.Chain.{Views}
use Rattle.rules.specs.Names.{extended}
use Rattle.rules.specs.Tree.{label_of, Items, end, page, file, dir, start_of, Token, entry, tokens}
use Rattle.rules.proofs.StampLaws.{stamp_lines}
use Rattle.rules.proofs.TreeLaws.{page_first, part_entry, EntryFirst, stamped, plain, entry_first, on_pages, PagesFirst, pages_first, only_pages, lines_pages}
use Rattle.rules.specs.TreeLaws.{page_tokens}
use Rattle.rules.specs.WellFormed.{Under}
use Rattle.rules.specs.Listing.{lines_of}
use Rattle.rules.specs.Check.{Part, chain, directory, add, stamp, followed}
use Rattle.directory.specs.declared.entries.Item.{Item}
use Rattle.directory.specs.declared.entries.Item.TheVariants.{Extended}
use Rattle.chain.specs.KnownChain.{ChainAt}
use Rattle.entries.specs.declared.Slot.{Slot}
use Rattle.entries.specs.EntrySlots.{advanced}
use Rattle.entries.specs.TokensAt.{TokensAt, InDirectory, Begins, IsEntry, IsItemAt, NextEntry, NoEntry}
use Rattle.entries.proofs.Stepping.{ReadAhead, read_on, read_ahead}
use Rattle.entries.proofs.ItemLaws.{extended_answer}
use Rattle.listing.specs.KnownTree.{LineSearch, Chained, Below, DirectoryAt, PartAt, HasPart, part_lines, Looks, LooksPart}
use Rattle.listing.proofs.Lines.{looks_first, looks_on}

-- ---- pages in front of an entry, what it names, and the rest
module _ (g : Geometry) (vs : Views) (levels level : ℕ) where
  record Entered (e : Entry) (ts : List Token) (t : Items) : Type 0 where
    pub part : Part
    pub rest : Items
    pub stands : PartAt g vs levels e part
    pub left : tokens rest ≡ ts
    pub below : Below g vs levels rest
    pub lines : lines_of level t ≡ part_lines level e part ++ lines_of level rest

  pub below_pages : (ps : List ℕ) (t : Items) → Below g vs levels (on_pages ps t) → Below g vs levels t
  below_pages [] t b = b
  below_pages (p ∷ ps) t b = below_pages ps t b

  under_stands : (n start : ℕ) (d : Items) → Chained g vs.pages start d → Under n (λ less. Below g vs less d) → Under n (λ less. DirectoryAt g vs less start d)
  under_stands zero start d c u = u
  under_stands (suc n) start d c u = record { chained = c; below = u }

  pub part_stands : (e : Entry) (x : Part) (t : Items) → e ≡ part_entry (label_of e) x → Below g vs levels (add e x t) → PartAt g vs levels e x × Below g vs levels t
  part_stands e (chain ls) t q b = ((subst (λ (p : ℕ). ChainAt g (vs.file e.extension) p ls) (ap (λ (y : Entry). y.start) (sym q)) b.0, ap (λ (y : Entry). y.pages) q, b.1), b.2)
  part_stands e (directory d) t q b =
      let i : start_of d ≡ e.start = ap (λ (y : Entry). y.start) (sym q) in
      ((i, ap (λ (y : Entry). y.pages) q, b.1, subst (λ (p : ℕ). Under levels (λ less. DirectoryAt g vs less p d)) i (under_stands levels (start_of d) d b.0 b.2)), b.3)

  part_lines_lem : (e : Entry) (x : Part) (t : Items) → lines_of level (add e x t) ≡ part_lines level e x ++ lines_of level t
  part_lines_lem e (chain ls) t = refl
  part_lines_lem e (directory d) t = refl

  -- the entry that comes first: a stamp is extended, an entry of its own is plain
  pub stamp_part : (e : Entry) (t : Items) → followed (tokens t) ≡ true → Below g vs levels (stamp e t) → (extended e ≡ true) × Below g vs levels t
  unfolding followed
  stamp_part e end f b = absurd (let z : ◌≡◌ {A = ℕ} 0 1 = cc in omega arith)
  stamp_part e (page p t) f b = absurd (let z : ◌≡◌ {A = ℕ} 0 1 = cc in omega arith)
  stamp_part e (file l ls t) f b = (b.3.0.0, (b.0, b.1, b.2, (b.3.0.1, b.3.1)))
  stamp_part e (dir l d t) f b = (b.4.0.0, (b.0, b.1, b.2, b.3, (b.4.0.1, b.4.1)))

  pub part_plain : (e : Entry) (x : Part) (t : Items) → Below g vs levels (add e x t) → extended e ≡ false
  unfolding extended
  part_plain e (chain ls) t b = le-ltb 127 (e.name % 256) b.3.1
  part_plain e (directory d) t b = le-ltb 127 (e.name % 256) b.4.1

  -- behind a stamp, the same entries
  record Stamped (ts : List Token) (t : Items) : Type 0 where
    pub rest : Items
    pub left : tokens rest ≡ ts
    pub below : Below g vs levels rest
    pub lines : lines_of level t ≡ lines_of level rest

  module _ (ps : List ℕ) (e : Entry) (ts : List Token) (t : Items) (q : tokens t ≡ page_tokens ps ++ (entry e ∷ ts)) (b : Below g vs levels t) where
    abbrev before : PagesFirst ps (entry e ∷ ts) t
    before = pages_first ps (entry e ∷ ts) t q

    below_before : Below g vs levels before.rest
    below_before = below_pages ps before.rest (subst (Below g vs levels) before.is b)

    lines_before : lines_of level t ≡ lines_of level before.rest
    lines_before = ap (lines_of level) before.is ∙ lines_pages level ps before.rest

    enters : extended e ≡ false → Entered e ts t
    enters h = go (entry_first e ts before.rest before.left)
      where
        go : EntryFirst e ts before.rest → Entered e ts t
        go (stamped rest is f left) = absurd (false≢true (sym h ∙ (stamp_part e rest (ap followed left ∙ f) (subst (Below g vs levels) is below_before)).0))
        go (plain part rest is entry_is left) =
            let k = part_stands e part rest entry_is (subst (Below g vs levels) is below_before) in
            record { part = part; rest = rest; stands = k.0; left = left; below = k.1; lines = lines_before ∙ ap (lines_of level) is ∙ part_lines_lem e part rest }

    passes : extended e ≡ true → Stamped ts t
    passes h = go (entry_first e ts before.rest before.left)
      where
        go : EntryFirst e ts before.rest → Stamped ts t
        go (stamped rest is f left) =
            let k = stamp_part e rest (ap followed left ∙ f) (subst (Below g vs levels) is below_before) in
            record { rest = rest; left = left; below = k.1; lines = lines_before ∙ ap (lines_of level) is ∙ stamp_lines e level rest }
        go (plain part rest is entry_is left) = absurd (false≢true (sym (part_plain e part rest (subst (Below g vs levels) is below_before)) ∙ h))

-- ---- what is ahead at a place, where position k is looked for, in the search for position k₀ of t₀
pub record Ahead (g : Geometry) (vs : Views) (levels level k₀ : ℕ) (t₀ : Items) (s : Slot) (k : ℕ) : Type 0 where
  pub rest : Items
  pub ahead : TokensAt g vs.pages s (tokens rest)
  pub below : Below g vs levels rest
  pub finish : (r : LineSearch) → Looks k (lines_of level rest) r → Looks k₀ (lines_of level t₀) r

-- the first page
pub ahead_first : {g : Geometry} {vs : Views} {levels start : ℕ} {t : Items} {s : Slot} (level k : ℕ) → Begins g vs.pages start s → DirectoryAt g vs levels start t → Ahead g vs levels level k t s k
ahead_first {g} {vs} {levels} {start} {t} {s} level k b S =
    let p = b S.chained.links S.chained.chain in
    let o = page_first s.page p.later t (sym S.chained.shape ∙ p.split) in
    record {
      rest = o.rest;
      ahead = subst (TokensAt g vs.pages s) (sym o.left) p.ahead;
      below = subst (Below g vs levels) o.is S.below;
      finish = λ r u. subst (λ (x : Items). Looks k (lines_of level x) r) (sym o.is) u;
    }

module _ {g : Geometry} {vs : Views} {levels level k₀ : ℕ} {t₀ : Items} {s : Slot} {k : ℕ} (A : Ahead g vs levels level k₀ t₀ s k) where
  open A use {rest, ahead, below, finish}

  pub ahead_in : InDirectory g vs.pages s
  ahead_in = record { ts = tokens rest; ahead = ahead }

  -- no entry is ahead
  pub ahead_done : ((ts : List Token) → TokensAt g vs.pages s ts → NoEntry ts) → Looks k₀ (lines_of level t₀) (Continue k)
  ahead_done n =
      let o = n (tokens rest) ahead in
      let e : lines_of level rest ≡ [] = ap (lines_of level) (only_pages o.pages rest o.are) ∙ lines_pages level o.pages end in
      finish (Continue k) (subst (λ (xs : List Line). Looks k xs (Continue k)) (sym e) (omega arith))

  -- the next entry is a stamp
  pub ahead_stamp : {at : Slot} → NextEntry g vs.pages s at → (r : Item) → IsItemAt g vs.pages at r → r ≡ Extended → (s' : Slot) → s' ≡ advanced at → Ahead g vs levels level k₀ t₀ s' k
  ahead_stamp {at} n r h x s' y =
      let a = n.ahead (tokens rest) ahead in
      let z = extended_answer g vs.pages at r h x a.after a.ahead in
      let w = read_on a z.at in
      let p = passes g vs levels level w.pages z.stamp w.later rest w.split below z.is_extended in
      subst (λ (x : Slot). Ahead g vs levels level k₀ t₀ x k) (sym y) (record {
        rest = p.rest;
        ahead = subst (TokensAt g vs.pages (advanced at)) (sym p.left) w.ahead;
        below = p.below;
        finish = λ a h. finish a (subst (λ (xs : List Line). Looks k xs a) (sym p.lines) h);
      })

  -- it is a plain one
  module _ {at : Slot} {e : Entry} (n : NextEntry g vs.pages s at) (i : IsEntry g vs.pages at e) (is_plain : extended e ≡ false) where
    abbrev read : ReadAhead g vs.pages s (tokens rest) at e
    read = read_ahead n i (tokens rest) ahead

    entered : Entered g vs levels level e read.later rest
    entered = enters g vs levels level read.pages e read.later rest read.split below is_plain

    -- what it names stands
    pub ahead_part : HasPart g vs levels e
    ahead_part = record { part = entered.part; stands = entered.stands }

    module _ (r : LineSearch) (f : LooksPart g vs levels level e k r) where
      told : (a : LineSearch) → r ≡ a → Looks k (part_lines level e entered.part) a
      told a o = subst (Looks k (part_lines level e entered.part)) o (f entered.part entered.stands)

      on_lines : (a : LineSearch) → Looks k (part_lines level e entered.part ++ lines_of level entered.rest) a → Looks k₀ (lines_of level t₀) a
      on_lines a h = finish a (subst (λ (xs : List Line). Looks k xs a) (sym entered.lines) h)

      pub ahead_found : (x : Line) → r ≡ Break x → Looks k₀ (lines_of level t₀) (Break x)
      ahead_found x o = on_lines (Break x) (looks_first k (part_lines level e entered.part) (lines_of level entered.rest) x (told (Break x) o))

      pub ahead_past : (j : ℕ) → r ≡ Continue j → (s' : Slot) → s' ≡ advanced at → Ahead g vs levels level k₀ t₀ s' j
      ahead_past j o s' y = subst (λ (x : Slot). Ahead g vs levels level k₀ t₀ x j) (sym y) (record {
        rest = entered.rest;
        ahead = subst (TokensAt g vs.pages (advanced at)) (sym entered.left) read.ahead;
        below = entered.below;
        finish = λ a h. on_lines a (looks_on k j (part_lines level e entered.part) (lines_of level entered.rest) (told (Continue j) o) a h);
      })
