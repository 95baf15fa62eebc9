-- What is left of a directory at a place: the stamps passed that wait for their entry, the entries ahead, and the tree without its pages that both make.
use mathlib.Core.Path.{◌≡◌, refl, ap, ap₂, sym, ◌∙◌, subst}
use mathlib.Core.Logic.{◌⊎◌, inl, inr}
use mathlib.Core.Bool.{true, false, false≢true}
use mathlib.Core.List.{List, [], ◌∷◌, ◌++◌, append-nil, append_assoc}
use Prim.Native.Nat.{ℕ, ◌+◌, ◌-◌, ◌*◌, ◌≤◌, ◌<◌}
use native.Mathlib.Nat.{eq-zero-or-pos, mul-zero, mul-add}
use native.Mathlib.Omega.{arith}
use lib.ListN.{length, take, drop, length-append, length-drop}
use lib.Seq.{drop-drop, take-add}
use Rattle.geometry.specs.declared.Geometry.{Geometry}
use Rattle.geometry.specs.Geometry.{Fit, entry_size}
use Rattle.geometry.specs.Number.{Bytes}
use Rattle.geometry.specs.NumberLaws.{bytes_drop}
use Rattle.geometry.specs.Page.{page_of}
use Rattle.packet.specs.Packet.{View, view_of}
use Rattle.rules.specs.declared.Entry.{Entry}
use Rattle.rules.specs.Chain.{Views, views_of, content}
use Rattle.rules.specs.Names.{extended, entry_of, entry_bytes}
use Rattle.rules.specs.Tree.{label_of, Items, end, Token, entry, entry_tokens, tokens, token_bytes}
use Rattle.rules.proofs.StampLaws.{stamp_all, with_stamps, all_file, all_dir}
use Rattle.rules.proofs.TreeLaws.{page_first, EntryFirst, stamped, plain, entry_first, on_pages, pages_first, only_pages}
use Rattle.rules.specs.TreeLaws.{page_tokens}
use Rattle.rules.specs.Check.{Part, chain, directory, add, stamp, followed}
use Rattle.entries.specs.declared.Slot.{Slot}
use Rattle.entries.specs.EntrySlots.{advanced}
use Rattle.entries.specs.TokensAt.{TokensAt, InDirectory, Begins, EntryAt, Reached, EntryAhead, NextEntry, NoEntry}
use Rattle.entries.proofs.Places.{slot_few}
use Rattle.entries.proofs.SlotLaws.{entry_reads}
use Rattle.entries.proofs.TokenLaws.{entry_at}
use Rattle.reading_theorems.specs.EntryLaws.{entry_size_lem, entry_bytes_lem}
use Rattle.editing_theorems.specs.PageWrites.{page_bytes_lem}
use Rattle.listing.proofs.Ahead.{below_pages, part_stands, stamp_part, part_plain}
use Rattle.gathering.specs.Gather.{Bare, bare_end, bare_file, bare_dir, bare}
use Rattle.listing.specs.KnownTree.{Below, DirectoryAt, PartAt}
use Rattle.layout.specs.Layout.{bytes_behind}

-- an entry with these stamps before it, and what it names, in front of a tree without its pages
abbrev pub with_part : List Entry → Entry → Part → Bare → Bare
with_part ss e (chain ls) b = bare_file (with_stamps ss (label_of e)) (content ls) b
with_part ss e (directory d) b = bare_dir (with_stamps ss (label_of e)) (bare d) b

bare_part : (ss : List Entry) (e : Entry) (x : Part) (t : Items) → bare (stamp_all ss (add e x t)) ≡ with_part ss e x (bare t)
bare_part ss e (chain ls) t = ap bare (all_file ss (label_of e) ls t)
bare_part ss e (directory d) t = ap bare (all_dir ss (label_of e) d t)

bare_pages : (ps : List ℕ) (t : Items) → bare (on_pages ps t) ≡ bare t
bare_pages [] t = refl
bare_pages (p ∷ ps) t = bare_pages ps t

stamp_last : (ss : List Entry) (s : Entry) (t : Items) → stamp_all (ss ++ (s ∷ [])) t ≡ stamp_all ss (stamp s t)
stamp_last [] s t = refl
stamp_last (x ∷ ss) s t = ap (stamp x) (stamp_last ss s t)

-- the bytes of entries in a row
abbrev pub row_bytes : ℕ → List Entry → List ℕ
row_bytes n ss = token_bytes n (entry_tokens ss)

row_last : (n : ℕ) (ss : List Entry) (s : Entry) → row_bytes n (ss ++ (s ∷ [])) ≡ row_bytes n ss ++ entry_bytes n s
row_last n [] s = append-nil (entry_bytes n s)
row_last n (x ∷ ss) s = ap (λ (bs : List ℕ). entry_bytes n x ++ bs) (row_last n ss s) ∙ sym (append_assoc (entry_bytes n x) (row_bytes n ss) (entry_bytes n s))

no_members : (ss : List Entry) → length ss ≡ 0 → ss ≡ []
no_members [] e = refl
no_members (s ∷ ss) e = absurd (omega arith)

-- no entry is next where a page begins
page_not_followed : (ps : List ℕ) (ts : List Token) (p : ℕ) → followed (page_tokens (p ∷ ps) ++ ts) ≡ true → ⊥
unfolding followed
page_not_followed ps ts p h = false≢true h

none_followed : (ps : List ℕ) → followed (page_tokens ps) ≡ true → ⊥
unfolding followed
none_followed [] h = false≢true h
none_followed (p ∷ ps) h = false≢true h

-- ---- what is left at a place: `stamps` entries just before it are stamps that wait, b is the tree without its pages from the first of them on
pub record Left (g : Geometry) (image : List ℕ) (levels : ℕ) (s : Slot) (stamps : ℕ) (b : Bare) : Type 0 where
  pub passed : List Entry
  pub rest : Items
  pub number : length passed ≡ stamps
  pub ahead : TokensAt g (view_of g image) s (tokens rest)
  pub goes_on : 0 < stamps → followed (tokens rest) ≡ true
  pub inside : stamps ≤ s.at
  pub behind : bytes_behind g image s stamps ≡ row_bytes g.width passed
  pub below : Below g (views_of g image) levels rest
  pub is : b ≡ bare (stamp_all passed rest)

-- ---- the entry at a place as bytes of its page
module _ (g : Geometry) (image : List ℕ) (fit : Fit g image) (bytes : Bytes image) where
  abbrev v : View
  v = view_of g image

  abbrev vs : Views
  vs = views_of g image

  module _ (s : Slot) (under : s.at < s.count) where
    abbrev here : List ℕ
    here = drop (1 + s.skip + entry_size g * s.at) (page_of g s.page image)

    slot_bytes : (ts : List Token) (e : Entry) (later : List Token) → TokensAt g v s ts → ts ≡ entry e ∷ later → take (entry_size g) here ≡ entry_bytes g.width e
    slot_bytes ts e later a q =
        let x = entry_of g.width here in
        let r = entry_at fit s under x refl ts a in
        let i : entry x ∷ r.later ≡ entry e ∷ later = sym r.split ∙ q in
        let j : x ≡ e = cc in
        let l = entry_reads g s (entry_size g) (page_of g s.page image) image refl refl fit a.at_slot.fits under in
        sym (entry_bytes_lem g here (bytes_drop (1 + s.skip + entry_size g * s.at) (page_of g s.page image) (page_bytes_lem g image s.page bytes))
        (omega (arith, l, length-drop (1 + s.skip + entry_size g * s.at) (page_of g s.page image), entry_size_lem g))) ∙ ap (entry_bytes g.width) j

  -- the bytes behind a place with the entry at it
  behind_more : (s : Slot) (k : ℕ) → k ≤ s.at → bytes_behind g image (advanced s) (k + 1) ≡ bytes_behind g image s k ++ take (entry_size g) (drop (1 + s.skip + entry_size g * s.at) (page_of g s.page image))
  behind_more s k h =
      let E = entry_size g in
      let base = 1 + s.skip + E * (s.at - k) in
      let page = page_of g s.page image in
      let m : s.at + 1 - (k + 1) ≡ s.at - k = omega arith in
      let n : E * (k + 1) ≡ E * k + E = omega arith in
      let o : E * (s.at - k + k) ≡ E * (s.at - k) + E * k = mul-add E (s.at - k) k in
      let i : s.at - k + k ≡ s.at = omega arith in
      let j : base + E * k ≡ 1 + s.skip + E * s.at = omega (arith, o, ap (λ (x : ℕ). E * x) i) in
      ap₂ (λ (x y : ℕ). take x (drop (1 + s.skip + E * y) page)) n m ∙ take-add (E * k) E (drop base page)
      ∙ ap (λ (l : List ℕ). take (E * k) (drop base page) ++ take E l) (drop-drop (E * k) base page ∙ ap (λ (x : ℕ). drop x page) j)

  behind_none : (s : Slot) → bytes_behind g image s 0 ≡ []
  behind_none s = ap (λ (x : ℕ). take x (drop (1 + s.skip + entry_size g * (s.at - 0)) (page_of g s.page image))) (mul-zero (entry_size g))

  module _ (levels : ℕ) where
    -- at the first entry of a directory
    pub left_first : (start : ℕ) (s : Slot) (t : Items) → Begins g v start s → DirectoryAt g vs levels start t → Left g image levels s 0 (bare t)
    left_first start s t b S =
        let p = b S.chained.links S.chained.chain in
        let o = page_first s.page p.later t (sym S.chained.shape ∙ p.split) in
        record {
          passed = [];
          rest = o.rest;
          number = refl;
          ahead = subst (TokensAt g v s) (sym o.left) p.ahead;
          goes_on = λ h. absurd (omega arith);
          inside = omega arith;
          behind = behind_none s;
          below = subst (Below g vs levels) o.is S.below;
          is = ap bare o.is;
        }

    module _ {s : Slot} {stamps : ℕ} {b : Bare} (L : Left g image levels s stamps b) where
      open L use {passed, rest, number, ahead, goes_on, inside, behind, below, is}

      pub left_in : InDirectory g v s
      left_in = record { ts = tokens rest; ahead = ahead }

      -- few stamps wait: they are entries of the page
      pub left_few : s.at < s.count → stamps < 256
      left_few under = omega (arith, inside, slot_few fit.valid ahead.at_slot.fits)

      -- at the next entry: pages begin in between only where no stamp waits
      next_at : {at : Slot} → EntryAhead g v s (tokens rest) at → Left g image levels at stamps b
      next_at {at} a = go a.pages a.split a.reached
        where
          go : (ps : List ℕ) → tokens rest ≡ page_tokens ps ++ a.after → Reached s ps at → Left g image levels at stamps b
          go [] q r = subst (λ (x : Slot). Left g image levels x stamps b) (sym r) L
          go (p ∷ ps) q r = let z : stamps ≡ 0 = none_wait (eq-zero-or-pos stamps) in behind_pages z
            where
              none_wait : (stamps ≡ 0) ⊎ (0 < stamps) → stamps ≡ 0
              none_wait (inl z) = z
              none_wait (inr h) = absurd (page_not_followed ps a.after p (ap followed (sym q) ∙ goes_on h))

              behind_pages : stamps ≡ 0 → Left g image levels at stamps b
              behind_pages z =
                  let f = pages_first (p ∷ ps) a.after rest q in
                  let none : passed ≡ [] = no_members passed (number ∙ z) in
                  subst (λ (k : ℕ). Left g image levels at k b) (sym z) (record {
                    passed = [];
                    rest = f.rest;
                    number = refl;
                    ahead = subst (TokensAt g v at) (sym f.left) a.ahead;
                    goes_on = λ h. absurd (omega arith);
                    inside = omega arith;
                    behind = behind_none at;
                    below = below_pages g vs levels 0 (p ∷ ps) f.rest (subst (Below g vs levels) f.is below);
                    is = is ∙ ap (λ (ss : List Entry). bare (stamp_all ss rest)) none ∙ ap bare f.is ∙ bare_pages (p ∷ ps) f.rest;
                  })

      pub left_next : {at : Slot} → NextEntry g v s at → Left g image levels at stamps b
      left_next n = next_at (n.ahead (tokens rest) ahead)

      -- no entry is ahead
      pub left_end : NoEntry (tokens rest) → b ≡ bare_end
      left_end o = go (eq-zero-or-pos stamps)
        where
          go : (stamps ≡ 0) ⊎ (0 < stamps) → b ≡ bare_end
          go (inl z) = is ∙ ap (λ (ss : List Entry). bare (stamp_all ss rest)) (no_members passed (number ∙ z)) ∙ ap bare (only_pages o.pages rest o.are) ∙ bare_pages o.pages end
          go (inr h) = absurd (none_followed o.pages (ap followed (sym o.are) ∙ goes_on h))

      module _ (under : s.at < s.count) {e : Entry} (r : EntryAt g v s (tokens rest) e) where
        -- a stamp is passed
        pub left_stamp : extended e ≡ true → Left g image levels (advanced s) (stamps + 1) b
        left_stamp h = go (entry_first e r.later rest r.split)
          where
            go : EntryFirst e r.later rest → Left g image levels (advanced s) (stamps + 1) b
            go (stamped more q f left) = record {
              passed = passed ++ (e ∷ []);
              rest = more;
              number = length-append passed (e ∷ []) ∙ ap (λ (k : ℕ). k + 1) number;
              ahead = subst (TokensAt g v (advanced s)) (sym left) r.ahead;
              goes_on = λ _. ap followed left ∙ f;
              inside = omega (arith, inside);
              behind = behind_more s stamps inside ∙ ap₂ (λ (x y : List ℕ). x ++ y) behind (slot_bytes s under (tokens rest) e r.later ahead r.split) ∙ sym (row_last g.width passed e);
              below = (stamp_part g vs levels 0 e more (ap followed left ∙ f) (subst (Below g vs levels) q below)).1;
              is = is ∙ ap (λ (t : Items). bare (stamp_all passed t)) q ∙ ap bare (sym (stamp_last passed e more));
            }
            go (plain part more q entry_is left) = absurd (false≢true (sym (part_plain g vs levels 0 e part more (subst (Below g vs levels) q below)) ∙ h))

        -- an entry of its own: what it names, and what is left after it
        pub record Met : Type 0 where
          pub part : Part
          pub stands : PartAt g vs levels e part
          pub after : Bare
          pub made_of : b ≡ with_part passed e part after
          pub left : Left g image levels (advanced s) 0 after

        pub left_plain : extended e ≡ false → Met
        left_plain h = go (entry_first e r.later rest r.split)
          where
            go : EntryFirst e r.later rest → Met
            go (stamped more q f left) = absurd (false≢true (sym h ∙ (stamp_part g vs levels 0 e more (ap followed left ∙ f) (subst (Below g vs levels) q below)).0))
            go (plain part more q entry_is left) =
                let k = part_stands g vs levels 0 e part more entry_is (subst (Below g vs levels) q below) in
                record {
                  part = part;
                  stands = k.0;
                  after = bare more;
                  made_of = is ∙ ap (λ (t : Items). bare (stamp_all passed t)) q ∙ bare_part passed e part more;
                  left = record {
                    passed = [];
                    rest = more;
                    number = refl;
                    ahead = subst (TokensAt g v (advanced s)) (sym left) r.ahead;
                    goes_on = λ z. absurd (omega arith);
                    inside = omega arith;
                    behind = behind_none (advanced s);
                    below = k.1;
                    is = refl;
                  };
                }
