-- Soundness of the check, directory by directory: what is accepted stands in the view as it must.
use Rattle.std.specs.Prelude.{◌≡◌, refl, true, length}
use Rattle.std.proofs.Math.Path.{ap, subst}
use Rattle.std.proofs.Common.{ap₂, sym, ◌∙◌, arith}
use mathlib.Core.List.{List, [], ◌∷◌, ◌++◌}
use Prim.Native.Nat.{ℕ, zero, suc, ◌+◌, ◌≤◌}
use borrow.Author.Tests.{eqb-true}
use Rattle.geometry.specs.declared.Geometry.{Geometry}
use Rattle.geometry.specs.ChooseLaws.{on_choose}
use Rattle.geometry.specs.Geometry.{control_size}
use Rattle.packet.specs.Packet.{good}
use Rattle.rules.specs.declared.Entry.{Entry}
use Rattle.rules.specs.Result.{ok}
use Rattle.rules.proofs.ResultLaws.{ok_inj, clash, on_then, on_refuse}
use Rattle.rules.specs.PageSets.{count, range, Once, Within}
use Rattle.rules.proofs.PageSetLaws.{count_append, free_test}
use Rattle.rules.specs.Chain.{Views, Link, link, pages, first, linked, Test, any_page}
use Rattle.rules.proofs.ChainLaws.{Passes, IsChain, walk_sound}
use Rattle.rules.specs.Names.{key, valid_name, file_number, directory_number, extended}
use Rattle.rules.specs.Tree.{Label, label_of, Items, end, page, file, dir, start_of, own_pages, inner_pages, all_pages, keys, Token, new_page, entry, tokens, token_links, directory_links, link_tokens}
use Rattle.rules.specs.Control.{Parent, sub_control, sub_page}
use Rattle.rules.specs.WellFormed.{HasPackets, HasBelow, EntryFits, Named, Entries}
use Rattle.rules.specs.Check.{Part, chain, directory, part_pages, add, stamp_label, stamp, followed, Judge, judge_file, judge_entry, judge_entries, judge_directory, judge_sub}
use Rattle.rules.proofs.StampLaws.{stamp_tokens_lem, stamp_keys, stamp_inner}
use Rattle.reading_theorems.specs.TokenLaws.{TokensFit, WholePages, Opens, links_begin, links_fit, links_back}
use Rattle.reading_theorems.specs.LabelLaws.{label_sound}
use Rattle.reading_theorems.specs.PacketLaws.{ByteView}
use Rattle.reading_theorems.specs.ControlLaws.{whole_inv}
use Rattle.reading_theorems.specs.SubControlLaws.{sub_sound as sub-control-sound}
use Rattle.reading_theorems.specs.Directory.{DirectoryHolds, SubHolds, LaterWhole, FirstReads, own_links, all_split, directory_of, start_of_lem, once_cons, sub_later}

module _ (g : Geometry) (vs : Views) where
  -- what a walk over entries that accepts has met
  pub record EntriesHold (levels : ℕ) (here : Parent) (claimed seen : List ℕ) (ts : List Token) (t : Items) : Type 0 where
    pub shape : tokens t ≡ ts
    pub names : (x : ℕ) → count x (keys t) + count x seen ≤ 1
    pub entries : Entries g.width levels t
    pub below : HasBelow g vs here t
    pub clear : (x : ℕ) → count x (inner_pages t) + count x claimed ≤ count x (range g.pages)

  abbrev pub SubSound : ℕ → Judge → Type 0
  SubSound levels sub = (up : Parent) (claimed : List ℕ) (p : ℕ) (e : Entry) (d : Items) → Within g.pages claimed → sub up claimed p e ≡ ok d
      → SubHolds g vs levels up e.name e.start claimed d × (e.pages ≡ 0)

  -- what stands under an entry: a file's chain, or a subdirectory
  abbrev PartHolds : ℕ → Parent → List ℕ → Entry → Part → Type 0
  PartHolds levels here claimed e (chain ls) =
      IsChain g.pages (vs.file e.extension) any_page 0 claimed e.start ls × (e.pages ≡ length ls) × (file_number e.extension ≡ true)
  PartHolds levels here claimed e (directory d) =
      SubHolds g vs levels here e.name e.start claimed d × (e.pages ≡ 0) × (directory_number e.extension ≡ true)

  same_entry : (e : Entry) (start pages : ℕ) → start ≡ e.start → e.pages ≡ pages
      → ◌≡◌ {A = Entry} (record { name = e.name; extension = e.extension; start = start; pages = pages }) e
  same_entry e start pages p q = λ j. record { name = e.name; extension = e.extension; start = p j; pages = sym q j }

  module _ (levels : ℕ) (here : Parent) (claimed : List ℕ) (e : Entry) where
    -- ---- one entry
    file_sound : (p : ℕ) (x : Part) → Within g.pages claimed → file_number e.extension ≡ true → judge_file g vs (suc g.pages) claimed p e ≡ ok x
        → PartHolds levels here claimed e x
    unfolding judge_file
    file_sound p x fit k q = on_refuse _ _ _ _ _ q λ g₁ q. on_then _ _ _ q λ ls w q. on_refuse _ _ _ _ _ q λ g₂ q.
        let c = walk_sound g.pages (vs.file e.extension) any_page (suc g.pages) 0 claimed p e.start ls fit w in
        subst (PartHolds levels here claimed e) (ok_inj q) (c, eqb-true _ _ g₂, k)

    entry_sound : (sub : Judge) → SubSound levels sub → (p : ℕ) (seen : List ℕ) (x : Part) → Within g.pages claimed
        → judge_entry g vs (suc g.pages) sub here claimed p seen e ≡ ok x
        → (valid_name e.name ≡ true) × (count (key e.name e.extension) seen ≡ 0) × PartHolds levels here claimed e x
    unfolding judge_entry
    entry_sound sub h p seen x fit q = on_then _ _ _ q λ u g₁ q. on_refuse _ _ _ _ _ q λ g₂ q.
        let l = label_sound p e g₁ in (
          l.0,
          free_test _ seen g₂,
          on_choose _ _ _ _ q
              (λ k q. on_then _ _ _ q λ d w q. let j = h here claimed p e d fit w in subst (PartHolds levels here claimed e) (ok_inj q) (j.0, j.1, k))
              (λ k q. file_sound p x fit (l.1 k) q),
        )

    part_clear : (x : Part) → PartHolds levels here claimed e x → Within g.pages (part_pages x ++ claimed)
    part_clear (chain ls) h z = omega (arith, count_append z (pages ls) claimed, h.0.clear z)
    part_clear (directory d) h z = omega (arith, count_append z (all_pages d) claimed, h.0.clear z)

    -- ---- one entry more in front
    hold_add : (seen : List ℕ) (x : Part) (ts : List Token) (t : Items) → Named g.width (label_of e) → PartHolds levels here claimed e x
        → EntriesHold levels here (part_pages x ++ claimed) (key e.name e.extension ∷ seen) ts t
        → EntriesHold levels here claimed seen (entry e ∷ ts) (add e x t)
    hold_add seen (chain ls) ts t n h i = record {
      shape = ap₂ (λ (y : Entry) (l : List Token). entry y ∷ l) (same_entry e (first ls) (length ls) h.0.start h.1) i.shape;
      names = λ z. omega (arith, i.names z);
      entries = (n, h.2, h.0.some, i.entries);
      below = (h.0.packets, i.below);
      clear = λ z. simp count_append (omega (arith, simp count_append at (i.clear z)));
    }
    hold_add seen (directory d) ts t n h i =
        let there : ℕ → Parent = λ s. record { name = e.name; start = s } in
        let b : HasBelow g vs (there (start_of d)) d = subst (λ (s : ℕ). HasBelow g vs (there s) d) (sym h.0.start) h.0.below in
        record {
          shape = ap₂ (λ (y : Entry) (l : List Token). entry y ∷ l) (same_entry e (start_of d) 0 h.0.start h.1) i.shape;
          names = λ z. omega (arith, i.names z);
          entries = (n, h.2, h.0.is_directory, h.0.names, h.0.entries, i.entries);
          below = (h.0.chain, b, i.below);
          clear = λ z. simp count_append (omega (arith, simp count_append at (i.clear z)));
        }

  -- ---- one stamp more in front
  module _ (levels : ℕ) (here : Parent) (s : Entry) where
    stamp_named : (l : Label) → extended s ≡ true → EntryFits g.width s → Named g.width l → Named g.width (stamp_label s l)
    stamp_named l x f n = record { four = n.four; valid = n.valid; byte = n.byte; stamps = (x, f, n.stamps) }

    stamp_entries : (t : Items) → extended s ≡ true → EntryFits g.width s → Entries g.width levels t → Entries g.width levels (stamp s t)
    stamp_entries end x f w = w
    stamp_entries (page p t) x f w = w
    stamp_entries (file l ls t) x f w = (stamp_named l x f w.0, w.1, w.2, w.3)
    stamp_entries (dir l d t) x f w = (stamp_named l x f w.0, w.1, w.2, w.3, w.4, w.5)

    stamp_below : (t : Items) → HasBelow g vs here t → HasBelow g vs here (stamp s t)
    stamp_below end h = h
    stamp_below (page p t) h = h
    stamp_below (file l ls t) h = h
    stamp_below (dir l d t) h = h

    hold_stamp : (claimed seen : List ℕ) (ts : List Token) (t : Items) → extended s ≡ true → EntryFits g.width s → followed ts ≡ true
        → EntriesHold levels here claimed seen ts t → EntriesHold levels here claimed seen (entry s ∷ ts) (stamp s t)
    hold_stamp claimed seen ts t x f c i = record {
      shape = stamp_tokens_lem s t (rw i.shape c) ∙ ap (λ (l : List Token). entry s ∷ l) i.shape;
      names = rw (stamp_keys s t) i.names;
      entries = stamp_entries t x f i.entries;
      below = stamp_below t i.below;
      clear = rw (stamp_inner s t) i.clear;
    }

  module _ (levels : ℕ) (sub : Judge) (h : SubSound levels sub) (here : Parent) where
    pub entries_sound : (ts : List Token) (claimed : List ℕ) (p : ℕ) (seen : List ℕ) (t : Items) → Within g.pages claimed → Once seen
        → TokensFit g.width ts → judge_entries g vs (suc g.pages) sub here claimed p seen ts ≡ ok t → EntriesHold levels here claimed seen ts t
    unfolding judge_entries
    entries_sound [] claimed p seen t fit o f q = subst (EntriesHold levels here claimed seen []) (ok_inj q)
        (record { shape = refl; names = λ z. omega (arith, o z); entries = tt; below = tt; clear = λ z. omega (arith, fit z) })
    entries_sound (new_page p' ∷ ts) claimed p seen t fit o f q = on_then _ _ _ q λ u d q.
        let i = entries_sound ts claimed p' seen u fit o f d in
        let s = ap (λ (l : List Token). new_page p' ∷ l) i.shape in
        subst (EntriesHold levels here claimed seen (new_page p' ∷ ts)) (ok_inj q)
        (record { shape = s; names = i.names; entries = i.entries; below = i.below; clear = i.clear })
    entries_sound (entry e ∷ ts) claimed p seen t fit o f q = on_choose _ _ _ _ q
        (λ b q. on_refuse _ _ _ _ _ q λ c q. on_then _ _ _ q λ u w q.
        let i = entries_sound ts claimed p seen u fit o f.1 w in
        subst (EntriesHold levels here claimed seen (entry e ∷ ts)) (ok_inj q) (hold_stamp levels here e claimed seen ts u b f.0 c i))
        (λ b q. on_then _ _ _ q λ x d q. on_then _ _ _ q λ u w q.
        let k = key e.name e.extension in
        let j = entry_sound levels here claimed e sub h p seen x fit d in
        let c = part_clear levels here claimed e x j.2 in
        let i = entries_sound ts (part_pages x ++ claimed) p (k ∷ seen) u c (once_cons k seen j.1 o) f.1 w in
        subst (EntriesHold levels here claimed seen (entry e ∷ ts)) (ok_inj q)
        (hold_add levels here claimed e seen x ts u (record { four = f.0.four; valid = j.0; byte = f.0.byte; stamps = tt }) j.2 i))

  -- ---- a directory: its pages are bytes with whole entries, and its entries hold
  module _ (bv : ByteView g vs.pages) where
    module _ (test : Test) (later : LaterWhole g test) where
      later_whole : (i : ℕ) (ls : List Link) → HasPackets vs.pages (linked ls) → Passes test (suc i) ls → WholePages g 0 ls
      later_whole i [] s u = tt
      later_whole i (link p b ∷ ls) s u = (bv.bytes p b (first ls) s.0, whole_inv g p b (sym (later i p b) ∙ u.0), later_whole (suc i) ls s.1 u.1)

      chain_whole : (control claimed : List ℕ) (p : ℕ) (ls : List Link) → FirstReads g vs.pages test control p → IsChain g.pages vs.pages test 0 claimed p ls
          → WholePages g (control_size g) ls × Opens (control_size g) control ls
      chain_whole control claimed p [] f c = (tt, tt)
      chain_whole control claimed p (link q b ∷ ls) f c =
          let s : vs.pages p ≡ good b (first ls) = rw c.start at c.packets.0 in
          let u : test 0 p b ≡ ok tt = rw c.start at c.passes.0 in
          let r = f b (first ls) s u in
          ((bv.bytes p b (first ls) s, r.1, later_whole 0 ls c.packets.1 c.passes.1), r.0)

    hold_whole : (levels : ℕ) (test : Test) (control : List ℕ) (here : Parent) (claimed : List ℕ) (ls : List Link) (t : Items)
        → IsChain g.pages vs.pages test 0 claimed here.start ls → token_links g.width control (link_tokens g (control_size g) ls) ≡ ls
        → EntriesHold levels here (pages ls ++ claimed) [] (link_tokens g (control_size g) ls) t → DirectoryHolds g vs (suc levels) control here claimed t
    hold_whole levels test control here claimed ls t c k m =
        let o : directory_links g control t ≡ ls = ap (token_links g.width control) m.shape ∙ k in
        let i = directory_of g control t (rw m.shape (links_begin g (control_size g) ls)) (rw o c.some) in
        let y : (z : ℕ) → count z (own_pages t) ≡ count z (pages ls) = λ z. ap (count z) (sym (own_links g control t) ∙ ap pages o) in
        record {
          is_directory = i;
          start = start_of_lem g control t i ∙ ap first o ∙ c.start;
          names = λ z. omega (arith, m.names z);
          entries = m.entries;
          chain = rw o c.packets;
          below = m.below;
          clear = λ z. omega (arith, simp count_append at (m.clear z), all_split z t, y z);
        }

    pub directory_sound : (levels : ℕ) (sub : Judge) → SubSound levels sub → (test : Test) (control : List ℕ) (here : Parent)
        → LaterWhole g test → FirstReads g vs.pages test control here.start → (claimed : List ℕ) (p : ℕ) (t : Items) → Within g.pages claimed
        → judge_directory g vs (suc g.pages) sub test here claimed p ≡ ok t → DirectoryHolds g vs (suc levels) control here claimed t
    unfolding judge_directory
    directory_sound levels sub h test control here l f claimed p t fit q = on_then _ _ _ q λ ls w q.
        let skip = control_size g in
        let c = walk_sound g.pages vs.pages test (suc g.pages) 0 claimed p here.start ls fit w in
        let r = chain_whole test l control claimed here.start ls f c in
        let fit' : Within g.pages (pages ls ++ claimed) = λ z. simp count_append (c.clear z) in
        hold_whole levels test control here claimed ls t c (links_back g skip control ls r.0 r.1)
        (entries_sound levels sub h here (link_tokens g skip ls) (pages ls ++ claimed) here.start [] t fit' (λ z. omega arith) (links_fit g skip ls r.0) q)

    pub sub_sound : (levels : ℕ) → SubSound levels (judge_sub g vs (suc g.pages) levels)
    unfolding judge_sub
    sub_sound zero up claimed p e d fit q = clash q
    sub_sound (suc levels) up claimed p e d fit q = on_refuse _ _ _ _ _ q λ g₁ q. on_refuse _ _ _ _ _ q λ g₂ q.
        let control = sub_control g.width up in
        let f : FirstReads g vs.pages (sub_page g up) control e.start = λ b next s u. sub-control-sound g up e.start b (bv.bytes e.start b next s) u in
        let here : Parent = record { name = e.name; start = e.start } in
        let k = directory_sound levels (judge_sub g vs (suc g.pages) levels) (sub_sound levels) (sub_page g up) control here (sub_later g up) f claimed p d fit q in
        (k, eqb-true _ _ g₁)
