-- What an accepted image has: the chain of every directory and file stands, level by level.
use mathlib.Core.Path.{◌≡◌, refl, ap, ap₂, sym, ◌∙◌, subst}
use mathlib.Core.Bool.{true, false}
use mathlib.Core.List.{List, [], ◌∷◌, ◌++◌}
use Prim.Native.Nat.{ℕ, zero, suc, ◌%◌, ◌≤◌}
use native.Mathlib.Omega.{arith}
use lib.ListN.{length}
use borrow.Author.Tests.{eqb-true, ltb-false}
use Rattle.geometry.specs.declared.Geometry.{Geometry}
use Rattle.geometry.specs.ChooseLaws.{on_choose}
use Rattle.geometry.specs.Geometry.{control_size}
use Rattle.rules.specs.declared.Entry.{Entry}
use Rattle.rules.specs.Result.{ok}
use Rattle.rules.proofs.ResultLaws.{ok_inj, clash, on_then, on_refuse}
use Rattle.rules.specs.PageSets.{Within}
use Rattle.rules.proofs.PageSetLaws.{count_append}
use Rattle.rules.specs.Chain.{Views, Link, link, pages, first, Test, any_page}
use Rattle.rules.proofs.ChainLaws.{walk_sound}
use Rattle.rules.specs.Names.{key, directory_number, extended}
use Rattle.rules.specs.Tree.{Items, end, page, file, dir, start_of, Token, new_page, entry, tokens, link_tokens, map_pages, Image}
use Rattle.rules.proofs.TreeLaws.{page_first}
use Rattle.rules.specs.Control.{Parent, the_root, root_page, sub_page}
use Rattle.rules.specs.WellFormed.{Under}
use Rattle.rules.specs.Check.{Part, chain, directory, part_pages, add, stamp, followed, Judge, Scan, judge_file, judge_entry, judge_entries, judge_directory, judge_sub, scan, check, scan_with}
use Rattle.rules.proofs.StampLaws.{stamp_tokens_lem}
use Rattle.rules.proofs.Soundness.{JudgeSound, entry_sound, sub_sound, map_sound}
use Rattle.listing.specs.KnownTree.{Chained, Below, DirectoryAt, PartAt}
use Rattle.chain.specs.KnownChain.{ChainAt}
use Rattle.chain.proofs.Following.{chain_at_lem}

-- a directory begins at its start page
start_page : (t : Items) (p : ℕ) (ts : List Token) → new_page p ∷ ts ≡ tokens t → start_of t ≡ p
start_page t p ts q = ap start_of (page_first p ts t (sym q)).is

-- a plain entry's first byte
low_name : (e : Entry) → extended e ≡ false → e.name % 256 ≤ 127
unfolding extended
low_name e k = ltb-false 127 (e.name % 256) k

module _ (g : Geometry) (vs : Views) where
  starts : (start : ℕ) (t : Items) → Chained g vs.pages start t → start_of t ≡ start
  starts start t c = go c.links c.chain c.shape
    where
      go : (ls : List Link) → ChainAt g vs.pages start ls → link_tokens g (control_size g) ls ≡ tokens t → start_of t ≡ start
      go [] d q = absurd (omega (arith, d.some))
      go (link p b ∷ ls) d q = start_page t p _ q ∙ d.begins

  abbrev SubdirectoriesAt : ℕ → Judge → Type 0
  SubdirectoriesAt levels sub = (here : Parent) (claimed : List ℕ) (p : ℕ) (e : Entry) (d : Items) → Within g.pages claimed → sub here claimed p e ≡ ok d
      → (start_of d ≡ e.start) × (e.pages ≡ 0) × Under levels (λ less. DirectoryAt g vs less e.start d)

  same_entry : (e : Entry) (start pages : ℕ) → start ≡ e.start → pages ≡ e.pages
      → ◌≡◌ {A = Entry} (record { name = e.name; extension = e.extension; start = start; pages = pages }) e
  same_entry e start pages p q = λ j. record { name = e.name; extension = e.extension; start = p j; pages = q j }

  -- ---- one entry
  module _ (levels : ℕ) (e : Entry) where
    file_stands : (claimed : List ℕ) (p : ℕ) (x : Part) → Within g.pages claimed → directory_number e.extension ≡ false → judge_file g vs (suc g.pages) claimed p e ≡ ok x → PartAt g vs levels e x
    unfolding judge_file
    file_stands claimed p x fit k q = on_refuse _ _ _ _ _ q λ g₁ q. on_then _ _ _ q λ ls w q. on_refuse _ _ _ _ _ q λ g₂ q.
        let c = walk_sound g.pages (vs.file e.extension) any_page (suc g.pages) 0 claimed p e.start ls fit w in
        subst (PartAt g vs levels e) (ok_inj q) (chain_at_lem g (vs.file e.extension) any_page claimed e.start ls c, eqb-true _ _ g₂, k)

    entry_stands : (sub : Judge) → SubdirectoriesAt levels sub → (here : Parent) (claimed : List ℕ) (p : ℕ) (seen : List ℕ) (x : Part) → Within g.pages claimed
        → judge_entry g vs (suc g.pages) sub here claimed p seen e ≡ ok x → PartAt g vs levels e x
    unfolding judge_entry
    entry_stands sub h here claimed p seen x fit q =
        on_then _ _ _ q λ u g₁ q. on_refuse _ _ _ _ _ q λ g₂ q. on_choose _ _ _ _ q
        (λ k q. on_then _ _ _ q λ d w q. let j = h here claimed p e d fit w in subst (PartAt g vs levels e) (ok_inj q) (j.0, j.1, k, j.2))
        (λ k q. file_stands claimed p x fit k q)

  under_chained : (levels start : ℕ) (d : Items) → Under levels (λ less. DirectoryAt g vs less start d) → Chained g vs.pages start d
  under_chained zero start d h = absurd h
  under_chained (suc levels) start d h = h.chained

  under_below : (levels start : ℕ) (d : Items) → Under levels (λ less. DirectoryAt g vs less start d) → Under levels (λ less. Below g vs less d)
  under_below zero start d h = h
  under_below (suc levels) start d h = h.below

  add_stands : (levels : ℕ) (e : Entry) (x : Part) (ts : List Token) (t : Items) → extended e ≡ false → PartAt g vs levels e x → tokens t ≡ ts → Below g vs levels t
      → (tokens (add e x t) ≡ entry e ∷ ts) × Below g vs levels (add e x t)
  add_stands levels e (chain ls) ts t k h q b = (
    ap₂ (λ (y : Entry) (l : List Token). entry y ∷ l) (same_entry e (first ls) (length ls) h.0.begins (sym h.1)) q,
    (subst (λ (p : ℕ). ChainAt g (vs.file e.extension) p ls) (sym h.0.begins) h.0, h.2, b, (tt, low_name e k)),
  )
  add_stands levels e (directory d) ts t k h q b = (
    ap₂ (λ (y : Entry) (l : List Token). entry y ∷ l) (same_entry e (start_of d) 0 h.0 (sym h.1)) q,
    (subst (λ (p : ℕ). Chained g vs.pages p d) (sym h.0) (under_chained levels e.start d h.3), h.2, under_below levels e.start d h.3, b, (tt, low_name e k)),
  )

  -- one stamp more before the first entry
  stamp_stands : (levels : ℕ) (e : Entry) (t : Items) → extended e ≡ true → followed (tokens t) ≡ true → Below g vs levels t → Below g vs levels (stamp e t)
  stamp_stands levels e end x f b = b
  stamp_stands levels e (page p t) x f b = b
  stamp_stands levels e (file l ls t) x f b = (b.0, b.1, b.2, ((x, b.3.0), b.3.1))
  stamp_stands levels e (dir l d t) x f b = (b.0, b.1, b.2, b.3, ((x, b.4.0), b.4.1))

  -- ---- a directory's entries, a directory, a subdirectory
  module _ (levels : ℕ) (sub : Judge) (s : JudgeSound g sub) (h : SubdirectoriesAt levels sub) (here : Parent) where
    entries_stand : (ts : List Token) (claimed : List ℕ) (p : ℕ) (seen : List ℕ) (t : Items) → Within g.pages claimed → judge_entries g vs (suc g.pages) sub here claimed p seen ts ≡ ok t
        → (tokens t ≡ ts) × Below g vs levels t
    unfolding judge_entries
    entries_stand [] claimed p seen t fit q = subst (λ (t : Items). (tokens t ≡ []) × Below g vs levels t) (ok_inj q) (refl, tt)
    entries_stand (new_page p' ∷ ts) claimed p seen t fit q = on_then _ _ _ q λ u d q.
        let i = entries_stand ts claimed p' seen u fit d in
        subst (λ (t : Items). (tokens t ≡ new_page p' ∷ ts) × Below g vs levels t) (ok_inj q) (ap (λ (l : List Token). new_page p' ∷ l) i.0, i.1)
    entries_stand (entry e ∷ ts) claimed p seen t fit q = on_choose _ _ _ _ q
        (λ x q. on_refuse _ _ _ _ _ q λ f q. on_then _ _ _ q λ u w q.
        let i = entries_stand ts claimed p seen u fit w in
        let f' : followed (tokens u) ≡ true = ap followed i.0 ∙ f in
        subst (λ (t : Items). (tokens t ≡ entry e ∷ ts) × Below g vs levels t) (ok_inj q)
        (stamp_tokens_lem e u f' ∙ ap (λ (l : List Token). entry e ∷ l) i.0, stamp_stands levels e u x f' i.1))
        (λ y q. on_then _ _ _ q λ x d q. on_then _ _ _ q λ u w q.
        let k = entry_sound g vs sub s here claimed p seen e x fit d in
        let j = entry_stands levels e sub h here claimed p seen x fit d in
        let i = entries_stand ts (part_pages x ++ claimed) p (key e.name e.extension ∷ seen) u (λ z. simp count_append (k.clear z)) w in
        subst (λ (t : Items). (tokens t ≡ entry e ∷ ts) × Below g vs levels t) (ok_inj q) (add_stands levels e x ts u y j i.0 i.1))

    directory_stands : (test : Test) (claimed : List ℕ) (p : ℕ) (t : Items) → Within g.pages claimed → judge_directory g vs (suc g.pages) sub test here claimed p ≡ ok t → DirectoryAt g vs levels here.start t
    unfolding judge_directory
    directory_stands test claimed p t fit q = on_then _ _ _ q λ ls w q.
        let c = walk_sound g.pages vs.pages test (suc g.pages) 0 claimed p here.start ls fit w in
        let i = entries_stand (link_tokens g (control_size g) ls) (pages ls ++ claimed) here.start [] t (λ z. simp count_append (c.clear z)) q in
        record { chained = record { links = ls; chain = chain_at_lem g vs.pages test claimed here.start ls c; shape = sym i.0 }; below = i.1 }

  sub_stands : (levels : ℕ) → SubdirectoriesAt levels (judge_sub g vs (suc g.pages) levels)
  unfolding judge_sub
  sub_stands zero here claimed p e d fit q = clash q
  sub_stands (suc levels) here claimed p e d fit q = on_refuse _ _ _ _ _ q λ g₁ q. on_refuse _ _ _ _ _ q λ g₂ q.
      let i = directory_stands levels (judge_sub g vs (suc g.pages) levels) (sub_sound g vs levels) (sub_stands levels) (record { name = e.name; start = e.start }) (sub_page g here) claimed p d fit q in
      (starts e.start d i.chained, eqb-true _ _ g₁, i)

  scan_stands : (s : Scan) → scan g vs ≡ ok s → DirectoryAt g vs 8 0 s.image.tree
  unfolding scan scan_with
  scan_stands s q = on_then _ _ _ q λ x a q. on_then _ _ _ q λ h b q. on_then _ _ _ q λ m c q. on_then _ _ _ q λ t d q.
      subst (λ (s : Scan). DirectoryAt g vs 8 0 s.image.tree) (ok_inj q)
      (directory_stands 8 (judge_sub g vs (suc g.pages) 8) (sub_sound g vs 8) (sub_stands 8) the_root (root_page g) (map_pages m) 0 t (map_sound g vs h m c) d)

  -- an accepted image's tree stands from page 0 on
  pub accepted_stands : (i : Image) → check g vs ≡ ok i → DirectoryAt g vs 8 0 i.tree
  unfolding check
  accepted_stands i q = on_then _ _ _ q λ s a q. on_then _ _ _ q λ u b q. subst (λ (i : Image). DirectoryAt g vs 8 0 i.tree) (ok_inj q) (scan_stands s a)
