-- What an accepted walk has met: no page twice, each entry has a page, a directory's own pages are its chain's.
use Rattle.std.specs.Prelude.{◌≡◌, drop}
use Rattle.std.proofs.Math.Path.{refl, ap, subst}
use Rattle.std.proofs.Common.{◌∙◌, arith}
use mathlib.Core.List.{List, [], ◌∷◌, ◌++◌}
use Prim.Native.Nat.{ℕ, zero, suc, ◌+◌, ◌/◌, ◌≤◌}
use Rattle.std.proofs.Math.ListN.{length, length-append}
use Rattle.geometry.specs.declared.Geometry.{Geometry}
use Rattle.geometry.specs.ChooseLaws.{on_choose}
use Rattle.geometry.specs.Geometry.{entry_size, control_size}
use Rattle.rules.specs.declared.Entry.{Entry}
use Rattle.rules.specs.Result.{ok}
use Rattle.rules.proofs.ResultLaws.{ok_inj, clash, on_then, on_refuse}
use Rattle.rules.specs.PageSets.{count, range, Within}
use Rattle.rules.proofs.PageSetLaws.{count_append}
use Rattle.rules.specs.Chain.{Views, Link, link, pages, Test, any_page, walk}
use Rattle.rules.proofs.ChainLaws.{IsChain, length_pages, walk_sound}
use Rattle.rules.specs.Names.{key}
use Rattle.rules.specs.Tree.{Items, end, page, file, dir, file_entry, directory_entry, Token, new_page, entry, stamp_tokens, tokens, entries_in, link_tokens, own_pages, inner_pages, Map, map_pages, Image, used}
use Rattle.rules.specs.Control.{Parent, the_root, Head, root_page, sub_page}
use Rattle.rules.specs.Owners.{file_count, directory_count}
use Rattle.rules.proofs.StampLaws.{stamp_own, stamp_inner, stamp_files, stamp_directories}
use Rattle.rules.specs.Check.{Part, chain, directory, part_pages, add, Judge, Scan, judge_file, judge_entry, judge_entries, judge_directory, judge_sub, judge_map, scan, check, scan_with, judge_map_file}

-- the pages that tokens begin are those of the chain
abbrev pub token_pages : List Token → List ℕ
token_pages [] = []
token_pages (new_page p ∷ ts) = p ∷ token_pages ts
token_pages (entry e ∷ ts) = token_pages ts

pub pages_entries : (g : Geometry) (k : ℕ) (b : List ℕ) (ts : List Token) → token_pages (entries_in g k b ++ ts) ≡ token_pages ts
pages_entries g zero b ts = refl
pages_entries g (suc k) b ts = pages_entries g k (drop (entry_size g) b) ts

pub pages_tokens : (g : Geometry) (skip : ℕ) (ls : List Link) → token_pages (link_tokens g skip ls) ≡ pages ls
pages_tokens g skip [] = refl
pages_tokens g skip (link p b ∷ ls) =
    ap (λ (l : List ℕ). p ∷ l) (pages_entries g (length (drop skip b) / entry_size g) (drop skip b) (link_tokens g 0 ls) ∙ pages_tokens g 0 ls)

stamp_pages : (ss : List Entry) (ts : List Token) → token_pages ts ≡ token_pages (stamp_tokens ss ts)
stamp_pages [] ts = refl
stamp_pages (s ∷ ss) ts = stamp_pages ss ts

pub own_tokens : (t : Items) → own_pages t ≡ token_pages (tokens t)
own_tokens end = refl
own_tokens (page p t) = ap (λ (l : List ℕ). p ∷ l) (own_tokens t)
own_tokens (file l ls t) = own_tokens t ∙ stamp_pages l.stamps (entry (file_entry l ls) ∷ tokens t)
own_tokens (dir l d t) = own_tokens t ∙ stamp_pages l.stamps (entry (directory_entry l d) ∷ tokens t)

-- the entries that stand under an entry, with itself
abbrev pub entries_of : Part → ℕ
entries_of (chain ls) = 1
entries_of (directory d) = suc (file_count d + directory_count d)

pub add_clear : (e : Entry) (x : Part) (t : Items) (z : ℕ) → count z (inner_pages (add e x t)) ≡ count z (part_pages x) + count z (inner_pages t)
add_clear e (chain ls) t z = count_append z (pages ls) (inner_pages t)
add_clear e (directory d) t z = simp count_append (omega arith)

pub add_count : (e : Entry) (x : Part) (t : Items) → file_count (add e x t) + directory_count (add e x t) ≡ entries_of x + (file_count t + directory_count t)
add_count e (chain ls) t = omega arith
add_count e (directory d) t = omega arith

pub add_length : (e : Entry) (x : Part) (t : Items) → length (inner_pages (add e x t)) ≡ length (part_pages x) + length (inner_pages t)
add_length e (chain ls) t = length-append (pages ls) (inner_pages t)
add_length e (directory d) t = simp length-append (omega arith)

pub add_own : (e : Entry) (x : Part) (t : Items) → own_pages (add e x t) ≡ own_pages t
add_own e (chain ls) t = refl
add_own e (directory d) t = refl

module _ (g : Geometry) where
  -- of what stands under an entry: its pages are clear of the claimed ones and of each other, and each of its entries has a page
  pub record PartClear (claimed : List ℕ) (x : Part) : Type 0 where
    pub clear : (z : ℕ) → count z (part_pages x) + count z claimed ≤ count z (range g.pages)
    pub room : entries_of x ≤ length (part_pages x)

  -- of a directory's entries
  pub record EntriesClear (claimed : List ℕ) (ts : List Token) (t : Items) : Type 0 where
    pub clear : (z : ℕ) → count z (inner_pages t) + count z claimed ≤ count z (range g.pages)
    pub room : file_count t + directory_count t ≤ length (inner_pages t)
    pub own_pages_lem : own_pages t ≡ token_pages ts

  -- of a whole image: no page is in two chains or twice in one, every page is below N, and each entry, the root and each page of the bitmap file has its own
  pub record ImageClear (i : Image) : Type 0 where
    pub clear : Within g.pages (used i)
    pub room : file_count i.tree + directory_count i.tree + 1 + length (map_pages i.map) ≤ length (used i)

  abbrev pub JudgeSound : Judge → Type 0
  JudgeSound sub = (here : Parent) (claimed : List ℕ) (p : ℕ) (e : Entry) (d : Items) → Within g.pages claimed → sub here claimed p e ≡ ok d → PartClear claimed (directory d)

module _ (g : Geometry) (vs : Views) where
  -- of a directory: its chain, then its entries
  pub record DirectoryClear (test : Test) (claimed : List ℕ) (p start : ℕ) (t : Items) : Type 0 where
    pub links : List Link
    pub walked : walk g.pages vs.pages test (suc g.pages) 0 claimed p start ≡ ok links
    pub chain : IsChain g.pages vs.pages test 0 claimed start links
    pub own_pages_lem : own_pages t ≡ pages links
    pub clear : (z : ℕ) → count z (own_pages t) + count z (inner_pages t) + count z claimed ≤ count z (range g.pages)
    pub room : file_count t + directory_count t ≤ length (inner_pages t)
    pub some : 1 ≤ length (own_pages t)

  pub file_sound : (claimed : List ℕ) (p : ℕ) (e : Entry) (x : Part) → Within g.pages claimed → judge_file g vs (suc g.pages) claimed p e ≡ ok x → PartClear g claimed x
  unfolding judge_file
  file_sound claimed p e x fit q = on_refuse _ _ _ _ _ q λ g₁ q. on_then _ _ _ q λ ls w q. on_refuse _ _ _ _ _ q λ g₂ q.
      let c = walk_sound g.pages (vs.file e.extension) any_page (suc g.pages) 0 claimed p e.start ls fit w in
      subst (PartClear g claimed) (ok_inj q) (record { clear = c.clear; room = omega (arith, c.some, length_pages ls) })

  pub entry_sound : (sub : Judge) → JudgeSound g sub → (here : Parent) (claimed : List ℕ) (p : ℕ) (seen : List ℕ) (e : Entry) (x : Part)
      → Within g.pages claimed → judge_entry g vs (suc g.pages) sub here claimed p seen e ≡ ok x → PartClear g claimed x
  unfolding judge_entry
  entry_sound sub h here claimed p seen e x fit q =
      on_then _ _ _ q λ u g₁ q. on_refuse _ _ _ _ _ q λ g₂ q. on_choose _ _ _ _ q
      (λ k q. on_then _ _ _ q λ d w q. subst (PartClear g claimed) (ok_inj q) (h here claimed p e d fit w))
      (λ k q. file_sound claimed p e x fit q)

  pub entries_sound : (sub : Judge) → JudgeSound g sub → (here : Parent) (ts : List Token) (claimed : List ℕ) (p : ℕ) (seen : List ℕ) (t : Items)
      → Within g.pages claimed → judge_entries g vs (suc g.pages) sub here claimed p seen ts ≡ ok t → EntriesClear g claimed ts t
  unfolding judge_entries
  entries_sound sub h here [] claimed p seen t fit q =
      subst (EntriesClear g claimed []) (ok_inj q) (record { clear = λ z. omega (arith, fit z); room = omega arith; own_pages_lem = refl })
  entries_sound sub h here (new_page p' ∷ ts) claimed p seen t fit q = on_then _ _ _ q λ u d q.
      let i = entries_sound sub h here ts claimed p' seen u fit d in
      subst (EntriesClear g claimed (new_page p' ∷ ts)) (ok_inj q) (record { clear = i.clear; room = i.room; own_pages_lem = ap (λ (l : List ℕ). p' ∷ l) i.own_pages_lem })
  entries_sound sub h here (entry e ∷ ts) claimed p seen t fit q = on_choose _ _ _ _ q
      (λ k q. on_refuse _ _ _ _ _ q λ g₁ q. on_then _ _ _ q λ u w q.
      let i = entries_sound sub h here ts claimed p seen u fit w in
      subst (EntriesClear g claimed (entry e ∷ ts)) (ok_inj q) (record {
        clear = λ z. rw (stamp_inner e u) (i.clear z);
        room = omega (arith, i.room, stamp_files e u, stamp_directories e u, ap length (stamp_inner e u));
        own_pages_lem = stamp_own e u ∙ i.own_pages_lem;
      }))
      (λ k q. on_then _ _ _ q λ x d q. on_then _ _ _ q λ u w q.
      let j = entry_sound sub h here claimed p seen e x fit d in
      let i = entries_sound sub h here ts (part_pages x ++ claimed) p (key e.name e.extension ∷ seen) u (λ z. simp count_append (j.clear z)) w in
      subst (EntriesClear g claimed (entry e ∷ ts)) (ok_inj q) (record {
        clear = λ z. omega (arith, simp count_append at (i.clear z), add_clear e x u z);
        room = omega (arith, j.room, i.room, add_count e x u, add_length e x u);
        own_pages_lem = add_own e x u ∙ i.own_pages_lem;
      }))

  pub directory_sound : (sub : Judge) → JudgeSound g sub → (test : Test) (here : Parent) (claimed : List ℕ) (p : ℕ) (t : Items)
      → Within g.pages claimed → judge_directory g vs (suc g.pages) sub test here claimed p ≡ ok t → DirectoryClear test claimed p here.start t
  unfolding judge_directory
  directory_sound sub h test here claimed p t fit q = on_then _ _ _ q λ ls w q.
      let c = walk_sound g.pages vs.pages test (suc g.pages) 0 claimed p here.start ls fit w in
      let i = entries_sound sub h here (link_tokens g (control_size g) ls) (pages ls ++ claimed) here.start [] t (λ z. simp count_append (c.clear z)) q in
      let o : own_pages t ≡ pages ls = i.own_pages_lem ∙ pages_tokens g (control_size g) ls in
      record {
        links = ls;
        walked = w;
        chain = c;
        own_pages_lem = o;
        clear = λ z. omega (arith, simp count_append at (i.clear z), ap (count z) o);
        room = i.room;
        some = omega (arith, c.some, length_pages ls, ap length o);
      }

  pub directory_part : (test : Test) (claimed : List ℕ) (p start : ℕ) (t : Items) → DirectoryClear test claimed p start t → PartClear g claimed (directory t)
  directory_part test claimed p start t d = record { clear = λ z. simp count_append (d.clear z); room = simp length-append (omega (arith, d.room, d.some)) }

  pub sub_sound : (levels : ℕ) → JudgeSound g (judge_sub g vs (suc g.pages) levels)
  unfolding judge_sub
  sub_sound zero here claimed p e d fit q = clash q
  sub_sound (suc levels) here claimed p e d fit q = on_refuse _ _ _ _ _ q λ g₁ q. on_refuse _ _ _ _ _ q λ g₂ q.
      directory_part (sub_page g here) claimed p e.start d
      (directory_sound (judge_sub g vs (suc g.pages) levels) (sub_sound levels) (sub_page g here) (record { name = e.name; start = e.start }) claimed p d fit q)

  -- the bitmap file's pages
  pub map_sound : (h : Head) (m : Map) → judge_map g vs (suc g.pages) h ≡ ok m → Within g.pages (map_pages m)
  unfolding judge_map judge_map_file
  map_sound h m q = on_choose _ _ _ _ q
      (λ k q. subst (λ (m : Map). Within g.pages (map_pages m)) (ok_inj q) (λ z. omega arith))
      (λ k q. on_refuse _ _ _ _ _ q λ g₁ q. on_then _ _ _ q λ ls w q. on_refuse _ _ _ _ _ q λ g₂ q. on_refuse _ _ _ _ _ q λ g₃ q.
      let c = walk_sound g.pages vs.pages any_page (suc g.pages) 0 [] 0 _ ls (λ z. omega arith) w in
      subst (λ (m : Map). Within g.pages (map_pages m)) (ok_inj q) (λ z. omega (arith, c.clear z)))

  pub scan_sound : (s : Scan) → scan g vs ≡ ok s → ImageClear g s.image
  unfolding scan scan_with
  scan_sound s q = on_then _ _ _ q λ x a q. on_then _ _ _ q λ h b q. on_then _ _ _ q λ m c q. on_then _ _ _ q λ t d q.
      let f = map_sound h m c in
      let r = directory_sound (judge_sub g vs (suc g.pages) 8) (sub_sound 8) (root_page g) the_root (map_pages m) 0 t f d in
      subst (λ (s : Scan). ImageClear g s.image) (ok_inj q) (record {
        clear = λ z. simp count_append (r.clear z);
        room = simp length-append (omega (arith, r.room, r.some));
      })

  -- of an accepted image
  pub check_sound : (i : Image) → check g vs ≡ ok i → ImageClear g i
  unfolding check
  check_sound i q = on_then _ _ _ q λ s a q. on_then _ _ _ q λ u b q. subst (ImageClear g) (ok_inj q) (scan_sound s a)
