-- Completeness of the check, directory by directory: what stands in the view as it must is accepted.
use Rattle.std.specs.Prelude.{◌≡◌, true, leb, length}
use Rattle.std.proofs.Math.Path.{refl, ap}
use Rattle.std.proofs.Common.{sym, ◌∙◌, arith}
use mathlib.Core.List.{List, [], ◌∷◌, ◌++◌}
use Prim.Native.Nat.{ℕ, zero, suc, ◌+◌, ◌^◌, ◌≤◌, ◌<◌}
use borrow.Author.Tests.{leb-true, eq-eqb, lt-ltb}
use Rattle.geometry.specs.declared.Geometry.{Geometry}
use Rattle.geometry.specs.ChooseLaws.{on_choose, choose_true, choose_false}
use Rattle.geometry.specs.Geometry.{width_for, control_size, Valid}
use Rattle.rules.specs.Result.{ok}
use Rattle.rules.proofs.ResultLaws.{then_ok, refuse_true}
use Rattle.rules.specs.PageSets.{hit, count, range, Within}
use Rattle.rules.proofs.PageSetLaws.{hit_same, count_append, range_le, range_of, within_length, within_cons, free_true}
use Rattle.rules.specs.Chain.{Views, Link, link, pages, first, Test, any_page}
use Rattle.rules.proofs.ChainLaws.{Passes, IsChain, first_nonzero, length_pages, any_passes, walk_accepts}
use Rattle.rules.specs.Names.{file_number, directory_number}
use Rattle.rules.specs.Tree.{Label, key_of, file_entry, directory_entry, Items, end, page, file, dir, start_of, own_pages, inner_pages, all_pages, keys}
use Rattle.rules.specs.Tree.{Token, new_page, entry, tokens, token_bytes, token_links, directory_links, stamp_tokens}
use Rattle.rules.specs.Control.{Parent, sub_control, sub_page}
use Rattle.rules.specs.WellFormed.{HasBelow, IsDirectory, Stamps, Named, Entries}
use Rattle.rules.proofs.StampLaws.{stamp_all, with_stamps, all_file, all_dir, stamps_followed}
use Rattle.rules.specs.declared.Entry.{Entry}
use Rattle.rules.specs.Check.{chain, directory, Judge, judge_file, judge_entry, judge_entries, judge_directory, judge_sub}
use Rattle.reading_theorems.specs.TokenLaws.{TokensFit, whole_tokens, tokens_back, stamps_fit}
use Rattle.geometry.specs.BoolLaws.{either_left, either_right}
use Rattle.reading_theorems.specs.LabelLaws.{file_no_directory, label_complete, valid_plain}
use Rattle.reading_theorems.specs.ControlLaws.{whole_ok}
use Rattle.reading_theorems.specs.SubControlLaws.{AboveFits, length_sub, sub_written}
use Rattle.reading_theorems.specs.Directory.{DirectoryHolds, SubHolds, LaterWhole, FirstPasses, own_links, all_split, start_positive, rest_zero, sub_later}

-- ---- page numbers and page counts fit
-- n bytes tell every page number
pub pages_fit : (g : Geometry) → Valid g → g.pages ≤ 256 ^ g.width
unfolding width_for
pages_fit g h = on_choose (leb g.pages 256) 1 2 g.width (sym h.wide)
    (λ t e. rw (← e) (leb-true g.pages 256 t))
    (λ t e. rw (← e) (omega (arith, h.few)))

pub first_below : (N : ℕ) (ls : List Link) → 0 < length ls → Within N (pages ls) → first ls < N
first_below N [] s h = absurd (omega arith)
first_below N (link p b ∷ ls) s h = range_of p N (omega (arith, h p, hit_same p))

-- a chain without page 0 has fewer pages than there are
pub length_below : (N : ℕ) (ls : List Link) → 0 < N → count 0 (pages ls) ≡ 0 → Within N (pages ls) → length ls < N
length_below N ls s z h = omega (arith, within_length N (0 ∷ pages ls) (within_cons N 0 (pages ls) s z h), length_pages ls)

pub start_below : (N : ℕ) (t : Items) → IsDirectory t → Within N (all_pages t) → start_of t < N
start_below N end i h = absurd i
start_below N (page p t) i h = range_of p N (omega (arith, h p, hit_same p))
start_below N (file l ls t) i h = absurd i
start_below N (dir l d t) i h = absurd i

module _ (g : Geometry) (valid : Valid g) where
  number_fits : (x : ℕ) → x < g.pages → x < 256 ^ g.width
  number_fits x h = omega (arith, pages_fit g valid)

  pub tokens_fit : (levels : ℕ) (t : Items) → Entries g.width levels t → count 0 (inner_pages t) ≡ 0 → Within g.pages (inner_pages t)
      → TokensFit g.width (tokens t)
  tokens_fit levels end w z f = tt
  tokens_fit levels (page p t) w z f = tokens_fit levels t w z f
  tokens_fit levels (file l ls t) w z f =
      let c : (x : ℕ) → count x (pages ls ++ inner_pages t) ≡ count x (pages ls) + count x (inner_pages t) = λ x. count_append x (pages ls) (inner_pages t) in
      let h : Within g.pages (pages ls) = λ x. omega (arith, f x, c x) in
      let y : count 0 (pages ls) ≡ 0 = omega (arith, c 0) in
      stamps_fit g.width l.stamps (entry (file_entry l ls) ∷ tokens t) w.0.stamps (
        record {
          four = w.0.four;
          byte = w.0.byte;
          start = number_fits (first ls) (first_below g.pages ls w.2 h);
          pages = number_fits (length ls) (length_below g.pages ls (omega (arith, valid.some)) y h);
        },
        tokens_fit levels t w.3 (omega (arith, c 0)) (λ x. omega (arith, f x, c x)),
      )
  tokens_fit levels (dir l d t) w z f =
      let c : (x : ℕ) → count x (inner_pages (dir l d t)) ≡ count x (all_pages d) + count x (inner_pages t) = λ x. simp count_append (omega arith) in
      stamps_fit g.width l.stamps (entry (directory_entry l d) ∷ tokens t) w.0.stamps (
        record {
          four = w.0.four;
          byte = w.0.byte;
          start = number_fits (start_of d) (start_below g.pages d w.2 (λ x. omega (arith, f x, c x)));
          pages = number_fits 0 (omega (arith, valid.some));
        },
        tokens_fit levels t w.5 (omega (arith, c 0)) (λ x. omega (arith, f x, c x)),
      )

  -- ---- the pages of a directory pass
  module _ (test : Test) (later : LaterWhole g test) where
    later_pass : (i : ℕ) (ts : List Token) → Passes test (suc i) (token_links g.width [] ts)
    later_pass i [] = tt
    later_pass i (new_page p ∷ ts) = let b = token_bytes g.width ts in (later i p b ∙ whole_ok g p b (whole_tokens g ts), later_pass (suc i) ts)
    later_pass i (entry e ∷ ts) = later_pass i ts

    pages_pass : (control : List ℕ) → FirstPasses g test control → (ts : List Token) → Passes test 0 (token_links g.width control ts)
    pages_pass control f [] = tt
    pages_pass control f (new_page p ∷ ts) = (f p (token_bytes g.width ts) (whole_tokens g ts), later_pass 0 ts)
    pages_pass control f (entry e ∷ ts) = pages_pass control f ts

  module _ (vs : Views) where
    abbrev pub SubComplete : ℕ → Judge → Type 0
    SubComplete levels sub = (up : Parent) (claimed : List ℕ) (p : ℕ) (l : Label) (d : Items) → AboveFits g.width up → l.name < 256 ^ 4
        → SubHolds g vs levels up l.name (start_of d) claimed d → 1 ≤ count 0 claimed → sub up claimed p (directory_entry l d) ≡ ok d

    module _ (levels : ℕ) (sub : Judge) (h : SubComplete levels sub) (here : Parent) (above : AboveFits g.width here) where
      -- ---- one entry
      module _ (claimed : List ℕ) (p : ℕ) (seen : List ℕ) (l : Label) (named : Named g.width l) (unseen : count (key_of l) seen ≡ 0) where
        file_complete : (ls : List Link) → file_number l.extension ≡ true → IsChain g.pages (vs.file l.extension) any_page 0 claimed (first ls) ls → 0 < first ls
            → judge_entry g vs (suc g.pages) sub here claimed p seen (file_entry l ls) ≡ ok (chain ls)
        unfolding judge_entry judge_file
        file_complete ls k c s =
            simp (
              label_complete p (file_entry l ls) named.valid (either_left _ _ k),
              free_true (key_of l) seen unseen,
              file_no_directory l.extension k,
              choose_false,
              lt-ltb 0 (first ls) s,
              walk_accepts g.pages (vs.file l.extension) any_page 0 claimed p (first ls) ls c,
              eq-eqb (length ls) (length ls) refl,
              refuse_true,
              then_ok,
            )

        sub_entry_complete : (d : Items) → directory_number l.extension ≡ true → SubHolds g vs levels here l.name (start_of d) claimed d
            → 1 ≤ count 0 claimed
            → judge_entry g vs (suc g.pages) sub here claimed p seen (directory_entry l d) ≡ ok (directory d)
        unfolding judge_entry
        sub_entry_complete d k s z =
            simp (
              label_complete p (directory_entry l d) named.valid (either_right (file_number l.extension) _ k),
              free_true (key_of l) seen unseen,
              k,
              choose_true,
              h here claimed p l d above named.four s z,
              refuse_true,
              then_ok,
            )

      -- ---- stamps before an entry
      stamps_complete : (ss : List Entry) → Stamps g.width ss → (claimed : List ℕ) (p : ℕ) (seen : List ℕ) (e : Entry) (ts : List Token) (t : Items)
          → judge_entries g vs (suc g.pages) sub here claimed p seen (entry e ∷ ts) ≡ ok t
          → judge_entries g vs (suc g.pages) sub here claimed p seen (stamp_tokens ss (entry e ∷ ts)) ≡ ok (stamp_all ss t)
      unfolding judge_entries
      stamps_complete [] k claimed p seen e ts t q = q
      stamps_complete (s ∷ ss) k claimed p seen e ts t q =
          simp (k.0, choose_true, stamps_followed ss e ts, refuse_true, then_ok, stamps_complete ss k.2 claimed p seen e ts t q)

      -- ---- a directory's entries; page 0 is claimed, so it is no start page and no pointer
      entries_complete : (t : Items) (claimed : List ℕ) (p : ℕ) (seen : List ℕ) → Entries g.width levels t → ((x : ℕ) → count x (keys t) + count x seen ≤ 1)
          → HasBelow g vs here t → 1 ≤ count 0 claimed → ((x : ℕ) → count x (inner_pages t) + count x claimed ≤ count x (range g.pages))
          → judge_entries g vs (suc g.pages) sub here claimed p seen (tokens t) ≡ ok t
      unfolding judge_entries
      entries_complete end claimed p seen w o r z f = refl
      entries_complete (page q t) claimed p seen w o r z f = simp (entries_complete t claimed q seen w o r z f, then_ok)
      entries_complete (file l ls t) claimed p seen w o r z f =
          let c : (x : ℕ) → count x (pages ls ++ inner_pages t) ≡ count x (pages ls) + count x (inner_pages t) = λ x. count_append x (pages ls) (inner_pages t) in
          let c' : (x : ℕ) → count x (pages ls ++ claimed) ≡ count x (pages ls) + count x claimed = λ x. count_append x (pages ls) claimed in
          let y : count 0 (pages ls) ≡ 0 = omega (arith, f 0, c 0, range_le 0 g.pages) in
          let n = first_nonzero ls w.2 y in
          let u : count (key_of l) seen ≡ 0 = omega (arith, o (key_of l), hit_same (key_of l)) in
          let j : IsChain g.pages (vs.file l.extension) any_page 0 claimed (first ls) ls = record {
            some = w.2;
            start = refl;
            packets = r.0;
            passes = any_passes 0 ls;
            clear = λ x. omega (arith, f x, c x);
            onward = rest_zero ls y;
          } in
          let k = file_complete claimed p seen l w.0 u ls w.1 j (omega arith) in
          let i = entries_complete t (pages ls ++ claimed) p (key_of l ∷ seen) w.3 (λ x. omega (arith, o x)) r.1
          (omega (arith, c' 0)) (λ x. omega (arith, f x, c x, c' x)) in
          let e = file_entry l ls in
          let q : judge_entries g vs (suc g.pages) sub here claimed p seen (entry e ∷ tokens t) ≡ ok (file (with_stamps [] l) ls t) =
          simp (valid_plain e w.0.valid, choose_false, k, then_ok, i) in
          stamps_complete l.stamps w.0.stamps claimed p seen e (tokens t) (file (with_stamps [] l) ls t) q ∙ ap ok (all_file l.stamps l ls t)
      entries_complete (dir l d t) claimed p seen w o r z f =
          let c : (x : ℕ) → count x (inner_pages (dir l d t)) ≡ count x (all_pages d) + count x (inner_pages t) = λ x. simp count_append (omega arith) in
          let c' : (x : ℕ) → count x (all_pages d ++ claimed) ≡ count x (all_pages d) + count x claimed = λ x. count_append x (all_pages d) claimed in
          let u : count (key_of l) seen ≡ 0 = omega (arith, o (key_of l), hit_same (key_of l)) in
          let j : SubHolds g vs levels here l.name (start_of d) claimed d = record {
            is_directory = w.2;
            start = refl;
            names = w.3;
            entries = w.4;
            chain = r.0;
            below = r.1;
            clear = λ x. omega (arith, f x, c x);
          } in
          let k = sub_entry_complete claimed p seen l w.0 u d w.1 j z in
          let i = entries_complete t (all_pages d ++ claimed) p (key_of l ∷ seen) w.5 (λ x. omega (arith, o x)) r.2
          (omega (arith, c' 0)) (λ x. omega (arith, f x, c x, c' x)) in
          let e = directory_entry l d in
          let q : judge_entries g vs (suc g.pages) sub here claimed p seen (entry e ∷ tokens t) ≡ ok (dir (with_stamps [] l) d t) =
          simp (valid_plain e w.0.valid, choose_false, k, then_ok, i) in
          stamps_complete l.stamps w.0.stamps claimed p seen e (tokens t) (dir (with_stamps [] l) d t) q ∙ ap ok (all_dir l.stamps l d t)

      -- ---- a directory
      pub directory_complete : (test : Test) (control : List ℕ) → LaterWhole g test → FirstPasses g test control → length control ≡ control_size g
          → (claimed : List ℕ) (p : ℕ) (t : Items) → DirectoryHolds g vs (suc levels) control here claimed t → 1 ≤ hit 0 here.start + count 0 claimed
          → judge_directory g vs (suc g.pages) sub test here claimed p ≡ ok t
      unfolding judge_directory
      directory_complete test control l f e claimed p end y z = absurd y.is_directory
      directory_complete test control l f e claimed p (file n ls t) y z = absurd y.is_directory
      directory_complete test control l f e claimed p (dir n d t) y z = absurd y.is_directory
      directory_complete test control l f e claimed p (page q t) y z =
          let ls = directory_links g control (page q t) in
          let o : (x : ℕ) → count x (pages ls) ≡ hit x q + count x (own_pages t) = λ x. ap (count x) (own_links g control (page q t)) in
          let a : (x : ℕ) → count x (all_pages (page q t)) ≡ hit x q + count x (own_pages t) + count x (inner_pages t) = λ x. all_split x (page q t) in
          let c : (x : ℕ) → count x (pages ls ++ claimed) ≡ count x (pages ls) + count x claimed = λ x. count_append x (pages ls) claimed in
          let z' : 1 ≤ hit 0 q + count 0 claimed = rw y.start z in
          let j = walk_accepts g.pages vs.pages test 0 claimed p here.start ls (record {
            some = omega arith;
            start = y.start;
            packets = y.chain;
            passes = pages_pass test l control f (tokens (page q t));
            clear = λ x. omega (arith, y.clear x, a x, o x);
            onward = omega (arith, y.clear 0, a 0, o 0, range_le 0 g.pages);
          }) in
          let u = tokens_fit levels (page q t) y.entries (omega (arith, y.clear 0, a 0, range_le 0 g.pages)) (λ x. omega (arith, y.clear x, a x)) in
          let b = tokens_back g control (control_size g) (tokens (page q t)) e u in
          let i = entries_complete (page q t) (pages ls ++ claimed) here.start [] y.entries (λ x. omega (arith, y.names x)) y.below
          (omega (arith, c 0, o 0)) (λ x. omega (arith, y.clear x, a x, o x, c x)) in
          simp (j, then_ok, b) i

    pub sub_complete : (levels : ℕ) → SubComplete levels (judge_sub g vs (suc g.pages) levels)
    unfolding judge_sub
    sub_complete zero up claimed p l d a n y z = absurd y.entries
    sub_complete (suc levels) up claimed p l d a n y z =
        let s = start_positive d y.is_directory (omega (arith, y.clear 0, range_le 0 g.pages)) in
        let b = start_below g.pages d y.is_directory (λ x. omega (arith, y.clear x)) in
        let here : Parent = record { name = l.name; start = start_of d } in
        let f : FirstPasses g (sub_page g up) (sub_control g.width up) = λ p rest h. sub_written g up p rest a ∙ whole_ok g p rest h in
        simp (lt-ltb 0 (start_of d) s, refuse_true, then_ok)
        (directory_complete levels (judge_sub g vs (suc g.pages) levels) (sub_complete levels) here (record { four = n; start = number_fits (start_of d) b })
        (sub_page g up) (sub_control g.width up) (sub_later g up) f (length_sub g up) claimed p d y (omega arith))
