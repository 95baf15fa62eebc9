-- A change of the directory at a place: what stands around it, and the rules for names and nesting around it, stay.
use Rattle.std.specs.Prelude.{◌≡◌, refl, List, [], ◌∷◌, ◌++◌, ℕ, zero, suc, ◌+◌, ◌≤◌}
use Rattle.std.proofs.Common.{ap, sym, subst, arith}
use Rattle.geometry.specs.declared.Geometry.{Geometry}
use Rattle.packet.specs.Packet.{View, Write}
use Rattle.rules.specs.PageSets.{count, Once}
use Rattle.rules.proofs.PageSetLaws.{count_append}
use Rattle.rules.specs.Chain.{Views, one_view, pages, linked}
use Rattle.rules.specs.Tree.{key_of, Items, start_of, file_entry, directory_entry, Token, new_page, entry, tokens, stamp_tokens, token_links, directory_links, own_pages, all_pages, keys, Map}
use Rattle.rules.specs.Control.{Parent, sub_control}
use Rattle.rules.specs.WellFormed.{HasPackets, HasBelow, IsDirectory, Under, Entries}
use Rattle.rules.specs.Paths.{Site, below}
use Rattle.rules.specs.Writes.{control_of}
use Rattle.reading_theorems.specs.Directory.{all_split}
use Rattle.editing_theorems.specs.HeldPackets.{pages_linked, count_directory, packets_same, below_same}
use Rattle.editing_theorems.specs.Contexts.{Context, gap, after_page, after_file, after_directory, filled, gap_label, around, filled_all, around_all, site_at, above_at, levels_at, own_around, start_filled_all}

-- ---- a directory's entries do not tell what is below a subdirectory but its start page
pub tokens_filled : (c : Context) (d e : Items) → start_of e ≡ start_of d → tokens (filled c e) ≡ tokens (filled c d)
tokens_filled (gap l t) d e h = ap (λ (s : ℕ). stamp_tokens l.stamps (entry (record { name = l.name; extension = l.extension; start = s; pages = 0 }) ∷ tokens t)) h
tokens_filled (after_page p c) d e h = ap (λ (ts : List Token). new_page p ∷ ts) (tokens_filled c d e h)
tokens_filled (after_file l ls c) d e h = ap (λ (ts : List Token). stamp_tokens l.stamps (entry (file_entry l ls) ∷ ts)) (tokens_filled c d e h)
tokens_filled (after_directory l b c) d e h = ap (λ (ts : List Token). stamp_tokens l.stamps (entry (directory_entry l b) ∷ ts)) (tokens_filled c d e h)

pub keys_filled : (c : Context) (d e : Items) → keys (filled c e) ≡ keys (filled c d)
keys_filled (gap l t) d e = refl
keys_filled (after_page p c) d e = keys_filled c d e
keys_filled (after_file l ls c) d e = ap (λ (xs : List ℕ). key_of l ∷ xs) (keys_filled c d e)
keys_filled (after_directory l b c) d e = ap (λ (xs : List ℕ). key_of l ∷ xs) (keys_filled c d e)

pub own_filled : (c : Context) (d e : Items) → own_pages (filled c e) ≡ own_pages (filled c d)
own_filled (gap l t) d e = refl
own_filled (after_page p c) d e = ap (λ (xs : List ℕ). p ∷ xs) (own_filled c d e)
own_filled (after_file l ls c) d e = own_filled c d e
own_filled (after_directory l b c) d e = own_filled c d e

pub directory_filled : (c : Context) (d e : Items) → IsDirectory (filled c d) → IsDirectory (filled c e)
directory_filled (gap l t) d e i = i
directory_filled (after_page p c) d e i = i
directory_filled (after_file l ls c) d e i = i
directory_filled (after_directory l b c) d e i = i

-- ---- packets
module _ (g : Geometry) where
  -- how a subdirectory in a gap is known
  abbrev in_gap : Context → Items → Parent
  in_gap c d = record { name = (gap_label c).name; start = start_of d }

  abbrev sub_chain : Parent → Items → List Write
  sub_chain here d = linked (directory_links g (sub_control g.width here) d)

  -- below a directory stands its subdirectory
  below_get : (vs : Views) (here : Parent) (c : Context) (d : Items) → HasBelow g vs here (filled c d) → HasPackets vs.pages (sub_chain here d) × HasBelow g vs (in_gap c d) d
  below_get vs here (gap l t) d s = (s.0, s.1)
  below_get vs here (after_page p c) d s = below_get vs here c d s
  below_get vs here (after_file l ls c) d s = below_get vs here c d s.1
  below_get vs here (after_directory l b c) d s = below_get vs here c d s.2

  -- and with another subdirectory there, all around it as it was
  below_set : (v w : View) (here : Parent) (c : Context) (d e : Items) → ((x : ℕ) → 1 ≤ count x (around c) → w x ≡ v x)
      → HasBelow g (one_view v) here (filled c d) → HasPackets w (sub_chain here e) → HasBelow g (one_view w) (in_gap c e) e → HasBelow g (one_view w) here (filled c e)
  below_set v w here (gap l t) d e h s a b = (a, b, below_same g v w here t (λ x j. h x (omega (arith, all_split x t))) s.2)
  below_set v w here (after_page p c) d e h s a b = below_set v w here c d e (λ x j. h x (omega arith)) s a b
  below_set v w here (after_file l ls c) d e h s a b =
      let m : (x : ℕ) → count x (pages ls ++ around c) ≡ count x (pages ls) + count x (around c) = λ x. count_append x (pages ls) (around c) in
      (packets_same v w (linked ls) (λ x j. h x (omega (arith, ap (count x) (pages_linked ls), m x))) s.0, below_set v w here c d e (λ x j. h x (omega (arith, m x))) s.1 a b)
  below_set v w here (after_directory l n c) d e h s a b =
      let m : (x : ℕ) → count x (all_pages n ++ around c) ≡ count x (all_pages n) + count x (around c) = λ x. count_append x (all_pages n) (around c) in
      let there : Parent = record { name = l.name; start = start_of n } in (
        packets_same v w (sub_chain here n) (λ x j. h x (omega (arith, count_directory g x (sub_control g.width here) n, all_split x n, m x))) s.0,
        below_same g v w there n (λ x j. h x (omega (arith, all_split x n, m x))) s.1,
        below_set v w here c d e (λ x j. h x (omega (arith, m x))) s.2 a b,
      )

  module _ (bits : List ℕ) (m : Map) where
    -- a directory's own chain at a site
    abbrev pub chain_at : Site → Items → List Write
    chain_at site t = linked (directory_links g (control_of g.width bits m site) t)

    pub record DirectoryIn (vs : Views) (site : Site) (here : Parent) (t : Items) : Type 0 where
      pub own : HasPackets vs.pages (chain_at site t)
      pub below : HasBelow g vs here t

    -- the directory at a place stands
    pub place_stands : (vs : Views) (cs : List Context) (site : Site) (here : Parent) (d : Items) → DirectoryIn vs site here (filled_all cs d)
        → DirectoryIn vs (site_at site here cs d) (above_at here cs d) d
    place_stands vs [] site here d s = s
    place_stands vs (c ∷ cs) site here d s =
        let r = below_get vs here c (filled_all cs d) s.below in
        place_stands vs cs (below here) (in_gap c (filled_all cs d)) d (record { own = r.0; below = r.1 })

    -- and with another directory of the same start page there, all around it as it was, the whole stands
    pub place_changed : (v w : View) (cs : List Context) (site : Site) (here : Parent) (d e : Items) → start_of e ≡ start_of d
        → ((x : ℕ) → 1 ≤ count x (around_all cs) → w x ≡ v x)
        → DirectoryIn (one_view v) site here (filled_all cs d) → DirectoryIn (one_view w) (site_at site here cs d) (above_at here cs d) e → DirectoryIn (one_view w) site here (filled_all cs e)
    place_changed v w [] site here d e z h s a = a
    place_changed v w (c ∷ cs) site here d e z h s a =
        let D = filled_all cs d in
        let E = filled_all cs e in
        let y = start_filled_all cs d e z in
        let r = below_get (one_view v) here c D s.below in
        let k : (x : ℕ) → count x (around c ++ around_all cs) ≡ count x (around c) + count x (around_all cs) = λ x. count_append x (around c) (around_all cs) in
        let i = place_changed v w cs (below here) (in_gap c D) d e z (λ x j. h x (omega (arith, k x))) (record { own = r.0; below = r.1 }) a in
        let b : HasBelow g (one_view w) (in_gap c E) E = subst (λ (s : ℕ). HasBelow g (one_view w) (record { name = (gap_label c).name; start = s }) E) (sym y) i.below in
        let control = control_of g.width bits m site in
        record {
          own = subst (λ (ts : List Token). HasPackets w (linked (token_links g.width control ts))) (sym (tokens_filled c D E y))
              (packets_same v w (chain_at site (filled c D)) (λ x j. h x (omega (arith, k x, count_directory g x control (filled c D), own_around x c D))) s.own);
          below = below_set v w here c D E (λ x j. h x (omega (arith, k x))) s.below i.own b;
        }

-- ---- names and nesting
pub record Shaped (n levels : ℕ) (t : Items) : Type 0 where
  pub is_directory : IsDirectory t
  pub names : Once (keys t)
  pub entries : Entries n levels t

abbrev SubShaped : ℕ → ℕ → Items → Type 0
SubShaped n levels d = IsDirectory d × Once (keys d) × Under levels (λ m. Entries n m d)

entries_get : (n levels : ℕ) (c : Context) (d : Items) → Entries n levels (filled c d) → SubShaped n levels d
entries_get n levels (gap l t) d w = (w.2, w.3, w.4)
entries_get n levels (after_page p c) d w = entries_get n levels c d w
entries_get n levels (after_file l ls c) d w = entries_get n levels c d w.3
entries_get n levels (after_directory l b c) d w = entries_get n levels c d w.5

entries_set : (n levels : ℕ) (c : Context) (d e : Items) → Entries n levels (filled c d) → SubShaped n levels e → Entries n levels (filled c e)
entries_set n levels (gap l t) d e w s = (w.0, w.1, s.0, s.1, s.2, w.5)
entries_set n levels (after_page p c) d e w s = entries_set n levels c d e w s
entries_set n levels (after_file l ls c) d e w s = (w.0, w.1, w.2, entries_set n levels c d e w.3 s)
entries_set n levels (after_directory l b c) d e w s = (w.0, w.1, w.2, w.3, w.4, entries_set n levels c d e w.5 s)

-- one step down
pub shaped_in : {n : ℕ} (levels : ℕ) (c : Context) (d : Items) → Shaped n levels (filled c d) → Under levels (λ m. Shaped n m d)
shaped_in {n = n} zero c d i = absurd (entries_get n zero c d i.entries).2
shaped_in {n = n} (suc levels) c d i = let r = entries_get n (suc levels) c d i.entries in record { is_directory = r.0; names = r.1; entries = r.2 }

pub shaped_at : {n : ℕ} (cs : List Context) (levels : ℕ) (d : Items) → Shaped n levels (filled_all cs d) → Shaped n (levels_at cs levels) d
shaped_at [] levels d i = i
shaped_at (c ∷ cs) zero d i = absurd (shaped_in zero c (filled_all cs d) i)
shaped_at (c ∷ cs) (suc levels) d i = shaped_at cs levels d (shaped_in (suc levels) c (filled_all cs d) i)

-- a change that keeps the rules at its own level keeps them all the way up
pub shaped_changed : {n : ℕ} (d e : Items) (cs : List Context) (levels : ℕ) → (Shaped n (levels_at cs levels) d → Shaped n (levels_at cs levels) e)
    → Shaped n levels (filled_all cs d) → Shaped n levels (filled_all cs e)
shaped_changed d e [] levels f i = f i
shaped_changed d e (c ∷ cs) zero f i = absurd (shaped_in zero c (filled_all cs d) i)
shaped_changed {n = n} d e (c ∷ cs) (suc levels) f i =
    let D = filled_all cs d in
    let E = filled_all cs e in
    let j = shaped_changed d e cs levels f (shaped_in (suc levels) c D i) in
    record {
      is_directory = directory_filled c D E i.is_directory;
      names = rw (keys_filled c D E) i.names;
      entries = entries_set n (suc levels) c D E i.entries (j.is_directory, j.names, j.entries);
    }
