-- A directory's place in a tree: the way down to it, and the pages around it. What the path's names lead to has such a place.
use Rattle.std.specs.Prelude.{◌≡◌, refl, List, [], ◌∷◌, ◌++◌, ℕ, zero, suc, ◌+◌, ◌-◌, ◌≤◌, length}
use Rattle.std.proofs.Common.{ap, ap₂, sym, ◌∙◌, subst, arith, eqb-true}
use Rattle.geometry.specs.ChooseLaws.{choose_true, choose_false, on_choose}
use Rattle.rules.specs.Result.{ok}
use Rattle.rules.proofs.ResultLaws.{ok_inj, clash}
use Rattle.rules.specs.PageSets.{count}
use Rattle.rules.proofs.PageSetLaws.{count_append}
use Rattle.rules.specs.Chain.{Link, pages}
use Rattle.rules.specs.Tree.{Label, key_of, Items, end, page, file, dir, start_of, own_pages, inner_pages, all_pages, map_pages, Image, used}
use Rattle.rules.specs.Control.{Parent}
use Rattle.rules.specs.Paths.{directory_key, Found, nothing, a_file, a_directory, find, Site, below, Place, root_place, step_down, directory_at, change_in, change_at}
use Rattle.rules.specs.Candidate.{directory_keys}

-- a directory with one subdirectory taken out of it
pub data Context : Type 0 where
  gap : Label → Items → Context
  after_page : ℕ → Context → Context
  after_file : Label → List Link → Context → Context
  after_directory : Label → Items → Context → Context

-- and with a directory put there
abbrev pub filled : Context → Items → Items
filled (gap l t) d = dir l d t
filled (after_page p c) d = page p (filled c d)
filled (after_file l ls c) d = file l ls (filled c d)
filled (after_directory l b c) d = dir l b (filled c d)

-- the label of the subdirectory
abbrev pub gap_label : Context → Label
gap_label (gap l t) = l
gap_label (after_page p c) = gap_label c
gap_label (after_file l ls c) = gap_label c
gap_label (after_directory l b c) = gap_label c

-- every page of the directory, and below it, but those of the subdirectory and below that
abbrev pub around : Context → List ℕ
around (gap l t) = all_pages t
around (after_page p c) = p ∷ around c
around (after_file l ls c) = pages ls ++ around c
around (after_directory l b c) = all_pages b ++ around c

-- the way down, the outermost first
abbrev pub filled_all : List Context → Items → Items
filled_all [] d = d
filled_all (c ∷ cs) d = filled c (filled_all cs d)

abbrev pub around_all : List Context → List ℕ
around_all [] = []
around_all (c ∷ cs) = around c ++ around_all cs

-- the keys on the way down
abbrev pub context_path : List Context → List ℕ
context_path [] = []
context_path (c ∷ cs) = key_of (gap_label c) ∷ context_path cs

-- where a directory stands at the end of the way down, and how it is known to what is below it
abbrev pub site_at : Site → Parent → List Context → Items → Site
site_at site here [] d = site
site_at site here (c ∷ cs) d = site_at (below here) (record { name = (gap_label c).name; start = start_of (filled_all cs d) }) cs d

abbrev pub above_at : Parent → List Context → Items → Parent
above_at here [] d = here
above_at here (c ∷ cs) d = above_at (record { name = (gap_label c).name; start = start_of (filled_all cs d) }) cs d

-- the levels left in it, where so many are left in the outermost directory
abbrev pub levels_at : List Context → ℕ → ℕ
levels_at [] levels = levels
levels_at (c ∷ cs) zero = 0
levels_at (c ∷ cs) (suc levels) = levels_at cs levels

-- one less for each directory on the way
pub levels_at_lem : (cs : List Context) (levels : ℕ) → levels_at cs levels ≡ levels - length cs
levels_at_lem [] levels = omega arith
levels_at_lem (c ∷ cs) zero = omega arith
levels_at_lem (c ∷ cs) (suc levels) = omega (arith, levels_at_lem cs levels)

-- ---- pages
pub all_filled : (x : ℕ) (c : Context) (d : Items) → count x (all_pages (filled c d)) ≡ count x (around c) + count x (all_pages d)
all_filled x (gap l t) d = simp count_append (omega arith)
all_filled x (after_page p c) d = omega (arith, all_filled x c d)
all_filled x (after_file l ls c) d = simp count_append (omega (arith, simp count_append at (all_filled x c d)))
all_filled x (after_directory l b c) d = simp count_append (omega (arith, simp count_append at (all_filled x c d)))

-- the pages after a change at a place: those around it, and the directory's then
pub all_filled_all : (x : ℕ) (cs : List Context) (d : Items) → count x (all_pages (filled_all cs d)) ≡ count x (around_all cs) + count x (all_pages d)
all_filled_all x [] d = omega arith
all_filled_all x (c ∷ cs) d = omega (arith, all_filled x c (filled_all cs d), all_filled_all x cs d, count_append x (around c) (around_all cs))

pub own_around : (x : ℕ) (c : Context) (d : Items) → count x (own_pages (filled c d)) ≤ count x (around c)
own_around x (gap l t) d = omega (arith, count_append x (own_pages t) (inner_pages t))
own_around x (after_page p c) d = omega (arith, own_around x c d)
own_around x (after_file l ls c) d = omega (arith, own_around x c d, count_append x (pages ls) (around c))
own_around x (after_directory l b c) d = omega (arith, own_around x c d, count_append x (all_pages b) (around c))

pub start_filled : (c : Context) (d e : Items) → start_of (filled c e) ≡ start_of (filled c d)
start_filled (gap l t) d e = refl
start_filled (after_page p c) d e = refl
start_filled (after_file l ls c) d e = refl
start_filled (after_directory l b c) d e = refl

pub start_filled_all : (cs : List Context) (d e : Items) → start_of e ≡ start_of d → start_of (filled_all cs e) ≡ start_of (filled_all cs d)
start_filled_all [] d e h = h
start_filled_all (c ∷ cs) d e h = start_filled c (filled_all cs d) (filled_all cs e)

-- ---- one name
pub file_no_directory : {l m : Label} {d : Items} {ls : List Link} → a_file m ls ≡ a_directory l d → ⊥
file_no_directory {l = l} {m = m} {d = d} {ls = ls} e = let z : ◌≡◌ {A = ℕ} 0 1 = cc in omega arith

pub nothing_no_directory : {l : Label} {d : Items} → nothing ≡ a_directory l d → ⊥
nothing_no_directory {l = l} {d = d} e = let z : ◌≡◌ {A = ℕ} 0 1 = cc in omega arith

pub directory_label : {l m : Label} {d e : Items} → a_directory l d ≡ a_directory m e → l ≡ m
directory_label e = cc

pub directory_items : {l m : Label} {d e : Items} → a_directory l d ≡ a_directory m e → d ≡ e
directory_items e = cc

-- a subdirectory that is found stands in a context, and a change of it is a change there
pub record InContext (k : ℕ) (t : Items) (l : Label) (d : Items) : Type 0 where
  pub context : Context
  pub whole : filled context d ≡ t
  pub label : gap_label context ≡ l
  pub key_is : k ≡ key_of l
  pub change : (f : Items → Items) → change_in k f t ≡ filled context (f d)

pub in_context : (k : ℕ) (t : Items) (l : Label) (d : Items) → find k t ≡ a_directory l d → InContext k t l d
in_context k end l d e = absurd (nothing_no_directory e)
in_context k (page p t) l d e =
    let r = in_context k t l d e in
    record { context = after_page p r.context; whole = ap (page p) r.whole; label = r.label; key_is = r.key_is; change = λ f. ap (page p) (r.change f) }
in_context k (file m c t) l d e = on_choose _ _ _ _ e
    (λ q z. absurd (file_no_directory z))
    (λ q z. let r = in_context k t l d z in
    record { context = after_file m c r.context; whole = ap (file m c) r.whole; label = r.label; key_is = r.key_is; change = λ f. ap (file m c) (r.change f) })
in_context k (dir m b t) l d e = on_choose _ _ _ _ e
    (λ q z. let i = directory_label z in
    let j = directory_items z in
    record {
      context = gap m t;
      whole = ap (λ (x : Items). dir m x t) (sym j);
      label = i;
      key_is = eqb-true k (key_of m) q ∙ ap key_of i;
      change = λ f. simp (q, choose_true) (ap (λ (x : Items). dir m (f x) t) j);
    })
    (λ q z. let r = in_context k t l d z in
    record {
      context = after_directory m b r.context;
      whole = ap (dir m b) r.whole;
      label = r.label;
      key_is = r.key_is;
      change = λ f. simp (q, choose_false) (ap (dir m b) (r.change f));
    })

-- ---- all names of a path
-- the directory at a place, as the way down leads to it from another
pub record Located (names : List ℕ) (from place : Place) : Type 0 where
  pub contexts : List Context
  pub whole : filled_all contexts place.items ≡ from.items
  pub path : context_path contexts ≡ directory_keys names
  pub site_is : place.site ≡ site_at from.site from.here contexts place.items
  pub here_is : place.here ≡ above_at from.here contexts place.items
  pub change : (f : Items → Items) → change_at names f from.items ≡ filled_all contexts (f place.items)

directory_name : (x : ℕ) (l : Label) → directory_key x ≡ key_of l → l.name ≡ x
directory_name x l e = omega arith

pub locate : (names : List ℕ) (from place : Place) → directory_at names from ≡ ok place → Located names from place
unfolding directory_at
locate [] from place e = subst (Located [] from) (ok_inj e) (record { contexts = []; whole = refl; path = refl; site_is = refl; here_is = refl; change = λ f. refl })
locate (x ∷ xs) from place e = go (find (directory_key x) from.items) refl (λ l d. locate xs (step_down from x l d) place)
  where
    go : (r : Found) → find (directory_key x) from.items ≡ r
        → ((l : Label) (d : Items) → directory_at xs (step_down from x l d) ≡ ok place → Located xs (step_down from x l d) place) → Located (x ∷ xs) from place
    go nothing q k = clash (rw q at e)
    go (a_file l ls) q k = clash (rw q at e)
    go (a_directory l d) q k =
        let c = in_context (directory_key x) from.items l d q in
        let r = k l d (rw q at e) in
        let n : x ≡ (gap_label c.context).name = sym (ap (λ (m : Label). m.name) c.label ∙ directory_name x l c.key_is) in
        record {
          contexts = c.context ∷ r.contexts;
          whole = ap (filled c.context) r.whole ∙ c.whole;
          path = ap₂ (λ (a : ℕ) (l : List ℕ). a ∷ l) (ap key_of c.label ∙ sym c.key_is) r.path;
          site_is = r.site_is ∙ ap₂ (λ (a : ℕ) (b : Items). site_at (below from.here) (record { name = a; start = start_of b }) r.contexts place.items) n (sym r.whole);
          here_is = r.here_is ∙ ap₂ (λ (a : ℕ) (b : Items). above_at (record { name = a; start = start_of b }) r.contexts place.items) n (sym r.whole);
          change = λ f. c.change (change_at xs f) ∙ ap (filled c.context) (r.change f);
        }

-- the pages in use, where the place of a directory is known: around it, its own, below it, the bitmap file's
pub used_at : (x : ℕ) (names : List ℕ) (i : Image) (place : Place) (at : Located names (root_place i.tree) place)
    → count x (used i) ≡ count x (around_all at.contexts) + (count x (own_pages place.items) + count x (inner_pages place.items)) + count x (map_pages i.map)
used_at x names i place at = omega (
  arith,
  count_append x (all_pages i.tree) (map_pages i.map),
  ap (λ (t : Items). count x (all_pages t)) at.whole,
  all_filled_all x at.contexts place.items,
  count_append x (own_pages place.items) (inner_pages place.items),
)

-- as many names as directories on the way
context_length : (cs : List Context) → length (context_path cs) ≡ length cs
context_length [] = refl
context_length (c ∷ cs) = ap suc (context_length cs)

keys_length : (names : List ℕ) → length (directory_keys names) ≡ length names
keys_length [] = refl
keys_length (x ∷ xs) = ap suc (keys_length xs)

pub located_length : {names : List ℕ} {from place : Place} (at : Located names from place) → length at.contexts ≡ length names
located_length {names} at = sym (context_length at.contexts) ∙ ap length at.path ∙ keys_length names
