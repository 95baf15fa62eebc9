-- A new entry in a directory, and a file's chain replaced: both are edits of the directory.
use Rattle.std.specs.Prelude.{◌≡◌, refl, true, List, [], ◌∷◌, ◌++◌, ℕ, zero, suc, ◌+◌, ◌-◌, ◌≤◌, ◌<◌, length}
use Rattle.std.proofs.Common.{ap, sym, ◌∙◌, append-nil, arith, eq-eqb, ne_eqb}
use Rattle.geometry.specs.declared.Geometry.{Geometry}
use Rattle.geometry.specs.ChooseLaws.{choose_true, choose_false}
use Rattle.geometry.specs.Geometry.{Valid, first_entries, later_entries}
use Rattle.packet.specs.Packet.{good, View}
use Rattle.rules.specs.PageSets.{hit, count, Once}
use Rattle.rules.proofs.PageSetLaws.{same, other, hits, count_append}
use Rattle.rules.specs.Chain.{one_view, Link, link, pages, linked}
use Rattle.rules.specs.Names.{file_number, directory_number}
use Rattle.rules.specs.Tree.{Label, key_of, width, Items, end, page, file, dir, start_of, directory_links, own_pages, inner_pages, keys}
use Rattle.rules.specs.Control.{Parent, sub_control}
use Rattle.rules.specs.WellFormed.{HasPackets, HasBelow, IsDirectory, Named, Entries}
use Rattle.rules.specs.Paths.{Found, a_file, a_directory, find}
use Rattle.rules.specs.Put.{insert, replace}
use Rattle.rules.proofs.EditLaws.{IsEntry, directory_entry_lem, insert_keys, insert_inner, insert_own, replace_keys, replace_own, replace_inner}
use Rattle.editing_theorems.specs.Capacity.{slots_here, PagesHold, first_some, later_some}
use Rattle.editing_theorems.specs.HeldPackets.{pages_linked, count_directory, packets_same, below_same}
use Rattle.editing_theorems.specs.EditedImage.{DirectoryEdit}

-- ---- a new entry of a directory with so many levels left that is known as `here`: what `new` puts in front takes one slot and has the packets of a chain below it
pub record NewEntry (g : Geometry) (levels : ℕ) (here : Parent) (new : Items → Items) (chain : List Link) : Type 0 where
  pub one_more : (t : Items) → slots_here (new t) ≡ suc (slots_here t)
  pub holds : (next later : ℕ) (t : Items) → PagesHold next later t → PagesHold next later (new t)
  pub entries : (t : Items) → Entries g.width levels t → Entries g.width levels (new t)
  pub stands : (w : View) (t : Items) → HasPackets w (linked chain) → HasBelow g (one_view w) here t → HasBelow g (one_view w) here (new t)

module _ (g : Geometry) (levels : ℕ) (here : Parent) (l : Label) (named : Named g.width l) (one : width l ≡ 1) where
  -- a file's entry, with its chain
  pub new_file : (chain : List Link) → file_number l.extension ≡ true → 0 < length chain → NewEntry g levels here (file l chain) chain
  new_file chain e h = record {
    one_more = λ t. omega (arith, one);
    holds = λ next later t k. k;
    entries = λ t w. (named, e, h, w);
    stands = λ w t a s. (a, s);
  }

  -- a directory's entry where a level is left: its first page, p, has the control field that names the directory above it, and no entries
  pub new_directory_lem : (p : ℕ) → directory_number l.extension ≡ true → NewEntry g (suc levels) here (dir l (page p end)) (link p (sub_control g.width here) ∷ [])
  new_directory_lem p e = record {
    one_more = λ t. omega (arith, one);
    holds = λ next later t k. k;
    entries = λ t w. (named, e, tt, (λ x. omega arith), tt, w);
    stands = λ w t a s. ((a.0 ∙ ap (λ (b : List ℕ). good b 0) (sym (append-nil (sub_control g.width here))), tt), tt, s);
  }

module _ (g : Geometry) (levels : ℕ) (here : Parent) (new : Items → Items) (chain : List Link) (is : NewEntry g levels here new chain) (later q : ℕ) (some : 0 < later) where
  insert_holds : (next : ℕ) → 0 < next → (r : ℕ) (t : Items) → PagesHold next later t → slots_here t ≤ r
      → (slots_here (insert new later q next r t) ≤ r) × PagesHold next later (insert new later q next r t)
  insert_holds next h zero end k m = (omega arith, (omega (arith, is.one_more end), is.holds later later end tt))
  insert_holds next h (suc r) end k m = (omega (arith, is.one_more end), is.holds next later end tt)
  insert_holds next h zero (page p t) k m = let i = insert_holds later some next t k.1 k.0 in (omega arith, (i.0, i.1))
  insert_holds next h (suc r) (page p t) k m = (omega (arith, is.one_more (page p t)), is.holds next later (page p t) k)
  insert_holds next h r (file l ls t) k m = let i = insert_holds next h (r - width l) t k (omega arith) in (omega (arith, i.0), i.1)
  insert_holds next h r (dir l d t) k m = let i = insert_holds next h (r - width l) t k (omega arith) in (omega (arith, i.0), i.1)

  insert_entries : (next r : ℕ) (t : Items) → Entries g.width levels t → Entries g.width levels (insert new later q next r t)
  insert_entries next zero end w = is.entries end w
  insert_entries next (suc r) end w = is.entries end w
  insert_entries next zero (page p t) w = insert_entries later next t w
  insert_entries next (suc r) (page p t) w = is.entries (page p t) w
  insert_entries next r (file l ls t) w = (w.0, w.1, w.2, insert_entries next (r - width l) t w.3)
  insert_entries next r (dir l d t) w = (w.0, w.1, w.2, w.3, w.4, insert_entries next (r - width l) t w.5)

  insert_stands : (w : View) → HasPackets w (linked chain) → (next r : ℕ) (t : Items) → HasBelow g (one_view w) here t → HasBelow g (one_view w) here (insert new later q next r t)
  insert_stands w a next zero end s = is.stands w end a tt
  insert_stands w a next (suc r) end s = is.stands w end a tt
  insert_stands w a next zero (page p t) s = insert_stands w a later next t s
  insert_stands w a next (suc r) (page p t) s = is.stands w (page p t) a s
  insert_stands w a next r (file l ls t) s = (s.0, insert_stands w a next (r - width l) t s.1)
  insert_stands w a next r (dir l d t) s = (s.0, s.1, insert_stands w a next (r - width l) t s.2)

insert_directory : (new : Items → Items) (later q next : ℕ) (t : Items) → IsDirectory t → IsDirectory (insert new later q next 0 t) × (start_of (insert new later q next 0 t) ≡ start_of t)
insert_directory new later q next end i = absurd i
insert_directory new later q next (page p t) i = (tt, refl)
insert_directory new later q next (file l ls t) i = absurd i
insert_directory new later q next (dir l d t) i = absurd i

here_none : (t : Items) → IsDirectory t → slots_here t ≡ 0
here_none end i = absurd i
here_none (page p t) i = refl
here_none (file l ls t) i = absurd i
here_none (dir l d t) i = absurd i

-- a key that is not there yet, then is there once
once_more : (k : ℕ) (old new : List ℕ) → ((x : ℕ) → count x new ≡ hit x k + count x old) → count k old ≡ 0 → Once old → Once new
once_more k old new h z o x = elim (hits x k) [
  | same e i ↦ omega (arith, h x, ap (λ (y : ℕ). count y old) e)
  | other e i ↦ omega (arith, h x, o x)
]

-- ---- the insertion of a new entry with the key k is an edit of the directory
pub insert_edit : (g : Geometry) → Valid g → (levels : ℕ) (here : Parent) (new : Items → Items) (chain : List Link) (k : ℕ) (found : Found)
    → NewEntry g levels here new chain → IsEntry new k (pages chain) found
    → (q : ℕ) (d : Items) → IsDirectory d → count k (keys d) ≡ 0 → DirectoryEdit g levels here d (insert new (later_entries g) q (first_entries g) 0 d) chain (inner_pages d)
insert_edit g valid levels here new chain k found is at q d i z =
    let first = first_entries g in
    let later = later_entries g in
    record {
      start = (insert_directory new later q first d i).1;
      shaped = λ s. record {
        is_directory = (insert_directory new later q first d i).0;
        names = once_more k (keys d) (keys (insert new later q first 0 d)) (λ x. insert_keys new k (pages chain) found at later q first x 0 d) z s.names;
        entries = insert_entries g levels here new chain is later q (later_some g valid) first 0 d s.entries;
      };
      holds = λ h. (insert_holds g levels here new chain is later q (later_some g valid) first (first_some g valid) 0 d h (omega (arith, here_none d i))).1;
      own = λ x. omega (arith, insert_own new k (pages chain) found at later q first x 0 d);
      inner = λ x. omega (arith, insert_inner new k (pages chain) found at later q first x 0 d);
      stands = λ v w h s a. insert_stands g levels here new chain is later q (later_some g valid) w a first 0 d
          (below_same g v w here d h s);
    }

-- of a new directory's
pub directory_edit : (g : Geometry) → Valid g → (levels : ℕ) (here : Parent) (l : Label) → Named g.width l → width l ≡ 1 → directory_number l.extension ≡ true → (p q : ℕ) (d : Items) → IsDirectory d
    → count (key_of l) (keys d) ≡ 0
    → DirectoryEdit g (suc levels) here d (insert (dir l (page p end)) (later_entries g) q (first_entries g) 0 d) (link p (sub_control g.width here) ∷ []) (inner_pages d)
directory_edit g valid levels here l named one e p q d i z =
    insert_edit g valid (suc levels) here (dir l (page p end)) (link p (sub_control g.width here) ∷ []) (key_of l) (a_directory l (page p end))
    (new_directory_lem g levels here l named one p e) (directory_entry_lem l (page p end)) q d i z

-- ---- a file's chain replaced
replace_directory : (k : ℕ) (new : List Link) (t : Items) → IsDirectory t → IsDirectory (replace k new t) × (start_of (replace k new t) ≡ start_of t)
replace_directory k new end i = absurd i
replace_directory k new (page p t) i = (tt, refl)
replace_directory k new (file l ls t) i = absurd i
replace_directory k new (dir l d t) i = absurd i

replace_entries : (n levels k : ℕ) (new : List Link) → 0 < length new → (t : Items) → Entries n levels t → Entries n levels (replace k new t)
replace_entries n levels k new h end w = tt
replace_entries n levels k new h (page p t) w = replace_entries n levels k new h t w
replace_entries n levels k new h (file l ls t) w = elim (hits k (key_of l)) [
  | same e i ↦ simp (eq-eqb k (key_of l) e, choose_true) (w.0, w.1, h, w.3)
  | other e i ↦ simp (ne_eqb k (key_of l) e, choose_false) (w.0, w.1, w.2, replace_entries n levels k new h t w.3)
]
replace_entries n levels k new h (dir l d t) w = (w.0, w.1, w.2, w.3, w.4, replace_entries n levels k new h t w.5)

replace_holds : (next later k : ℕ) (new : List Link) (t : Items) → PagesHold next later t → (slots_here (replace k new t) ≡ slots_here t) × PagesHold next later (replace k new t)
replace_holds next later k new end h = (refl, tt)
replace_holds next later k new (page p t) h = let r = replace_holds later later k new t h.1 in (refl, (omega (arith, r.0, h.0), r.1))
replace_holds next later k new (file l ls t) h = elim (hits k (key_of l)) [
  | same e i ↦ simp (eq-eqb k (key_of l) e, choose_true) (refl, h)
  | other e i ↦ let r = replace_holds next later k new t h in simp (ne_eqb k (key_of l) e, choose_false) (omega (arith, r.0), r.1)
]
replace_holds next later k new (dir l d t) h = let r = replace_holds next later k new t h in (omega (arith, r.0), r.1)

module _ (g : Geometry) (v w : View) (here : Parent) (k : ℕ) (chain : List Link) (a : HasPackets w (linked chain)) where
  replace_stands : (t : Items) → ((x : ℕ) → 1 ≤ count x (inner_pages (replace k [] t)) → w x ≡ v x) → HasBelow g (one_view v) here t
      → HasBelow g (one_view w) here (replace k chain t)
  replace_stands end h s = tt
  replace_stands (page p t) h s = replace_stands t h s
  replace_stands (file l ls t) h s = elim (hits k (key_of l)) [
    | same e i ↦
        let h' : (x : ℕ) → 1 ≤ count x (inner_pages t) → w x ≡ v x = simp (eq-eqb k (key_of l) e, choose_true) at h in
        simp (eq-eqb k (key_of l) e, choose_true) (a, below_same g v w here t h' s.1)
    | other e i ↦
        let h' : (x : ℕ) → 1 ≤ count x (pages ls ++ inner_pages (replace k [] t)) → w x ≡ v x = simp (ne_eqb k (key_of l) e, choose_false) at h in
        let c : (x : ℕ) → count x (pages ls ++ inner_pages (replace k [] t)) ≡ count x (pages ls) + count x (inner_pages (replace k [] t))
        = λ x. count_append x (pages ls) (inner_pages (replace k [] t)) in
        simp (ne_eqb k (key_of l) e, choose_false)
        (packets_same v w (linked ls) (λ x j. h' x (omega (arith, c x, ap (count x) (pages_linked ls)))) s.0, replace_stands t (λ x j. h' x (omega (arith, c x))) s.1)
  ]
  replace_stands (dir l d t) h s =
      let there : Parent = record { name = l.name; start = start_of d } in
      let control = sub_control g.width here in
      let c : (x : ℕ) → count x (inner_pages (dir l d (replace k [] t))) ≡ count x (own_pages d) + (count x (inner_pages d) + count x (inner_pages (replace k [] t))) = λ x. simp count_append in (
        packets_same v w (linked (directory_links g control d)) (λ x j. h x (omega (arith, c x, count_directory g x control d))) s.0,
        below_same g v w there d (λ x j. h x (omega (arith, c x))) s.1,
        replace_stands t (λ x j. h x (omega (arith, c x))) s.2,
      )

pub replace_edit : (g : Geometry) (levels : ℕ) (here : Parent) (k : ℕ) (chain : List Link) (l : Label) (old : List Link) (d : Items) → IsDirectory d → find k d ≡ a_file l old
    → 0 < length chain → DirectoryEdit g levels here d (replace k chain d) chain (inner_pages (replace k [] d))
replace_edit g levels here k chain l old d i e h = record {
  start = (replace_directory k chain d i).1;
  shaped = λ s. record {
    is_directory = (replace_directory k chain d i).0;
    names = rw (replace_keys k chain d) s.names;
    entries = replace_entries g.width levels k chain h d s.entries;
  };
  holds = λ m. (replace_holds (first_entries g) (later_entries g) k chain d m).1;
  own = λ x. omega (arith, ap (count x) (replace_own k chain d));
  inner = λ x. omega (arith, replace_inner x k chain l old d e, replace_inner x k [] l old d e);
  stands = λ v w m s a. replace_stands g v w here k chain a d m s;
}
