-- The directory of a put, or of a making, before and after: a file's chain replaced, or a new entry and, where no page has space, a new page.
use Rattle.std.specs.Prelude.{◌≡◌, refl, Bool, true, false, List, [], ◌∷◌, ℕ, zero, suc, ◌+◌, ◌%◌, ◌≤◌, ◌<◌, length, take, get_or}
use Rattle.std.proofs.Common.{ap, sym, ◌∙◌, subst, inl, inr, eq-zero-or-pos, arith, le-leb, eq-eqb}
use Rattle.std.proofs.Math.Path.{fun_ext}
use Rattle.geometry.specs.declared.Geometry.{Geometry}
use Rattle.geometry.specs.Choose.{choose}
use Rattle.geometry.specs.ChooseLaws.{choose_true, choose_false}
use Rattle.geometry.specs.Geometry.{Valid, data_capacity, first_entries, later_entries}
use Rattle.rules.specs.PageSets.{bit, count}
use Rattle.rules.proofs.PageSetLaws.{mem_true, mem_false}
use Rattle.rules.specs.Chain.{Link, link, first, pages}
use Rattle.rules.specs.declared.Entry.{Entry}
use Rattle.rules.specs.Names.{file_number, directory_number, attribute}
use Rattle.rules.specs.Tree.{Label, key_of, width, Items, end, page, file, dir, own_pages, inner_pages, keys}
use Rattle.rules.specs.Control.{Parent, sub_control}
use Rattle.rules.specs.WellFormed.{Named, Entries}
use Rattle.rules.specs.Paths.{Path, file_key, file_label, Found, nothing, a_file, a_directory, find, Place}
use Rattle.rules.specs.Put.{insert, is_full, new_item, replace, extra_pages, items_after}
use Rattle.rules.proofs.EditLaws.{IsEntry, directory_entry_lem, width_is, find_none, none_found, found_file, file_entry_lem, insert_own, find_inserted, find_beside_inserted}
use Rattle.rules.specs.EditLaws.{all_found}
use Rattle.rules.proofs.EditLaws.{replace_own, replace_inner, replace_none, find_replaced, find_beside_replaced}
use Rattle.rules.specs.Candidate.{look_up, chain_pages, stamps_of}
use Rattle.rules.specs.Demand2.{empty_directory}
use Rattle.reading_theorems.specs.LabelLaws.{file_no_directory}
use Rattle.reading_theorems.specs.ControlLaws.{control_size_lem}
use Rattle.reading_theorems.specs.SubControlLaws.{length_sub}
use Rattle.editing_theorems.specs.Capacity.{capacity_least}
use Rattle.editing_theorems.specs.ContextLaws.{Shaped}
use Rattle.editing_theorems.specs.EditedImage.{DirectoryEdit}
use Rattle.editing_theorems.specs.PathLaws.{FileKey, no_directory, NothingBelow, empty_below}
use Rattle.editing_theorems.specs.InsertLaws.{NewEntry, new_file, new_directory_lem, insert_edit, replace_edit}

-- the extension of a directory
pub directory_number_lem : (x : ℕ) → x ≡ 127 → directory_number x ≡ true
unfolding directory_number
directory_number_lem x e = eq-eqb (x % 128) 127 (omega arith)

-- ---- a file's key that is there finds a file
pub on_file : {C : Type 0} (n levels k : ℕ) (t : Items) → Entries n levels t → FileKey k → 1 ≤ count k (keys t) → ((m : Label) (ls : List Link) → find k t ≡ a_file m ls → C) → C
on_file {C = C} n levels k t w h some f = go (find k t) refl
  where
    go : (r : Found) → find k t ≡ r → C
    go nothing e = absurd (omega (arith, none_found k t e))
    go (a_file m ls) e = f m ls e
    go (a_directory m d) e = absurd (no_directory n levels k t w h m d e)

-- an entry of the same key without attribute has the same name and extension byte
pub record SameName (l m : Label) : Type 0 where
  pub name_is : m.name ≡ l.name
  pub extension_is : m.extension ≡ l.extension

pub same_name : (l m : Label) → key_of m ≡ key_of l → attribute m.extension ≡ 0 → attribute l.extension ≡ 0 → SameName l m
same_name l m e h k = record { name_is = omega arith; extension_is = omega arith }

module _ (g : Geometry) (l : Label) where
  pub extra_old : (d : Items) → 1 ≤ count (key_of l) (keys d) → extra_pages g l d ≡ 0
  unfolding extra_pages
  extra_old d h = rw (mem_true (key_of l) (keys d) h, choose_true)

  pub extra_new : (d : Items) → count (key_of l) (keys d) ≡ 0 → extra_pages g l d ≡ bit (is_full (later_entries g) (first_entries g) 0 d)
  unfolding extra_pages
  extra_new d h = rw (mem_false (key_of l) (keys d) h, choose_false)

  pub after_old : (q : ℕ) (chain : List Link) (d : Items) → 1 ≤ count (key_of l) (keys d) → items_after g l q chain d ≡ replace (key_of l) chain d
  unfolding items_after
  after_old q chain d h = rw (mem_true (key_of l) (keys d) h, choose_true)

  pub after_new : (q : ℕ) (chain : List Link) (d : Items) → count (key_of l) (keys d) ≡ 0
      → items_after g l q chain d ≡ insert (new_item l chain) (later_entries g) q (first_entries g) 0 d
  unfolding items_after
  after_new q chain d h = rw (mem_false (key_of l) (keys d) h, choose_false)

  pub extra_one : (d : Items) → extra_pages g l d ≤ 1
  extra_one d = elim (eq-zero-or-pos (count (key_of l) (keys d))) [
    | inr z ↦ omega (arith, extra_old d z)
    | inl z ↦ rw (extra_new d z) (small (is_full (later_entries g) (first_entries g) 0 d))
  ]
    where
      small : (b : Bool) → bit b ≤ 1
      small true = omega arith
      small false = omega arith

-- what is put at a path in the directory at a place, and what may stand there: a file, where none stands that is read-only; or a directory, where nothing of its name stands,
-- with the control field that names the directory above it, and at a level that may be
pub data Enters (g : Geometry) (q : Path) (place : Place) (bytes : List ℕ) (stands : Label → List Link → Found) : Type 0 where
  as_file : q.extension ≤ 99 → ((l : Label) (ls : List Link) → find (file_key q) place.items ≡ a_file l ls → attribute l.extension ≡ 0) → stands ≡ a_file → Enters g q place bytes stands
  as_directory : q.extension ≡ 127 → length q.directories < 8 → bytes ≡ sub_control g.width place.here → find (file_key q) place.items ≡ nothing → stands ≡ empty_directory
      → Enters g q place bytes stands

-- a file's extension
pub file_number_lem : (x : ℕ) → x ≤ 99 → file_number x ≡ true
unfolding file_number
file_number_lem x h = le-leb (x % 128) 99 (omega arith)

-- a new entry of a file, and of a directory
pub new_as_file : (l : Label) (ls : List Link) → directory_number l.extension ≡ false → new_item l ls ≡ file l ls
new_as_file l ls e = fun_ext (λ t. ap (λ (b : Bool). choose b (dir l (page (first ls) end) t) (file l ls t)) e ∙ choose_false _ _)

pub new_as_directory : (l : Label) (ls : List Link) → directory_number l.extension ≡ true → new_item l ls ≡ dir l (page (first ls) end)
new_as_directory l ls e = fun_ext (λ t. ap (λ (b : Bool). choose b (dir l (page (first ls) end) t) (file l ls t)) e ∙ choose_true _ _)

-- the directory d with what is put into it, with the name and extension byte of l, `extra` pages joining it
pub record PutIn (g : Geometry) (levels : ℕ) (here : Parent) (l : Label) (q : ℕ) (chain : List Link) (extra : ℕ) (stands : Label → List Link → Found) (d e : Items) : Type 0 where
  pub edit : DirectoryEdit g levels here d e chain (inner_pages (replace (key_of l) [] d))
  pub own_is : (x : ℕ) → count x (own_pages e) ≡ count x (own_pages d) + count x (take extra (q ∷ []))
  pub label : Label
  pub finds : find (key_of l) e ≡ stands label chain
  pub named : SameName l label
  pub stamped : label.stamps ≡ stamps_of (find (key_of l) d)
  pub elsewhere : (j : ℕ) → (j ≡ key_of l → ⊥) → find j e ≡ find j d
  -- nothing stands below what was there, nor below what is there
  pub below_before : NothingBelow (find (key_of l) d)
  pub below_after : NothingBelow (find (key_of l) e)
  -- the chain that was there is all that was
  pub exact : (x : ℕ) → count x (chain_pages (find (key_of l) d)) + count x (inner_pages (replace (key_of l) [] d)) ≡ count x (inner_pages d)
  pub all_old : all_found (find (key_of l) d) ≡ chain_pages (find (key_of l) d)

taken_by : (x q : ℕ) (b : Bool) → count x (choose b (q ∷ []) []) ≡ count x (take (bit b) (q ∷ []))
taken_by x q true = simp choose_true
taken_by x q false = simp choose_false

-- a new entry, a file's or a directory's
module _ (g : Geometry) (valid : Valid g) (levels : ℕ) (here : Parent) (l : Label) (bare : l.stamps ≡ []) (q : ℕ) (chain : List Link) (stands : Label → List Link → Found)
    (is : NewEntry g levels here (new_item l chain) chain) (at : IsEntry (new_item l chain) (key_of l) (pages chain) (stands l chain)) (none : NothingBelow (stands l chain)) (d : Items)
    (s : Shaped g.width levels d) (z : count (key_of l) (keys d) ≡ 0) where
  pub new_in : PutIn g levels here l q chain (extra_pages g l d) stands d (items_after g l q chain d)
  new_in =
      let found = find_inserted (new_item l chain) (key_of l) (pages chain) (stands l chain) at (later_entries g) q (first_entries g) 0 d z in
      let before = find_none (key_of l) d z in
      rw (after_new g l q chain d z, extra_new g l d z) (record {
        edit = rw (replace_none (key_of l) [] d z) (insert_edit g valid levels here (new_item l chain) chain (key_of l) (stands l chain) is at q d s.is_directory z);
        own_is = λ x. omega (
          arith,
          insert_own (new_item l chain) (key_of l) (pages chain) (stands l chain) at (later_entries g) q (first_entries g) x 0 d,
          taken_by x q (is_full (later_entries g) (first_entries g) 0 d),
        );
        label = l;
        named = record { name_is = refl; extension_is = refl };
        stamped = bare ∙ sym (ap stamps_of before);
        finds = found;
        elsewhere = λ j n. find_beside_inserted (new_item l chain) (key_of l) (pages chain) (stands l chain) at (later_entries g) q j n (first_entries g) 0 d;
        below_before = λ j ks. ap (look_up (j ∷ ks)) before;
        below_after = λ j ks. ap (look_up (j ∷ ks)) found ∙ none j ks;
        exact = λ x. rw (before, replace_none (key_of l) [] d z) (omega arith);
        all_old = ap all_found before ∙ sym (ap chain_pages before);
      })

-- a file's
module _ (g : Geometry) (valid : Valid g) (levels : ℕ) (here : Parent) (l : Label) (named : Named g.width l) (bare : l.stamps ≡ []) (is_file : file_number l.extension ≡ true)
    (a : attribute l.extension ≡ 0) (key : FileKey (key_of l)) (q : ℕ) (chain : List Link) (some : 0 < length chain) (d : Items) (s : Shaped g.width levels d) where
  one_slot : width l ≡ 1
  one_slot = width_is l ∙ ap (λ (ss : List Entry). suc (length ss)) bare

  file_in : ((m : Label) (ls : List Link) → find (key_of l) d ≡ a_file m ls → attribute m.extension ≡ 0) → PutIn g levels here l q chain (extra_pages g l d) a_file d (items_after g l q chain d)
  file_in writable =
      let new = new_as_file l chain (file_no_directory l.extension is_file) in
      elim (eq-zero-or-pos (count (key_of l) (keys d))) [
        | inl z ↦ new_in g valid levels here l bare q chain a_file (rw new (new_file g levels here l named one_slot chain is_file some)) (rw new (file_entry_lem l chain)) (λ j ks. refl) d s z
        | inr z ↦ on_file g.width levels (key_of l) d s.entries key z λ m ls e. rw (after_old g l q chain d z, extra_old g l d z) (record {
          edit = replace_edit g levels here (key_of l) chain m ls d s.is_directory e some;
          own_is = λ x. omega (arith, ap (count x) (replace_own (key_of l) chain d));
          label = m;
          named = same_name l m (sym (found_file (key_of l) m ls d e).key_is) (writable m ls e) a;
          stamped = sym (ap stamps_of e);
          finds = find_replaced (key_of l) chain m ls d e;
          elsewhere = λ j n. find_beside_replaced j (key_of l) chain n d;
          below_before = λ j ks. ap (look_up (j ∷ ks)) e;
          below_after = λ j ks. ap (look_up (j ∷ ks)) (find_replaced (key_of l) chain m ls d e);
          exact = λ x. rw e (omega (arith, replace_inner x (key_of l) [] m ls d e));
          all_old = ap all_found e ∙ sym (ap chain_pages e);
        })
      ]

-- a directory's
directory_in : (g : Geometry) (valid : Valid g) (levels : ℕ) (here : Parent) (l : Label) (named : Named g.width l) (bare : l.stamps ≡ []) → directory_number l.extension ≡ true → (q : ℕ) (chain : List Link)
    → chain ≡ link (first chain) (sub_control g.width here) ∷ [] → (d : Items) → Shaped g.width (suc levels) d → find (key_of l) d ≡ nothing
    → PutIn g (suc levels) here l q chain (extra_pages g l d) empty_directory d (items_after g l q chain d)
directory_in g valid levels here l named bare is_directory q chain one d s none =
    let new = new_as_directory l chain is_directory in
    let p = first chain in
    let slot : width l ≡ 1 = width_is l ∙ ap (λ (ss : List Entry). suc (length ss)) bare in
    let is : NewEntry g (suc levels) here (new_item l chain) chain
    = rw new (subst (NewEntry g (suc levels) here (dir l (page p end))) (sym one) (new_directory_lem g levels here l named slot p is_directory)) in
    let at : IsEntry (new_item l chain) (key_of l) (pages chain) (empty_directory l chain)
    = rw new (subst (λ (ps : List ℕ). IsEntry (dir l (page p end)) (key_of l) ps (a_directory l (page p end))) (sym (ap pages one)) (directory_entry_lem l (page p end))) in
    new_in g valid (suc levels) here l bare q chain empty_directory is at (empty_below l (page p end) refl) d s (none_found (key_of l) d none)

pub put_in : (g : Geometry) → Valid g → (x : Path) (place : Place) (bytes : List ℕ) (stands : Label → List Link → Found) → Enters g x place bytes stands → Named g.width (file_label x)
    → (q : ℕ) (chain : List Link) → 0 < length chain → (length bytes ≤ data_capacity g → chain ≡ link (first chain) bytes ∷ []) → (levels : ℕ) → (length x.directories < 8 → 0 < levels)
    → Shaped g.width levels place.items
    → PutIn g levels place.here (file_label x) q chain (extra_pages g (file_label x) place.items) stands place.items (items_after g (file_label x) q chain place.items)
put_in g valid x place bytes stands (as_file low writable e) named q chain some one levels deep s =
    rw e (file_in g valid levels place.here (file_label x) named refl (file_number_lem x.extension low) (omega (arith, low)) (omega (arith, low)) q chain some place.items s writable)
put_in g valid x place bytes stands (as_directory is few control none e) named q chain some one zero deep s = absurd (omega (arith, deep few))
put_in g valid x place bytes stands (as_directory is few control none e) named q chain some one (suc levels) deep s =
    let fits : length bytes ≤ data_capacity g = omega (arith, ap length control, length_sub g place.here, control_size_lem g, capacity_least g valid, valid.two) in
    rw e (directory_in g valid levels place.here (file_label x) named refl (directory_number_lem x.extension is) q chain
    (subst (λ (b : List ℕ). chain ≡ link (first chain) b ∷ []) control (one fits)) place.items s none)

-- the lowest free page is the one that joins
pub take_first : (x extra : ℕ) (free : List ℕ) → extra ≤ 1 → extra ≤ length free → count x (take extra (get_or free 0 0 ∷ [])) ≡ count x (take extra free)
take_first x zero free h k = refl
take_first x (suc zero) [] h k = absurd (omega arith)
take_first x (suc zero) (p ∷ free) h k = refl
take_first x (suc (suc n)) free h k = absurd (omega arith)
