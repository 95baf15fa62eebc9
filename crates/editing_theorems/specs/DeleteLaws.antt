-- An entry removed, a file's or a directory's: the image after it is accepted, the path's entry is gone, every other path shows what it showed, other bytes stay. Delete is one.
use Rattle.std.specs.Prelude.{◌≡◌, refl, ℕ, ◌+◌, ◌≤◌, length}
use Rattle.std.proofs.Math.Path.{ap, sym, subst}
use Rattle.std.proofs.Common.{◌∙◌, arith, eq-eqb, ne_eqb, eqb-true}
use mathlib.Core.List.{List, [], ◌∷◌, ◌++◌}
use Rattle.geometry.specs.declared.Geometry.{Geometry}
use Rattle.geometry.specs.ChooseLaws.{choose_true, choose_false}
use Rattle.geometry.specs.Geometry.{Fit, first_entries, later_entries}
use Rattle.geometry.specs.Number.{Bytes}
use Rattle.rules.specs.Result.{Res, ok}
use Rattle.rules.proofs.ResultLaws.{ok_inj, clash, refuse_inv, on_then}
use Rattle.rules.specs.PageSets.{count}
use Rattle.rules.proofs.PageSetLaws.{same, other, hits, count_append}
use Rattle.rules.specs.Chain.{Views, one_view, views_of}
use Rattle.rules.specs.Tree.{key_of, Items, end, page, file, dir, start_of, inner_pages, all_pages, keys, map_pages, Image, used}
use Rattle.rules.specs.Control.{Parent}
use Rattle.rules.specs.Bitmap.{bitmap_of}
use Rattle.rules.specs.Check.{check}
use Rattle.rules.specs.WellFormed.{HasBelow, IsDirectory, Entries, WellFormed}
use Rattle.rules.proofs.TargetLaws.{Reached, reached, delete_met, removal_met}
use Rattle.rules.specs.Paths.{Path, path_of, directory_path_of, file_key, Found, nothing, a_file, a_directory, find, Place, Target, root_place, directory_at, change_at}
use Rattle.rules.specs.Writes.{edited, edit_writes}
use Rattle.rules.specs.Put.{plain_edit}
use Rattle.rules.specs.Delete.{remove, present, delete_target, remove_edit, delete_edit, remove_at}
use Rattle.rules.specs.Directories.{present_directory, without_entries, removal_target}
use Rattle.rules.proofs.EditLaws.{remove_own, remove_inner, remove_fewer, find_removed, find_beside_removed}
use Rattle.rules.specs.EditLaws.{all_found}
use Rattle.rules.specs.Candidate.{look_up, at_path, chain_pages, EmptyDirectory, directory_keys}
use Rattle.rules.specs.Demand2.{shown, EditDone, PathIn, IsFile, DeleteShows, Deleted}
use Rattle.reading_theorems.specs.Directory.{all_split}
use Rattle.reading_theorems.specs.Accepted.{accepted_iff}
use Rattle.editing_theorems.specs.Capacity.{slots_here, PagesHold}
use Rattle.editing_theorems.specs.HeldPackets.{below_same}
use Rattle.editing_theorems.specs.Contexts.{filled_all, context_path, levels_at, all_filled_all, Located, locate}
use Rattle.editing_theorems.specs.ContextLaws.{Shaped, shaped_changed}
use Rattle.editing_theorems.specs.EditedImage.{DirectoryEdit, DirectoryOf, directory_of, OneEdit, place_shaped, tree_edited, used_edited, edit_done}
use Rattle.editing_theorems.specs.PathLaws.{NothingBelow, empty_below}
use Rattle.editing_theorems.specs.PathChanges.{shown_directory_lem, same_path, PathsChanged, paths_changed}

-- ---- an entry removed from its directory, a file's or a directory's
pub remove_directory_lem : (k : ℕ) (t : Items) → IsDirectory t → IsDirectory (remove k t) × (start_of (remove k t) ≡ start_of t)
remove_directory_lem k end i = absurd i
remove_directory_lem k (page p t) i = (tt, refl)
remove_directory_lem k (file l ls t) i = absurd i
remove_directory_lem k (dir l d t) i = absurd i

pub remove_entries : (n levels k : ℕ) (t : Items) → Entries n levels t → Entries n levels (remove k t)
remove_entries n levels k end w = tt
remove_entries n levels k (page p t) w = remove_entries n levels k t w
remove_entries n levels k (file l ls t) w = elim (hits k (key_of l)) [
  | same e i ↦ simp (eq-eqb k (key_of l) e, choose_true) w.3
  | other e i ↦ simp (ne_eqb k (key_of l) e, choose_false) (w.0, w.1, w.2, remove_entries n levels k t w.3)
]
remove_entries n levels k (dir l d t) w = elim (hits k (key_of l)) [
  | same e i ↦ simp (eq-eqb k (key_of l) e, choose_true) w.5
  | other e i ↦ simp (ne_eqb k (key_of l) e, choose_false) (w.0, w.1, w.2, w.3, w.4, remove_entries n levels k t w.5)
]

pub remove_holds : (next later k : ℕ) (t : Items) → PagesHold next later t → (slots_here (remove k t) ≤ slots_here t) × PagesHold next later (remove k t)
remove_holds next later k end h = (omega arith, tt)
remove_holds next later k (page p t) h = let r = remove_holds later later k t h.1 in (omega arith, (omega (arith, r.0, h.0), r.1))
remove_holds next later k (file l ls t) h = elim (hits k (key_of l)) [
  | same e i ↦ simp (eq-eqb k (key_of l) e, choose_true) (omega arith, h)
  | other e i ↦ let r = remove_holds next later k t h in simp (ne_eqb k (key_of l) e, choose_false) (omega (arith, r.0), r.1)
]
remove_holds next later k (dir l d t) h = elim (hits k (key_of l)) [
  | same e i ↦ simp (eq-eqb k (key_of l) e, choose_true) (omega arith, h)
  | other e i ↦ let r = remove_holds next later k t h in simp (ne_eqb k (key_of l) e, choose_false) (omega (arith, r.0), r.1)
]

-- what is left below it stood there
pub remove_stands : (g : Geometry) (vs : Views) (here : Parent) (k : ℕ) (t : Items) → HasBelow g vs here t → HasBelow g vs here (remove k t)
remove_stands g vs here k end s = tt
remove_stands g vs here k (page p t) s = remove_stands g vs here k t s
remove_stands g vs here k (file l ls t) s = elim (hits k (key_of l)) [
  | same e i ↦ simp (eq-eqb k (key_of l) e, choose_true) s.1
  | other e i ↦ simp (ne_eqb k (key_of l) e, choose_false) (s.0, remove_stands g vs here k t s.1)
]
remove_stands g vs here k (dir l d t) s = elim (hits k (key_of l)) [
  | same e i ↦ simp (eq-eqb k (key_of l) e, choose_true) s.2
  | other e i ↦ simp (ne_eqb k (key_of l) e, choose_false) (s.0, s.1, remove_stands g vs here k t s.2)
]

pub remove_edit_lem : (g : Geometry) (levels : ℕ) (here : Parent) (k : ℕ) (d : Items) → IsDirectory d → DirectoryEdit g levels here d (remove k d) [] (inner_pages (remove k d))
remove_edit_lem g levels here k d i = record {
  start = (remove_directory_lem k d i).1;
  shaped = λ s. record {
    is_directory = (remove_directory_lem k d i).0;
    names = λ x. omega (arith, s.names x, remove_fewer x k d);
    entries = remove_entries g.width levels k d s.entries;
  };
  holds = λ h. (remove_holds (first_entries g) (later_entries g) k d h).1;
  own = λ x. omega (arith, ap (count x) (remove_own k d));
  inner = λ x. omega arith;
  stands = λ v w h s a. below_same g v w here (remove k d) h (remove_stands g (one_view v) here k d s);
}

-- ---- what the removal of the entry under a key leaves, where nothing stands below that entry
pub record Removed (g : Geometry) (image : List ℕ) (i : Image) (names : List ℕ) (place : Place) (k : ℕ) (j : Image) : Type 0 where
  pub done : EditDone g image i j (edit_writes g (bitmap_of g (used i) i.map) (remove_edit k place) i j) (plain_edit g names (remove_edit k place) i image)
  -- it stood at its path and is gone
  pub was : at_path (directory_keys names ++ (k ∷ [])) i ≡ find k place.items
  pub gone : at_path (directory_keys names ++ (k ∷ [])) j ≡ nothing
  -- every other path shows what it showed
  pub others : (ks : List ℕ) → (ks ≡ directory_keys names ++ (k ∷ []) → ⊥) → shown g (at_path ks j) ≡ shown g (at_path ks i)
  -- its pages are free
  pub total : (x : ℕ) → count x (used j) + count x (all_found (find k place.items)) ≡ count x (used i)

module _ (g : Geometry) (image : List ℕ) (bytes : Bytes image) (i : Image) (well : WellFormed g image i) (names : List ℕ) (place : Place)
    (there : directory_at names (root_place i.tree) ≡ ok place) (k : ℕ) where
  abbrev d : Items
  d = place.items

  abbrev e : Items
  e = remove k place.items

  abbrev pub located : Located names (root_place i.tree) place
  located = locate names (root_place i.tree) place there

  abbrev levels : ℕ
  levels = levels_at located.contexts 8

  abbrev here : Parent
  here = place.here

  -- the directory, and its edit
  abbrev pub directory : DirectoryOf g image (bitmap_of g (used i) i.map)
  directory = directory_of g image i well bytes names place (locate names (root_place i.tree) place there)

  shape_here : Shaped g.width levels place.items
  shape_here = place_shaped directory

  pub the_edit_lem : DirectoryEdit g levels here place.items (remove k place.items) [] (inner_pages (remove k place.items))
  the_edit_lem = remove_edit_lem g levels here k d shape_here.is_directory

  pub pages_then : (x : ℕ) → count x (all_pages (change_at names (λ _. remove k place.items) i.tree) ++ map_pages i.map) + count x (all_found (find k place.items)) ≡ count x (used i)
  pages_then x =
      let cs = located.contexts in
      rw (located.change (λ _. e)) (omega (
        arith,
        count_append x (all_pages (filled_all cs e)) (map_pages i.map),
        all_filled_all x cs e,
        all_split x e,
        ap (count x) (remove_own k d),
        remove_inner x k d,
        all_split x d,
        all_filled_all x cs d,
        ap (λ (t : Items). count x (all_pages t)) located.whole,
        count_append x (all_pages i.tree) (map_pages i.map),
      ))

  abbrev pub one_edit : OneEdit directory
  one_edit = record { after = e; chain = []; kept = inner_pages e; edit = the_edit_lem; fits = tt; apart = λ x. omega (arith, pages_then x, well.holds.apart x) }

  abbrev j : Image
  j = edited g names (remove_edit k place) i

  gone_there : find k (remove k place.items) ≡ nothing
  gone_there = find_removed k d (shape_here.names k)

  changed : NothingBelow (find k place.items) → PathsChanged g (context_path located.contexts) k d e i j
  changed none =
      let cs = located.contexts in
      let s : Shaped g.width 8 (filled_all cs d) = rw located.whole (record { is_directory = well.holds.is_directory; names = well.holds.names; entries = well.holds.entries }) in
      paths_changed g 8 cs d e k s (shaped_changed d e cs 8 the_edit_lem.shaped s) none (λ x ks. ap (look_up (x ∷ ks)) gone_there) (λ x m. find_beside_removed x k m d)
      i j (sym located.whole) (tree_edited g names (remove_edit k place) i ∙ located.change (λ _. e))

  pub entry_removed : NothingBelow (find k place.items) → Removed g image i names place k (edited g names (remove_edit k place) i)
  entry_removed none =
      let c = changed none in
      let t : directory_keys names ≡ context_path located.contexts = sym located.path in
      record {
        done = unfold plain_edit in edit_done one_edit;
        was = rw t c.before;
        gone = rw t (c.after ∙ gone_there);
        others = λ ks m. same_path ks (context_path located.contexts)
            (λ q. rw q (ap (shown g) c.target_after ∙ shown_directory_lem g c.label d e the_edit_lem.start (remove_own k d) ∙ sym (ap (shown g) c.target_before)))
            (λ n. c.others ks n (λ q. m (q ∙ ap (λ (ts : List ℕ). ts ++ (k ∷ [])) (sym t))));
        total = λ x. ap (λ (us : List ℕ). count x us + count x (all_found (find k d))) (used_edited g names (remove_edit k place) i) ∙ pages_then x;
      }

-- ---- a call that removes what stands at its path, with nothing below it: a delete, and the removal of a directory
pub record RemoveCall (asked : Res Path) (Stood : Found → Type 0) (target : Items → Res Target) : Type 0 where
  pub met : (t : Items) (x : Target) → target t ≡ ok x → Reached asked t x × Stood (find (file_key x.to) x.place.items)
  pub nothing_below : (f : Found) → Stood f → NothingBelow f
  pub all_of_it : (f : Found) → Stood f → (x : ℕ) → count x (all_found f) ≡ count x (chain_pages f)

-- a path, in a well-formed image, at which such a thing stands
pub record StandsIn (g : Geometry) (asked : Res Path) (Stood : Found → Type 0) (image : List ℕ) : Type 0 where
  pub at : PathIn g asked image
  pub bytes : Bytes image
  pub stood : Stood (find (file_key at.to) at.place.items)

module _ {asked : Res Path} {Stood : Found → Type 0} {target : Items → Res Target} (C : RemoveCall asked Stood target) {g : Geometry} {image : List ℕ} where
  -- the target of such a call is one
  abbrev pub stands_in : Fit g image → Bytes image → (i : Image) → check g (views_of g image) ≡ ok i → (x : Target) → target i.tree ≡ ok x → StandsIn g asked Stood image
  stands_in fit b i c x t = let m = C.met i.tree x t in record {
    at = record { before = i; accepted = (accepted_iff g image fit b i).0 c; to = x.to; formed = m.0.formed; place = x.place; there = m.0.there };
    bytes = b;
    stood = m.1;
  }

  module _ (f : StandsIn g asked Stood image) where
    abbrev pub tree_after : Image
    tree_after = edited g f.at.to.directories (delete_edit f.at.to f.at.place) f.at.before

    removed : Removed g image f.at.before f.at.to.directories f.at.place (file_key f.at.to)
        (edited g f.at.to.directories (remove_edit (file_key f.at.to) f.at.place) f.at.before)
    removed = entry_removed g image f.bytes f.at.before f.at.accepted f.at.to.directories f.at.place f.at.there (file_key f.at.to) (C.nothing_below _ f.stood)

    pub delete_shows : DeleteShows f.at Stood tree_after
    unfolding delete_edit
    delete_shows = record {
      was = subst Stood (sym removed.was) f.stood;
      gone = removed.gone;
      others = removed.others;
      total = λ x. ap (λ (y : Found). count x (used tree_after) + count x (chain_pages y)) removed.was ∙ ap (λ (n : ℕ). count x (used tree_after) + n) (sym (C.all_of_it _ f.stood x)) ∙ removed.total x;
    }

    pub delete_leaves : Deleted g asked Stood image (plain_edit g f.at.to.directories (delete_edit f.at.to f.at.place) f.at.before image)
    unfolding delete_edit
    delete_leaves = record { at = f.at; tree = tree_after; tree_is = refl; done = removed.done; shows = delete_shows }

  pub delete_done : Fit g image → Bytes image → (after : List ℕ) → remove_at g target image ≡ ok after → Deleted g asked Stood image after
  unfolding remove_at
  delete_done fit b after e = on_then _ _ _ e λ i c e. on_then _ _ _ e λ x t e. subst (Deleted g asked Stood image) (ok_inj e) (delete_leaves (stands_in fit b i c x t))

-- ---- a delete
file_stood : (f : Found) (u : Unit {0}) → present f ≡ ok u → IsFile f
unfolding present
file_stood nothing u e = clash e
file_stood (a_file l ls) u e = tt
file_stood (a_directory l d) u e = clash e

pub a_delete_lem : (path : List ℕ) → RemoveCall (path_of path) IsFile (delete_target path)
a_delete_lem path = record {
  met = λ t x e. let m = delete_met path t x e in (reached (path_of path) t x m.at, file_stood (find (file_key x.to) x.place.items) tt m.is);
  nothing_below = below;
  all_of_it = all;
}
  where
    below : (f : Found) → IsFile f → NothingBelow f
    below nothing h = absurd h
    below (a_file l ls) h = λ j ks. refl
    below (a_directory l d) h = absurd h

    all : (f : Found) → IsFile f → (x : ℕ) → count x (all_found f) ≡ count x (chain_pages f)
    all nothing h x = refl
    all (a_file l ls) h x = refl
    all (a_directory l d) h x = absurd h

-- ---- the removal of a directory
pub no_keys : (ks : List ℕ) → length ks ≡ 0 → ks ≡ []
no_keys [] e = refl
no_keys (k ∷ ks) e = absurd (omega arith)

directory_stood : (f : Found) → present_directory f ≡ ok tt → without_entries f ≡ ok tt → EmptyDirectory f
unfolding present_directory without_entries
directory_stood nothing p e = clash p
directory_stood (a_file l ls) p e = clash p
directory_stood (a_directory l d) p e = no_keys (keys d) (eqb-true _ _ (refuse_inv _ _ _ _ e))

-- without entries no page but its own
no_inner : (t : Items) → keys t ≡ [] → (x : ℕ) → count x (inner_pages t) ≡ 0
no_inner end e x = refl
no_inner (page p t) e x = no_inner t e x
no_inner (file l ls t) e x = absurd (omega (arith, ap length e))
no_inner (dir l d t) e x = absurd (omega (arith, ap length e))

pub a_removal : (path : List ℕ) → RemoveCall (directory_path_of path) EmptyDirectory (removal_target path)
a_removal path = record {
  met = λ t x e. let m = removal_met path t x e in (reached (directory_path_of path) t x m.at, directory_stood (find (file_key x.to) x.place.items) m.is m.none);
  nothing_below = below;
  all_of_it = all;
}
  where
    below : (f : Found) → EmptyDirectory f → NothingBelow f
    below nothing h = absurd h
    below (a_file l ls) h = absurd h
    below (a_directory l d) h = empty_below l d h

    all : (f : Found) → EmptyDirectory f → (x : ℕ) → count x (all_found f) ≡ count x (chain_pages f)
    all nothing h x = refl
    all (a_file l ls) h x = absurd h
    all (a_directory l d) h x = omega (arith, all_split x d, no_inner d h x)
