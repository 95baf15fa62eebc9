-- The careful delete: all that is promised of it, for every number of writes.
use Rattle.std.specs.Prelude.{◌≡◌, refl, List, ℕ}
use Rattle.std.proofs.Common.{ap, ◌∙◌, arith}
use Rattle.std.proofs.Math.Path.{sym, subst}
use Rattle.geometry.specs.declared.Geometry.{Geometry}
use Rattle.geometry.specs.Geometry.{Fit}
use Rattle.geometry.specs.Number.{Bytes}
use Rattle.rules.specs.declared.WriteCount.{WriteCount}
use Rattle.rules.specs.Result.{ok}
use Rattle.rules.proofs.ResultLaws.{ok_inj, on_then}
use Rattle.rules.specs.PageSets.{count}
use Rattle.rules.specs.Tree.{Items, end, page, file, dir, tokens, directory_links, Image}
use Rattle.rules.specs.WellFormed.{IsDirectory}
use Rattle.rules.specs.Paths.{path_of, file_key}
use Rattle.rules.specs.Delete.{remove, remove_edit, delete_edit}
use Rattle.rules.proofs.EditLaws.{remove_own}
use Rattle.rules.specs.Candidate.{file_path}
use Rattle.rules.specs.Calls.{Effect}
use Rattle.rules.specs.Demand2.{IsFile}
use Rattle.rules.specs.Careful.{halted_at, careful_writes, careful_delete}
use Rattle.rules.specs.CarefulPromises.{CarefullyDeleted}
use Rattle.editing_theorems.specs.Contexts.{filled_all}
use Rattle.editing_theorems.specs.EditedImage.{place_shaped, tree_edited}
use Rattle.editing_theorems.specs.DeleteLaws.{located, directory, one_edit, StandsIn, stands_in, tree_after, delete_shows, a_delete_lem}
use Rattle.careful_theorems.proofs.VisibleWrite.{Change, touch_page, remove_touch}
use Rattle.careful_theorems.proofs.Stops.{CarefulEdit}
use Rattle.careful_theorems.proofs.Halts.{same_paths, edit_halts}

remove_change : (g : Geometry) (k : ℕ) (d : Items) → IsDirectory d → (control : List ℕ) → Change (directory_links g control d) (directory_links g control (remove k d))
remove_change g k end i control = absurd i
remove_change g k (page p t) i control = touch_page g.width control p (tokens t) (tokens (remove k t)) (remove_touch g.width k t)
remove_change g k (file l ls t) i control = absurd i
remove_change g k (dir l d t) i control = absurd i

module _ {g : Geometry} {image : List ℕ} (path : List ℕ) (f : StandsIn g (path_of path) IsFile image) where
  abbrev i : Image
  i = f.at.before

  abbrev key : ℕ
  key = file_key f.at.to

  abbrev names : List ℕ
  names = f.at.to.directories

  abbrev d : Items
  d = f.at.place.items

  -- the path's file was there and is gone, so the tree is another one
  differs : i.tree ≡ filled_all (located g image f.bytes i f.at.accepted names f.at.place f.at.there key).contexts (remove key d) → ⊥
  unfolding delete_edit
  differs q =
      let s = delete_shows (a_delete_lem path) f in
      let l = located g image f.bytes i f.at.accepted names f.at.place f.at.there key in
      let e : i.tree ≡ (tree_after (a_delete_lem path) f).tree = q ∙ sym (tree_edited g names (remove_edit key f.at.place) i ∙ l.change (λ _. remove key d)) in
      subst IsFile (same_paths i (tree_after (a_delete_lem path) f) e (file_path f.at.to) ∙ s.gone) s.was

  careful_edit : CarefulEdit g image
  careful_edit = record {
    tree = i;
    well = f.at.accepted;
    bytes = f.bytes;
    names = names;
    place = f.at.place;
    located = located g image f.bytes i f.at.accepted names f.at.place f.at.there key;
    edit = one_edit g image f.bytes i f.at.accepted names f.at.place f.at.there key;
    chain_free = λ x j. refl;
    joins_free = λ x j. omega (arith, ap (count x) (remove_own key d));
    change = remove_change g key d (place_shaped (directory g image f.bytes i f.at.accepted names f.at.place f.at.there key)).is_directory;
    differs = differs;
  }

  abbrev stopped : ℕ → Effect WriteCount
  stopped k = halted_at g k (careful_writes g f.at.to.directories (delete_edit f.at.to f.at.place) f.at.before) image

  pub careful_delete_leaves : (k : ℕ) → CarefullyDeleted g k path image (stopped k).answer (stopped k).image
  unfolding delete_edit careful_edit
  careful_delete_leaves k = record { at = f.at; tree = tree_after (a_delete_lem path) f; tree_is = refl; stops = edit_halts careful_edit k; shows = delete_shows (a_delete_lem path) f }

pub careful_delete_lem : (g : Geometry) (k : ℕ) (path image : List ℕ) (s : Effect WriteCount) → Fit g image → Bytes image → careful_delete g k path image ≡ ok s
    → CarefullyDeleted g k path image s.answer s.image
unfolding careful_delete
careful_delete_lem g k path image s fit bytes e = on_then _ _ _ e λ i c e. on_then _ _ _ e λ x t e.
    subst (λ (s : Effect WriteCount). CarefullyDeleted g k path image s.answer s.image) (ok_inj e) (careful_delete_leaves path (stands_in (a_delete_lem path) fit bytes i c x t) k)
