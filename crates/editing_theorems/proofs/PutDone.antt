-- A put, or a making, as a whole: it is done exactly if there is room, else it refuses with 17; and what one that is done leaves.
use Rattle.std.specs.Prelude.{◌≡◌, Bool, true, false, ℕ, ◌+◌, ◌^◌, ◌≤◌, ◌<◌, leb, length, take}
use Rattle.std.proofs.Math.Path.{refl, ap, subst}
use Rattle.std.proofs.Common.{sym, ◌∙◌, arith, length-take-le, leb-true, le-leb}
use mathlib.Core.List.{List, [], ◌∷◌, ◌++◌}
use Rattle.std.proofs.lemmas.Bool.{lt-leb}
use Rattle.geometry.specs.declared.Geometry.{Geometry}
use Rattle.geometry.specs.Geometry.{Fit, Valid, data_capacity}
use Rattle.geometry.specs.Number.{Bytes}
use Rattle.rules.specs.Result.{Res, ok, err, and_then, and_after, refuse_unless}
use Rattle.rules.proofs.ResultLaws.{ok_inj, on_then, on_refuse, then_ok, then_err, refuse_true, refuse_false}
use Rattle.rules.specs.PageSets.{count, range}
use Rattle.rules.specs.Chain.{views_of, Link, content, pages_for}
use Rattle.rules.specs.Names.{valid_name}
use Rattle.rules.specs.Tree.{Label, Items, Image, used}
use Rattle.rules.specs.Check.{check}
use Rattle.rules.specs.Paths.{Path, file_key, Found, find, Place, root_place, directory_at, Target}
use Rattle.rules.specs.Writes.{Edit}
use Rattle.rules.specs.Put.{put_edit, plain_edit, put_at}
use Rattle.rules.specs.Candidate.{target_path, found_entry, stamps_of, chain_pages}
use Rattle.rules.specs.Demand2.{PathIn, PutShows, PutDone}
use Rattle.reading_theorems.specs.Accepted.{accepted, accepted_iff}
use Rattle.editing_theorems.specs.Contexts.{context_path}
use Rattle.editing_theorems.specs.PutDirectory.{Enters}
use Rattle.editing_theorems.specs.LowerBound.{Needs}
use Rattle.editing_theorems.specs.PathChanges.{start_entry}
use Rattle.editing_theorems.specs.PutLaws.{Asked, kept, free, free_clear, extra, wanted, chain, after, the_edit, edit_is, located, cs, into, own_then, chain_reads, result, put_edited, put_paths, put_total}

-- ---- what paths show in the tree after a put over any free pages, `spare`, that are clear of what is kept
module _ (g : Geometry) (image bytes : List ℕ) (stands : Label → List Link → Found) (a : Asked g image bytes stands) where
  abbrev pub path_in : (asked : Res Path) → asked ≡ ok a.to → PathIn g asked image
  path_in asked e = record { before = a.tree; accepted = a.well; to = a.to; formed = e; place = a.place; there = a.there }

  pub planned : (spare : List ℕ) → extra g image bytes stands a + wanted g image bytes stands a ≤ length spare → put_edit g spare a.to bytes a.place ≡ ok (the_edit g image bytes stands a spare)
  planned spare room = edit_is g image bytes stands a spare ∙ simp (le-leb _ _ room, refuse_true, then_ok)

  pub put_shows : (asked : Res Path) (formed : asked ≡ ok a.to) (spare : List ℕ) (clear : (x : ℕ) → count x spare + count x (kept g image bytes stands a) ≤ count x (range g.pages))
      (room : extra g image bytes stands a + wanted g image bytes stands a ≤ length spare)
      → PutShows (path_in asked formed) stands bytes (the_edit g image bytes stands a spare) (result g image bytes stands a spare clear room)
  put_shows asked formed spare clear room =
      let c = put_paths g image bytes stands a spare clear room in
      let t : target_path a.to ≡ context_path (cs g image bytes stands a) = sym (located g image bytes stands a).path in
      let e = after g image bytes stands a spare in
      let d = a.place.items in
      let more = extra g image bytes stands a in
      let z : length (take more spare) ≡ more = length-take-le more spare (omega arith) in
      record {
        label = (into g image bytes stands a spare clear room).label;
        links = chain g image bytes stands a spare;
        standing = rw t (c.after ∙ (into g image bytes stands a spare clear room).finds);
        name_is = (into g image bytes stands a spare clear room).named.name_is;
        extension_is = (into g image bytes stands a spare clear room).named.extension_is;
        stamps_are = rw t ((into g image bytes stands a spare clear room).stamped ∙ sym (ap stamps_of c.before));
        reads = chain_reads g image bytes stands a spare clear room;
        others = λ ks m n. c.others ks (λ q. n (q ∙ sym t)) (λ q. m (q ∙ ap (λ (ts : List ℕ). ts ++ (file_key a.to ∷ [])) (sym t)));
        target_label = c.label;
        target_before = rw t c.target_before;
        target_after = rw t c.target_after;
        target_entry = rw t (ap (found_entry g) c.target_after ∙ start_entry g c.label d e (into g image bytes stands a spare clear room).edit.start ∙ sym (ap (found_entry g) c.target_before));
        joined = take more spare;
        target_pages = λ x. rw t (ap (λ (f : Found). count x (chain_pages f)) c.target_after ∙ own_then g image bytes stands a spare clear room x
            ∙ ap (λ (f : Found). count x (chain_pages f) + count x (take more spare)) (sym c.target_before));
        joins = z;
        total = rw (z, t) (ap (λ (f : Found). length (used (result g image bytes stands a spare clear room)) + length (chain_pages f)) c.before ∙ put_total g image bytes stands a spare clear room);
      }

  -- its links are the new chain
  pub put_links : (asked : Res Path) (formed : asked ≡ ok a.to) (spare : List ℕ) (clear : (x : ℕ) → count x spare + count x (kept g image bytes stands a) ≤ count x (range g.pages))
      (room : extra g image bytes stands a + wanted g image bytes stands a ≤ length spare) → (put_shows asked formed spare clear room).links ≡ chain g image bytes stands a spare
  unfolding put_shows
  put_links asked formed spare clear room = refl

-- ---- a call that puts something, at a target that its path has, bytes chosen by where that stands
module _ (g : Geometry) (image bytes : List ℕ) (stands : Label → List Link → Found) (a : Asked g image bytes stands) (at : Place → List ℕ) (bytes_are : bytes ≡ at a.place)
    (target : Items → Res Target) (given : target a.tree.tree ≡ ok (record { to = a.to; place = a.place })) where
  -- the free pages, those that the directory needs and those that what is put needs
  abbrev spare : List ℕ
  spare = free g image bytes stands a

  abbrev more : ℕ
  more = extra g image bytes stands a

  abbrev need : ℕ
  need = wanted g image bytes stands a

  -- the image after the edit
  abbrev pub image_after : List ℕ
  image_after = plain_edit g a.to.directories (the_edit g image bytes stands a (free g image bytes stands a)) a.tree image

  -- a put plans its edit and carries it out
  pub put_plan : put_at g target at image ≡ and_then (put_edit g spare a.to bytes a.place) (λ e. ok (plain_edit g a.to.directories e a.tree image))
  unfolding put_at
  put_plan =
      let c = accepted g image a.tree a.well in
      let s : put_at g target at image ≡ and_then (put_edit g spare a.to (at a.place) a.place) (λ e. ok (plain_edit g a.to.directories e a.tree image)) = simp (c, given, then_ok) in
      s ∙ ap (λ (b : List ℕ). and_then (put_edit g spare a.to b a.place) (λ e. ok (plain_edit g a.to.directories e a.tree image))) (sym bytes_are)

  pub put_is : put_at g target at image ≡ and_after (refuse_unless (leb (more + need) (length spare)) 17 0) (ok image_after)
  put_is = put_plan ∙ ap (λ (r : Res Edit). and_then r (λ e. ok (plain_edit g a.to.directories e a.tree image))) (edit_is g image bytes stands a spare) ∙ join (leb (more + need) (length spare))
    where
      join : (t : Bool) → and_then (and_after (refuse_unless t 17 0) (ok (the_edit g image bytes stands a spare))) (λ e. ok (plain_edit g a.to.directories e a.tree image))
          ≡ and_after (refuse_unless t 17 0) (ok image_after)
      join true = simp (refuse_true, then_ok)
      join false = simp (refuse_false, then_err)

  -- there is room exactly when it is done, else it refuses with 17
  pub put_fits : more + need ≤ length spare → put_at g target at image ≡ ok image_after
  put_fits h = put_is ∙ simp (le-leb _ _ h, refuse_true, then_ok)

  pub put_full : length spare < more + need → put_at g target at image ≡ err 17 0
  put_full h = put_is ∙ simp (lt-leb _ _ h, refuse_false, then_err)

  pub put_room : (now : List ℕ) → put_at g target at image ≡ ok now → (more + need ≤ length spare) × (now ≡ image_after)
  put_room now e = on_refuse _ _ _ _ _ (sym put_is ∙ e) λ t q. (leb-true _ _ t, sym (ok_inj q))

  module _ (room : more + need ≤ length spare) (asked : Res Path) (formed : asked ≡ ok a.to) where
    abbrev clear : (x : ℕ) → count x spare + count x (kept g image bytes stands a) ≤ count x (range g.pages)
    clear = free_clear g image bytes stands a

    abbrev edit : Edit
    edit = the_edit g image bytes stands a spare

    abbrev tree : Image
    tree = result g image bytes stands a spare clear room

    pub put_leaves : PutDone g asked stands at image image_after
    put_leaves = record {
      at = path_in g image bytes stands a asked formed;
      edit = edit;
      planned = subst (λ (b : List ℕ). put_edit g spare a.to b a.place ≡ ok edit) bytes_are (planned g image bytes stands a spare room);
      tree = tree;
      tree_is = refl;
      done = put_edited g image bytes stands a spare clear room;
      shows = subst (λ (b : List ℕ). PutShows (path_in g image bytes stands a asked formed) stands b edit tree) bytes_are (put_shows g image bytes stands a asked formed spare clear room);
    }

-- ---- what a call that puts something has met that has its target, the path asked for, and what may stand there
pub record Met (asked : Res Path) (Allowed : Found → Type 0) (t : Items) (x : Target) : Type 0 where
  pub formed : asked ≡ ok x.to
  pub there : directory_at x.to.directories (root_place t) ≡ ok x.place
  pub seen : x.place.hidden ≡ false
  pub allowed : Allowed (find (file_key x.to) x.place.items)

-- such a call: its target is what has met all that but room; what it puts enters there, with the path's name
pub record PutCall (asked : Res Path) (Allowed Wanted : Found → Type 0) (target : Items → Res Target) (bytes : Geometry → Place → List ℕ) (stands : Label → List Link → Found) : Type 0 where
  pub given : (t : Items) (x : Target) → Met asked Allowed t x → target t ≡ ok x
  pub met : (t : Items) (x : Target) → target t ≡ ok x → Met asked Allowed t x
  pub not_room : (t : Items) → target t ≡ err 17 0 → ⊥
  pub valid : (x : Target) → asked ≡ ok x.to → valid_name x.to.name ≡ true
  pub four : (x : Target) → asked ≡ ok x.to → x.to.name < 256 ^ 4
  pub are_bytes : (g : Geometry) → Valid g → (p : Place) → Bytes (bytes g p)
  pub enters : (g : Geometry) (t : Items) (x : Target) → Met asked Allowed t x → Enters g x.to x.place (bytes g x.place) stands
  -- what stands then is wanted, and what is wanted needs its pages
  pub wanted : (g : Geometry) (p : Place) (l : Label) (ls : List Link) → content ls ≡ bytes g p → Wanted (stands l ls)
  pub needs : (g : Geometry) → Valid g → (p : Place) → Needs g Wanted (pages_for (data_capacity g) (length (bytes g p)))

module _ {asked : Res Path} {Allowed Wanted : Found → Type 0} {target : Items → Res Target} {bytes : Geometry → Place → List ℕ} {stands : Label → List Link → Found}
    (C : PutCall asked Allowed Wanted target bytes stands) (g : Geometry) (image : List ℕ) (fit : Fit g image) (b : Bytes image) where
  -- in an accepted image
  abbrev pub asked_at : (i : Image) → check g (views_of g image) ≡ ok i → (x : Target) → Met asked Allowed i.tree x → Asked g image (bytes g x.place) stands
  asked_at i h x m = record {
    tree = i;
    well = (accepted_iff g image fit b i).0 h;
    image_bytes = b;
    are_bytes = C.are_bytes g fit.valid x.place;
    to = x.to;
    valid = C.valid x m.formed;
    four = C.four x m.formed;
    place = x.place;
    there = m.there;
    enters = C.enters g i.tree x m;
  }

  pub put_gives : (now : List ℕ) → put_at g target (bytes g) image ≡ ok now → PutDone g asked stands (bytes g) image now
  unfolding put_at
  put_gives now e = on_then _ _ _ e λ i h e'. on_then _ _ _ e' λ x t e'.
      let m = C.met i.tree x t in
      let a = asked_at i h x m in
      let r = put_room g image (bytes g x.place) stands a (bytes g) refl target t now e in
      subst (PutDone g asked stands (bytes g) image) (sym r.1) (put_leaves g image (bytes g x.place) stands a (bytes g) refl target t r.0 asked m.formed)
