-- Every image that keeps what must be kept and holds what is asked for has at least the pages that the call takes: those that this needs, and one more where the directory has no space.
use Rattle.std.specs.Prelude.{◌≡◌, refl, ◌⊎◌, Bool, true, false, ℕ, suc, ◌+◌, ◌≤◌, ◌<◌, length}
use Rattle.std.proofs.Math.Path.{ap}
use Rattle.std.proofs.Common.{ap₂, sym, ◌∙◌, subst, inl, inr, eq-zero-or-pos, length-append}
use mathlib.Core.List.{List, [], ◌∷◌, ◌++◌}
use native.Mathlib.Omega.{arith}
use Rattle.geometry.specs.declared.Geometry.{Geometry}
use Rattle.geometry.specs.Geometry.{Fit, Valid, data_capacity, first_entries, later_entries}
use Rattle.packet.specs.Packet.{View, view_of}
use Rattle.rules.proofs.ResultLaws.{ok_inj}
use Rattle.rules.specs.PageSets.{bit, count}
use Rattle.rules.proofs.PageSetLaws.{count_append, pigeon, range_le, within_length}
use Rattle.rules.specs.Chain.{one_view, views_of, pages_for}
use Rattle.rules.proofs.ChainLaws.{length_pages, pages_least}
use Rattle.rules.specs.Tree.{Label, key_of, Items, own_pages, inner_pages, all_pages, keys, map_pages, Image, used}
use Rattle.rules.specs.WellFormed.{WellFormed}
use Rattle.rules.specs.Paths.{Found, nothing, a_file, a_directory, find, Place, root_place}
use Rattle.rules.specs.Put.{is_full, extra_pages}
use Rattle.rules.specs.Delete.{remove}
use Rattle.rules.proofs.EditLaws.{remove_inner}
use Rattle.rules.specs.EditLaws.{all_found}
use Rattle.rules.specs.Candidate.{look_up, root_label, at_path, chain_pages, found_entry, Exists, directory_keys, PutFile, EmptyDirectory, Candidate}
use Rattle.reading_theorems.specs.PacketLaws.{ByteView, byte_view}
use Rattle.reading_theorems.specs.Directory.{all_split}
use Rattle.reading_theorems.specs.Accepted.{accepted, accepted_iff}
use Rattle.editing_theorems.specs.Capacity.{capacity_least}
use Rattle.editing_theorems.specs.Contexts.{Context, filled_all, around_all, context_path, levels_at, Located, used_at}
use Rattle.editing_theorems.specs.ContextLaws.{Shaped, shaped_at}
use Rattle.editing_theorems.specs.PathLaws.{path_all, path_within, paths_apart, path_append, owned}
use Rattle.editing_theorems.specs.PathChanges.{place_label, at_place}
use Rattle.editing_theorems.specs.PutDirectory.{extra_old, extra_new}
use Rattle.editing_theorems.specs.FoundLaws.{exists_pages, exists_key, key_exists, same_width, DirectoryAbove, directory_above, same_map, last_same}
use Rattle.editing_theorems.specs.FullPages.{slots, width_found, full_size, holds_size, directory_room, less_pages, slots_more}
use Rattle.editing_theorems.specs.PathContents.{DirectoryThere, FoundIn, path_stands, root_there, there_holds, content_size}

-- what is asked for is there and needs so many pages wherever it stands
pub record Needs (g : Geometry) (Asked : Found → Type 0) (need : ℕ) : Type 0 where
  pub exists : (f : Found) → Asked f → Exists f
  pub pages : (v : View) → ByteView g v → (f : Found) → FoundIn g (one_view v) f → Asked f → need ≤ length (chain_pages f)

-- a file needs the pages that its bytes need
pub file_needs : (g : Geometry) → Valid g → (bytes : List ℕ) → Needs g (PutFile bytes) (pages_for (data_capacity g) (length bytes))
file_needs g valid bytes = record { exists = there; pages = most }
  where
    there : (f : Found) → PutFile bytes f → Exists f
    there nothing h = h
    there (a_file l ls) h = tt
    there (a_directory l d) h = absurd h

    most : (v : View) → ByteView g v → (f : Found) → FoundIn g (one_view v) f → PutFile bytes f → pages_for (data_capacity g) (length bytes) ≤ length (chain_pages f)
    most v bv nothing s h = absurd h
    most v bv (a_file l ls) s h = rw (length_pages ls) (pages_least (data_capacity g) (length bytes) (length ls) (omega (arith, capacity_least g valid)) s.0
        (omega (arith, content_size g v bv ls s.1, ap length h)))
    most v bv (a_directory l d) s h = absurd h

-- a directory without entries needs one
pub directory_needs : (g : Geometry) → Needs g EmptyDirectory 1
directory_needs g = record { exists = there; pages = most }
  where
    there : (f : Found) → EmptyDirectory f → Exists f
    there nothing h = h
    there (a_file l ls) h = absurd h
    there (a_directory l d) h = tt

    most : (v : View) → ByteView g v → (f : Found) → FoundIn g (one_view v) f → EmptyDirectory f → 1 ≤ length (chain_pages f)
    most v bv nothing s h = absurd h
    most v bv (a_file l ls) s h = absurd h
    most v bv (a_directory l d) s h = omega (arith, (directory_room 0 0 d s.shaped.is_directory).1)

-- an old image with a directory at a place, and a label: what is asked for is to stand there under it
module _ (g : Geometry) (image : List ℕ) (i : Image) (old_well : WellFormed g image i) (names : List ℕ) (place : Place) (located : Located names (root_place i.tree) place) (l : Label)
    (Asked : Found → Type 0) (need : ℕ) (needs : Needs g Asked need) (new : List ℕ)
    (c : Candidate g image (directory_keys names) (directory_keys names ++ (key_of l ∷ [])) Asked new) where
  abbrev d : Items
  d = place.items

  abbrev k : ℕ
  k = key_of l

  abbrev way : List Context
  way = located.contexts

  -- the pages below the directory that must stay
  abbrev stay : List ℕ
  stay = inner_pages (remove k d)

  abbrev more : ℕ
  more = extra_pages g l place.items

  abbrev target : List ℕ
  target = directory_keys names

  abbrev path : List ℕ
  path = directory_keys names ++ (key_of l ∷ [])

  abbrev old : Found
  old = a_directory root_label i.tree

  abbrev found : Found
  found = a_directory root_label c.after.tree

  abbrev valid : Valid g
  valid = old_well.fits.valid

  before_is : c.before ≡ i
  before_is = ok_inj (sym c.was ∙ accepted g image i old_well)

  -- ---- the new image
  fit : Fit g new
  fit = record { valid = valid; whole = c.sized ∙ old_well.fits.whole }

  well : WellFormed g new c.after
  well = (accepted_iff g new fit c.are_bytes c.after).0 c.accepted

  abbrev view : View
  view = view_of g new

  bv : ByteView g view
  bv = byte_view g new c.are_bytes

  asked : Asked (look_up path found)
  unfolding at_path
  asked = c.stands

  above : DirectoryAbove target k found
  above = directory_above target k found (needs.exists (look_up path found) asked)

  abbrev goal : Items
  goal = above.items

  goal_there : DirectoryThere g (views_of g new) goal
  goal_there = let z : FoundIn g (views_of g new) (a_directory above.label goal) = subst (FoundIn g (views_of g new)) above.is (path_stands g (views_of g new) target found (root_there g new c.after well)) in z

  -- what was asked for, and its chain
  asked_there : Asked (find k goal)
  asked_there = subst Asked above.finds asked

  abbrev fresh : List ℕ
  fresh = chain_pages (find k goal)

  enough : need ≤ length fresh
  enough = needs.pages view bv (find k goal) (path_stands g (views_of g new) (k ∷ []) (a_directory above.label goal) goal_there) asked_there

  -- ---- the old image
  root_shaped_lem : Shaped g.width 8 (filled_all way d)
  root_shaped_lem = rw located.whole (record { is_directory = old_well.holds.is_directory; names = old_well.holds.names; entries = old_well.holds.entries })

  here_shaped : Shaped g.width (levels_at way 8) d
  here_shaped = shaped_at way 8 d root_shaped_lem

  target_path_lem : target ≡ context_path way
  target_path_lem = sym located.path

  at_target : look_up target old ≡ a_directory (place_label root_label way) d
  at_target = ap₂ (λ (ks : List ℕ) (t : Items). look_up ks (a_directory root_label t)) target_path_lem (sym located.whole) ∙ at_place 8 way root_label d root_shaped_lem

  at_key : (j : ℕ) → look_up (target ++ (j ∷ [])) old ≡ find j d
  at_key j = path_append target (j ∷ []) old ∙ ap (look_up (j ∷ [])) at_target

  now_key : (j : ℕ) → look_up (target ++ (j ∷ [])) found ≡ find j goal
  now_key j = path_append target (j ∷ []) found ∙ ap (look_up (j ∷ [])) above.is

  once_old : (x : ℕ) → count x (around_all way) + (count x (own_pages d) + count x (inner_pages d)) + count x (map_pages i.map) ≤ 1
  once_old x = omega (arith, used_at x names i place located, old_well.holds.apart x, range_le x g.pages)

  exact : (x : ℕ) → count x (all_found (find k d)) + count x stay ≡ count x (inner_pages d)
  exact x = remove_inner x k d

  -- ---- the parts of the new image
  once_new : (x : ℕ) → count x (all_pages c.after.tree) + count x (map_pages c.after.map) ≤ 1
  once_new x = omega (arith, well.holds.apart x, count_append x (all_pages c.after.tree) (map_pages c.after.map), range_le x g.pages)

  both : (x : ℕ) → count x (own_pages goal) + count x fresh ≤ count x (all_pages c.after.tree)
  both x =
      let p : count x (own_pages goal) + count x (chain_pages (find k goal)) ≤ count x (all_pages goal) = paths_apart x [] (k ∷ []) (a_directory above.label goal) (λ e. omega (arith, ap length e)) in
      let q : count x (all_found (look_up target found)) ≤ count x (all_pages c.after.tree) = path_all x target found in
      omega (arith, ap (λ (f : Found). count x (all_found f)) above.is)

  maps : (x : ℕ) → count x (map_pages c.after.map) ≡ count x (map_pages i.map)
  maps x = same_map x c.before.map c.after.map c.map ∙ ap (λ (j : Image). count x (map_pages j.map)) before_is

  abbrev Apart : ℕ → Type 0
  Apart x = count x (around_all way) + count x stay + count x (map_pages i.map) + count x (own_pages goal) + count x fresh ≤ count x (all_pages c.after.tree) + count x (map_pages c.after.map)

  -- another file or directory has the pages it had
  others : (ks : List ℕ) → (ks ≡ path → ⊥) → (ks ≡ target → ⊥) → (x : ℕ) → 1 ≤ count x (chain_pages (look_up ks old)) → 1 ≤ count x (chain_pages (look_up ks found))
  unfolding at_path
  others ks m n x h =
      let e : look_up ks (a_directory root_label c.before.tree) ≡ look_up ks old = ap (λ (j : Image). look_up ks (a_directory root_label j.tree)) before_is in
      let o : 1 ≤ count x (chain_pages (look_up ks (a_directory root_label c.before.tree))) = omega (arith, ap (λ (f : Found). count x (chain_pages f)) e) in
      omega (arith, c.pages ks m n (exists_pages x (look_up ks (a_directory root_label c.before.tree)) o) x)

  owner : (x : ℕ) → 1 ≤ count x (all_pages i.tree) → (ks : List ℕ) × (1 ≤ count x (chain_pages (look_up ks old)))
  owner x h = elim (eq-zero-or-pos (count x (inner_pages i.tree))) [
    | inl z ↦ ([], omega (arith, all_split x i.tree))
    | inr z ↦ let o = owned g.width x 8 i.tree old_well.holds.names old_well.holds.entries z in (o.head ∷ o.path, o.has)
  ]

  apart_owned : (x : ℕ) → 1 ≤ count x (around_all way) + count x stay → (ks : List ℕ) × (1 ≤ count x (chain_pages (look_up ks old))) → Apart x
  apart_owned x z o =
      let n : o.0 ≡ target → ⊥ = λ e. omega (
        arith,
        once_old x,
        exact x,
        o.1,
        ap (λ (f : Found). count x (chain_pages f)) (ap (λ (ks : List ℕ). look_up ks old) e ∙ at_target),
      ) in
      let m : o.0 ≡ path → ⊥ = λ e. omega (
        arith,
        once_old x,
        exact x,
        o.1,
        ap (λ (f : Found). count x (chain_pages f)) (ap (λ (ks : List ℕ). look_up ks old) e ∙ at_key k),
        path_within x [] (find k d),
      ) in
      let u = others o.0 m n x o.1 in
      let p : count x (chain_pages (look_up o.0 found)) + count x (chain_pages (look_up target found)) ≤ count x (all_pages c.after.tree) = paths_apart x o.0 target found n in
      let q : count x (chain_pages (look_up o.0 found)) + count x (chain_pages (look_up path found)) ≤ count x (all_pages c.after.tree) = paths_apart x o.0 path found m in
      omega (
        arith,
        once_old x,
        exact x,
        once_new x,
        maps x,
        ap (λ (f : Found). count x (chain_pages f)) above.is,
        ap (λ (f : Found). count x (chain_pages f)) (now_key k),
      )

  apart_all : (x : ℕ) → Apart x
  apart_all x = elim (eq-zero-or-pos (count x (around_all way) + count x stay)) [
    | inr z ↦ apart_owned x z (owner x (omega (arith, used_at x names i place located, count_append x (all_pages i.tree) (map_pages i.map), exact x)))
    | inl z ↦ elim (eq-zero-or-pos (count x (map_pages i.map))) [
      | inl y ↦ omega (arith, both x, maps x)
      | inr y ↦ omega (arith, both x, maps x, once_new x, once_old x)
    ]
  ]

  -- ---- the target's pages and entries
  own_kept : length (own_pages d) ≤ length (own_pages goal)
  unfolding at_path
  own_kept = pigeon (own_pages d) (own_pages goal) (λ x. go x (eq-zero-or-pos (count x (own_pages d))))
    where
      go : (x : ℕ) → (count x (own_pages d) ≡ 0) ⊎ (0 < count x (own_pages d)) → count x (own_pages d) ≤ count x (own_pages goal)
      go x (inl z) = omega arith
      go x (inr z) =
          let e : look_up target (a_directory root_label c.before.tree) ≡ a_directory (place_label root_label way) d
          = ap (λ (j : Image). look_up target (a_directory root_label j.tree)) before_is ∙ at_target in
          let h : 1 ≤ count x (chain_pages (look_up target (a_directory root_label c.before.tree))) = omega (arith, ap (λ (f : Found). count x (chain_pages f)) e) in
          let t : 1 ≤ count x (chain_pages (look_up target found)) = c.at_least x h in
          omega (arith, once_old x, ap (λ (f : Found). count x (chain_pages f)) above.is)

  -- every other entry of the target is there, with its slots
  kept_path : (ks : List ℕ) → 0 < length ks → (ks ≡ path → ⊥) → Exists (look_up ks (a_directory root_label c.before.tree))
      → found_entry g (look_up ks found) ≡ found_entry g (look_up ks (a_directory root_label c.before.tree))
  unfolding at_path
  kept_path [] s n h = absurd (omega arith)
  kept_path (j ∷ ks) s n h = c.kept j ks n h

  same_slots : (j : ℕ) → (j ≡ k → ⊥) → 1 ≤ count j (keys d) → width_found (find j goal) ≡ width_found (find j d)
  same_slots j n h =
      let ks = target ++ (j ∷ []) in
      let e : look_up ks (a_directory root_label c.before.tree) ≡ find j d = ap (λ (i : Image). look_up ks (a_directory root_label i.tree)) before_is ∙ at_key j in
      let x : Exists (look_up ks (a_directory root_label c.before.tree)) = subst Exists (sym e) (exists_key j d h) in
      let q = kept_path ks (simp length-append (omega arith)) (λ f. n (last_same target j k f)) x in
      same_width g (find j goal) (find j d) (ap (found_entry g) (sym (now_key j)) ∙ q ∙ ap (found_entry g) e)

  -- a new entry: more slots
  more_slots : count k (keys d) ≡ 0 → suc (slots d) ≤ slots goal
  more_slots z = slots_more k d goal here_shaped.names z (key_exists k goal (needs.exists (find k goal) asked_there)) same_slots

  own_grows : length (own_pages d) + more ≤ length (own_pages goal)
  own_grows = elim (eq-zero-or-pos (count k (keys d))) [
    | inr z ↦ omega (arith, own_kept, extra_old g l d z)
    | inl z ↦ go z (is_full (later_entries g) (first_entries g) 0 d) refl
  ]
    where
      go : count k (keys d) ≡ 0 → (b : Bool) → is_full (later_entries g) (first_entries g) 0 d ≡ b → length (own_pages d) + more ≤ length (own_pages goal)
      go z false e = omega (arith, own_kept, extra_new g l d z, ap bit e)
      go z true e =
          let first = first_entries g in
          let later = later_entries g in
          let p = directory_room first later d here_shaped.is_directory in
          let q = directory_room first later goal goal_there.shaped.is_directory in
          let s = holds_size first later 0 goal (there_holds g valid (views_of g new) bv goal goal_there) (omega (arith, q.3)) in
          let r = less_pages first later p.0 q.0 (omega (arith, full_size later first 0 d e, more_slots z, p.2, q.2)) in
          omega (arith, extra_new g l d z, ap bit e, p.1, q.1)

  -- ---- the pages of a candidate: those in use before but for what is replaced, those that the directory and what is asked for need
  pub least : length (used i) + extra_pages g l place.items + need ≤ length (used c.after) + length (all_found (find (key_of l) place.items))
  least =
      let rest = around_all way ++ (stay ++ map_pages i.map) in
      let gone = all_found (find k d) in
      let p = pigeon (rest ++ (own_pages goal ++ fresh)) (used c.after) (λ x. simp count_append (omega (arith, apart_all x, all_split x c.after.tree))) in
      let q = pigeon (used i) (rest ++ (own_pages d ++ gone)) (λ x. omega (
        arith,
        used_at x names i place located,
        exact x,
        count_append x rest (own_pages d ++ gone),
        count_append x (own_pages d) gone,
        count_append x (around_all way) (stay ++ map_pages i.map),
        count_append x stay (map_pages i.map),
      )) in
      omega (
        arith,
        p,
        q,
        own_grows,
        enough,
        length-append rest (own_pages goal ++ fresh),
        length-append (own_pages goal) fresh,
        length-append rest (own_pages d ++ gone),
        length-append (own_pages d) gone,
      )

  -- where there is a candidate, there is room
  pub candidate_room : length (used i) + extra_pages g l place.items + need ≤ g.pages + length (all_found (find (key_of l) place.items))
  candidate_room = omega (arith, least, within_length g.pages (used c.after) well.holds.apart)
