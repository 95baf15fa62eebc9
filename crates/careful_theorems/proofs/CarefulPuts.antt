-- The careful put: all that is promised of it, for every number of writes.
use Rattle.std.specs.Prelude.{◌≡◌, refl, List, [], ◌∷◌, ◌++◌, ℕ, ◌+◌, ◌≤◌, ◌<◌, length, get_or}
use Rattle.std.proofs.Common.{ap, sym, ◌∙◌, subst, inl, inr, arith, eq-zero-or-pos, leb-true}
use Rattle.geometry.specs.declared.Geometry.{Geometry}
use Rattle.geometry.specs.Geometry.{Fit, first_entries, later_entries}
use Rattle.geometry.specs.Number.{Bytes}
use Rattle.rules.specs.declared.WriteCount.{WriteCount}
use Rattle.rules.specs.Result.{ok}
use Rattle.rules.proofs.ResultLaws.{ok_inj, on_then, on_refuse}
use Rattle.rules.specs.PageSets.{count, range, free_pages}
use Rattle.rules.proofs.PageSetLaws.{hit_same, range_le, free_law}
use Rattle.rules.specs.Chain.{Link, link, pages}
use Rattle.rules.specs.Tree.{Label, key_of, Items, end, page, file, dir, tokens, directory_links, own_pages, all_pages, keys, map_pages, used}
use Rattle.rules.specs.WellFormed.{IsDirectory}
use Rattle.rules.specs.Paths.{path_of, Found, a_file}
use Rattle.rules.specs.Writes.{Edit}
use Rattle.rules.specs.Put.{insert, new_item, replace, items_after}
use Rattle.rules.proofs.EditLaws.{new_tokens}
use Rattle.rules.specs.EditLaws.{new_entry}
use Rattle.rules.specs.Calls.{Effect}
use Rattle.rules.specs.Careful.{halted_at, careful_writes, careful_put}
use Rattle.rules.specs.CarefulPromises.{CarefullyPut}
use Rattle.editing_theorems.specs.Contexts.{filled_all}
use Rattle.editing_theorems.specs.PutLaws.{Asked, kept, kept_old, label, extra, wanted, chain, after, the_edit, edit_is, located, here_shaped, taken, own_then, length_chain, pages_then, result, one_edit}
use Rattle.editing_theorems.specs.PutDirectory.{after_new, after_old}
use Rattle.editing_theorems.proofs.PutDone.{path_in, planned, put_shows, put_links, asked_at}
use Rattle.editing_theorems.proofs.PutCalls.{a_put_lem}
use Rattle.careful_theorems.proofs.VisibleWrite.{Change, touch_page, insert_touch, replace_touch}
use Rattle.careful_theorems.proofs.Stops.{CarefulEdit}
use Rattle.careful_theorems.proofs.Halts.{edit_halts}

insert_change : (g : Geometry) (l : Label) (new : List Link) (q : ℕ) (d : Items) → IsDirectory d → (control : List ℕ)
    → Change (directory_links g control d) (directory_links g control (insert (new_item l new) (later_entries g) q (first_entries g) 0 d))
insert_change g l new q end i control = absurd i
insert_change g l new q (page p t) i control =
    touch_page g.width control p (tokens t) (tokens (insert (new_item l new) (later_entries g) q (later_entries g) (first_entries g) t))
    (insert_touch g.width l (new_entry l new) (new_item l new) (new_tokens l new) (later_entries g) q (later_entries g) (first_entries g) t)
insert_change g l new q (file m ls t) i control = absurd i
insert_change g l new q (dir m d t) i control = absurd i

replace_change : (g : Geometry) (k : ℕ) (new : List Link) (d : Items) → IsDirectory d → (control : List ℕ) → Change (directory_links g control d) (directory_links g control (replace k new d))
replace_change g k new end i control = absurd i
replace_change g k new (page p t) i control = touch_page g.width control p (tokens t) (tokens (replace k new t)) (replace_touch g.width k new t)
replace_change g k new (file m ls t) i control = absurd i
replace_change g k new (dir m d t) i control = absurd i

pub put_change : (g : Geometry) (l : Label) (q : ℕ) (new : List Link) (d : Items) → IsDirectory d → (control : List ℕ)
    → Change (directory_links g control d) (directory_links g control (items_after g l q new d))
put_change g l q new d i control = elim (eq-zero-or-pos (count (key_of l) (keys d))) [
  | inl z ↦ rw (after_new g l q new d z) (insert_change g l new q d i control)
  | inr z ↦ rw (after_old g l q new d z) (replace_change g (key_of l) new d i control)
]

some_page : (ls : List Link) → 0 < length ls → (x : ℕ) × (1 ≤ count x (pages ls))
some_page [] h = absurd (omega arith)
some_page (link p b ∷ ls) h = (p, omega (arith, hit_same p))

module _ (g : Geometry) (image bytes : List ℕ) (stands : Label → List Link → Found) (a : Asked g image bytes stands) where
  -- the free pages: the replaced chain is not among them
  abbrev spare : List ℕ
  spare = free_pages (used a.tree) g.pages

  pub free_is : (x : ℕ) → count x (free_pages (used a.tree) g.pages) + count x (used a.tree) ≡ count x (range g.pages)
  free_is x = free_law x (used a.tree) g.pages a.well.holds.apart

  pub clear : (x : ℕ) → count x (free_pages (used a.tree) g.pages) + count x (kept g image bytes stands a) ≤ count x (range g.pages)
  clear x = omega (arith, free_is x, kept_old g image bytes stands a x)

  no_spare : (x : ℕ) → 1 ≤ count x (used a.tree) → count x spare ≡ 0
  no_spare x j = omega (arith, free_is x, range_le x g.pages)

  module _ (room : extra g image bytes stands a + wanted g image bytes stands a ≤ length (free_pages (used a.tree) g.pages)) where
    abbrev new : List Link
    new = chain g image bytes stands a spare

    abbrev e : Items
    e = after g image bytes stands a spare

    pub chain_free_lem : (x : ℕ) → 1 ≤ count x (used a.tree) → count x (pages (chain g image bytes stands a (free_pages (used a.tree) g.pages))) ≡ 0
    chain_free_lem x j = omega (arith, taken g image bytes stands a spare clear room x, no_spare x j)

    pub joins_free_lem : (x : ℕ) → 1 ≤ count x (used a.tree) → count x (own_pages (after g image bytes stands a (free_pages (used a.tree) g.pages))) ≤ count x (own_pages a.place.items)
    joins_free_lem x j = omega (arith, own_then g image bytes stands a spare clear room x, taken g image bytes stands a spare clear room x, no_spare x j)

    -- a page of the new chain was free, so the tree is another one
    pub differs : a.tree.tree ≡ filled_all (located g image bytes stands a).contexts (after g image bytes stands a (free_pages (used a.tree) g.pages)) → ⊥
    differs q =
        let s = some_page new (omega (arith, length_chain g image bytes stands a spare clear room)) in
        let x = s.0 in
        let u : count x (used a.tree) ≡ 0 = omega (arith, free_is x, range_le x g.pages, taken g image bytes stands a spare clear room x, s.1) in
        omega (
          arith,
          s.1,
          u,
          pages_then g image bytes stands a spare clear room x,
          ap (λ (t : Items). count x (all_pages t ++ map_pages a.tree.map)) (q ∙ sym ((located g image bytes stands a).change (λ _. e))),
        )

    abbrev pub careful_edit : CarefulEdit g image
    careful_edit = record {
      tree = a.tree;
      well = a.well;
      bytes = a.image_bytes;
      names = a.to.directories;
      place = a.place;
      located = located g image bytes stands a;
      edit = one_edit g image bytes stands a (free_pages (used a.tree) g.pages) clear room;
      chain_free = chain_free_lem;
      joins_free = joins_free_lem;
      change = put_change g (label g image bytes stands a) (get_or (free_pages (used a.tree) g.pages) 0 0)
          (chain g image bytes stands a (free_pages (used a.tree) g.pages)) a.place.items (here_shaped g image bytes stands a).is_directory;
      differs = differs;
    }

    abbrev stopped : ℕ → Effect WriteCount
    stopped k = halted_at g k (careful_writes g a.to.directories (the_edit g image bytes stands a (free_pages (used a.tree) g.pages)) a.tree) image

-- of a file
module _ (g : Geometry) (image bytes : List ℕ) (a : Asked g image bytes a_file) (room : extra g image bytes a_file a + wanted g image bytes a_file a ≤ length (free_pages (used a.tree) g.pages))
    (path : List ℕ) (formed : path_of path ≡ ok a.to) where
  abbrev halted : ℕ → Effect WriteCount
  halted k = halted_at g k (careful_writes g a.to.directories (the_edit g image bytes a_file a (free_pages (used a.tree) g.pages)) a.tree) image

  abbrev free : List ℕ
  free = free_pages (used a.tree) g.pages

  pub careful_put_leaves : (k : ℕ) → CarefullyPut g k path bytes image (halted k).answer (halted k).image
  careful_put_leaves k = record {
    at = path_in g image bytes a_file a (path_of path) formed;
    edit = the_edit g image bytes a_file a free;
    planned = planned g image bytes a_file a free room;
    tree = result g image bytes a_file a free (clear g image bytes a_file a) room;
    tree_is = refl;
    stops = edit_halts (careful_edit g image bytes a_file a room) k;
    shows = put_shows g image bytes a_file a (path_of path) formed free (clear g image bytes a_file a) room;
    fresh = λ x j. ap (λ (ls : List Link). count x (pages ls)) (put_links g image bytes a_file a (path_of path) formed free (clear g image bytes a_file a) room) ∙ chain_free_lem g image bytes a_file a room x j;
  }

pub careful_put_lem : (g : Geometry) (k : ℕ) (path bytes image : List ℕ) (s : Effect WriteCount) → Fit g image → Bytes image → Bytes path → Bytes bytes → careful_put g k path bytes image ≡ ok s
    → CarefullyPut g k path bytes image s.answer s.image
unfolding careful_put
careful_put_lem g k path bytes image s fit b p c e = on_then _ _ _ e λ i h e. on_then _ _ _ e λ x t e. on_then _ _ _ e λ y r e.
    let C = a_put_lem path bytes p c in
    let m = C.met i.tree x t in
    let a : Asked g image bytes a_file = asked_at C g image fit b i h x m in
    on_refuse _ _ _ _ _ (sym (edit_is g image bytes a_file a (free_pages (used i) g.pages)) ∙ r) λ q z.
    let w : halted_at g k (careful_writes g x.to.directories (the_edit g image bytes a_file a (free_pages (used i) g.pages)) i) image ≡ s =
    ap (λ (y : Edit). halted_at g k (careful_writes g x.to.directories y i) image) (ok_inj z) ∙ ok_inj e in
    subst (λ (s : Effect WriteCount). CarefullyPut g k path bytes image s.answer s.image) w (careful_put_leaves g image bytes a (leb-true _ _ q) path m.formed k)
