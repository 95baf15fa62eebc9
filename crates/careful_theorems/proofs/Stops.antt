-- A careful edit stopped after any of its page writes: the old tree stands before the visible write, the new one from it on, and the marks cover the pages in use.
use Rattle.std.specs.Prelude.{◌≡◌, refl, ℕ, zero, suc, ◌+◌, ◌-◌, ◌*◌, ◌≤◌, length, take, drop}
use Rattle.std.proofs.Math.Path.{ap, ap₂, sym, subst}
use Rattle.std.proofs.Common.{◌∙◌, arith, length-append, length-take, length-drop}
use mathlib.Core.List.{List, [], ◌∷◌, ◌++◌, append_assoc}
use Rattle.std.proofs.Math.Decide.{dec_lt}
use Rattle.geometry.specs.declared.Geometry.{Geometry}
use Rattle.geometry.specs.Number.{Bytes}
use Rattle.packet.specs.Packet.{Write, after_writes}
use Rattle.rules.specs.PageSets.{count, Within}
use Rattle.rules.proofs.PageSetLaws.{hit_same, count_append, range_of}
use Rattle.rules.specs.Chain.{views_of, Link, link, pages, content, linked}
use Rattle.rules.specs.Tree.{Items, end, page, file, dir, start_of, directory_links, own_pages, all_pages, Map, in_root, in_file, map_pages, Image, used}
use Rattle.rules.specs.Bitmap.{bitmap_from, map_size, bitmap_of, refill, remap}
use Rattle.rules.proofs.BitmapLaws.{length_bitmap, bytes_bitmap, pages_remap}
use Rattle.rules.specs.WellFormed.{IsDirectory, MapHolds, WellFormedWith, WellFormed}
use Rattle.rules.specs.Paths.{Site, at_root, below, Place, root_place, change_at}
use Rattle.rules.specs.Writes.{changes, backwards, control_of, map_writes, Edit, edited, edit_writes}
use Rattle.rules.specs.Careful.{both_marked, careful_writes}
use Rattle.rules.specs.CarefulPromises.{Covers}
use Rattle.reading_theorems.specs.Directory.{own_links, all_split}
use Rattle.editing_theorems.specs.AfterWrites.{write_pages, WritesFit, after_writes_append}
use Rattle.editing_theorems.specs.HeldPackets.{pages_linked, count_joined, fits_join, fits_left, fits_right}
use Rattle.editing_theorems.specs.DirectoryWrites.{count_backwards}
use Rattle.editing_theorems.specs.MapWrites.{root_same, map_size_lem}
use Rattle.editing_theorems.specs.Contexts.{filled_all, Located}
use Rattle.editing_theorems.specs.EditedImage.{DirectoryOf, directory_of, OneEdit, fit₂, bytes₂, fits₂, parts₂, shaped, start_is, within, edited_is, image₂, whole, bits, ws₂, ws₃}
use Rattle.careful_theorems.proofs.MapStops.{MarkedImage, map_fit, map_all, map_stop, free_stays, fits_take, count_take}
use Rattle.careful_theorems.proofs.MarkLaws.{map_room, covers_bitmap, covers_mixed, Left}
use Rattle.careful_theorems.proofs.VisibleWrite.{Change, Turned, turned}

-- ---- lists
pub take_joined : (k : ℕ) (ws us : List Write) → take k (ws ++ us) ≡ take k ws ++ take (k - length ws) us
take_joined zero ws us = let e : 0 - length ws ≡ 0 = omega arith in rw e refl
take_joined (suc k) [] us = let e : suc k - 0 ≡ suc k = omega arith in rw e refl
take_joined (suc k) (w ∷ ws) us = let e : suc k - suc (length ws) ≡ k - length ws = omega arith in rw e (ap (λ (l : List Write). w ∷ l) (take_joined k ws us))

pub take_whole : (k : ℕ) (ws : List Write) → length ws ≤ k → take k ws ≡ ws
take_whole zero [] h = refl
take_whole zero (w ∷ ws) h = absurd (omega arith)
take_whole (suc k) [] h = refl
take_whole (suc k) (w ∷ ws) h = ap (λ (l : List Write). w ∷ l) (take_whole k ws (omega arith))

pub append_none : (ws : List Write) → ws ++ [] ≡ ws
append_none [] = refl
append_none (w ∷ ws) = ap (λ (l : List Write). w ∷ l) (append_none ws)

root_used : (t : Items) → IsDirectory t → start_of t ≡ 0 → 1 ≤ count 0 (own_pages t)
root_used end i z = absurd i
root_used (page p t) i z = rw z (omega (arith, hit_same 0))
root_used (file l ls t) i z = absurd i
root_used (dir l d t) i z = absurd i

-- a bitmap file filled twice has the second bytes
refill_again : (ls : List Link) (a b : List ℕ) → length a ≡ length (content ls) → refill (refill ls a) b ≡ refill ls b
refill_again [] a b h = refl
refill_again (link p c ∷ ls) a b h =
    let k = length-append c (content ls) in
    let e : length (take (length c) a) ≡ length c = omega (arith, length-take (length c) a) in
    ap (λ (n : ℕ). link p (take n b) ∷ refill (refill ls (drop (length c) a)) (drop n b)) e
    ∙ ap (λ (l : List Link). link p (take (length c) b) ∷ l) (refill_again ls (drop (length c) a) (drop (length c) b) (simp length-drop (omega arith)))

control_same : (n : ℕ) (bits : List ℕ) (m : Map) (site : Site) → control_of n bits (remap bits m) site ≡ control_of n bits m site
control_same n b in_root at_root = refl
control_same n b (in_file ls) at_root = root_same n b b ls
control_same n b m (below up) = refl

-- an edit over any marks: once its file's pages and its directory's pages are written, the new tree stands with the same marks
visible_stands : {g : Geometry} {image marks : List ℕ} {D : DirectoryOf g image marks} (E : OneEdit D) → MarkedImage g (image₂ E) marks (record { tree = whole E; map = D.tree.map })
visible_stands {g} {image} {marks} {D} E = record {
  fits = fit₂ E;
  are_bytes = bytes₂ E;
  holds = record {
    is_directory = (shaped E).is_directory;
    at_zero = start_is E;
    names = (shaped E).names;
    entries = (shaped E).entries;
    map = D.stands.map;
    room = D.stands.room;
    bytes = D.stands.bytes;
    packets = parts₂ E;
    apart = λ x. omega (arith, within E x, count_append x (all_pages (whole E)) (map_pages D.tree.map));
  };
}

-- an edit of a directory of a well-formed image that can be stopped
pub record CarefulEdit (g : Geometry) (image : List ℕ) : Type 0 where
  pub tree : Image
  pub well : WellFormed g image tree
  pub bytes : Bytes image
  pub names : List ℕ
  pub place : Place
  pub located : Located names (root_place tree.tree) place
  pub edit : OneEdit (directory_of g image tree well bytes names place located)
  -- the pages of the new chain, and a page that joins the directory, were not in use
  pub chain_free : (x : ℕ) → 1 ≤ count x (used tree) → count x (pages edit.chain) ≡ 0
  pub joins_free : (x : ℕ) → 1 ≤ count x (used tree) → count x (own_pages edit.after) ≤ count x (own_pages place.items)
  -- one page of the directory changes, or one joins it, and the tree is another one then
  pub change : (control : List ℕ) → Change (directory_links g control place.items) (directory_links g control edit.after)
  pub differs : tree.tree ≡ filled_all located.contexts edit.after → ⊥

module _ {g : Geometry} {image : List ℕ} (c : CarefulEdit g image) where
  abbrev i : Image
  i = c.tree

  abbrev m : Map
  m = c.tree.map

  abbrev chain : List Link
  chain = c.edit.chain

  abbrev pub the_edit : Edit
  the_edit = record { site = c.place.site; before = c.place.items; after = c.edit.after; chain = c.edit.chain }

  abbrev pub after : Image
  after = edited g c.names the_edit c.tree

  abbrev pub marks : List ℕ
  marks = both_marked g c.tree after

  abbrev pub t' : Items
  t' = filled_all c.located.contexts c.edit.after

  -- ---- the bitmap before, the marks, the bitmap after
  abbrev bits₀ : List ℕ
  bits₀ = bitmap_of g (used i) m

  abbrev bits₁ : List ℕ
  bits₁ = bitmap_of g (all_pages t' ++ map_pages m) m

  after_is : after ≡ record { tree = t'; map = remap bits₁ m }
  after_is = edited_is c.edit

  used_after : used after ≡ all_pages t' ++ map_pages m
  used_after = ap used after_is ∙ ap (λ (l : List ℕ). all_pages t' ++ l) (pages_remap bits₁ m)

  bits_after : bitmap_of g (used after) after.map ≡ bits₁
  bits_after = ap₂ (λ (us : List ℕ) (n : ℕ). bitmap_from us 0 n) used_after (ap (λ (k : Image). map_size g k.map) after_is ∙ map_size_lem g bits₁ m)

  marks_size : length marks ≡ length bits₀
  unfolding both_marked
  marks_size = length_bitmap (used i ++ used after) 0 (map_size g m) ∙ sym (length_bitmap (used i) 0 (map_size g m))

  marks_bytes : Bytes marks
  unfolding both_marked
  marks_bytes = bytes_bitmap (used i ++ used after) 0 (map_size g m)

  abbrev room : g.pages ≤ 8 * map_size g c.tree.map
  room = map_room g bits₀ m c.well.holds.map

  marks_cover : (us : List ℕ) → ((x : ℕ) → 1 ≤ count x us → 1 ≤ count x (used i) + count x (all_pages t' ++ map_pages m)) → Covers g.pages marks us
  unfolding both_marked
  marks_cover us h = covers_bitmap g.pages (map_size g m) us (used i ++ used after) room
      (λ x j. omega (arith, h x j, count_append x (used i) (used after), ap (count x) used_after))
      (λ x j. range_of x g.pages (elim (dec_lt 0 (count x (used i))) [
        | yes q ↦ omega (arith, c.well.holds.apart x)
        | no q ↦ omega (arith, count_append x (used i) (used after), ap (count x) used_after, within c.edit x, count_append x (all_pages t') (map_pages m))
      ]))

  old_cover : Covers g.pages bits₀ (used i)
  old_cover = covers_bitmap g.pages (map_size g m) (used i) (used i) room (λ x j. j) (λ x j. range_of x g.pages (omega (arith, c.well.holds.apart x)))

  new_cover : Covers g.pages bits₁ (all_pages t' ++ map_pages m)
  new_cover = covers_bitmap g.pages (map_size g m) (all_pages t' ++ map_pages m) (all_pages t' ++ map_pages m) room (λ x j. j)
      (λ x j. range_of x g.pages (omega (arith, within c.edit x, count_append x (all_pages t') (map_pages m))))

  -- ---- the marks written
  s₀ : MarkedImage g image bits₀ i
  s₀ = record { fits = c.well.fits; are_bytes = c.bytes; holds = c.well.holds }

  abbrev pub A : List Write
  A = map_writes g marks c.tree.tree c.tree.map

  abbrev pub i_a : Image
  i_a = record { tree = c.tree.tree; map = remap marks c.tree.map }

  abbrev pub image_a : List ℕ
  image_a = after_writes g A image

  pub marks_fit : WritesFit g A
  marks_fit = map_fit g image bits₀ i.tree m s₀ marks marks_size marks_bytes

  pub s_a : MarkedImage g image_a marks i_a
  s_a = map_all g image bits₀ i.tree m s₀ marks marks_size marks_bytes

  used_a : used i_a ≡ used i
  used_a = ap (λ (l : List ℕ). all_pages i.tree ++ l) (pages_remap marks m)

  -- the same directory and its edit, over the marks
  abbrev pub directory_a : DirectoryOf g image_a marks
  directory_a = record { tree = i_a; fit = s_a.fits; stands = s_a.holds; bytes = s_a.are_bytes; names = c.names; place = c.place; located = c.located }

  pub apart_a : Within g.pages (all_pages (change_at c.names (λ _. c.edit.after) c.tree.tree) ++ map_pages (remap marks c.tree.map))
  apart_a = rw (pages_remap marks m) c.edit.apart

  abbrev pub edit_a : OneEdit directory_a
  edit_a = record { after = c.edit.after; chain = c.edit.chain; kept = c.edit.kept; edit = c.edit.edit; fits = c.edit.fits; apart = apart_a }

  abbrev pub control : List ℕ
  control = control_of g.width marks (remap marks c.tree.map) c.place.site

  abbrev pub old : List Link
  old = directory_links g control c.place.items

  abbrev pub new : List Link
  new = directory_links g control c.edit.after

  -- ---- the rule's list in four parts: the marks, the new chain, the directory's pages, the bitmap of the pages then in use
  size₁ : length bits₁ ≡ length marks
  size₁ = length_bitmap (all_pages t' ++ map_pages m) 0 (map_size g m) ∙ sym (marks_size ∙ length_bitmap (used i) 0 (map_size g m))

  twice : (k : Map) → MapHolds g bits₀ k → length marks ≡ length bits₀ → remap bits₁ (remap marks k) ≡ remap bits₁ k
  twice in_root h a = refl
  twice (in_file ls) h a = ap in_file (refill_again ls marks bits₁ (a ∙ ap length (sym h.1)))

  bits_a : bits edit_a ≡ bits₁
  bits_a = ap₂ (λ (us : List ℕ) (n : ℕ). bitmap_from (all_pages t' ++ us) 0 n) (pages_remap marks m) (map_size_lem g marks m)

  pub four_parts : careful_writes g c.names the_edit c.tree ≡ A ++ (linked c.edit.chain ++ (ws₂ edit_a ++ ws₃ edit_a))
  unfolding careful_writes edit_writes
  four_parts =
      let release : map_writes g (bitmap_of g (used after) after.map) after.tree after.map ≡ ws₃ edit_a =
      ap (λ (b : List ℕ). map_writes g b after.tree after.map) bits_after ∙ ap (λ (k : Image). map_writes g bits₁ k.tree k.map) after_is
      ∙ ap (map_writes g bits₁ t') (sym (twice m c.well.holds.map marks_size)) ∙ ap (λ (b : List ℕ). map_writes g b t' (remap b (remap marks m))) (sym bits_a) in
      let turn : (c₀ : List ℕ) → c₀ ≡ control → backwards (changes (linked (directory_links g c₀ c.place.items)) (linked (directory_links g c₀ c.edit.after))) ≡ ws₂ edit_a =
      λ c₀ q. ap (λ (c₁ : List ℕ). backwards (changes (linked (directory_links g c₁ c.place.items)) (linked (directory_links g c₁ c.edit.after)))) q in
      ap₂ (λ (us vs : List Write). A ++ (linked chain ++ (us ++ vs))) (turn (control_of g.width marks m c.place.site) (sym (control_same g.width marks m c.place.site))) release

  -- ---- the directory's packets that differ
  no_zero : count 0 (pages new) ≤ count 0 (pages old)
  no_zero = omega (
    arith,
    c.joins_free 0 (omega (arith, root_used i.tree c.well.holds.is_directory c.well.holds.at_zero, all_split 0 i.tree, count_append 0 (all_pages i.tree) (map_pages m))),
    ap (count 0) (own_links g control c.place.items),
    ap (count 0) (own_links g control c.edit.after),
  )

  pub turn : Turned old new
  turn = turned (c.change control) no_zero

  abbrev image_s : List ℕ
  image_s = after_writes g (backwards (changes (linked old) (linked new))) (after_writes g (linked chain) image_a)

  -- the tree then stands
  s_s : MarkedImage g image_s marks (record { tree = t'; map = remap marks m })
  s_s = visible_stands edit_a

  -- the file's pages alone leave the old tree
  pub chain_stands : MarkedImage g (after_writes g (linked c.edit.chain) (after_writes g A image)) marks (record { tree = c.tree.tree; map = remap marks c.tree.map })
  chain_stands = free_stays g image_a marks i_a s_a (linked chain) c.edit.fits (λ x j. ap (count x) (pages_linked chain) ∙ c.chain_free x (omega (arith, ap (count x) used_a)))

  pub none_stands : changes (linked old) (linked new) ≡ [] → MarkedImage g (after_writes g (linked c.edit.chain) (after_writes g A image)) marks (record { tree = t'; map = remap marks c.tree.map })
  unfolding after_writes
  none_stands q = subst (λ (us : List Write). MarkedImage g (after_writes g (backwards us) (after_writes g (linked chain) image_a)) marks (record { tree = t'; map = remap marks m })) q s_s

  pub map_after : map_pages after.map ≡ map_pages c.tree.map
  map_after = ap (λ (k : Image). map_pages k.map) after_is ∙ pages_remap bits₁ m

  pub tree_after_lem : after.tree ≡ t'
  tree_after_lem = ap (λ (k : Image). k.tree) after_is

  module _ (w : Write) (fresh : List Link) (is : changes (linked old) (linked new) ≡ w ∷ linked fresh) (more : (x : ℕ) → count x (pages fresh) + count x (pages old) ≤ count x (pages new)) where
    abbrev pub B : List Write
    B = linked chain ++ backwards (linked fresh)

    -- the last part: the bitmap of the pages in use then
    abbrev pub C : List Write
    C = map_writes g bits₁ t' (remap marks m)

    turn_is : backwards (changes (linked old) (linked new)) ≡ backwards (linked fresh) ++ (w ∷ [])
    turn_is = ap backwards is

    fresh_fits : WritesFit g (backwards (linked fresh))
    fresh_fits = fits_left g (backwards (linked fresh)) (w ∷ []) (subst (WritesFit g) turn_is (fits₂ edit_a))

    B_fits : WritesFit g B
    B_fits = fits_join g (linked chain) (backwards (linked fresh)) c.edit.fits fresh_fits

    B_free : (x : ℕ) → 1 ≤ count x (used i_a) → count x (write_pages B) ≡ 0
    B_free x j =
        let k : 1 ≤ count x (used i) = omega (arith, ap (count x) used_a) in
        omega (
          arith,
          count_joined x (linked chain) (backwards (linked fresh)),
          ap (count x) (pages_linked chain),
          c.chain_free x k,
          count_backwards x (linked fresh),
          ap (count x) (pages_linked fresh),
          more x,
          c.joins_free x k,
          ap (count x) (own_links g control c.place.items),
          ap (count x) (own_links g control c.edit.after),
        )

    in_b : (k : ℕ) → MarkedImage g (after_writes g (take k B) image_a) marks i_a
    in_b k = free_stays g image_a marks i_a s_a (take k B) (fits_take g k B B_fits) (λ x j. omega (arith, count_take x k B, B_free x j))

    -- ---- before the visible write
    pub before_seen : (k : ℕ) → Left g (after_writes g (take k (A ++ B)) image) c.tree.tree (map_pages c.tree.map)
    before_seen k = elim (dec_lt (length A) k) [
      | yes q ↦
          let z : after_writes g (take k (A ++ B)) image ≡ after_writes g (take (k - length A) B) image_a =
          ap (λ (ws : List Write). after_writes g ws image) (take_joined k A B ∙ ap (λ (ws : List Write). ws ++ take (k - length A) B) (take_whole k A (omega arith)))
          ∙ after_writes_append g A (take (k - length A) B) image in
          subst (λ (l : List ℕ). Left g l i.tree (map_pages m)) (sym z) (record {
            bits = marks;
            map = remap marks m;
            map_pages_same = pages_remap marks m;
            stands = in_b (k - length A);
            covers = marks_cover (used i_a) (λ x j. omega (arith, ap (count x) used_a));
          })
      | no q ↦
          let y : k - length A ≡ 0 = omega arith in
          let z : take k (A ++ B) ≡ take k A = take_joined k A B ∙ ap (λ (n : ℕ). take k A ++ take n B) y ∙ append_none (take k A) in
          let r = map_stop g image bits₀ i.tree m s₀ marks marks_size marks_bytes k in
          let u : all_pages i.tree ++ map_pages r.map ≡ used i = ap (λ (l : List ℕ). all_pages i.tree ++ l) r.map_pages_same in
          subst (λ (ws : List Write). Left g (after_writes g ws image) i.tree (map_pages m)) (sym z) (record {
            bits = r.bytes;
            map = r.map;
            map_pages_same = r.map_pages_same;
            stands = r.stands;
            covers = subst (Covers g.pages r.bytes) (sym u)
                (covers_mixed g.pages r.bytes marks bits₀ (used i) r.mixed r.sized marks_size (marks_cover (used i) (λ x j. omega arith)) old_cover);
          })
    ]

    -- ---- from the visible write on
    pub seen_is : after_writes g ((A ++ B) ++ (w ∷ [])) image ≡ image_s
    seen_is =
        after_writes_append g (A ++ B) (w ∷ []) image ∙ ap (after_writes g (w ∷ [])) (after_writes_append g A B image ∙ after_writes_append g (linked chain) (backwards (linked fresh)) image_a)
        ∙ sym (ap (λ (ws : List Write). after_writes g ws (after_writes g (linked chain) image_a)) turn_is ∙ after_writes_append g (backwards (linked fresh)) (w ∷ []) (after_writes g (linked chain) image_a))

    pub from_seen : (k : ℕ) → Left g (after_writes g (take k C) image_s) t' (map_pages c.tree.map)
    from_seen k =
        let r = map_stop g image_s marks t' (remap marks m) s_s bits₁ size₁ (bytes_bitmap (all_pages t' ++ map_pages m) 0 (map_size g m)) k in
        let u : all_pages t' ++ map_pages r.map ≡ all_pages t' ++ map_pages m = ap (λ (l : List ℕ). all_pages t' ++ l) (r.map_pages_same ∙ pages_remap marks m) in
        record {
          bits = r.bytes;
          map = r.map;
          map_pages_same = r.map_pages_same ∙ pages_remap marks m;
          stands = r.stands;
          covers = subst (Covers g.pages r.bytes) (sym u) (covers_mixed g.pages r.bytes bits₁ marks (all_pages t' ++ map_pages m) r.mixed r.sized size₁
              new_cover (marks_cover (all_pages t' ++ map_pages m) (λ x j. omega arith)));
        }

    -- ---- the rule's list is this one
    again : (k : Map) → MapHolds g bits₀ k → length marks ≡ length bits₀ → length bits₁ ≡ length bits₀ → map_writes g bits₁ t' (remap bits₁ k) ≡ map_writes g bits₁ t' (remap marks k)
    again in_root h a b = refl
    again (in_file ls) h a b = ap linked (refill_again ls bits₁ bits₁ (b ∙ ap length (sym h.1)) ∙ sym (refill_again ls marks bits₁ (a ∙ ap length (sym h.1))))

    pub list_is : edit_writes g marks the_edit c.tree after ≡ (A ++ B) ++ (w ∷ C)
    unfolding edit_writes
    list_is =
        let release : map_writes g (bitmap_of g (used after) after.map) after.tree after.map ≡ C =
        ap (λ (b : List ℕ). map_writes g b after.tree after.map) bits_after ∙ ap (λ (k : Image). map_writes g bits₁ k.tree k.map) after_is
        ∙ again m c.well.holds.map marks_size (size₁ ∙ marks_size) in
        let d : (c₀ : List ℕ) → c₀ ≡ control → backwards (changes (linked (directory_links g c₀ c.place.items)) (linked (directory_links g c₀ c.edit.after))) ≡ backwards (linked fresh) ++ (w ∷ []) =
        λ c₀ q. ap (λ (c₁ : List ℕ). backwards (changes (linked (directory_links g c₁ c.place.items)) (linked (directory_links g c₁ c.edit.after)))) q ∙ turn_is in
        let x = backwards (linked fresh) in
        ap₂ (λ (us vs : List Write). A ++ (linked chain ++ (us ++ vs))) (d (control_of g.width marks m c.place.site) (sym (control_same g.width marks m c.place.site))) release
        ∙ ap (λ (us : List Write). A ++ (linked chain ++ us)) (append_assoc x (w ∷ []) C)
        ∙ ap (λ (us : List Write). A ++ us) (sym (append_assoc (linked chain) x (w ∷ C)))
        ∙ sym (append_assoc A B (w ∷ C))

    -- all of it
    pub all_done : MarkedImage g (after_writes g C image_s) bits₁ (record { tree = t'; map = remap bits₁ (remap marks m) })
    all_done = map_all g image_s marks t' (remap marks m) s_s bits₁ size₁ (bytes_bitmap (all_pages t' ++ map_pages m) 0 (map_size g m))

    abbrev pub ws : List Write
    ws = edit_writes g marks the_edit c.tree after

    pub ends : after_writes g ws image ≡ after_writes g C image_s
    ends = ap (λ (us : List Write). after_writes g us image) (list_is ∙ sym (append_assoc (A ++ B) (w ∷ []) C)) ∙ after_writes_append g ((A ++ B) ++ (w ∷ [])) C image ∙ ap (after_writes g C) seen_is

    pub all_well : WellFormed g (after_writes g ws image) after
    all_well =
        let b : bits₁ ≡ bitmap_of g (used after) after.map = sym bits_after in
        let k : record { tree = t'; map = remap bits₁ (remap marks m) } ≡ after = ap (λ (n : Map). record { tree = t'; map = n }) (twice m c.well.holds.map marks_size) ∙ sym after_is in
        subst (λ (l : List ℕ). WellFormed g l after) (sym ends) (record {
          fits = all_done.fits;
          holds = subst (λ (n : List ℕ). WellFormedWith g (views_of g (after_writes g C image_s)) n after) b (subst (WellFormedWith g (views_of g (after_writes g C image_s)) bits₁) k all_done.holds);
        })

    -- every write can be made
    pub front_fits : WritesFit g (A ++ B)
    front_fits = fits_join g A B marks_fit B_fits

    pub back_fits : WritesFit g C
    back_fits = map_fit g image_s marks t' (remap marks m) s_s bits₁ size₁ (bytes_bitmap (all_pages t' ++ map_pages m) 0 (map_size g m))

    pub seen_fits : WritesFit g (w ∷ [])
    seen_fits = fits_right g (backwards (linked fresh)) (w ∷ []) (subst (WritesFit g) turn_is (fits₂ edit_a))
