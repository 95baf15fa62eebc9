-- A put, or a making: the image after it is accepted, what is put stands at the path, every other path shows what it showed; the pages in use, counted.
use Rattle.std.specs.Prelude.{◌≡◌, true, ℕ, ◌+◌, ◌^◌, ◌≤◌, ◌<◌, leb, length, take, drop, get_or}
use Rattle.std.proofs.Math.Path.{refl, ap}
use Rattle.std.proofs.Common.{sym, ◌∙◌, length-append, length-drop, length-take-le, take_all}
use mathlib.Core.List.{List, [], ◌∷◌, ◌++◌}
use native.Mathlib.Omega.{arith}
use Rattle.geometry.specs.declared.Geometry.{Geometry}
use Rattle.geometry.specs.Geometry.{Valid, data_capacity}
use Rattle.geometry.specs.Number.{Bytes}
use Rattle.rules.specs.Result.{ok, and_after, refuse_unless}
use Rattle.rules.specs.PageSets.{count, range, Within, free_pages}
use Rattle.rules.proofs.PageSetLaws.{count_append, count_split, pigeon, free_law, length_range}
use Rattle.rules.specs.Chain.{Link, link, first, pages, content, linked, chain_of, pages_for}
use Rattle.rules.proofs.ChainLaws.{pages_least, length_pages, pages_chain_of, length_chain_of, content_chain_of, pages_enough}
use Rattle.rules.specs.Names.{valid_name}
use Rattle.rules.specs.Tree.{Label, Items, own_pages, inner_pages, all_pages, map_pages, Image, used}
use Rattle.rules.specs.Control.{Parent}
use Rattle.rules.specs.Bitmap.{bitmap_of}
use Rattle.rules.specs.WellFormed.{Named, WellFormed}
use Rattle.rules.specs.Paths.{Path, file_key, file_label, Found, find, Place, root_place, directory_at, change_at}
use Rattle.rules.specs.Writes.{Edit, edited, edit_writes}
use Rattle.rules.specs.Put.{replace, kept_pages, put_edit, plain_edit, extra_pages, items_after}
use Rattle.rules.proofs.EditLaws.{replace_own}
use Rattle.rules.specs.EditLaws.{all_found}
use Rattle.rules.specs.Candidate.{chain_pages}
use Rattle.rules.specs.Demand2.{EditDone}
use Rattle.reading_theorems.specs.Directory.{all_split}
use Rattle.editing_theorems.specs.Capacity.{capacity_least}
use Rattle.editing_theorems.specs.AfterWrites.{WritesFit}
use Rattle.editing_theorems.specs.NewChains.{chain_of_fits}
use Rattle.editing_theorems.specs.Contexts.{Context, levels_at_lem, located_length, filled_all, around_all, context_path, levels_at, all_filled_all, Located, locate, used_at}
use Rattle.editing_theorems.specs.ContextLaws.{Shaped, shaped_changed}
use Rattle.editing_theorems.specs.EditedImage.{DirectoryOf, directory_of, OneEdit, place_shaped, tree_edited, used_edited, edit_done}
use Rattle.editing_theorems.specs.PathChanges.{PathsChanged, paths_changed}
use Rattle.editing_theorems.specs.PutDirectory.{Enters, as_file, as_directory, extra_one, PutIn, put_in, take_first}

-- two lists that count every number alike are of one length
pub same_length : (xs ys : List ℕ) → ((x : ℕ) → count x xs ≡ count x ys) → length xs ≡ length ys
same_length xs ys h = omega (arith, pigeon xs ys (λ x. omega (arith, h x)), pigeon ys xs (λ x. omega (arith, h x)))

-- a put of bytes, or a making, at a path in an accepted image, that nothing but room could refuse; `stands` says what is put
pub record Asked (g : Geometry) (image bytes : List ℕ) (stands : Label → List Link → Found) : Type 0 where
  pub tree : Image
  pub well : WellFormed g image tree
  pub image_bytes : Bytes image
  pub are_bytes : Bytes bytes
  pub to : Path
  pub valid : valid_name to.name ≡ true
  pub four : to.name < 256 ^ 4
  pub place : Place
  pub there : directory_at to.directories (root_place tree.tree) ≡ ok place
  pub enters : Enters g to place bytes stands

module _ (g : Geometry) (image bytes : List ℕ) (stands : Label → List Link → Found) (a : Asked g image bytes stands) where
  abbrev i : Image
  i = a.tree

  abbrev valid : Valid g
  valid = a.well.fits.valid

  abbrev d : Items
  d = a.place.items

  abbrev pub label : Label
  label = file_label a.to

  -- what stays in use, the free pages rising, the pages that the directory and what is put take
  abbrev pub kept : List ℕ
  kept = kept_pages a.to a.tree

  abbrev pub free : List ℕ
  free = free_pages kept g.pages

  abbrev pub extra : ℕ
  extra = extra_pages g label a.place.items

  abbrev pub wanted : ℕ
  wanted = pages_for (data_capacity g) (length bytes)

  pub located : Located a.to.directories (root_place a.tree.tree) a.place
  located = locate a.to.directories (root_place a.tree.tree) a.place a.there

  abbrev pub cs : List Context
  cs = located.contexts

  pub root_shaped_lem : Shaped g.width 8 (filled_all cs a.place.items)
  root_shaped_lem = rw located.whole (record { is_directory = a.well.holds.is_directory; names = a.well.holds.names; entries = a.well.holds.entries })

  -- the levels left in the directory, and how it is known to those below it
  abbrev pub levels : ℕ
  levels = levels_at cs 8

  abbrev pub here : Parent
  here = a.place.here

  abbrev pub directory : DirectoryOf g image (bitmap_of g (used a.tree) a.tree.map)
  directory = directory_of g image a.tree a.well a.image_bytes a.to.directories a.place located

  pub here_shaped : Shaped g.width levels a.place.items
  here_shaped = place_shaped directory

  -- ---- pages
  pub used_is : (x : ℕ) → count x (used a.tree) ≡ count x (around_all cs) + (count x (own_pages a.place.items) + count x (inner_pages a.place.items)) + count x (map_pages a.tree.map)
  used_is x = used_at x a.to.directories a.tree a.place located

  pub kept_is : (x : ℕ) → count x kept ≡ count x (around_all cs) + (count x (own_pages a.place.items) + count x (inner_pages (replace (file_key a.to) [] a.place.items))) + count x (map_pages a.tree.map)
  unfolding kept_pages
  kept_is x =
      let k = file_key a.to in
      let r = replace k [] d in
      omega (
        arith,
        count_append x (all_pages (change_at a.to.directories (replace k []) i.tree)) (map_pages i.map),
        ap (λ (t : Items). count x (all_pages t)) (located.change (replace k [])),
        all_filled_all x cs r,
        all_split x r,
        ap (count x) (replace_own k [] d),
      )

  -- a level is left for a directory that is made
  pub level_left : length a.to.directories < 8 → 0 < levels
  level_left h = omega (arith, levels_at_lem cs 8, located_length located)

  named : Named g.width label
  named = record { four = a.four; valid = a.valid; byte = extension_byte a.enters; stamps = tt }
    where
      extension_byte : Enters g a.to a.place bytes stands → a.to.extension < 256
      extension_byte (as_file low w e) = omega (arith, low)
      extension_byte (as_directory is few c n e) = omega (arith, is)

  -- a chain of the bytes in any pages
  some_chain : (ps : List ℕ) → 0 < length ps → 0 < length (chain_of (data_capacity g) ps bytes)
  some_chain ps h = omega (arith, length_chain_of (data_capacity g) ps bytes)

  one_page : (ps : List ℕ) → length ps ≡ wanted → length bytes ≤ data_capacity g → chain_of (data_capacity g) ps bytes ≡ link (first (chain_of (data_capacity g) ps bytes)) bytes ∷ []
  one_page [] h few = absurd (omega (arith, h))
  one_page (p ∷ []) h few = ap (λ (b : List ℕ). link p b ∷ []) (take_all (data_capacity g) bytes few)
  one_page (p ∷ (r ∷ ps)) h few = absurd (omega (arith, h, pages_least (data_capacity g) (length bytes) 1 (omega (arith, capacity_least g valid)) (omega arith) (omega arith)))

  put_on : (q : ℕ) (ps : List ℕ) → length ps ≡ wanted
      → PutIn g levels here label q (chain_of (data_capacity g) ps bytes) extra stands a.place.items (items_after g label q (chain_of (data_capacity g) ps bytes) a.place.items)
  put_on q ps h = put_in g valid a.to a.place bytes stands a.enters named q (chain_of (data_capacity g) ps bytes) (some_chain ps (omega (arith, h))) (one_page ps h) levels level_left here_shaped

  -- what stands at the path is a file or nothing, whatever pages are taken
  old_is : PutIn g levels here label 0 (chain_of (data_capacity g) (range wanted) bytes) extra stands a.place.items (items_after g label 0 (chain_of (data_capacity g) (range wanted) bytes) a.place.items)
  old_is = put_on 0 (range wanted) (length_range wanted)

  pub all_old : all_found (find (file_key a.to) a.place.items) ≡ chain_pages (find (file_key a.to) a.place.items)
  all_old = old_is.all_old

  -- the replaced chain is free, all else in use is kept
  pub kept_old : (x : ℕ) → count x kept + count x (chain_pages (find (file_key a.to) a.place.items)) ≡ count x (used a.tree)
  kept_old x = omega (arith, kept_is x, used_is x, old_is.exact x)

  pub kept_within : Within g.pages kept
  kept_within x = omega (arith, kept_old x, a.well.holds.apart x)

  pub free_is : (x : ℕ) → count x free + count x kept ≡ count x (range g.pages)
  free_is x = free_law x kept g.pages kept_within

  pub free_clear : (x : ℕ) → count x free + count x kept ≤ count x (range g.pages)
  free_clear x = omega (arith, free_is x)

  -- ---- a put over any free pages, `spare`: the new chain, the directory after, the edit
  module _ (spare : List ℕ) where
    abbrev pub chain : List Link
    chain = chain_of (data_capacity g) (take wanted (drop extra spare)) bytes

    abbrev pub after : Items
    after = items_after g label (get_or spare 0 0) chain a.place.items

    abbrev pub the_edit : Edit
    the_edit = record { site = a.place.site; before = a.place.items; after = after; chain = chain }

    -- the rule's edit is this one
    pub edit_is : put_edit g spare a.to bytes a.place ≡ and_after (refuse_unless (leb (extra + wanted) (length spare)) 17 0) (ok the_edit)
    unfolding put_edit extra_pages items_after
    edit_is = refl

  -- they are clear of what is kept, and there is room
  module _ (spare : List ℕ) (clear : (x : ℕ) → count x spare + count x kept ≤ count x (range g.pages)) (room : extra + wanted ≤ length spare) where
    enough : wanted ≤ length (drop extra spare)
    enough = simp length-drop (omega arith)

    pub length_chain : length (chain spare) ≡ wanted
    length_chain = length_chain_of (data_capacity g) (take wanted (drop extra spare)) bytes ∙ length-take-le wanted (drop extra spare) enough

    pages_chain : pages (chain spare) ≡ take wanted (drop extra spare)
    pages_chain = pages_chain_of (data_capacity g) (take wanted (drop extra spare)) bytes

    -- the pages hold the bytes
    pub chain_reads : content (chain spare) ≡ bytes
    chain_reads = content_chain_of (data_capacity g) (take wanted (drop extra spare)) bytes
        (rw (length-take-le wanted (drop extra spare) enough) (pages_enough (data_capacity g) (length bytes) (omega (arith, capacity_least g valid))))

    -- the pages taken are free ones
    pub taken : (x : ℕ) → count x (take extra spare) + count x (pages (chain spare)) ≤ count x spare
    taken x = omega (arith, ap (count x) pages_chain, count_split x extra spare, count_split x wanted (drop extra spare))

    pub chain_fits : WritesFit g (linked (chain spare))
    chain_fits = chain_of_fits g valid (take wanted (drop extra spare)) bytes (λ x. omega (arith, taken x, ap (count x) pages_chain, clear x)) a.are_bytes

    pub into : PutIn g levels here label (get_or spare 0 0) (chain spare) extra stands a.place.items (after spare)
    into = put_on (get_or spare 0 0) (take wanted (drop extra spare)) (length-take-le wanted (drop extra spare) enough)

    pub own_then : (x : ℕ) → count x (own_pages (after spare)) ≡ count x (own_pages a.place.items) + count x (take extra spare)
    own_then x = omega (arith, into.own_is x, take_first x extra spare (extra_one g label d) (omega arith))

    -- the pages in use after the put
    pub pages_then : (x : ℕ) → count x (all_pages (change_at a.to.directories (λ _. after spare) a.tree.tree) ++ map_pages a.tree.map) ≡ count x kept + count x (take extra spare) + count x (pages (chain spare))
    pages_then x = rw (located.change (λ _. after spare)) (omega (
      arith,
      count_append x (all_pages (filled_all cs (after spare))) (map_pages i.map),
      all_filled_all x cs (after spare),
      all_split x (after spare),
      own_then x,
      into.edit.inner x,
      kept_is x,
    ))

    abbrev pub result : Image
    result = edited g a.to.directories (the_edit spare) a.tree

    abbrev pub one_edit : OneEdit directory
    one_edit = record {
      after = after spare;
      chain = chain spare;
      kept = inner_pages (replace (file_key a.to) [] a.place.items);
      edit = into.edit;
      fits = chain_fits;
      apart = λ x. omega (arith, pages_then x, taken x, clear x);
    }

    pub put_edited : EditDone g image a.tree result (edit_writes g (bitmap_of g (used a.tree) a.tree.map) (the_edit spare) a.tree result) (plain_edit g a.to.directories (the_edit spare) a.tree image)
    unfolding plain_edit
    put_edited = edit_done one_edit

    pub put_paths : PathsChanged g (context_path cs) (file_key a.to) a.place.items (after spare) a.tree result
    put_paths = paths_changed g 8 cs d (after spare) (file_key a.to) root_shaped_lem (shaped_changed d (after spare) cs 8 into.edit.shaped root_shaped_lem)
        into.below_before into.below_after into.elsewhere i result
        (sym located.whole) (tree_edited g a.to.directories (the_edit spare) i ∙ located.change (λ _. after spare))

    -- pages in use then, and the chain replaced: as many as before, with those that the directory and what is put take
    pub put_total : length (used result) + length (chain_pages (find (file_key a.to) a.place.items)) ≡ length (used a.tree) + extra + wanted
    put_total =
        let old = chain_pages (find (file_key a.to) d) in
        let e = used_edited g a.to.directories (the_edit spare) i in
        let s = same_length (used result ++ old) (used i ++ (take extra spare ++ pages (chain spare))) (λ x. omega (
          arith,
          count_append x (used result) old,
          ap (count x) e,
          pages_then x,
          kept_old x,
          count_append x (used i) (take extra spare ++ pages (chain spare)),
          count_append x (take extra spare) (pages (chain spare)),
        )) in
        omega (
          arith,
          s,
          length-append (used result) old,
          length-append (used i) (take extra spare ++ pages (chain spare)),
          length-append (take extra spare) (pages (chain spare)),
          length-take-le extra spare (omega arith),
          length_pages (chain spare),
          length_chain,
        )
