-- A careful put of a file: the marks, then the edit over the marked image, are the rule's list of page writes; the chain that is replaced stands to the end.
use Rattle.refusals.specs.declared.Fault.TheVariants as fault
use mathlib.Core.Path.{◌≡◌, refl, ap, sym, ◌∙◌, subst}
use mathlib.Core.Bool.{true, false}
use mathlib.Core.List.{List, ◌++◌}
use Prim.Native.Nat.{ℕ, ◌+◌, ◌≤◌}
use native.Mathlib.Omega.{arith}
use lib.ListN.{length}
use Rattle.geometry.specs.declared.Geometry.{Geometry}
use Rattle.geometry.specs.Geometry.{data_capacity, Fit}
use Rattle.packet.specs.Packet.{View, view_of, Write}
use Rattle.packet.specs.declared.Budget.{Budget}
use Rattle.packet.specs.Budgets.{Progress, Open, Stopped, write_all}
use Rattle.packet.specs.BudgetLaws.{all_joined, stopped_all}
use Rattle.rules.specs.Result.{Res}
use Rattle.rules.proofs.ResultLaws.{then_ok, then_err}
use Rattle.rules.specs.PageSets.{count, free_pages}
use Rattle.rules.proofs.PageSetLaws.{count_append, range_le}
use Rattle.rules.specs.Chain.{one_view, views_of, Link, pages, linked, pages_for}
use Rattle.rules.specs.Tree.{own_pages, all_pages, map_pages, Image, used}
use Rattle.rules.specs.Bitmap.{bitmap_of}
use Rattle.rules.proofs.BitmapLaws.{pages_remap}
use Rattle.rules.specs.WellFormed.{HasPackets}
use Rattle.rules.specs.Paths.{file_key, Found, nothing, a_file, a_directory, find, change_at}
use Rattle.rules.specs.Writes.{map_writes}
use Rattle.rules.specs.Put.{kept_pages}
use Rattle.rules.specs.Careful.{both_marked, careful_writes}
use Rattle.rules.specs.Owners.{OwnerRecord}
use Rattle.owners.specs.Owned.{Marks}
use Rattle.owners.specs.BitLaws.{marks_below}
use Rattle.editing_theorems.specs.BudgetedWrites.{all_open, all_stopped}
use Rattle.editing_theorems.specs.HeldPackets.{pages_linked, packets_same}
use Rattle.editing_theorems.specs.PathContents.{FoundIn, find_stands}
use Rattle.editing_theorems.specs.EditedImage as es
use Rattle.editing_theorems.specs.EditedImage.{used_edited, here_stands, place_shaped}
use Rattle.editing_theorems.specs.PutLaws as laws
use Rattle.editing_theorems.specs.PutLaws.{Asked}
use Rattle.careful_theorems.proofs.Stops.{CarefulEdit, A, image_a, marks_fit, s_a, directory_a, edit_a, four_parts}
use Rattle.careful_theorems.proofs.MarkedPages.{marks_new}
use Rattle.careful_theorems.proofs.CarefulPuts as careful
use Rattle.chain.specs.KnownChain.{ChainAt}
use Rattle.marks.specs.MapPages.{HasRoot, WritesMap}
use Rattle.marks.specs.RootLaws.{root_held}
use Rattle.edit.specs.declared.Pages.{Pages}
use Rattle.edit.specs.declared.NewFile.{NewFile}
use Rattle.std.specs.Prelude.{Ok, Err, Option, Some}
use Rattle.edit.specs.Pages.{Takes}
use Rattle.edit.specs.OldChains.{links_of, OldChain}
use Rattle.edit.specs.Plans.{Putting, Outcomes}
use Rattle.edit.specs.StepLaws.{step₃}
use Rattle.edit.specs.FilePlans.{full, T', room, edit_is, SameEdit, plan_of, plan_image, plan_left, plan_steps, left_then}
use Rattle.careful.specs.MarkedPuts.{MarkedPut, PutsMarked, CarefulPutting, careful_put_writes}

-- a file that was found has its chain
found_links : (g : Geometry) (v : View) (f : Found) → FoundIn g (one_view v) f → HasPackets v (linked (links_of f))
found_links g v nothing h = tt
found_links g v (a_file l ls) h = h.1
found_links g v (a_directory l d) h = tt

-- a chain in another view that has its packets
chain_moved : {g : Geometry} {v w : View} {start : ℕ} {ls : List Link} → ChainAt g v start ls → HasPackets w (linked ls) → ChainAt g w start ls
chain_moved c h = record { some = c.some; begins = c.begins; packets = h; within = c.within; few = c.few; onward = c.onward }

module _ {g : Geometry} {image : List ℕ} {table : List OwnerRecord} {bytes : List ℕ} (sized : length table ≡ g.pages) {f : NewFile} (Q : CarefulPutting g image table bytes f) where
  abbrev P : Putting (λ _ i. used i) g image table bytes f
  P = Q.putting

  abbrev a : Asked g image bytes Q.putting.stands
  a = Q.putting.asked

  abbrev tree : Image
  tree = Q.putting.asked.tree

  abbrev pub writes : Res (List Write)
  writes = careful_put_writes g bytes Q.putting.asked.tree (record { to = Q.putting.asked.to; place = Q.putting.asked.place })

  pub careful_full : (n : ℕ) → n ≡ pages_for (data_capacity g) (length bytes) → (r : Option Pages) → Takes table f.extra n r → ((p : Pages) → r ≡ Some p → ⊥) → (budget : Budget)
      → Outcomes g writes image budget image (Err (record { 0 = fault.NoRoom; 1 = 0 }))
  careful_full n e r T m budget = (simp (full sized P n e r T m, then_err), refl)

  -- the bitmap stands where the root places it
  pub root_there : HasRoot g (view_of g image)
  root_there = record { bits = bitmap_of g (used tree) tree.map; tree = tree.tree; map = tree.map; held = root_held g image (bitmap_of g (used tree) tree.map) tree a.well.holds }

  module _ {n : ℕ} (n_is : n ≡ pages_for (data_capacity g) (length bytes)) {r : Option Pages} (T : Takes table f.extra n r) {p : Pages} (m : r ≡ Some p) where
    abbrev C : CarefulEdit g image
    C = careful.careful_edit g image bytes P.stands a (room sized P n_is T m)

    -- the pages marked: those in use and those taken
    abbrev new : List ℕ
    new = free_pages (used tree) p.below

    abbrev all : List ℕ
    all = used tree ++ new

    all_marked : Marks table p.below all
    all_marked = marks_below table (used tree) all p.below P.represents (omega (arith, (T' sized P n_is T m).inside, sized)) (λ x. count_append x (used tree) new)

    kept_less : (x : ℕ) → count x (kept_pages a.to tree) ≤ count x (used tree)
    kept_less x = omega (arith, laws.kept_old g image bytes P.stands a x)

    -- ---- the marks
    bits_are : both_marked g tree (laws.result g image bytes P.stands a (free_pages (used tree) g.pages) P.clear (room sized P n_is T m)) ≡ bitmap_of g all tree.map
    bits_are = marks_new g tree (laws.result g image bytes P.stands a (free_pages (used tree) g.pages) P.clear (room sized P n_is T m)) (kept_pages a.to tree) new
        (λ x. ap (count x) (used_edited g a.to.directories (laws.the_edit g image bytes P.stands a (free_pages (used tree) g.pages)) tree) ∙ left_then sized P n_is T m x) kept_less

    module _ (budget : Budget) (o : Open budget) (mid : List ℕ) (marked : Budget) (w : WritesMap g table p.below image budget mid marked) where
      h : ◌≡◌ {A = Progress} (record { image = mid; budget = marked }) (write_all g (A C) (record { image = image; budget = budget }))
      unfolding WritesMap
      h = w (bitmap_of g (used tree) tree.map) tree.tree tree.map (root_held g image (bitmap_of g (used tree) tree.map) tree a.well.holds) all all_marked
          ∙ ap (λ (b : List ℕ). write_all g (map_writes g b tree.tree tree.map) (record { image = image; budget = budget })) (sym bits_are)

      -- what is left of the rule's list once the marks are written
      abbrev rest : List Write
      rest = linked C.edit.chain ++ (es.ws₂ (edit_a C) ++ es.ws₃ (edit_a C))

      list_from : (now : Progress) → now ≡ write_all g rest (record { image = mid; budget = marked })
          → now ≡ write_all g (careful_writes g a.to.directories (laws.the_edit g image bytes P.stands a (free_pages (used tree) g.pages)) tree) (record { image = image; budget = budget })
      list_from now e = e ∙ ap (write_all g rest) h ∙ sym (all_joined g (A C) rest (record { image = image; budget = budget }))
          ∙ sym (ap (λ (ws : List Write). write_all g ws (record { image = image; budget = budget })) (four_parts C))

      done : (now : Progress) → now ≡ write_all g rest (record { image = mid; budget = marked }) → Outcomes g writes image budget now.image (Ok now.budget)
      done now e =
          let x = laws.the_edit g image bytes P.stands a (free_pages (used tree) g.pages) in
          (careful_writes g a.to.directories x tree, simp (edit_is sized P n_is T m, then_ok), list_from now e)

      -- a write was held back
      pub marking_stop : marked.stopped ≡ true → Outcomes g writes image budget mid (Ok marked)
      marking_stop z =
          let q : (write_all g (A C) (record { image = image; budget = budget })).budget.stopped ≡ true = ap (λ (x : Progress). x.budget.stopped) (sym h) ∙ z in
          let s = all_stopped g (A C) (record { image = image; budget = budget }) o q in
          done (record { image = mid; budget = marked }) (sym (stopped_all g rest (record { image = mid; budget = marked }) (subst (λ (x : Progress). Stopped x.budget) (sym h) s)))

      module _ (z : marked.stopped ≡ false) where
        image_is : mid ≡ image_a C
        image_is = ap (λ (x : Progress). x.image) h
            ∙ all_open g (A C) (marks_fit C) (record { image = image; budget = budget }) a.well.fits a.image_bytes o (ap (λ (x : Progress). x.budget.stopped) (sym h) ∙ z)

        -- ---- the plan over the marked image
        abbrev same : SameEdit sized P n_is T m (edit_a C)
        same = record { items_are = refl; after_is = refl; chain_same = refl }

        abbrev links : List Link
        links = links_of (find (file_key a.to) a.place.items)

        -- a page of the replaced chain is written by none of the steps
        not_written : (x : ℕ) → 1 ≤ count x (pages links) → (count x (own_pages C.edit.after) ≡ 0) × (count x (pages C.edit.chain) ≡ 0)
        not_written x j =
            let k = laws.kept_old g image bytes P.stands a x in
            let e = ap (count x) Q.pages_are in
            let u : count x (used tree) ≤ 1 = omega (arith, a.well.holds.apart x, range_le x g.pages) in
            let some : 1 ≤ count x (used tree) = omega (arith, k, e) in
            (omega (arith, C.joins_free x some, laws.kept_is g image bytes P.stands a x, k, e, u), C.chain_free x some)

        old_packets : HasPackets (view_of g (es.image₂ (edit_a C))) (linked links)
        old_packets =
            let D = directory_a C in
            let found = find_stands g (views_of g (image_a C)) (es.levels D) a.place.here (file_key a.to) a.place.items (place_shaped D).entries (here_stands D).below in
            packets_same (view_of g (image_a C)) (view_of g (es.image₂ (edit_a C))) (linked links)
            (λ x j. let k = not_written x (omega (arith, ap (count x) (pages_linked links))) in es.stays (edit_a C) x k.0 k.1) (found_links g (view_of g (image_a C)) (find (file_key a.to) a.place.items) found)

        then_old : OldChain g (view_of g (es.image₂ (edit_a C))) f.replaces links
        then_old = record { chain = λ i. chain_moved (Q.old.chain i) old_packets; none = Q.old.none }

        -- the bitmap keeps its pages
        map_pages_lem : (x : ℕ) → count x (es.left (edit_a C)) ≡ count x (all_pages (change_at a.to.directories (λ _. C.edit.after) tree.tree) ++ map_pages tree.map)
        map_pages_lem x =
            let then = laws.result g image bytes P.stands a (free_pages (used tree) g.pages) P.clear (room sized P n_is T m) in
            ap (λ (ps : List ℕ). count x (all_pages (change_at a.to.directories (λ _. C.edit.after) tree.tree) ++ ps)) (pages_remap (both_marked g tree then) tree.map)

        rest_is : (x : ℕ) → count x (es.left (edit_a C)) + count x (pages links) ≡ count x all
        rest_is x = omega (
          arith,
          map_pages_lem x,
          left_then sized P n_is T m x,
          laws.kept_old g image bytes P.stands a x,
          ap (count x) Q.pages_are,
          count_append x (used tree) new,
        )

        marked_image : MarkedPut g (image_a C) table bytes f p n
        marked_image = record {
          plan = plan_of sized P n_is T m (edit_a C) same;
          all = all;
          marks = all_marked;
          inside = omega (arith, (T' sized P n_is T m).inside, sized);
          links = links;
          old = subst (λ (i : List ℕ). OldChain g (view_of g i) f.replaces links) (sym (plan_image sized P n_is T m (edit_a C) same)) then_old;
          rest = λ x. ap (λ (us : List ℕ). count x us + count x (pages links)) (plan_left sized P n_is T m (edit_a C) same) ∙ rest_is x;
        }

        pub mid_fit : Fit g mid
        mid_fit = subst (Fit g) (sym image_is) (s_a C).fits

        pub to_put : MarkedPut g mid table bytes f p n
        to_put = subst (λ (i : List ℕ). MarkedPut g i table bytes f p n) (sym image_is) marked_image

        -- ---- the whole
        pub careful_done : (after : List ℕ) (left : Budget) → PutsMarked g mid table bytes f p n marked after left → Outcomes g writes image budget after (Ok left)
        unfolding marked_image
        careful_done after left k =
            let now : Progress = record { image = after; budget = left } in
            let e : now ≡ step₃ marked_image.plan.edit marked = subst (λ (i : List ℕ). PutsMarked g i table bytes f p n marked after left) image_is k marked_image in
            let s : Progress = record { image = image_a C; budget = marked } in
            done now (e ∙ plan_steps sized P n_is T m (edit_a C) same marked
            ∙ sym (all_joined g (linked C.edit.chain) (es.ws₂ (edit_a C) ++ es.ws₃ (edit_a C)) s ∙ all_joined g (es.ws₂ (edit_a C)) (es.ws₃ (edit_a C)) (write_all g (linked C.edit.chain) s))
            ∙ ap (λ (i : List ℕ). write_all g rest (record { image = i; budget = marked })) (sym image_is))
