-- A careful edit stopped after at most k writes: all that is promised of it.
use Rattle.std.specs.Prelude.{◌≡◌, refl, ℕ, ◌≤◌, ◌<◌, min, ltb, length, take}
use Rattle.std.proofs.Math.Path.{ap, sym, subst}
use Rattle.std.proofs.Common.{◌∙◌, arith, ltb-false}
use mathlib.Core.List.{List}
use Rattle.std.proofs.Math.Decide.{dec_lt}
use Rattle.std.proofs.Math.ListN.{drop}
use Rattle.geometry.specs.declared.Geometry.{Geometry}
use Rattle.geometry.specs.Page.{page_of}
use Rattle.packet.specs.Packet.{Write, after_writes, made}
use Rattle.rules.specs.declared.WriteCount.{WriteCount}
use Rattle.rules.specs.Result.{Res, err}
use Rattle.rules.proofs.ResultLaws.{ok_inj, clash}
use Rattle.rules.specs.PageSets.{count}
use Rattle.rules.specs.Chain.{views_of}
use Rattle.rules.specs.Tree.{Items, own_pages, map_pages, Image}
use Rattle.rules.specs.Check.{Scan}
use Rattle.rules.specs.WellFormed.{WellFormed}
use Rattle.rules.specs.Paths.{a_directory}
use Rattle.rules.specs.Writes.{edit_writes}
use Rattle.rules.specs.Candidate.{look_up, root_label, at_path}
use Rattle.rules.specs.Demand2.{reach}
use Rattle.rules.specs.Careful.{halted_at, careful_writes}
use Rattle.rules.specs.CarefulPromises.{HasTree, page_written, Unowned, StoppedAt}
use Rattle.reading_theorems.specs.CheckComplete.{scan_complete}
use Rattle.reading_theorems.specs.Directory.{own_links}
use Rattle.editing_theorems.specs.AfterWrites.{rest_of_page}
use Rattle.editing_theorems.specs.MadeWrites.{made_fits, made_rest}
use Rattle.careful_theorems.proofs.MapStops.{MarkedImage, fits_take}
use Rattle.careful_theorems.proofs.MarkLaws.{Left, accepted, marked_free, check_left}
use Rattle.careful_theorems.proofs.MendLaws.{mend_of}
use Rattle.careful_theorems.proofs.VisibleWrite.{Turned, none, some}
use Rattle.careful_theorems.proofs.Stops.{take_whole, CarefulEdit, the_edit, after, marks, t', control, old, new, turn, none_stands}
use Rattle.careful_theorems.proofs.Stops.{chain_stands, map_after, tree_after_lem, before_seen, seen_is, from_seen, list_is, all_well, front_fits, back_fits, seen_fits}
use Rattle.careful_theorems.proofs.MadeStops.{Stop}
use Rattle.careful_theorems.proofs.WholeStops.{stop}

err_number : {A : Type 0} {n p m q : ℕ} → ◌≡◌ {A = Res A} (err n p) (err m q) → (n ≡ m) × (p ≡ q)
err_number {A} {n} {p} {m} {q} e = (cc, cc)

pub same_paths : (i j : Image) → i.tree ≡ j.tree → (ks : List ℕ) → at_path ks i ≡ at_path ks j
unfolding at_path
same_paths i j e ks = ap (λ (t : Items). look_up ks (a_directory root_label t)) e

left_tree : (g : Geometry) (image : List ℕ) (t : Items) (ps : List ℕ) → Left g image t ps → HasTree g image t
left_tree g image t ps l =
    let i : Image = record { tree = t; map = l.map } in
    (record { image = i; raw = l.bits }, scan_complete g l.stands.fits.valid (views_of g image) l.bits i l.stands.holds, refl)

module _ (g : Geometry) (image : List ℕ) (before after : Image) (well : WellFormed g image before) (maps : map_pages after.map ≡ map_pages before.map) (target : List ℕ) (ws : List Write) (w : Write)
    (in_target : 1 ≤ count (page_written w) target) (st : Stop g image ws w before.tree after.tree (map_pages before.map)) (done : WellFormed g (after_writes g ws image) after) (k : ℕ) where
  abbrev ms : List Write
  ms = made g ws image

  abbrev now : List ℕ
  now = after_writes g (take k ms) image

  abbrev told : WriteCount
  told = record { made = min k (length ms); left = ltb k (length ms) }

  build : (t : Items) → Left g now t (map_pages before.map) → (k ≤ length st.front → t ≡ before.tree) → (length st.front < k → t ≡ after.tree)
      → StoppedAt g image before after target ws k told now
  unfolding halted_at
  build t l o n =
      let r = mend_of g now t (map_pages before.map) l in
      let i : Image = record { tree = t; map = l.map } in
      record {
        now_is = refl;
        front = st.front;
        visible = w;
        back = st.back;
        one = st.made_is;
        of_target = in_target;
        old_until = λ j h. left_tree g _ _ _ (st.before j h);
        new_from = λ j h. left_tree g _ _ _ (st.from j h);
        left = record { image = i; raw = l.bits };
        scanned = scan_complete g l.stands.fits.valid (views_of g now) l.bits i l.stands.holds;
        old = o;
        new = n;
        same_map = l.map_pages_same;
        faults = λ a p e. elim (check_left g now t (map_pages before.map) l) [
          | accepted q ↦ clash (sym e ∙ q)
          | marked_free d q x y z ↦
              let f = err_number (sym e ∙ q) in
              (f.0, subst (Unowned g (record { image = i; raw = l.bits })) (sym f.1) (record { page = x; marked = y; no_owner = z }))
        ];
        mended = r.mended;
        mend_is = r.is;
        mend_done = r.done;
        paths_old = λ h ks. same_paths r.done.tree before (r.tree_is ∙ o h) ks;
        paths_new = λ h ks. same_paths r.done.tree after (r.tree_is ∙ n h) ks;
        are_bytes = l.stands.are_bytes;
        sized = l.stands.fits.whole ∙ sym well.fits.whole;
        rest = rest_of_page g (take k ms) (fits_take g k ms (made_fits g ws st.fits image)) image well.fits;
        last = λ h.
            let e : now ≡ after_writes g ws image = ap (λ (us : List Write). after_writes g us image) (take_whole k ms (ltb-false k (length ms) h)) ∙ st.whole in
            record {
              well_formed = subst (λ (l : List ℕ). WellFormed g l after) (sym e) done;
              are_bytes = l.stands.are_bytes;
              sized = l.stands.fits.whole ∙ sym well.fits.whole;
              map_pages_same = maps;
              rest = λ p. ap (λ (l : List ℕ). drop (reach g p ms) (page_of g p l)) e ∙ made_rest g ws st.fits image well.fits st.bytes p;
            };
      }

  halts : StoppedAt g image before after target ws k (halted_at g k ws image).answer (halted_at g k ws image).image
  unfolding halted_at
  halts = elim (dec_lt (length st.front) k) [
    | yes q ↦ build after.tree (st.from k q) (λ h. absurd (omega arith)) (λ h. refl)
    | no q ↦ build before.tree (st.before k (omega arith)) (λ h. refl) (λ h. absurd (omega arith))
  ]

-- ---- of any edit that can be stopped
one_tree : (g : Geometry) (image a b : List ℕ) (i j : Image) → MarkedImage g image a i → MarkedImage g image b j → i.tree ≡ j.tree
one_tree g image a b i j s u =
    ap (λ (x : Scan). x.image.tree) (ok_inj (sym (scan_complete g s.fits.valid (views_of g image) a i s.holds) ∙ scan_complete g u.fits.valid (views_of g image) b j u.holds))

module _ {g : Geometry} {image : List ℕ} (c : CarefulEdit g image) where
  abbrev ws : List Write
  ws = edit_writes g (marks c) (the_edit c) c.tree (after c)

  record Visible : Type 0 where
    write : Write
    of_target : 1 ≤ count (page_written write) (own_pages c.place.items)
    stops : Stop g image ws write c.tree.tree (t' c) (map_pages c.tree.map)
    well_after : WellFormed g (after_writes g ws image) (after c)

  visible_write : Visible
  visible_write = go (turn c)
    where
      go : Turned (old c) (new c) → Visible
      go (none q r) = absurd (c.differs (one_tree g _ _ _ _ _ (chain_stands c) (none_stands c q)))
      go (some w fresh q m h) = record {
        write = w;
        of_target = subst (λ (us : List ℕ). 1 ≤ count (page_written w) us) (own_links g (control c) c.place.items) h;
        stops = stop g image c.well.fits c.bytes _ _ w c.tree.tree (t' c) (map_pages c.tree.map) (front_fits c w fresh q m) (seen_fits c w fresh q m) (back_fits c w fresh q m) _
            (seen_is c w fresh q m) (before_seen c w fresh q m) (from_seen c w fresh q m) c.differs ws (list_is c w fresh q m);
        well_after = all_well c w fresh q m;
      }

  pub edit_halts : (k : ℕ) → StoppedAt g image c.tree (after c) (own_pages c.place.items) (careful_writes g c.names (the_edit c) c.tree) k
      (halted_at g k (careful_writes g c.names (the_edit c) c.tree) image).answer (halted_at g k (careful_writes g c.names (the_edit c) c.tree) image).image
  unfolding careful_writes
  edit_halts k =
      let s = visible_write in
      halts g image c.tree (after c) c.well (map_after c) (own_pages c.place.items) ws s.write s.of_target
      (subst (λ (u : Items). Stop g image ws s.write c.tree.tree u (map_pages c.tree.map)) (sym (tree_after_lem c)) s.stops) s.well_after k
