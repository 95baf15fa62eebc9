-- The numbers of the answers are small: totals and lines of an accepted image, the bytes of a file, the page of a refusal.
use Rattle.std.specs.Prelude.{Option, Some, None}
use mathlib.Core.Path.{◌≡◌, refl, ap, sym, subst}
use mathlib.Core.Bool.{Bool}
use mathlib.Core.List.{List, [], ◌∷◌, ◌++◌}
use Prim.Native.Nat.{ℕ, zero, suc, ◌+◌, ◌*◌, ◌≤◌, ◌<◌}
use native.Mathlib.Omega.{arith}
use lib.ListN.{length, length-append}
use Rattle.geometry.specs.declared.Geometry.{Geometry}
use Rattle.geometry.specs.Geometry.{geometry_of, Fit}
use Rattle.geometry.specs.ShapeLaws.{fit_of}
use Rattle.packet.specs.Packet.{View, view_of}
use Rattle.rules.specs.declared.Totals.{Totals}
use Rattle.rules.specs.declared.Line.{Line}
use Rattle.rules.specs.Result.{Res, ok, err, and_then}
use Rattle.rules.proofs.ResultLaws.{clash, ok_inj, on_then, on_refuse}
use Rattle.rules.proofs.PageSetLaws.{within_length}
use Rattle.rules.specs.Chain.{Views, views_of, Link, link, first, content, linked}
use Rattle.rules.specs.WellFormed.{HasPackets, Under}
use Rattle.rules.specs.Tree.{Items, end, page, file, dir, start_of, Image, used}
use Rattle.rules.specs.Check.{check}
use Rattle.rules.proofs.Soundness.{check_sound}
use Rattle.rules.specs.Owners.{totals}
use Rattle.rules.specs.Listing.{lines_of, line_at}
use Rattle.rules.specs.Paths.{path_of, file_key, Found, nothing, a_file, a_directory, find, root_place}
use Rattle.rules.proofs.TargetLaws.{reached}
use Rattle.rules.specs.Calls.{bytes_of, file_at, read_bytes, length_of, asked, Effect, plainly, effective, check_call, list_call, read_call, format_call, put_call, delete_call}
use Rattle.rules.proofs.RefusalLaws.{Refuses}
use Rattle.rules.proofs.FuelLaws.{check_faults}
use Rattle.rules.proofs.CallLaws.{asked_fits, asked_invalid, read_faults}
use Rattle.rules.specs.Format.{format}
use Rattle.rules.specs.Put.{put}
use Rattle.rules.specs.Delete.{delete}
use Rattle.rules.specs.Directories.{make_directory, make_call, remove_directory, remove_call}
use Rattle.chain.specs.KnownChain.{ChainAt}
use Rattle.chain.proofs.Following.{first_stands, small_view}
use Rattle.listing.specs.KnownTree.{Below}
use Rattle.listing.proofs.Accepting.{accepted_stands}
use Rattle.lookup.proofs.Resolving.{FoundAt, find_stands, place_below}
use Rattle.answers.proofs.CallFaults.{some_pages, CallFaults, format_told, delete_told, make_told, remove_told, put_told}
use Rattle.answers.proofs.EffectLaws.{small_effective}
use Rattle.answers.specs.Small.{Small, TotalsSmall, LineSmall, LengthSmall, DoneSmall}

-- an answer is small if it is for every accepted image
module _ {A : Type 0} (P N : ℕ) (image t : List ℕ) (few : A → Type 0) (question : Image → Res A)
    (h : (g : Geometry) → Fit g image → (i : Image) → check g (views_of g image) ≡ ok i → Small few (question i)) where
  pub small_asked : Small few (asked P N image t question).0
  small_asked = go (geometry_of P N (length image) (length t)) refl
    where
      one : (g : Geometry) → Fit g image → (r : Res Image) → check g (views_of g image) ≡ r → Small few (and_then r question)
      one g f (ok i) e = unfold and_then in h g f i e
      one g f (err n p) e = unfold and_then in omega (arith, (check_faults g (views_of g image) (some_pages f)).page n p e, f.valid.few)

      go : (s : Option Geometry) → geometry_of P N (length image) (length t) ≡ s → Small few (asked P N image t question).0
      go None e = subst (λ (x : Res A × List ℕ). Small few x.0) (sym (asked_invalid P N image t e question)) (omega arith)
      go (Some g) e = subst (λ (x : Res A × List ℕ). Small few x.0) (sym (asked_fits P N image t g e question)) (one g (fit_of P N image t g e) (check g (views_of g image)) refl)

-- ---- of an accepted image
module _ (g : Geometry) (image : List ℕ) (fit : Fit g image) where
  abbrev v : View
  v = view_of g image

  abbrev vs : Views
  vs = views_of g image

  totals_small : (i : Image) → check g vs ≡ ok i → TotalsSmall (totals i)
  totals_small i e =
      let c = check_sound g vs i e in
      let l = within_length g.pages (used i) c.clear in
      (omega (arith, l, fit.valid.few), omega (arith, l, fit.valid.few, c.room), omega (arith, l, fit.valid.few, c.room))

  content_few : (ls : List Link) → HasPackets v (linked ls) → length (content ls) ≤ 255 * length ls
  content_few [] s = omega arith
  content_few (link p b ∷ ls) s = omega (arith, length-append b (content ls), small_view g image fit p b (first ls) s.0, content_few ls s.1)

  chain_small : (start : ℕ) (ls : List Link) → ChainAt g v start ls → (start < 65536) × (length ls < 65536) × (length (content ls) < 16777216)
  chain_small start ls d = (
    omega (arith, (first_stands g v start ls d).0, fit.valid.few),
    omega (arith, d.few, fit.valid.few),
    omega (arith, content_few ls d.packets, d.few, fit.valid.few),
  )

  -- every line
  abbrev LinesSmall : List Line → Type 0
  LinesSmall [] = Unit {0}
  LinesSmall (x ∷ xs) = LineSmall x × LinesSmall xs

  both_small : (xs ys : List Line) → LinesSmall xs → LinesSmall ys → LinesSmall (xs ++ ys)
  both_small [] ys h k = k
  both_small (x ∷ xs) ys h k = (h.0, both_small xs ys h.1 k)

  lines_small : (t : Items) (levels level : ℕ) → level + levels ≤ 8 → Below g vs levels t → LinesSmall (lines_of level t)
  lines_small end levels level h b = tt
  lines_small (page p t) levels level h b = lines_small t levels level h b
  lines_small (file l ls t) levels level h b = let k = chain_small (first ls) ls b.0 in ((omega arith, k.0, k.1, k.2), lines_small t levels level h b.2)
  lines_small (dir l d t) levels level h b =
      let k = chain_small (start_of d) b.0.links b.0.chain in
      ((omega arith, k.0, omega arith, omega arith), both_small (lines_of (suc level) d) (lines_of level t) (under levels h b.2 (λ n h u. lines_small d n (suc level) h u)) (lines_small t levels level h b.3))
    where
      under : (n : ℕ) → level + n ≤ 8 → Under n (λ less. Below g vs less d) → ((n : ℕ) → suc level + n ≤ 8 → Below g vs n d → LinesSmall (lines_of (suc level) d)) → LinesSmall (lines_of (suc level) d)
      under zero h u k = absurd u
      under (suc n) h u k = k n (omega arith) u

  line_small : (k : ℕ) (xs : List Line) → LinesSmall xs → Small LineSmall (line_at k xs)
  unfolding line_at
  line_small k [] h = omega arith
  line_small zero (x ∷ xs) h = h.0
  line_small (suc k) (x ∷ xs) h = line_small k xs h.1

  -- the file at a path
  file_small : (path : List ℕ) (i : Image) → check g vs ≡ ok i → (bytes : List ℕ) → file_at path i ≡ ok bytes → length bytes < 16777216
  unfolding file_at
  file_small path i a bytes e = on_then _ _ _ e λ x w e.
      let r = reached (path_of path) i.tree x w in
      let b = place_below g vs x.to.directories (root_place i.tree) 8 (accepted_stands g vs i a).below x.place r.there in
      let k = file_key x.to in
      go b.0 k (find k x.place.items) (find_stands g vs b.0 k x.place.items b.1) e
    where
      go : (n k : ℕ) (f : Found) → FoundAt g vs n k f → bytes_of f ≡ ok bytes → length bytes < 16777216
      go n k nothing s e = unfold bytes_of in clash e
      go n k (a_file l ls) s e = unfold bytes_of in subst (λ (x : List ℕ). length x < 16777216) (ok_inj e) (chain_small (first ls) ls s.1).2
      go n k (a_directory l d) s e = unfold bytes_of in clash e

-- ---- the answers of the calls
small_of : {A : Type 0} (few : A → Type 0) (r : Res A) (low high most : ℕ) → most ≤ 131072 → Refuses low high most r → ((a : A) → r ≡ ok a → few a) → Small few r
small_of few (ok a) low high most m h k = k a refl
small_of few (err n p) low high most m h k = omega (arith, h.page n p refl)

length_small : (r : Res (List ℕ)) → Small (λ bytes. length bytes < 16777216) r → Small LengthSmall (length_of r)
length_small (ok bytes) h = h
length_small (err n p) h = h

module _ (P N : ℕ) (image t : List ℕ) where
  pub check_small : (q : Res Totals) (x : List ℕ) → (q, x) ≡ check_call P N image t → Small TotalsSmall q
  unfolding check_call
  check_small q x e = subst (Small TotalsSmall) (sym (ap (λ (y : Res Totals × List ℕ). y.0) e)) (small_asked P N image t TotalsSmall (λ i. ok (totals i)) (λ g f i a. totals_small g image f i a))

  pub list_small : (k : ℕ) (q : Res Line) (x : List ℕ) → (q, x) ≡ list_call P N image t k → Small LineSmall q
  unfolding list_call
  list_small k q x e = subst (Small LineSmall) (sym (ap (λ (y : Res Line × List ℕ). y.0) e))
      (small_asked P N image t LineSmall (λ i. line_at k (lines_of 0 i.tree))
      (λ g f i a. line_small g image f k (lines_of 0 i.tree) (lines_small g image f i.tree 8 0 (omega arith) (accepted_stands g (views_of g image) i a).below)))

  pub read_small : (path out after : List ℕ) (q : Res ℕ) (x : List ℕ) → (q, after, x) ≡ read_call P N image t path out → Small LengthSmall q
  unfolding read_call
  read_small path out after q x e = subst (Small LengthSmall) (sym (ap (λ (y : Res ℕ × List ℕ × List ℕ). y.0) e))
      (length_small (asked P N image t (read_bytes path out)).0
      (small_asked P N image t (λ bytes. length bytes < 16777216) (read_bytes path out) (λ g f i a. small_of _ (read_bytes path out i) 14 18 1 (omega arith) (read_faults path out i) (λ bytes z. read_file g f i a bytes z))))
    where
      read_file : (g : Geometry) → Fit g image → (i : Image) → check g (views_of g image) ≡ ok i → (bytes : List ℕ) → read_bytes path out i ≡ ok bytes → length bytes < 16777216
      read_file g f i a bytes z = unfold read_bytes in on_then _ _ _ z λ b w z. on_refuse _ _ _ _ _ z λ _ z. subst (λ (y : List ℕ). length y < 16777216) (ok_inj z) (file_small g image f path i a b w)

-- ---- an edit
module _ (P N : ℕ) (image t : List ℕ) where
  pub small_done : (call : Geometry → Res (Effect (Unit {0}))) → CallFaults image call → Small DoneSmall (effective P N image t call).0
  small_done call h = small_effective P N image t DoneSmall call h (λ g f x e. tt)

  pub format_small : (local : Bool) (q : Res (Unit {0})) (after x : List ℕ) → (q, after, x) ≡ format_call P N image t local → Small DoneSmall q
  unfolding format_call
  format_small local q after x e = subst (Small DoneSmall) (sym (ap (λ (y : Res (Unit {0}) × List ℕ × List ℕ). y.0) e)) (small_done (λ g. plainly (format g local image)) (format_told image local))

  pub delete_small : (path : List ℕ) (q : Res (Unit {0})) (after x : List ℕ) → (q, after, x) ≡ delete_call P N image t path → Small DoneSmall q
  unfolding delete_call
  delete_small path q after x e = subst (Small DoneSmall) (sym (ap (λ (y : Res (Unit {0}) × List ℕ × List ℕ). y.0) e)) (small_done (λ g. plainly (delete g path image)) (delete_told image path))

  pub make_small : (path : List ℕ) (q : Res (Unit {0})) (after x : List ℕ) → (q, after, x) ≡ make_call P N image t path → Small DoneSmall q
  unfolding make_call
  make_small path q after x e = subst (Small DoneSmall) (sym (ap (λ (y : Res (Unit {0}) × List ℕ × List ℕ). y.0) e)) (small_done (λ g. plainly (make_directory g path image)) (make_told image path))

  pub remove_small : (path : List ℕ) (q : Res (Unit {0})) (after x : List ℕ) → (q, after, x) ≡ remove_call P N image t path → Small DoneSmall q
  unfolding remove_call
  remove_small path q after x e = subst (Small DoneSmall) (sym (ap (λ (y : Res (Unit {0}) × List ℕ × List ℕ). y.0) e)) (small_done (λ g. plainly (remove_directory g path image)) (remove_told image path))

  pub put_small : (path bytes : List ℕ) (q : Res (Unit {0})) (after x : List ℕ) → (q, after, x) ≡ put_call P N image t path bytes → Small DoneSmall q
  unfolding put_call
  put_small path bytes q after x e = subst (Small DoneSmall) (sym (ap (λ (y : Res (Unit {0}) × List ℕ × List ℕ). y.0) e)) (small_done (λ g. plainly (put g path bytes image)) (put_told image path bytes))
