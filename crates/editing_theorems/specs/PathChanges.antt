-- After a change at a place: what stands at every path.
use Rattle.std.specs.Prelude.{◌≡◌, refl, Bool, true, false, List, [], ◌∷◌, ◌++◌, ℕ, zero, suc, ◌≤◌, eqb}
use Rattle.std.proofs.Common.{ap, ap₂, sym, ◌∙◌, subst, arith, eq-eqb, ne_eqb}
use Rattle.std.proofs.lemmas.Bool.{false≢true}
use Rattle.geometry.specs.declared.Geometry.{Geometry}
use Rattle.geometry.specs.Choose.{choose}
use Rattle.geometry.specs.ChooseLaws.{choose_true, choose_false}
use Rattle.rules.specs.PageSets.{count, Once}
use Rattle.rules.proofs.PageSetLaws.{hit_same, same, other, hits}
use Rattle.rules.specs.Tree.{Label, key_of, Items, start_of, entry, stamp_tokens, token_bytes, own_pages, keys, Image}
use Rattle.rules.specs.Paths.{Found, a_file, a_directory, find}
use Rattle.rules.specs.Candidate.{look_up, root_label, at_path, found_entry}
use Rattle.rules.specs.Result.{err}
use Rattle.rules.specs.Calls.{bytes_of}
use Rattle.packet.specs.Packet.{same_list}
use Rattle.rules.specs.Demand2.{shown}
use Rattle.editing_theorems.specs.DirectoryWrites.{same_list_lem}
use Rattle.editing_theorems.specs.Contexts.{Context, gap, after_page, after_file, after_directory, filled, gap_label, filled_all, context_path, start_filled}
use Rattle.editing_theorems.specs.ContextLaws.{keys_filled, own_filled, Shaped, shaped_in}
use Rattle.editing_theorems.specs.PathLaws.{path_append, NothingBelow}

-- ---- the subdirectory in a gap is found under its key
gap_named : (c : Context) (d : Items) → 1 ≤ count (key_of (gap_label c)) (keys (filled c d))
gap_named (gap l t) d = omega (arith, hit_same (key_of l))
gap_named (after_page p c) d = gap_named c d
gap_named (after_file l ls c) d = omega (arith, gap_named c d)
gap_named (after_directory l b c) d = omega (arith, gap_named c d)

pub find_gap : (c : Context) (d : Items) → Once (keys (filled c d)) → find (key_of (gap_label c)) (filled c d) ≡ a_directory (gap_label c) d
find_gap (gap l t) d o = simp (eq-eqb (key_of l) (key_of l) refl, choose_true)
find_gap (after_page p c) d o = find_gap c d o
find_gap (after_file l ls c) d o = elim (hits (key_of (gap_label c)) (key_of l)) [
  | same e i ↦ absurd (omega (arith, o (key_of (gap_label c)), gap_named c d))
  | other e i ↦ simp (ne_eqb (key_of (gap_label c)) (key_of l) e, choose_false) (find_gap c d (λ x. omega (arith, o x)))
]
find_gap (after_directory l b c) d o = elim (hits (key_of (gap_label c)) (key_of l)) [
  | same e i ↦ absurd (omega (arith, o (key_of (gap_label c)), gap_named c d))
  | other e i ↦ simp (ne_eqb (key_of (gap_label c)) (key_of l) e, choose_false) (find_gap c d (λ x. omega (arith, o x)))
]

-- and what is found under another key does not hang on it
find_beside : (c : Context) (d e : Items) (k : ℕ) → (k ≡ key_of (gap_label c) → ⊥) → find k (filled c e) ≡ find k (filled c d)
find_beside (gap l t) d e k n = simp (ne_eqb k (key_of l) n, choose_false)
find_beside (after_page p c) d e k n = find_beside c d e k n
find_beside (after_file l ls c) d e k n = ap (choose (eqb k (key_of l)) (a_file l ls)) (find_beside c d e k n)
find_beside (after_directory l b c) d e k n = ap (choose (eqb k (key_of l)) (a_directory l b)) (find_beside c d e k n)

-- the label of the directory at the end of the way down
abbrev pub place_label : Label → List Context → Label
place_label l [] = l
place_label l (c ∷ cs) = place_label (gap_label c) cs

-- the directory at a place stands at the place's path
pub at_place : {n : ℕ} (levels : ℕ) (cs : List Context) (l : Label) (d : Items) → Shaped n levels (filled_all cs d)
    → look_up (context_path cs) (a_directory l (filled_all cs d)) ≡ a_directory (place_label l cs) d
at_place levels [] l d s = refl
at_place zero (c ∷ cs) l d s = absurd (shaped_in zero c (filled_all cs d) s)
at_place (suc levels) (c ∷ cs) l d s =
    ap (look_up (context_path cs)) (find_gap c (filled_all cs d) s.names) ∙ at_place levels cs (gap_label c) d (shaped_in (suc levels) c (filled_all cs d) s)

-- ---- at every other path all is the same, as far as f sees it: f sees of a directory not what is below its subdirectories
module _ {A : Type 0} (f : Found → A) (blind : (l : Label) (c : Context) (d e : Items) → f (a_directory l (filled c e)) ≡ f (a_directory l (filled c d)))
    (k : ℕ) (d e : Items) (looks : (j : ℕ) → (j ≡ k → ⊥) → find j e ≡ find j d)
    (none_d : NothingBelow (find k d)) (none_e : NothingBelow (find k e)) where
  pub same_elsewhere : {w : ℕ} (cs : List Context) (levels : ℕ) (l : Label) → Shaped w levels (filled_all cs d) → (ks : List ℕ)
      → (ks ≡ context_path cs → ⊥) → (ks ≡ context_path cs ++ (k ∷ []) → ⊥) → f (look_up ks (a_directory l (filled_all cs e))) ≡ f (look_up ks (a_directory l (filled_all cs d)))
  same_elsewhere [] levels l s [] n m = absurd (n refl)
  same_elsewhere [] levels l s (j ∷ []) n m = ap f (looks j (λ q. m (ap (λ (x : ℕ). x ∷ []) q)))
  same_elsewhere [] levels l s (j ∷ i ∷ ks) n m = elim (hits j k)
      [ same q y ↦ rw q (ap f (none_e i ks ∙ sym (none_d i ks))) | other q y ↦ ap (λ (r : Found). f (look_up (i ∷ ks) r)) (looks j q) ]
  same_elsewhere (c ∷ cs) zero l s ks n m = absurd (shaped_in zero c (filled_all cs d) s)
  same_elsewhere (c ∷ cs) (suc levels) l s [] n m = blind l c (filled_all cs d) (filled_all cs e)
  same_elsewhere (c ∷ cs) (suc levels) l s (j ∷ ks) n m =
      let D = filled_all cs d in
      let E = filled_all cs e in
      elim (hits j (key_of (gap_label c))) [
        | other q y ↦ ap (λ (r : Found). f (look_up ks r)) (find_beside c D E j q)
        | same q y ↦
            let o : Once (keys (filled c E)) = rw (keys_filled c D E) s.names in
            let i = same_elsewhere cs levels (gap_label c) (shaped_in (suc levels) c D s) ks (λ r. n (ap₂ (λ (x : ℕ) (xs : List ℕ). x ∷ xs) q r)) (λ r. m (ap₂ (λ (x : ℕ) (xs : List ℕ). x ∷ xs) q r)) in
            rw q (ap (λ (r : Found). f (look_up ks r)) (find_gap c E o) ∙ i ∙ ap (λ (r : Found). f (look_up ks r)) (sym (find_gap c D s.names)))
      ]

-- two paths are one or not
list_refl : (ks : List ℕ) → same_list ks ks ≡ true
list_refl [] = refl
list_refl (k ∷ ks) = simp (eq-eqb k k refl, list_refl ks)

pub same_path : {C : Type 0} (ks js : List ℕ) → (ks ≡ js → C) → ((ks ≡ js → ⊥) → C) → C
same_path {C = C} ks js f n = go (same_list ks js) refl
  where
    go : (t : Bool) → same_list ks js ≡ t → C
    go true e = f (same_list_lem ks js e)
    go false e = n (λ q. false≢true (sym e ∙ subst (λ (z : List ℕ). same_list ks z ≡ true) q (list_refl ks)))

-- ---- what a path shows
-- the bytes of a subdirectory's entry, with its stamps
abbrev directory_bytes : Geometry → Label → ℕ → List ℕ
directory_bytes g l s = token_bytes g.width (stamp_tokens l.stamps (entry (record { name = l.name; extension = l.extension; start = s; pages = 0 }) ∷ []))

pub start_entry : (g : Geometry) (l : Label) (d e : Items) → start_of e ≡ start_of d → found_entry g (a_directory l e) ≡ found_entry g (a_directory l d)
start_entry g l d e h = ap (directory_bytes g l) h

pub shown_directory_lem : (g : Geometry) (l : Label) (d e : Items) → start_of e ≡ start_of d → own_pages e ≡ own_pages d → shown g (a_directory l e) ≡ shown g (a_directory l d)
unfolding bytes_of
shown_directory_lem g l d e h k =
    ap₂ (λ (s : ℕ) (ps : List ℕ). record { entry = directory_bytes g l s; pages = ps; bytes = []; answer = err 15 0 }) h k

pub shown_blind : (g : Geometry) (l : Label) (c : Context) (d e : Items) → shown g (a_directory l (filled c e)) ≡ shown g (a_directory l (filled c d))
shown_blind g l c d e =
    shown_directory_lem g l (filled c d) (filled c e) (start_filled c d e) (own_filled c d e)

-- ---- what an edit of the directory d to e, at the path `target`, does to paths: only what stands under the key k there changes, and nothing stands below that
pub record PathsChanged (g : Geometry) (target : List ℕ) (k : ℕ) (d e : Items) (i j : Image) : Type 0 where
  pub label : Label
  pub target_before : at_path target i ≡ a_directory label d
  pub target_after : at_path target j ≡ a_directory label e
  pub before : at_path (target ++ (k ∷ [])) i ≡ find k d
  pub after : at_path (target ++ (k ∷ [])) j ≡ find k e
  pub others : (ks : List ℕ) → (ks ≡ target → ⊥) → (ks ≡ target ++ (k ∷ []) → ⊥) → shown g (at_path ks j) ≡ shown g (at_path ks i)

pub paths_changed : (g : Geometry) (levels : ℕ) (cs : List Context) (d e : Items) (k : ℕ) → Shaped g.width levels (filled_all cs d) → Shaped g.width levels (filled_all cs e)
    → NothingBelow (find k d) → NothingBelow (find k e) → ((j : ℕ) → (j ≡ k → ⊥) → find j e ≡ find j d) → (i j : Image) → i.tree ≡ filled_all cs d → j.tree ≡ filled_all cs e → PathsChanged g (context_path cs) k d e i j
unfolding at_path
paths_changed g levels cs d e k s u none_d none_e looks i j p q =
    let a = at_place levels cs root_label d s in
    let b = at_place levels cs root_label e u in
    record {
      label = place_label root_label cs;
      target_before = rw p a;
      target_after = rw q b;
      before = rw p (path_append (context_path cs) (k ∷ []) (a_directory root_label (filled_all cs d)) ∙ ap (look_up (k ∷ [])) a);
      after = rw q (path_append (context_path cs) (k ∷ []) (a_directory root_label (filled_all cs e)) ∙ ap (look_up (k ∷ [])) b);
      others = λ ks n r. rw (p, q) (same_elsewhere (shown g) (shown_blind g) k d e looks none_d none_e cs levels root_label s ks n r);
    }
