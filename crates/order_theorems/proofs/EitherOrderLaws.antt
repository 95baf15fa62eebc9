-- Two edits of different file paths, done in either order, agree: from what each call states.
use Rattle.std.specs.Prelude.{Option, Some, None, ◌≡◌, refl, List, ℕ, ◌*◌, leb, length}
use Rattle.std.proofs.Math.Path.{ap}
use Rattle.std.proofs.Common.{sym, ◌∙◌, subst, arith}
use Rattle.geometry.specs.declared.Geometry.{Geometry}
use Rattle.geometry.specs.Geometry.{geometry_of}
use Rattle.geometry.specs.ShapeLaws.{geometry_is}
use Rattle.geometry.specs.Number.{Bytes}
use Rattle.rules.specs.Result.{Res, ok, and_then, and_after, refuse_unless}
use Rattle.rules.proofs.ResultLaws.{then_ok, then_cong}
use Rattle.rules.specs.Chain.{views_of}
use Rattle.rules.specs.Tree.{Image}
use Rattle.rules.specs.Check.{check}
use Rattle.rules.specs.Paths.{Path, path_of}
use Rattle.rules.specs.Calls.{shape, asked, file_at, read_bytes, length_of, filled, read_call}
use Rattle.rules.proofs.CallLaws.{asked_fits, asked_invalid}
use Rattle.rules.specs.Candidate.{Accepted, at_path, file_path, pages_in_use}
use Rattle.reading_theorems.specs.Accepted.{accepted}
use Rattle.editing_theorems.specs.ReadLaws.{read_at}
use Rattle.order_theorems.specs.EitherOrder.{FileEdit, a_put, a_delete, edit_path, EditBytes, BothPut, BothDelete, seen, Agree, InEitherOrder}
use Rattle.order_theorems.proofs.PathBytes.{one_path}
use Rattle.order_theorems.specs.PathEdits.{same_bytes, change_by, in_either_order}
use Rattle.order_theorems.proofs.PagesAfterPuts.{PutStep, sum_after, joined_same}
use Rattle.order_theorems.proofs.EditCalls.{sizes, Pages, edit_right, edit_done, known}

-- ---- two images in which every path leads to the same are read alike
module _ (P N : ℕ) (one other : List ℕ) (sized : length one ≡ length other) (i j : Image) (p : Accepted (sizes P N) one i) (q : Accepted (sizes P N) other j)
    (paths : (ks : List ℕ) → seen (at_path ks i) ≡ seen (at_path ks j)) where
  file_same : (path : List ℕ) → file_at path i ≡ file_at path j
  file_same path = read_at path i ∙ then_cong (path_of path) _ _ (λ x e. same_bytes (at_path (file_path x) i) (at_path (file_path x) j) (paths (file_path x))) ∙ sym (read_at path j)

  bytes_same : (path out : List ℕ) → read_bytes path out i ≡ read_bytes path out j
  unfolding read_bytes
  bytes_same path out = ap (λ (r : Res (List ℕ)). and_then r (λ bytes. and_after (refuse_unless (leb (length bytes) (length out)) 18 0) (ok bytes))) (file_same path)

  asked_same : (table path out : List ℕ) → (asked P N one table (read_bytes path out)).0 ≡ (asked P N other table (read_bytes path out)).0
  asked_same table path out = go (shape P N one table) refl (ap (λ (n : ℕ). geometry_of P N n (length table)) (sym sized))
    where
      told : Geometry → List ℕ → Res (List ℕ)
      told g image = and_then (check g (views_of g image)) (read_bytes path out)

      answer : Res (List ℕ) × List ℕ → Res (List ℕ)
      answer x = x.0

      go : (s : Option Geometry) → shape P N one table ≡ s → shape P N other table ≡ shape P N one table
          → (asked P N one table (read_bytes path out)).0 ≡ (asked P N other table (read_bytes path out)).0
      go None e f = ap answer (asked_invalid P N one table e (read_bytes path out)) ∙ sym (ap answer (asked_invalid P N other table (f ∙ e) (read_bytes path out)))
      go (Some g) e f =
          let k : g ≡ sizes P N = geometry_is P N (length one) (length table) g e in
          let a : told (sizes P N) one ≡ read_bytes path out i = ap (λ (r : Res Image). and_then r (read_bytes path out)) p ∙ then_ok i (read_bytes path out) in
          let b : told (sizes P N) other ≡ read_bytes path out j = ap (λ (r : Res Image). and_then r (read_bytes path out)) q ∙ then_ok j (read_bytes path out) in
          let c : told g one ≡ told g other = rw k (a ∙ bytes_same path out ∙ sym b) in
          ap answer (asked_fits P N one table g e (read_bytes path out)) ∙ c ∙ sym (ap answer (asked_fits P N other table g (f ∙ e) (read_bytes path out)))

  pub read_alike : (table path out : List ℕ) → ((read_call P N one table path out).0 ≡ (read_call P N other table path out).0) × ((read_call P N one table path out).1 ≡ (read_call P N other table path out).1)
  unfolding read_call
  read_alike table path out = (ap length_of (asked_same table path out), ap (filled out) (asked_same table path out))

-- ---- as many pages in use after two puts, and after two deletes
pub as_many_pages : {g : Geometry} {path path₂ bytes bytes₂ : List ℕ} {q r : Path} {i a b ab ba : Image} → PutStep g path bytes q i a → PutStep g path₂ bytes₂ r a ab
    → PutStep g path₂ bytes₂ r i b → PutStep g path bytes q b ba → (file_path q ≡ file_path r → ⊥) → pages_in_use ab ≡ pages_in_use ba
as_many_pages A AB B BA apart = omega (arith, sum_after A AB B BA apart, sum_after B BA A AB (λ e. apart (sym e)), joined_same A AB B BA apart)

module _ (g : Geometry) (q r : Path) (i x y ab ba : Image) (apart : file_path q ≡ file_path r → ⊥) where
  pages_put : (a b : FileEdit) → BothPut a b → Pages g a q i x → Pages g b r x ab → Pages g b r i y → Pages g a q y ba → pages_in_use ab ≡ pages_in_use ba
  pages_put (a_put p c) (a_put o d) h A AB B BA = as_many_pages A AB B BA apart
  pages_put (a_put p c) (a_delete o) h A AB B BA = absurd h
  pages_put (a_delete p) b h A AB B BA = absurd h

  pages_deleted : (a b : FileEdit) → BothDelete a b → Pages g a q i x → Pages g b r x ab → Pages g b r i y → Pages g a q y ba → pages_in_use ab ≡ pages_in_use ba
  pages_deleted (a_delete p) (a_delete o) h A AB B BA = omega (
    arith,
    A.total,
    AB.total,
    B.total,
    BA.total,
    ap length (A.chains (file_path r) (λ e. apart (sym e))),
    ap length (B.chains (file_path q) apart),
  )
  pages_deleted (a_delete p) (a_put o d) h A AB B BA = absurd h
  pages_deleted (a_put p c) b h A AB B BA = absurd h

edit_path_bytes : (e : FileEdit) → EditBytes e → Bytes (edit_path e)
edit_path_bytes (a_put path bytes) h = h.0
edit_path_bytes (a_delete path) h = h

-- ---- the theorem: the four calls, each from the tree that the one before it left
pub either_order : InEitherOrder
either_order P N image image_bytes a b a_bytes b_bytes differ one other D E =
    let g = sizes P N in
    let done_a = edit_done P N image D.table image_bytes a a_bytes D.first_done in
    let done_b = edit_done P N image E.table image_bytes b b_bytes E.first_done in
    let i = done_a.before in
    let q = done_a.to in
    let r = done_b.to in
    let apart : file_path q ≡ file_path r → ⊥ = λ e. differ (one_path (edit_path a) (edit_path b) q r (edit_path_bytes a a_bytes) (edit_path_bytes b b_bytes) done_a.formed done_b.formed e) in
    let A = done_a.step in
    let B = known g b image _ done_b r done_b.formed i done_a.was in
    let done_ab = edit_done P N _ D.second_table A.are_bytes b b_bytes D.second_done in
    let done_ba = edit_done P N _ E.second_table B.are_bytes a a_bytes E.second_done in
    let AB = known g b _ _ done_ab r done_b.formed A.after A.well in
    let BA = known g a _ _ done_ba q done_a.formed B.after B.well in
    let sized_one = done_ab.sized ∙ done_a.sized in
    let sized_other = done_ba.sized ∙ done_b.sized in
    let paths = in_either_order (file_path q) (file_path r) apart (change_by a q) (change_by b r) i A.after AB.after B.after BA.after A.edits AB.edits B.edits BA.edits in
    let p = accepted g _ AB.after AB.well in
    let o = accepted g _ BA.after BA.well in
    subst (λ (z : List ℕ). Agree P N a b z other) D.leaves (subst (Agree P N a b _) E.leaves (record {
      geometry = g;
      right = ap (λ (n : ℕ). geometry_of P N n (4 * N)) sized_one ∙ edit_right P N image D.table a D.first_done;
      sized = sized_one ∙ sym sized_other;
      tree = AB.after;
      accepted = p;
      other_tree = BA.after;
      other_accepted = o;
      paths = paths;
      reads = read_alike P N _ _ (sized_one ∙ sym sized_other) AB.after BA.after p o paths;
      puts = λ h. pages_put g q r i A.after B.after AB.after BA.after apart a b h A.pages AB.pages B.pages BA.pages;
      deletes = λ h. pages_deleted g q r i A.after B.after AB.after BA.after apart a b h A.pages AB.pages B.pages BA.pages;
    }))
