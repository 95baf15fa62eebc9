-- Two puts at different paths, in either order, leave as many pages in use.
-- The pages in use after a put are an equation (`total`); what the two orders must share is the number of pages that join directories. Where the two files go to different directories,
-- neither put changes what decides about the other's: the slots taken, the pages, and whether the entry is there. Where they go to one, the four cases of a new or a replaced entry are counted.
use Rattle.std.specs.Prelude.{◌≡◌, refl, List, [], ◌∷◌, ◌++◌, ℕ, suc, ◌+◌, ◌≤◌, length}
use Rattle.std.proofs.Common.{ap, ap₂, sym, ◌∙◌, subst, inl, inr, eq-zero-or-pos, arith, length-append}
use Rattle.geometry.specs.declared.Geometry.{Geometry}
use Rattle.geometry.specs.Geometry.{data_capacity}
use Rattle.geometry.specs.Number.{Bytes}
use Rattle.rules.specs.PageSets.{count}
use Rattle.rules.proofs.PageSetLaws.{count_append}
use Rattle.rules.specs.Chain.{views_of, pages_for}
use Rattle.rules.specs.Tree.{Label, key_of, Items, own_pages, Image}
use Rattle.rules.specs.WellFormed.{WellFormed}
use Rattle.rules.specs.Paths.{Path, file_key, file_label, Found, nothing, a_file, a_directory, find, path_of}
use Rattle.rules.specs.Put.{extra_pages}
use Rattle.rules.proofs.EditLaws.{width_is}
use Rattle.rules.specs.Candidate.{look_up, root_label, at_path, chain_pages, stamps_of, target_path, file_path, pages_in_use}
use Rattle.rules.specs.Demand2.{Shown, PutDone}
use Rattle.reading_theorems.specs.PacketLaws.{byte_view}
use Rattle.editing_theorems.specs.Contexts.{directory_items}
use Rattle.editing_theorems.specs.PathLaws.{path_append}
use Rattle.editing_theorems.specs.PathChanges.{same_path}
use Rattle.editing_theorems.specs.PutLaws.{same_length}
use Rattle.editing_theorems.specs.FoundLaws.{last_same}
use Rattle.editing_theorems.specs.FullPages.{slots, width_found}
use Rattle.editing_theorems.specs.PathContents.{DirectoryThere, FoundIn, path_stands, root_there, there_holds}
use Rattle.order_theorems.specs.EitherOrder.{a_put, Seen, file_seen, directory_seen, seen}
use Rattle.order_theorems.proofs.PathBytes.{front_same}
use Rattle.order_theorems.specs.PathEdits.{stamps_seen, stamps_seen_lem, width_seen, width_seen_lem, Edits, change_by, put_edits}
use Rattle.order_theorems.proofs.DirectorySlots.{Sound, slots_but, no_extra, same_extra}

-- a directory at a path of a well-formed image is sound
sound_at : (g : Geometry) (image : List ℕ) → Bytes image → (i : Image) → WellFormed g image i → (ks : List ℕ) (l : Label) (d : Items) → at_path ks i ≡ a_directory l d → Sound g d
unfolding at_path
sound_at g image b i w ks l d e =
    let z : FoundIn g (views_of g image) (a_directory l d) = subst (FoundIn g (views_of g image)) e (path_stands g (views_of g image) ks (a_directory root_label i.tree) (root_there g image i w)) in
    let t : DirectoryThere g (views_of g image) d = z in
    record { is_directory = t.shaped.is_directory; names = t.shaped.names; holds = there_holds g w.fits.valid (views_of g image) (byte_view g image b) d t }

-- what stands under a key of a directory at a path
at_key : (ks : List ℕ) (k : ℕ) (i : Image) (l : Label) (d : Items) → at_path ks i ≡ a_directory l d → at_path (ks ++ (k ∷ [])) i ≡ find k d
unfolding at_path
at_key ks k i l d e = path_append ks (k ∷ []) (a_directory root_label i.tree) ∙ ap (look_up (k ∷ [])) e

file_or_directory : (s : Seen) (l m : Label) (bytes : List ℕ) → s ≡ file_seen l bytes → s ≡ directory_seen m → ⊥
file_or_directory s l m bytes p q = let z : ◌≡◌ {A = ℕ} 0 1 = cc in omega arith

-- the slots of what has stamps before it, or of nothing
width_kept : (f : Found) → 1 ≤ width_found f → width_found f ≡ suc (length (stamps_of f))
width_kept nothing h = absurd (omega arith)
width_kept (a_file l ls) h = width_is l
width_kept (a_directory l d) h = width_is l

no_stamps : (f : Found) → width_found f ≡ 0 → length (stamps_of f) ≡ 0
no_stamps nothing h = refl
no_stamps (a_file l ls) h = absurd (omega (arith, width_is l))
no_stamps (a_directory l d) h = absurd (omega (arith, width_is l))

-- ---- a put that is done, as far as pages go
pub record PutStep (g : Geometry) (path bytes : List ℕ) (q : Path) (i j : Image) : Type 0 where
  pub edits : Edits (file_path q) (change_by (a_put path bytes) q) i j
  -- its target before and after
  pub label : Label
  pub before : Items
  pub after : Items
  pub at_before : at_path (target_path q) i ≡ a_directory label before
  pub at_after : at_path (target_path q) j ≡ a_directory label after
  pub sound : Sound g before
  pub sound_after : Sound g after
  pub grown : length (own_pages after) ≡ length (own_pages before) + extra_pages g (file_label q) before
  -- the pages of every other chain, and all in use
  pub chains : (ks : List ℕ) → (ks ≡ file_path q → ⊥) → (ks ≡ target_path q → ⊥) → chain_pages (at_path ks j) ≡ chain_pages (at_path ks i)
  pub total : pages_in_use j + length (chain_pages (at_path (file_path q) i)) ≡ pages_in_use i + extra_pages g (file_label q) before + pages_for (data_capacity g) (length bytes)

pub put_step : (g : Geometry) (path bytes image now : List ℕ) → Bytes image → (p : PutDone g (path_of path) a_file (λ _. bytes) image now)
    → PutStep g path bytes p.at.to p.at.before p.tree
put_step g path bytes image now b p =
    let s = p.shows in
    let d = p.at.place.items in
    let e = p.edit.after in
    let own = same_length (own_pages e) (own_pages d ++ s.joined) (λ x. ap (λ (f : Found). count x (chain_pages f)) (sym s.target_after) ∙ s.target_pages x
    ∙ ap (λ (f : Found). count x (chain_pages f) + count x s.joined) s.target_before ∙ sym (count_append x (own_pages d) s.joined)) in
    record {
      edits = put_edits g path bytes image now p;
      label = s.target_label;
      before = d;
      after = e;
      at_before = s.target_before;
      at_after = s.target_after;
      sound = sound_at g image b p.at.before p.at.accepted (target_path p.at.to) s.target_label d s.target_before;
      sound_after = sound_at g now p.done.are_bytes p.tree p.done.well_formed (target_path p.at.to) s.target_label e s.target_after;
      grown = own ∙ length-append (own_pages d) s.joined ∙ ap (λ (n : ℕ). length (own_pages d) + n) s.joins;
      chains = λ ks n m. ap (λ (x : Shown). x.pages) (s.others ks n m);
      total = omega (arith, s.total, s.joins);
    }

module _ {g : Geometry} {path bytes : List ℕ} {q : Path} {i j : Image} (A : PutStep g path bytes q i j) where
  -- no directory stands then where the file is
  not_directory : (l : Label) (d : Items) → at_path (file_path q) j ≡ a_directory l d → ⊥
  not_directory l d e = file_or_directory _ _ l _ A.edits.at (ap seen e)

  -- under every other key as many slots
  widths : (ks : List ℕ) (l m : Label) (d e : Items) → at_path ks i ≡ a_directory l d → at_path ks j ≡ a_directory m e → (k : ℕ) → (ks ++ (k ∷ []) ≡ file_path q → ⊥) → width_found (find k e) ≡ width_found (find k d)
  widths ks l m d e x y k n = width_seen_lem (find k e) ∙ ap width_seen (ap seen (sym (at_key ks k j m e y)) ∙ A.edits.others (ks ++ (k ∷ [])) n ∙ ap seen (at_key ks k i l d x)) ∙ sym (width_seen_lem (find k d))

  -- a directory that is not the target has as many slots taken and as many pages, so that any entry needs as many more
  far : (ks : List ℕ) → (ks ≡ target_path q → ⊥) → (l m : Label) (d e : Items) → at_path ks i ≡ a_directory l d → at_path ks j ≡ a_directory m e → Sound g d → Sound g e
      → (x : Label) → extra_pages g x e ≡ extra_pages g x d
  far ks n l m d e a b sd se x =
      let w = widths ks l m d e a b in
      let apart : (k : ℕ) → ks ++ (k ∷ []) ≡ file_path q → ⊥ = λ k r. n (front_same ks (target_path q) k (file_key q) r) in
      let taken : slots e ≡ slots d = omega (arith, slots_but 0 d e sd.names se.names (λ k _. w k (apart k)), w 0 (apart 0)) in
      let c = A.chains ks (λ r. not_directory m e (ap (λ (js : List ℕ). at_path js j) (sym r) ∙ b)) n in
      let own : own_pages e ≡ own_pages d = ap chain_pages (sym b) ∙ c ∙ ap chain_pages a in
      same_extra g e d se sd taken (ap length own) x x (w (key_of x) (apart (key_of x)))

  -- in the target every other key takes as many slots
  beside : (k : ℕ) → (k ≡ file_key q → ⊥) → width_found (find k A.after) ≡ width_found (find k A.before)
  beside k n = widths (target_path q) A.label A.label A.before A.after A.at_before A.at_after k (λ r. n (last_same (target_path q) k (file_key q) r))

  -- the file's entry takes one, and one for each stamp that stood there
  its_width : width_found (find (file_key q) A.after) ≡ suc (length (stamps_of (find (file_key q) A.before)))
  its_width =
      let f = find (file_key q) A.before in
      width_seen_lem (find (file_key q) A.after) ∙ ap width_seen (ap seen (sym (at_key (target_path q) (file_key q) j A.label A.after A.at_after)) ∙ A.edits.at)
      ∙ width_is (record { name = q.name; extension = q.extension; stamps = stamps_seen (seen (at_path (file_path q) i)) })
      ∙ ap (λ (h : Found). suc (length (stamps_seen (seen h)))) (at_key (target_path q) (file_key q) i A.label A.before A.at_before) ∙ sym (ap (λ ss. suc (length ss)) (stamps_seen_lem f))

  -- so a replaced entry takes as many slots as before, and a new one takes one more
  replaced : 1 ≤ width_found (find (file_key q) A.before) → slots A.after ≡ slots A.before
  replaced h = omega (arith, slots_but (file_key q) A.before A.after A.sound.names A.sound_after.names beside, its_width, width_kept (find (file_key q) A.before) h)

  added : width_found (find (file_key q) A.before) ≡ 0 → slots A.after ≡ suc (slots A.before)
  added h = omega (arith, slots_but (file_key q) A.before A.after A.sound.names A.sound_after.names beside, its_width, no_stamps (find (file_key q) A.before) h)

-- ---- two puts into one directory
module _ {g : Geometry} {path path₂ bytes bytes₂ : List ℕ} {q r : Path} {i a b : Image} (A : PutStep g path bytes q i a) (B : PutStep g path₂ bytes₂ r i b) (apart : file_key q ≡ file_key r → ⊥) where
  -- as many pages join the directory in either order
  abbrev JoinAlike : Type 0
  JoinAlike = extra_pages g (file_label q) A.before + extra_pages g (file_label r) A.after ≡ extra_pages g (file_label r) B.before + extra_pages g (file_label q) B.after

  -- a first put that replaces a file changes nothing for the second
  near_replaced : B.before ≡ A.before → 1 ≤ width_found (find (file_key q) A.before) → JoinAlike
  near_replaced e h =
      let d = A.before in
      let l = file_label q in
      let m = file_label r in
      let zero_l = no_extra g l d h in
      let again = no_extra g l B.after (omega (arith, beside B (file_key q) apart, ap (λ (t : Items). width_found (find (file_key q) t)) e)) in
      let same = same_extra g A.after d A.sound_after A.sound (replaced A h) (omega (arith, A.grown, zero_l)) m m (beside A (file_key r) (λ s. apart (sym s))) in
      omega (arith, zero_l, again, same, ap (extra_pages g m) e)

-- two new entries
module _ {g : Geometry} {path path₂ bytes bytes₂ : List ℕ} {q r : Path} {i a b : Image} (A : PutStep g path bytes q i a) (B : PutStep g path₂ bytes₂ r i b) (apart : file_key q ≡ file_key r → ⊥) where
  near_new : B.before ≡ A.before → width_found (find (file_key q) A.before) ≡ 0 → width_found (find (file_key r) B.before) ≡ 0 → JoinAlike A B apart
  near_new e x y =
      let l = file_label q in
      let m = file_label r in
      let first = same_extra g A.before B.before A.sound B.sound (ap slots (sym e)) (ap (λ (t : Items). length (own_pages t)) (sym e)) l m (omega arith) in
      let taken : slots A.after ≡ slots B.after = omega (arith, added A x, added B y, ap slots e) in
      let own : length (own_pages A.after) ≡ length (own_pages B.after) = omega (arith, A.grown, B.grown, first, ap (λ (t : Items). length (own_pages t)) e) in
      let absent : width_found (find (file_key r) A.after) ≡ 0 = beside A (file_key r) (λ s. apart (sym s)) ∙ ap (λ (t : Items). width_found (find (file_key r) t)) (sym e) ∙ y in
      let absent₂ : width_found (find (file_key q) B.after) ≡ 0 = beside B (file_key q) apart ∙ ap (λ (t : Items). width_found (find (file_key q) t)) e ∙ x in
      let second = same_extra g A.after B.after A.sound_after B.sound_after taken own m l (omega arith) in
      omega (arith, first, second)

  near : B.before ≡ A.before → JoinAlike A B apart
  near e = elim (eq-zero-or-pos (width_found (find (file_key q) A.before))) [
    | inr x ↦ near_replaced A B apart e x
    | inl x ↦ elim (eq-zero-or-pos (width_found (find (file_key r) B.before))) [
      | inr y ↦ sym (near_replaced B A (λ s. apart (sym s)) (sym e) y)
      | inl y ↦ near_new e x y
    ]
  ]

-- ---- two puts in either order
module _ {g : Geometry} {path path₂ bytes bytes₂ : List ℕ} {q r : Path} {i a b ab ba : Image} (A : PutStep g path bytes q i a) (AB : PutStep g path₂ bytes₂ r a ab)
    (B : PutStep g path₂ bytes₂ r i b) (BA : PutStep g path bytes q b ba) (apart : file_path q ≡ file_path r → ⊥) where
  -- the pages that join directories
  pub joined_same : extra_pages g (file_label q) A.before + extra_pages g (file_label r) AB.before ≡ extra_pages g (file_label r) B.before + extra_pages g (file_label q) BA.before
  joined_same = same_path (target_path r) (target_path q)
      (λ e.
      let one : B.before ≡ A.before = directory_items (sym B.at_before ∙ ap (λ (ks : List ℕ). at_path ks i) e ∙ A.at_before) in
      let two : AB.before ≡ A.after = directory_items (sym AB.at_before ∙ ap (λ (ks : List ℕ). at_path ks a) e ∙ A.at_after) in
      let three : BA.before ≡ B.after = directory_items (sym BA.at_before ∙ ap (λ (ks : List ℕ). at_path ks b) (sym e) ∙ B.at_after) in
      let keys_apart : file_key q ≡ file_key r → ⊥ = λ s. apart (ap₂ (λ (ks : List ℕ) (k : ℕ). ks ++ (k ∷ [])) (sym e) s) in
      omega (arith, near A B keys_apart one, ap (extra_pages g (file_label r)) two, ap (extra_pages g (file_label q)) three))
      (λ n. omega (
        arith,
        far A (target_path r) n B.label AB.label B.before AB.before B.at_before AB.at_before B.sound AB.sound (file_label r),
        far B (target_path q) (λ e. n (sym e)) A.label BA.label A.before BA.before A.at_before BA.at_before A.sound BA.sound (file_label q),
      ))

  -- the chain that the second put replaces is the one that stood at first
  old_chain : chain_pages (at_path (file_path r) a) ≡ chain_pages (at_path (file_path r) i)
  old_chain = A.chains (file_path r) (λ e. apart (sym e)) (λ e. not_directory B BA.label BA.before (ap (λ (ks : List ℕ). at_path ks b) e ∙ BA.at_before))

  pub sum_after : pages_in_use ab + length (chain_pages (at_path (file_path r) i)) + length (chain_pages (at_path (file_path q) i))
      ≡ pages_in_use i + (extra_pages g (file_label q) A.before + extra_pages g (file_label r) AB.before) + pages_for (data_capacity g) (length bytes) + pages_for (data_capacity g) (length bytes₂)
  sum_after = omega (arith, A.total, AB.total, ap length old_chain)
