-- One edit whose call answers 0: what it did to paths and pages.
use Rattle.std.specs.Prelude.{Option, Some, None, ◌≡◌, refl, List, ◌++◌, ℕ, ◌+◌, ◌*◌, length}
use Rattle.std.proofs.Common.{ap, sym, ◌∙◌, subst, length-append}
use Rattle.geometry.specs.declared.Geometry.{Geometry}
use Rattle.geometry.specs.Geometry.{width_for, geometry_of}
use Rattle.geometry.specs.ShapeLaws.{geometry_is, least_table}
use Rattle.geometry.specs.Number.{Bytes}
use Rattle.rules.specs.Result.{Res, ok, err}
use Rattle.rules.proofs.ResultLaws.{ok_inj, clash}
use Rattle.rules.proofs.PageSetLaws.{count_append}
use Rattle.rules.specs.Tree.{Image, used}
use Rattle.rules.specs.WellFormed.{WellFormed}
use Rattle.rules.specs.Paths.{Path, a_file, path_of}
use Rattle.rules.specs.Calls.{shape}
use Rattle.rules.proofs.CallLaws.{put_invalid, delete_invalid}
use Rattle.rules.specs.Candidate.{at_path, chain_pages, file_path, pages_in_use}
use Rattle.rules.specs.Demand2.{Shown, IsFile, Deleted, PutDone}
use Rattle.reading_theorems.specs.Accepted.{tree_unique}
use Rattle.editing_theorems.specs.PutLaws.{same_length}
use Rattle.editing_theorems.proofs.Promised.{put_stated, delete_stated}
use Rattle.order_theorems.specs.EitherOrder.{FileEdit, a_put, a_delete, edit_path, EditBytes, edit_call}
use Rattle.order_theorems.specs.PathEdits.{Edits, change_by, put_edits, delete_edits}
use Rattle.order_theorems.proofs.PagesAfterPuts.{PutStep, put_step}

-- the geometry of these sizes
abbrev pub sizes : ℕ → ℕ → Geometry
sizes P N = record { size = P; pages = N; width = width_for N }

-- ---- pages after a delete: the chain's are free, every other chain has its own
pub record DeleteStep (q : Path) (i j : Image) : Type 0 where
  pub chains : (ks : List ℕ) → (ks ≡ file_path q → ⊥) → chain_pages (at_path ks j) ≡ chain_pages (at_path ks i)
  pub total : pages_in_use j + length (chain_pages (at_path (file_path q) i)) ≡ pages_in_use i

delete_step : (g : Geometry) (path image now : List ℕ) (p : Deleted g (path_of path) IsFile image now) → DeleteStep p.at.to p.at.before p.tree
delete_step g path image now p =
    let old = chain_pages (at_path (file_path p.at.to) p.at.before) in
    record {
      chains = λ ks n. ap (λ (x : Shown). x.pages) (p.shows.others ks n);
      total = sym (length-append (used p.tree) old) ∙ same_length (used p.tree ++ old) (used p.at.before) (λ x. count_append x (used p.tree) old ∙ p.shows.total x);
    }

-- ---- an edit that is done, from the tree i, at the path q
abbrev pub Pages : Geometry → FileEdit → Path → Image → Image → Type 0
Pages g (a_put path bytes) q i j = PutStep g path bytes q i j
Pages g (a_delete path) q i j = DeleteStep q i j

pub record Step (g : Geometry) (e : FileEdit) (q : Path) (i : Image) (now : List ℕ) : Type 0 where
  pub after : Image
  pub well : WellFormed g now after
  pub are_bytes : Bytes now
  pub edits : Edits (file_path q) (change_by e q) i after
  pub pages : Pages g e q i after

-- with its path and its tree
pub record Done (g : Geometry) (e : FileEdit) (image now : List ℕ) : Type 0 where
  pub to : Path
  pub formed : path_of (edit_path e) ≡ ok to
  pub before : Image
  pub was : WellFormed g image before
  pub sized : length now ≡ length image
  pub step : Step g e to before now

put_done : (g : Geometry) (path bytes image now : List ℕ) → Bytes image → PutDone g (path_of path) a_file (λ _. bytes) image now → Done g (a_put path bytes) image now
put_done g path bytes image now b p = record {
  to = p.at.to;
  formed = p.at.formed;
  before = p.at.before;
  was = p.at.accepted;
  sized = p.done.sized;
  step = record { after = p.tree; well = p.done.well_formed; are_bytes = p.done.are_bytes; edits = put_edits g path bytes image now p; pages = put_step g path bytes image now b p };
}

delete_done : (g : Geometry) (path image now : List ℕ) → Deleted g (path_of path) IsFile image now → Done g (a_delete path) image now
delete_done g path image now p = record {
  to = p.at.to;
  formed = p.at.formed;
  before = p.at.before;
  was = p.at.accepted;
  sized = p.done.sized;
  step = record { after = p.tree; well = p.done.well_formed; are_bytes = p.done.are_bytes; edits = delete_edits g path image now p; pages = delete_step g path image now p };
}

-- ---- a call that is done fits its sizes
module _ (P N : ℕ) (image table : List ℕ) where
  -- sizes that are not right are refused with 1
  invalid : (e : FileEdit) → shape P N image table ≡ None → (edit_call P N image table e).0 ≡ err 1 0
  invalid (a_put path bytes) f = ap (λ (x : Res (Unit {0}) × List ℕ × List ℕ). x.0) (put_invalid P N image table f path bytes)
  invalid (a_delete path) f = ap (λ (x : Res (Unit {0}) × List ℕ × List ℕ). x.0) (delete_invalid P N image table f path)

  edit_fits : (e : FileEdit) → (edit_call P N image table e).0 ≡ ok tt → shape P N image table ≡ Some (sizes P N)
  edit_fits e h = go (shape P N image table) refl
    where
      go : (s : Option Geometry) → shape P N image table ≡ s → shape P N image table ≡ Some (sizes P N)
      go None f = clash (sym (invalid e f) ∙ h)
      go (Some g) f = f ∙ ap Some (geometry_is P N (length image) (length table) g f)

  -- any owner table that is long enough
  pub edit_right : (e : FileEdit) → (edit_call P N image table e).0 ≡ ok tt → geometry_of P N (length image) (4 * N) ≡ Some (sizes P N)
  edit_right e h = least_table P N (length image) (length table) (sizes P N) (edit_fits e h)

  pub edit_done : Bytes image → (e : FileEdit) → EditBytes e → (edit_call P N image table e).0 ≡ ok tt → Done (sizes P N) e image (edit_call P N image table e).1
  edit_done b (a_put path bytes) (p, d) h =
      put_done (sizes P N) path bytes image _ b ((put_stated P N image table b path bytes p d).0.done (sizes P N) (edit_fits (a_put path bytes) h) h)
  edit_done b (a_delete path) p h = delete_done (sizes P N) path image _ ((delete_stated P N image table b path).done (sizes P N) (edit_fits (a_delete path) h) h)

-- ---- the step at the path and from the tree that are known
pub known : (g : Geometry) (e : FileEdit) (image now : List ℕ) → Done g e image now → (q : Path) → path_of (edit_path e) ≡ ok q → (i : Image) → WellFormed g image i → Step g e q i now
known g e image now d q f i w = subst (λ (r : Path). Step g e r i now) (ok_inj (sym d.formed ∙ f)) (subst (λ (j : Image). Step g e d.to j now) (tree_unique g image d.before i d.was w) d.step)
