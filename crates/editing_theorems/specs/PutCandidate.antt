-- What a put that is done leaves is a candidate, and keeps all else exactly: no entry more.
use Rattle.std.specs.Prelude.{◌≡◌, List, ◌∷◌, ℕ, length}
use Rattle.std.proofs.Common.{ap, sym, ◌∙◌, subst, arith}
use Rattle.geometry.specs.declared.Geometry.{Geometry}
use Rattle.rules.specs.PageSets.{count}
use Rattle.rules.specs.Result.{Res}
use Rattle.rules.specs.Chain.{Link, content}
use Rattle.rules.specs.Paths.{Path, Found, Place}
use Rattle.rules.specs.Tree.{Label, Map, in_root, in_file, Image}
use Rattle.rules.specs.Bitmap.{remap}
use Rattle.rules.proofs.BitmapLaws.{pages_refill}
use Rattle.rules.specs.Writes.{Edit, edited}
use Rattle.rules.specs.Candidate.{at_path, Exists, stamps_of, reads, SameMap, target_path, file_path, Candidate}
use Rattle.rules.specs.Demand2.{Shown, PutDone}
use Rattle.reading_theorems.specs.Accepted.{accepted}
use Rattle.editing_theorems.specs.PathChanges.{same_path}
use Rattle.editing_theorems.specs.FoundLaws.{entry_some, exists_entry}

same_remap : (bits : List ℕ) (m : Map) → SameMap m (remap bits m)
same_remap bits in_root = tt
same_remap bits (in_file ls) = λ x. ap (count x) (pages_refill ls bits)

edited_map : (g : Geometry) (names : List ℕ) (e : Edit) (i : Image) → SameMap i.map (edited g names e i).map
unfolding edited
edited_map g names e i = same_remap _ i.map

pub put_candidate : (g : Geometry) (asked : Res Path) (stands : Label → List Link → Found) (bytes : Place → List ℕ) (Wanted : Found → Type 0) (image now : List ℕ) (p : PutDone g asked stands bytes image now)
    → ((l : Label) (ls : List Link) → content ls ≡ bytes p.at.place → Wanted (stands l ls)) → ((l : Label) (ls : List Link) → stamps_of (stands l ls) ≡ l.stamps)
    → Candidate g image (target_path p.at.to) (file_path p.at.to) Wanted now
put_candidate g asked stands bytes Wanted image now p wanted stamped = record {
  are_bytes = p.done.are_bytes;
  sized = p.done.sized;
  before = p.at.before;
  was = accepted g image p.at.before p.at.accepted;
  after = p.tree;
  accepted = accepted g now p.tree p.done.well_formed;
  stamped = λ h. ap stamps_of p.shows.standing ∙ stamped p.shows.label p.shows.links ∙ p.shows.stamps_are;
  stands = subst Wanted (sym p.shows.standing) (wanted p.shows.label p.shows.links p.shows.reads);
  kept = λ k ks n h. same_path (k ∷ ks) (target_path p.at.to) (λ e. rw e p.shows.target_entry) (λ m. ap (λ (s : Shown). s.entry) (p.shows.others (k ∷ ks) n m));
  pages = λ ks n m h x. ap (λ (s : Shown). count x s.pages) (p.shows.others ks n m);
  at_least = λ x h. omega (arith, p.shows.target_pages x);
  same = λ ks n h. same_path ks (target_path p.at.to)
      (λ e. rw e (ap reads p.shows.target_after ∙ sym (ap reads p.shows.target_before)))
      (λ m. ap (λ (s : Shown). s.bytes) (p.shows.others ks n m));
  map = subst (λ (j : Image). SameMap p.at.before.map j.map) (sym p.tree_is) (edited_map g p.at.to.directories p.edit p.at.before);
}

-- ---- no entry more: what stands at another path stood there
pub no_entry_more : (g : Geometry) (asked : Res Path) (stands : Label → List Link → Found) (bytes : Place → List ℕ) (image now : List ℕ) (p : PutDone g asked stands bytes image now) (ks : List ℕ) → (ks ≡ file_path p.at.to → ⊥)
    → Exists (at_path ks p.tree) → Exists (at_path ks p.at.before)
no_entry_more g asked stands bytes image now p ks n h = same_path ks (target_path p.at.to)
    (λ e. subst Exists (sym (ap (λ (k : List ℕ). at_path k p.at.before) e ∙ p.shows.target_before)) tt)
    (λ m. exists_entry g (at_path ks p.at.before) (omega (arith, entry_some g (at_path ks p.tree) h, ap (λ (s : Shown). length s.entry) (p.shows.others ks n m))))
