-- What stands at a path: the case that a lookup turns out to be, and whether the file that is there may be written.
use Rattle.std.specs.Prelude.{Result, ◌≡◌, List, ℕ, ◌≤◌, ◌<◌}
use Rattle.std.proofs.Common.{ap, subst, arith, eq-eqb, ne_eqb}
use Rattle.refusals.specs.declared.Refusal.{Refusal}
use Rattle.geometry.specs.declared.Geometry.{Geometry}
use Rattle.rules.specs.declared.Entry.{Entry}
use Rattle.rules.specs.Result.{Res, ok, err}
use Rattle.rules.proofs.ResultLaws.{refuse_true, refuse_false}
use Rattle.rules.specs.Chain.{Views}
use Rattle.rules.specs.Names.{attribute}
use Rattle.rules.specs.Tree.{Image}
use Rattle.rules.specs.Check.{check}
use Rattle.rules.specs.Paths.{Path, path_of, directory_path_of, a_file}
use Rattle.rules.specs.Put.{writable}
use Rattle.entries.specs.declared.Slot.{Slot}
use Rattle.lookup.specs.declared.Reached.{Reached}
use Rattle.lookup.specs.declared.PathLookup.{PathLookup}
use Rattle.lookup.specs.Targets.{FileAt, SubdirectoryAt, AtPath, Looks, LooksFor}

pub looks_as : (g : Geometry) (vs : Views) (path : List ℕ) (i : Image) (r : Result PathLookup Refusal) → Looks g vs path r → check g vs ≡ ok i → (x : Result PathLookup Refusal) → r ≡ x
    → AtPath g vs (path_of path) i (FileAt g vs (path_of path) i) x
looks_as g vs path i r h accepted x e = subst (AtPath g vs (path_of path) i (FileAt g vs (path_of path) i)) e (h i accepted)

pub looks_for_as : (g : Geometry) (vs : Views) (path : List ℕ) (i : Image) (r : Result PathLookup Refusal) → LooksFor g vs path r → check g vs ≡ ok i → (x : Result PathLookup Refusal) → r ≡ x
    → AtPath g vs (directory_path_of path) i (SubdirectoryAt g vs (directory_path_of path) i) x
looks_for_as g vs path i r h accepted x e = subst (AtPath g vs (directory_path_of path) i (SubdirectoryAt g vs (directory_path_of path) i)) e (h i accepted)

module _ {g : Geometry} {vs : Views} {asked : Res Path} {i : Image} {d : Reached} {s : Slot} {m : ℕ} {e : Entry} (there : FileAt g vs asked i d s m e) where
  pub same_extension : e.extension ≡ there.label.extension
  same_extension = ap (λ (x : Entry). x.extension) there.entry_is

  pub bit_clear : e.extension ≤ 127 → attribute there.label.extension ≡ 0
  bit_clear h = omega (arith, same_extension, h)

  pub is_writable : e.extension ≤ 127 → writable (a_file there.label there.links) ≡ ok tt
  unfolding writable
  is_writable h = simp (eq-eqb (attribute there.label.extension) 0 (bit_clear h), refuse_true)

  pub not_writable : 127 < e.extension → writable (a_file there.label there.links) ≡ err 16 0
  unfolding writable
  not_writable h = let a : attribute there.label.extension ≡ 0 → ⊥ = λ z. omega (arith, same_extension, z, h) in simp (ne_eqb (attribute there.label.extension) 0 a, refuse_false)
