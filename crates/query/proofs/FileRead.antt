-- A file read along its path: each refusal in its place, and the bytes of its chain.
use Rattle.std.specs.Prelude.{Result, Ok, Err}
use Rattle.refusals.specs.declared.Refusal.{Refusal}
use Rattle.refusals.specs.declared.Fault.TheVariants as fault
use Rattle.rules.specs.Answers.{refused}
use mathlib.Core.Path.{◌≡◌, refl, ap, ap₂, sym, ◌∙◌, subst}
use mathlib.Core.List.{List, ◌++◌}
use Prim.Native.Nat.{ℕ, ◌≤◌, ◌<◌}
use lib.ListN.{length, drop}
use borrow.Author.Tests.{le-leb, lt-leb}
use Rattle.geometry.specs.declared.Geometry.{Geometry}
use Rattle.rules.specs.declared.Entry.{Entry}
use Rattle.rules.specs.Result.{Res, ok, err}
use Rattle.rules.proofs.ResultLaws.{then_ok, then_err, refuse_true, refuse_false}
use Rattle.rules.specs.Chain.{Views, content}
use Rattle.rules.specs.Tree.{Image}
use Rattle.rules.specs.Check.{check}
use Rattle.rules.specs.Paths.{path_of, file_key, Found, nothing, a_file, find, Target, target_of}
use Rattle.rules.specs.Calls.{bytes_of, file_at, read_bytes, length_of, filled}
use Rattle.lookup.specs.declared.Reached.{Reached}
use Rattle.lookup.specs.declared.Spot.{Spot}
use Rattle.lookup.specs.declared.PathLookup.{PathLookup}
use Rattle.lookup.specs.declared.PathLookup.TheVariants as lookup
use Rattle.lookup.specs.Targets.{PathAbsent, FileAt, Looks}
use Rattle.lookup.specs.TargetLaws.{looks_as}
use Rattle.query.specs.Questions.{Gives, fitting, ChainRead}

-- ---- a chain for an output
pub too_short : (out bytes : List ℕ) → length out < length bytes → Gives out (fitting out bytes) (Err (record { 0 = fault.ShortOutput; 1 = 0 })) out
unfolding fitting
too_short out bytes h = let e : fitting out bytes ≡ err 18 0 = simp (lt-leb (length bytes) (length out) h, refuse_false, then_err) in ap (λ (r : Res (List ℕ)). (length_of r, filled out r)) (sym e)

pub long_enough : (out bytes after : List ℕ) (n : ℕ) → length bytes ≤ length out → n ≡ length bytes → after ≡ bytes ++ drop (length bytes) out → Gives out (fitting out bytes) (Ok n) after
unfolding fitting
long_enough out bytes after n h e q =
    let f : fitting out bytes ≡ ok bytes = simp (le-leb (length bytes) (length out) h, refuse_true, then_ok) in
    ap₂ (λ (m : ℕ) (l : List ℕ). (ok m, l)) e q ∙ ap (λ (r : Res (List ℕ)). (length_of r, filled out r)) (sym f)

-- ---- the file at a path
module _ (g : Geometry) (vs : Views) (path out : List ℕ) (r : Result PathLookup Refusal) (h : Looks g vs path r) (i : Image) (accepted : check g vs ≡ ok i) where
  not_read : (y : Refusal) → file_at path i ≡ refused y → Gives out (read_bytes path out i) (Err y) out
  unfolding read_bytes
  not_read y e = let f : read_bytes path out i ≡ refused y = simp (e, then_err) in ap (λ (r : Res (List ℕ)). (length_of r, filled out r)) (sym f)

  no_target : (y : Refusal) → target_of path i.tree ≡ refused y → file_at path i ≡ refused y
  unfolding file_at
  no_target y e = simp (e, then_err)

  pub not_there : (y : Refusal) → r ≡ Err y → Gives out (read_bytes path out i) (Err y) out
  not_there y e = not_read y (no_target y (looks_as g vs path i r h accepted (Err y) e))

  found : (x : Target) → target_of path i.tree ≡ ok x → (f : Found) → find (file_key x.to) x.place.items ≡ f → file_at path i ≡ bytes_of f
  unfolding file_at
  found x a f e = simp (a, then_ok, e)

  pub absent : (d : Reached) (name extension : ℕ) → r ≡ Ok (lookup.Absent d name extension) → Gives out (read_bytes path out i) (Err (record { 0 = fault.Absent; 1 = 0 })) out
  absent d name extension e =
      let m : PathAbsent g vs (path_of path) i d name extension = looks_as g vs path i r h accepted (Ok (lookup.Absent d name extension)) e in
      not_read (record { 0 = fault.Absent; 1 = 0 }) (found m.target m.reached nothing m.absent ∙ gone)
    where
      gone : bytes_of nothing ≡ err 15 0
      gone = unfold bytes_of in refl

  module _ (d : Reached) (x : Spot) (q : r ≡ Ok (lookup.At d x)) where
    abbrev e : Entry
    e = x.entry

    pub there : FileAt g vs (path_of path) i d x.slot x.stamps e
    there = looks_as g vs path i r h accepted (Ok (lookup.At d x)) q

    fits_file : read_bytes path out i ≡ fitting out (content there.links)
    unfolding read_bytes fitting bytes_of
    fits_file =
        let y : file_at path i ≡ ok (content there.links) = found there.target there.reached (a_file there.label there.links) there.found in
        simp (y, then_ok)

    pub read_file : (a : Result ℕ Refusal) (after : List ℕ) → ChainRead g (vs.file e.extension) e.start out a after → Gives out (read_bytes path out i) a after
    read_file a after c = subst (λ (x : Res (List ℕ)). Gives out x a after) (sym fits_file) (c there.links there.chain)
