-- What stands at a path of an accepted image, as the code looks for it: the directory that its names lead to, then the entry there.
use Rattle.std.specs.Prelude.{Option, Some, None, Result, Ok, Err}
use Rattle.refusals.specs.declared.Refusal.{Refusal}
use Rattle.rules.specs.Answers.{refused}
use mathlib.Core.Path.{◌≡◌, refl, ap, sym, subst}
use mathlib.Core.Bool.{false}
use mathlib.Core.List.{List}
use Prim.Native.Nat.{ℕ, zero, suc, ◌≤◌}
use native.Mathlib.Omega.{arith}
use lib.ListN.{drop}
use Rattle.geometry.specs.declared.Geometry.{Geometry}
use Rattle.rules.specs.declared.Entry.{Entry}
use Rattle.rules.specs.Result.{Res, ok}
use Rattle.rules.specs.Chain.{Views}
use Rattle.rules.specs.Names.{key, ROOT}
use Rattle.rules.specs.Tree.{Items, start_of, file_entry, directory_entry, Image}
use Rattle.rules.specs.Check.{check}
use Rattle.rules.specs.WellFormed.{Under}
use Rattle.rules.specs.Paths.{Path, path_of, directory_path_of, names_in, file_key, Found, nothing, a_file, a_directory, find, Place, root_place, directory_at, Target, target_at}
use Rattle.rules.proofs.TargetLaws.{reached, target_nowhere, target_is}
use Rattle.chain.specs.KnownChain.{ChainAt}
use Rattle.lookup.proofs.Parts.{file_low, directory_extension}
use Rattle.listing.specs.KnownTree.{Chained, Below}
use Rattle.listing.proofs.Accepting.{accepted_stands}
use Rattle.entries.specs.declared.Slot.{Slot}
use Rattle.lookup.specs.declared.Spot.{Spot}
use Rattle.lookup.specs.declared.Reached.{Reached}
use Rattle.lookup.specs.declared.PathLookup.{PathLookup}
use Rattle.lookup.specs.declared.PathLookup.TheVariants as lookup
use Rattle.lookup.specs.Searches.{entry_of, TreeAt, HasTree, IsReached, Leads, IsPlace}
use Rattle.lookup.specs.Targets.{PathAbsent, EntryAt, FileAt, SubdirectoryAt, AtPath, LooksUp, Looks, LooksFor}
use Rattle.lookup.proofs.Resolving.{FoundAt, find_stands, no_file, no_directory}

pub root_tree : (g : Geometry) (vs : Views) (i : Image) → check g vs ≡ ok i → TreeAt g vs 0 i.tree
root_tree g vs i accepted = record { levels = 8; stands = accepted_stands g vs i accepted }

-- the root, as the code begins with it
abbrev pub the_root : Reached
the_root = record { start = 0; name = ROOT; hidden = false }

pub root_reached : (g : Geometry) (vs : Views) (i : Image) → check g vs ≡ ok i → IsReached g vs (root_place i.tree) the_root
root_reached g vs i accepted = record { here_is = refl; hidden_is = refl; tree = root_tree g vs i accepted }

-- the path that was taken apart
abbrev pub taken : List ℕ → ℕ → ℕ → ℕ → Path
taken path names name extension = record { directories = names_in names path; name = name; extension = extension }

module _ (g : Geometry) (vs : Views) (path : List ℕ) (i : Image) (names name extension : ℕ) (r : Result Reached Refusal)
    (h : Leads g vs (directory_at (names_in names (drop 0 path)) (root_place i.tree)) r) where
  abbrev asked : Res Path
  asked = ok (taken path names name extension)

  pub nowhere : (z : Refusal) → r ≡ Err z → target_at (ok (taken path names name extension)) i.tree ≡ refused z
  nowhere z e = target_nowhere asked i.tree (taken path names name extension) refl _ _ (subst (Leads g vs (directory_at (names_in names path) (root_place i.tree))) e h)

  module _ (d : Reached) (r_is : r ≡ Ok d) where
    there : (place : Place) × (directory_at (names_in names path) (root_place i.tree) ≡ ok place) × IsReached g vs place d
    there = subst (Leads g vs (directory_at (names_in names path) (root_place i.tree))) r_is h

    pub has_tree : HasTree g vs d.start
    has_tree = record { tree = there.0.items; at = there.2.tree }

    abbrev target : Target
    target = record { to = taken path names name extension; place = there.0 }

    is_reached : target_at asked i.tree ≡ ok target
    is_reached = target_is asked i.tree (taken path names name extension) refl there.0 there.1

    module _ (k : ℕ) (k_is : k ≡ key name extension) (s : Option Spot) (f : (t : Items) → TreeAt g vs d.start t → IsPlace g vs.pages k t s) where
      abbrev items : Items
      items = there.0.items

      placed : IsPlace g vs.pages (key name extension) items s
      placed = subst (λ (n : ℕ). IsPlace g vs.pages n items s) k_is (f items there.2.tree)

      pub path_absent : s ≡ None → PathAbsent g vs (ok (taken path names name extension)) i d name extension
      path_absent q = record {
        target = target;
        reached = is_reached;
        name_is = refl;
        extension_is = refl;
        directory = there.2;
        absent = go (find (key name extension) items) refl (subst (IsPlace g vs.pages (key name extension) items) q placed);
      }
        where
          go : (x : Found) → find (key name extension) items ≡ x → None ≡ entry_of x → find (key name extension) items ≡ nothing
          go nothing e z = e
          go (a_file l ls) e z = absurd (let z : ◌≡◌ {A = ℕ} 0 1 = cc in omega arith)
          go (a_directory l b) e z = absurd (let z : ◌≡◌ {A = ℕ} 0 1 = cc in omega arith)

      pub entry_at : (x : Spot) → s ≡ Some x → EntryAt g vs (ok (taken path names name extension)) i d x.slot x.stamps x.entry
      entry_at x q = record { target = target; reached = is_reached; directory = there.2; at = subst (IsPlace g vs.pages (key name extension) items) q placed }

-- ---- what is found: under a file's key a file, and its chain stands; under a directory's a directory
module _ {g : Geometry} {vs : Views} {asked : Res Path} {i : Image} {d : Reached} {s : Slot} {m : ℕ} {e : Entry} (at : EntryAt g vs asked i d s m e) where
  abbrev to : Path
  to = at.target.to

  abbrev holder : Items
  holder = at.target.place.items

  tree : TreeAt g vs d.start holder
  tree = at.directory.tree

  pub file_at_lem : at.target.to.extension ≤ 99 → FileAt g vs asked i d s m e
  file_at_lem low = go (find (file_key to) holder) refl (find_stands g vs tree.levels (file_key to) holder tree.stands.below) at.at.found
    where
      go : (x : Found) → find (file_key to) holder ≡ x → FoundAt g vs tree.levels (file_key to) x → Some e ≡ entry_of x → FileAt g vs asked i d s m e
      go nothing j b z = absurd (let z : ◌≡◌ {A = ℕ} 0 1 = cc in omega arith)
      go (a_directory l b) j st z = absurd (no_directory (file_key to) to.name to.extension l refl low st.0 st.2)
      go (a_file l ls) j b z =
          let y : e ≡ file_entry l ls = cc in
          record {
            target = at.target;
            reached = at.reached;
            directory = at.directory;
            label = l;
            links = ls;
            found = j;
            entry_is = y;
            chain = subst (λ (x : Entry). ChainAt g (vs.file x.extension) x.start ls) (sym y) b.1;
            at = at.at;
          }

  pub subdirectory_at : at.target.to.extension ≡ 127 → SubdirectoryAt g vs asked i d s m e
  subdirectory_at is = go (find (file_key to) holder) refl (find_stands g vs tree.levels (file_key to) holder tree.stands.below) at.at.found
    where
      under : (n : ℕ) (b : Items) → Chained g vs.pages (start_of b) b → Under n (λ less. Below g vs less b) → TreeAt g vs (start_of b) b
      under zero b c u = absurd u
      under (suc n) b c u = record { levels = n; stands = record { chained = c; below = u } }

      go : (x : Found) → find (file_key to) holder ≡ x → FoundAt g vs tree.levels (file_key to) x → Some e ≡ entry_of x → SubdirectoryAt g vs asked i d s m e
      go nothing j b z = absurd (let z : ◌≡◌ {A = ℕ} 0 1 = cc in omega arith)
      go (a_file l ls) j b z = absurd (no_file (file_key to) to.name l (ap (key to.name) is) b.0 b.2)
      go (a_directory l b) j st z =
          let y : e ≡ directory_entry l b = cc in
          record {
            target = at.target;
            reached = at.reached;
            directory = at.directory;
            label = l;
            items = b;
            found = j;
            entry_is = y;
            tree = subst (λ (n : ℕ). TreeAt g vs n b) (sym (ap (λ (x : Entry). x.start) y)) (under tree.levels b st.1 st.3);
            at = at.at;
          }

-- ---- of a path that was asked for
module _ (g : Geometry) (vs : Views) (path : List ℕ) (r : Result PathLookup Refusal) where
  pub looks_file : LooksUp g vs (path_of path) r → Looks g vs path r
  looks_file h i c = go r (h i c)
    where
      go : (x : Result PathLookup Refusal) → AtPath g vs (path_of path) i (EntryAt g vs (path_of path) i) x → AtPath g vs (path_of path) i (FileAt g vs (path_of path) i) x
      go (Err z) a = a
      go (Ok (lookup.Absent d name extension)) a = a
      go (Ok (lookup.At d x)) a = file_at_lem a (file_low path a.target.to (reached (path_of path) i.tree a.target a.reached).formed)

  pub looks_directory : LooksUp g vs (directory_path_of path) r → LooksFor g vs path r
  looks_directory h i c = go r (h i c)
    where
      go : (x : Result PathLookup Refusal) → AtPath g vs (directory_path_of path) i (EntryAt g vs (directory_path_of path) i) x → AtPath g vs (directory_path_of path) i (SubdirectoryAt g vs (directory_path_of path) i) x
      go (Err z) a = a
      go (Ok (lookup.Absent d name extension)) a = a
      go (Ok (lookup.At d x)) a = subdirectory_at a (directory_extension path a.target.to (reached (directory_path_of path) i.tree a.target a.reached).formed)
