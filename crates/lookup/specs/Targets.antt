-- For contracts: what stands at a path of an accepted image, a file's or a directory's.
use Rattle.std.specs.Prelude.{Result, Ok, Err, ◌≡◌, List, ℕ}
use Rattle.refusals.specs.declared.Refusal.{Refusal}
use Rattle.geometry.specs.declared.Geometry.{Geometry}
use Rattle.rules.specs.declared.Entry.{Entry}
use Rattle.rules.specs.Answers.{refused}
use Rattle.rules.specs.Result.{Res, ok}
use Rattle.rules.specs.Chain.{Views, Link}
use Rattle.rules.specs.Tree.{Label, Items, file_entry, directory_entry, Image}
use Rattle.rules.specs.Check.{check}
use Rattle.rules.specs.Paths.{Path, path_of, directory_path_of, file_key, nothing, a_file, a_directory, find, Target, target_at}
use Rattle.chain.specs.KnownChain.{ChainAt}
use Rattle.entries.specs.declared.Slot.{Slot}
use Rattle.lookup.specs.declared.Reached.{Reached}
use Rattle.lookup.specs.declared.PathLookup.{PathLookup}
use Rattle.lookup.specs.declared.PathLookup.TheVariants as lookup
use Rattle.lookup.specs.Searches.{TreeAt, IsReached, PlaceOf}

module _ (g : Geometry) (vs : Views) (asked : Res Path) (i : Image) where
  -- its directory does not have what the path names
  pub record PathAbsent (d : Reached) (name extension : ℕ) : Type 0 where
    pub target : Target
    pub reached : target_at asked i.tree ≡ ok target
    pub name_is : target.to.name ≡ name
    pub extension_is : target.to.extension ≡ extension
    pub directory : IsReached g vs target.place d
    pub absent : find (file_key target.to) target.place.items ≡ nothing

  -- its directory, and its entry e at the place s, so many stamps right before it
  pub record EntryAt (d : Reached) (s : Slot) (stamped : ℕ) (e : Entry) : Type 0 where
    pub target : Target
    pub reached : target_at asked i.tree ≡ ok target
    pub directory : IsReached g vs target.place d
    pub at : PlaceOf g vs.pages (file_key target.to) target.place.items s stamped e

  -- the same, with the file that stands there and its chain
  pub record FileAt (d : Reached) (s : Slot) (stamped : ℕ) (e : Entry) : Type 0 where
    pub target : Target
    pub reached : target_at asked i.tree ≡ ok target
    pub directory : IsReached g vs target.place d
    pub label : Label
    pub links : List Link
    pub found : find (file_key target.to) target.place.items ≡ a_file label links
    pub entry_is : e ≡ file_entry label links
    pub chain : ChainAt g (vs.file e.extension) e.start links
    pub at : PlaceOf g vs.pages (file_key target.to) target.place.items s stamped e

  -- and with the directory that stands there
  pub record SubdirectoryAt (d : Reached) (s : Slot) (stamped : ℕ) (e : Entry) : Type 0 where
    pub target : Target
    pub reached : target_at asked i.tree ≡ ok target
    pub directory : IsReached g vs target.place d
    pub label : Label
    pub items : Items
    pub found : find (file_key target.to) target.place.items ≡ a_directory label items
    pub entry_is : e ≡ directory_entry label items
    pub tree : TreeAt g vs e.start items
    pub at : PlaceOf g vs.pages (file_key target.to) target.place.items s stamped e

  -- a refusal is the rule's; `At` says what stands there
  abbrev pub AtPath : (Reached → Slot → ℕ → Entry → Type 0) → Result PathLookup Refusal → Type 0
  AtPath At (Err z) = target_at asked i.tree ≡ refused z
  AtPath At (Ok (lookup.Absent d name extension)) = PathAbsent d name extension
  AtPath At (Ok (lookup.At d x)) = At d x.slot x.stamps x.entry

-- for whatever reading is accepted: an entry, a file, a directory
abbrev pub LooksUp : Geometry → Views → Res Path → Result PathLookup Refusal → Type 0
LooksUp g vs asked r = (i : Image) → check g vs ≡ ok i → AtPath g vs asked i (EntryAt g vs asked i) r

abbrev pub Looks : Geometry → Views → List ℕ → Result PathLookup Refusal → Type 0
Looks g vs path r = (i : Image) → check g vs ≡ ok i → AtPath g vs (path_of path) i (FileAt g vs (path_of path) i) r

abbrev pub LooksFor : Geometry → Views → List ℕ → Result PathLookup Refusal → Type 0
LooksFor g vs path r = (i : Image) → check g vs ≡ ok i → AtPath g vs (directory_path_of path) i (SubdirectoryAt g vs (directory_path_of path) i) r
