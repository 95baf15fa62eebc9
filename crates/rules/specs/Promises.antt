-- What the calls state of their answers: demands 2 and 3. `is_done` says that the answer is done, `told x` that it tells x.
use Rattle.std.specs.Prelude.{Some, ◌≡◌, Bool, ◌↔◌, ◌⊎◌, List, ℕ, length}
use Rattle.geometry.specs.declared.Geometry.{Geometry}
use Rattle.geometry.specs.Geometry.{geometry_of}
use Rattle.rules.specs.Result.{Res, err}
use Rattle.rules.specs.Tree.{Image}
use Rattle.rules.specs.Paths.{path_of, directory_path_of, a_file}
use Rattle.rules.specs.Candidate.{NotReadOnly, Absent, PutFile, EmptyDirectory, Demand3}
use Rattle.rules.specs.Directories.{new_directory}
use Rattle.rules.specs.Demand2.{WellFormedAt, Formatted, IsFile, Deleted, empty_directory, PutDone}

module _ (P N : ℕ) (image table : List ℕ) where
  -- check: done exactly when the image is well formed
  abbrev pub Accepts : Type 0 → Type 0
  Accepts is_done = is_done ↔ WellFormedAt P N image table

  -- list and read: of a well-formed image the answer is what its tree gives, and no other image has one that is done
  pub record TellsTree {A : Type 0} (question : Image → Res A) (told : Res A → Type 0) (is_done : Type 0) : Type 0 where
    pub tells : (w : WellFormedAt P N image table) → told (question w.reading)
    pub formed : is_done → WellFormedAt P N image table

  -- an edit: done, it leaves what `Left` says in its geometry; refused, it changes no byte
  pub record Leaves (Left : Geometry → Type 0) (is_done : Type 0) (after : List ℕ) : Type 0 where
    pub done : (g : Geometry) → geometry_of P N (length image) (length table) ≡ Some g → is_done → Left g
    pub refused : (is_done → ⊥) → after ≡ image

  -- format: it refuses with 1 or 4 alone
  abbrev pub Formats : Bool → Type 0 → (Res (Unit {0}) → Type 0) → List ℕ → Type 0
  Formats local is_done told after = Leaves (λ g. Formatted g local image after) is_done after × ((is_done → ⊥) → told (err 1 0) ⊎ told (err 4 0))

  abbrev pub Deletes : List ℕ → Type 0 → List ℕ → Type 0
  Deletes path is_done after = Leaves (λ g. Deleted g (path_of path) IsFile image after) is_done after

  -- put: demand 3 too
  abbrev pub Puts : List ℕ → List ℕ → Type 0 → (Res (Unit {0}) → Type 0) → List ℕ → Type 0
  Puts path bytes is_done told after = Leaves (λ g. PutDone g (path_of path) a_file (λ _. bytes) image after) is_done after
      × Demand3 P N image table (path_of path) NotReadOnly (PutFile bytes) is_done (told (err 17 0)) after

  -- document 02, A1: a making, with demand 3 whole
  abbrev pub Makes : List ℕ → Type 0 → (Res (Unit {0}) → Type 0) → List ℕ → Type 0
  Makes path is_done told after = Leaves (λ g. PutDone g (directory_path_of path) empty_directory (new_directory g) image after) is_done after
      × Demand3 P N image table (directory_path_of path) Absent EmptyDirectory is_done (told (err 17 0)) after

  -- and a removal
  abbrev pub Removes : List ℕ → Type 0 → List ℕ → Type 0
  Removes path is_done after = Leaves (λ g. Deleted g (directory_path_of path) EmptyDirectory image after) is_done after
