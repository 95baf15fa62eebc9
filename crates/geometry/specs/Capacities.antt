-- Document 01's figures for the capacities, by computation: data bytes, entry, control field, entries in the first and in a continuation page.
use Rattle.std.specs.Prelude.{◌≡◌, refl, List, [], ◌∷◌, ℕ}
use Rattle.geometry.specs.declared.Geometry.{Geometry}
use Rattle.geometry.specs.Choose.{choose}
use Rattle.geometry.specs.Geometry.{width_for, data_capacity, entry_size, control_size, first_entries, later_entries}

abbrev sizes : ℕ → ℕ → Geometry
sizes size pages = record { size = size; pages = pages; width = width_for pages }

abbrev figures : ℕ → ℕ → List ℕ
figures size pages = let g = sizes size pages in data_capacity g ∷ entry_size g ∷ control_size g ∷ first_entries g ∷ later_entries g ∷ []

pub figures_are : ◌≡◌ {A = List (List ℕ)}
    (figures 32 256 ∷ figures 32 257 ∷ (later_entries (sizes 128 256) ∷ []) ∷ [])
    ((28 ∷ 7 ∷ 7 ∷ 3 ∷ 4 ∷ []) ∷ (27 ∷ 9 ∷ 8 ∷ 2 ∷ 3 ∷ []) ∷ (17 ∷ []) ∷ [])
unfolding choose width_for data_capacity entry_size control_size first_entries later_entries
figures_are = refl
