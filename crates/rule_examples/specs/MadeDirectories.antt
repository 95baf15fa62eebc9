-- Document 02, A1, on small images: a directory made in the root and one below it, a page that joins first, the order of the refusals, a directory removed.
use Rattle.std.specs.Prelude.{◌≡◌, refl, List, [], ◌∷◌, ◌++◌, ℕ, take}
use Rattle.geometry.specs.Page.{page_of}
use Rattle.rules.specs.Result.{Res, ok, and_then}
use Rattle.rules.specs.Directories.{make_directory, remove_directory}
use Rattle.rule_examples.specs.Cases.{g, number_of}
use Rattle.rule_examples.specs.Opened.{rules}
use Rattle.rule_examples.specs.OwnerStamps.{root, stamp_bytes, demo, told, checked, entries_after}
use Rattle.rule_examples.specs.HiddenDirectories.{name_of, visible, hidden, plain, above, deep}

-- the front of a page in an edit's result: its length byte and seven bytes of data
abbrev front_after : ℕ → Res (List ℕ) → List ℕ
front_after p r = told (and_then r λ image. ok (take 8 (page_of g p image)))

-- the bytes of a directory's page without entries: the name and start page of the one above it; and a directory's entry, not hidden, its count 0
abbrev empty_page : List ℕ → ℕ → List ℕ
empty_page up start = 8 ∷ ((0xAA ∷ up) ++ (0 ∷ start ∷ []))

abbrev entry_at : ℕ → ℕ → List ℕ
entry_at x p = name_of x ++ (127 ∷ p ∷ 0 ∷ [])

abbrev ROOT : List ℕ
ROOT = 0x52 ∷ 0x4F ∷ 0x4F ∷ 0x54 ∷ []

-- A in the root beside DEMO, then B in A, whose back reference is to A
pub made_in : (front_after 2 (make_directory g (name_of 65) (root demo)) ≡ empty_page ROOT 0) × (entries_after 14 (make_directory g (name_of 65) (root demo)) ≡ demo ++ entry_at 65 2)
    × (front_after 3 (and_then (make_directory g (name_of 65) (root demo)) (make_directory g (name_of 65 ++ name_of 66))) ≡ empty_page (name_of 65) 2)
unfolding rules root
made_in = (refl, refl, refl)

-- where the root's page is full, the lowest free page joins it with the entry, and the directory takes the next
pub joins_first : (front_after 2 (make_directory g (name_of 65) (root (stamp_bytes ++ (stamp_bytes ++ demo)))) ≡ 8 ∷ entry_at 65 3)
    × (front_after 3 (make_directory g (name_of 65) (root (stamp_bytes ++ (stamp_bytes ++ demo)))) ≡ empty_page ROOT 0)
unfolding rules root
joins_first = (refl, refl)

-- both calls, in an image
abbrev both : List ℕ → List ℕ → List ℕ
both path image = number_of (make_directory g path image) ∷ number_of (remove_directory g path image) ∷ []

-- C in A and B, with a file in it: there already, and not empty; hidden itself: there already for a making, 22 for a removal; below a hidden one 22 for both; a directory above it that is absent 15 for both;
-- also below a hidden one; itself absent: made, or 15; nine names, or none, or one with a byte that no name has, 14
pub judged : (both above (deep visible visible visible plain) ≡ 21 ∷ 20 ∷ []) × (both above (deep visible visible hidden plain) ≡ 21 ∷ 22 ∷ []) × (both above (deep visible hidden visible plain) ≡ 22 ∷ 22 ∷ [])
    × (both (name_of 90 ++ name_of 91) (deep hidden visible visible plain) ≡ 14 ∷ 14 ∷ []) × (both (name_of 90 ++ name_of 65) (deep hidden visible visible plain) ≡ 15 ∷ 15 ∷ [])
    × (both (name_of 65 ++ (name_of 90 ++ name_of 66)) (deep hidden visible visible plain) ≡ 15 ∷ 15 ∷ [])
    × (both (above ++ name_of 90) (deep visible visible visible plain) ≡ 0 ∷ 15 ∷ []) × (both (above ++ name_of 90) (deep hidden visible visible plain) ≡ 22 ∷ 15 ∷ [])
    × (both (above ++ (above ++ above)) (deep visible visible visible plain) ≡ 14 ∷ 14 ∷ []) × (both [] (deep visible visible visible plain) ≡ 14 ∷ 14 ∷ [])
unfolding rules deep
judged = (refl, refl, refl, refl, refl, refl, refl, refl, refl, refl)

-- made and removed again: pages in use, files and directories are those from before
pub all_free_lem : (told (and_then (and_then (make_directory g (name_of 65) (root demo)) (remove_directory g (name_of 65))) (λ image. ok (checked image))) ≡ 2 ∷ 1 ∷ 0 ∷ [])
    × (told (and_then (make_directory g (name_of 65) (root demo)) (λ image. ok (checked image))) ≡ 3 ∷ 1 ∷ 1 ∷ [])
unfolding rules root
all_free_lem = (refl, refl)
