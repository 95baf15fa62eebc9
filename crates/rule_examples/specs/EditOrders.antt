-- Document 02, A13, on small images: two edits in both orders. Where a put and a delete meet in a full directory the pages in use differ; two puts at one path differ in bytes; two puts at different paths do not.
use Rattle.std.specs.Prelude.{◌≡◌, refl, List, [], ◌∷◌, ◌++◌, ℕ, replicate}
use Rattle.rules.specs.Result.{Res, ok, and_then}
use Rattle.rules.specs.Chain.{views_of}
use Rattle.rules.specs.Check.{check}
use Rattle.rules.specs.Calls.{bytes_of, file_at, put_call, delete_call}
use Rattle.rule_examples.specs.Cases.{g, DEMO}
use Rattle.rule_examples.specs.Opened.{rules}
use Rattle.rule_examples.specs.OwnerStamps.{root, stamp_bytes, demo, LOAD, told, checked}

-- a root whose page is full: DEMO.12 with two stamps before it
abbrev pub full : List ℕ
full = root (stamp_bytes ++ (stamp_bytes ++ demo))

-- the path of NAIL.1
abbrev NAIL : List ℕ
NAIL = 0x4E ∷ 0x41 ∷ 0x49 ∷ 0x4C ∷ 1 ∷ []

-- an owner table as lent: four bytes for each of 16 pages
abbrev pub table : List ℕ
table = replicate 64 0

-- the calls put and delete on an image of 16 pages of 32 bytes: the answer, and the image and the owner table that they leave
abbrev pub Left : Type 0
Left = Res (Unit {0}) × List ℕ × List ℕ

abbrev pub put_in : List ℕ → List ℕ → List ℕ → Left
put_in path bytes image = put_call 32 16 image table path bytes

abbrev pub delete_in : List ℕ → List ℕ → Left
delete_in path image = delete_call 32 16 image table path

-- two calls, one after the other: both answers; pages in use, files and directories of the image that they leave; what a path reads there
abbrev answers : (List ℕ → Left) → (List ℕ → Left) → List ℕ → Res (Unit {0}) × Res (Unit {0})
answers first second image = ((first image).0, (second (first image).1).0)

abbrev totals_of : (List ℕ → Left) → (List ℕ → Left) → List ℕ → List ℕ
totals_of first second image = checked (second (first image).1).1

abbrev read_in : List ℕ → (List ℕ → Left) → (List ℕ → Left) → List ℕ → List ℕ
read_in path first second image = told (and_then (check g (views_of g (second (first image).1).1)) (file_at path))

-- both are done
abbrev done : Res (Unit {0}) × Res (Unit {0})
done = (ok tt, ok tt)

-- a put of LOAD and a delete of DEMO: put first, a page joins the root, which keeps it; deleted first, there is space. All four calls are done, the files are the same, the pages in use are not
pub pages_differ : (answers (put_in LOAD (5 ∷ [])) (delete_in DEMO) full ≡ done) × (answers (delete_in DEMO) (put_in LOAD (5 ∷ [])) full ≡ done)
    × (totals_of (put_in LOAD (5 ∷ [])) (delete_in DEMO) full ≡ 3 ∷ 1 ∷ 0 ∷ []) × (totals_of (delete_in DEMO) (put_in LOAD (5 ∷ [])) full ≡ 2 ∷ 1 ∷ 0 ∷ [])
    × (read_in LOAD (put_in LOAD (5 ∷ [])) (delete_in DEMO) full ≡ 5 ∷ []) × (read_in LOAD (delete_in DEMO) (put_in LOAD (5 ∷ [])) full ≡ 5 ∷ [])
unfolding rules root bytes_of file_at put_call delete_call
pages_differ = (refl, refl, refl, refl, refl, refl)

-- two puts at one path, all done: the later one stands
pub bytes_differ : (answers (put_in LOAD (5 ∷ [])) (put_in LOAD (6 ∷ [])) full ≡ done) × (answers (put_in LOAD (6 ∷ [])) (put_in LOAD (5 ∷ [])) full ≡ done)
    × (read_in LOAD (put_in LOAD (5 ∷ [])) (put_in LOAD (6 ∷ [])) full ≡ 6 ∷ []) × (read_in LOAD (put_in LOAD (6 ∷ [])) (put_in LOAD (5 ∷ [])) full ≡ 5 ∷ [])
unfolding rules root bytes_of file_at put_call
bytes_differ = (refl, refl, refl, refl)

-- two puts at different paths, all done, the root grows at the first of either order: as many pages in use, the same files and bytes
pub both_orders : (answers (put_in LOAD (5 ∷ [])) (put_in NAIL (6 ∷ [])) full ≡ done) × (answers (put_in NAIL (6 ∷ [])) (put_in LOAD (5 ∷ [])) full ≡ done)
    × (totals_of (put_in LOAD (5 ∷ [])) (put_in NAIL (6 ∷ [])) full ≡ 5 ∷ 3 ∷ 0 ∷ []) × (totals_of (put_in NAIL (6 ∷ [])) (put_in LOAD (5 ∷ [])) full ≡ 5 ∷ 3 ∷ 0 ∷ [])
    × (read_in LOAD (put_in LOAD (5 ∷ [])) (put_in NAIL (6 ∷ [])) full ≡ 5 ∷ []) × (read_in LOAD (put_in NAIL (6 ∷ [])) (put_in LOAD (5 ∷ [])) full ≡ 5 ∷ [])
    × (read_in NAIL (put_in LOAD (5 ∷ [])) (put_in NAIL (6 ∷ [])) full ≡ 6 ∷ []) × (read_in NAIL (put_in NAIL (6 ∷ [])) (put_in LOAD (5 ∷ [])) full ≡ 6 ∷ [])
unfolding rules root bytes_of file_at put_call
both_orders = (refl, refl, refl, refl, refl, refl, refl, refl)
