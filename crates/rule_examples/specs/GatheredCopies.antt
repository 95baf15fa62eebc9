-- Document 02, A7, on small images: a page of the root without entries goes, a stamp stays with its entry, the root's further page comes before the files, a second image of another length is refused.
use Rattle.std.specs.Prelude.{◌≡◌, refl, false, List, [], ◌∷◌, ◌++◌, ℕ, take, drop, replicate}
use Rattle.geometry.specs.Page.{page_of}
use Rattle.rules.specs.Result.{ok, err}
use Rattle.rules.specs.Calls.{format_call, put_call, delete_call}
use Rattle.gathering.specs.Gather.{fits_here, gathered_image, gathered_bytes, gather, gather_call}
use Rattle.rule_examples.specs.Cases.{g, DEMO}
use Rattle.rule_examples.specs.Opened.{rules}
use Rattle.rule_examples.specs.OwnerStamps.{root, stamp_bytes, LOAD, checked}
use Rattle.rule_examples.specs.HiddenDirectories.{visible, hidden, read_only, deep}
use Rattle.rule_examples.specs.EditOrders.{full, table, Left, put_in, delete_in}

-- a gathering of 16 pages of 32 bytes into a second image of that length, all 0
abbrev gathered : List ℕ → Left
gathered image = gather_call 32 16 image (replicate 512 0) table

-- the root's page was full with DEMO and its two stamps; LOAD was put, so a page joined the root
abbrev grown : List ℕ
grown = (put_in LOAD (5 ∷ []) full).1

-- the entries of a page with so many bytes before them
abbrev entries_in : ℕ → ℕ → ℕ → List ℕ → List ℕ
entries_in p before n image = take n (drop before (page_of g p image))

-- then DEMO was deleted: the root's first page is empty, three pages are in use. The copy has LOAD's entry there and two pages in use; every other byte of its file's page and of the next is FF
pub page_goes : (checked (delete_in DEMO grown).1 ≡ 3 ∷ 1 ∷ 0 ∷ []) × ((gathered (delete_in DEMO grown).1).0 ≡ ok tt) × (checked (gathered (delete_in DEMO grown).1).1 ≡ 2 ∷ 1 ∷ 0 ∷ [])
    × (entries_in 0 8 7 (gathered (delete_in DEMO grown).1).1 ≡ LOAD ++ (1 ∷ 1 ∷ []))
    × (take 3 (page_of g 1 (gathered (delete_in DEMO grown).1).1) ≡ 2 ∷ 5 ∷ 0 ∷ []) × (drop 5 (page_of g 1 (gathered (delete_in DEMO grown).1).1) ≡ replicate 27 0xFF)
    × (page_of g 2 (gathered (delete_in DEMO grown).1).1 ≡ replicate 32 0xFF)
unfolding rules root put_call delete_call fits_here gathered_image gathered_bytes gather gather_call
page_goes = (refl, refl, refl, refl, refl, refl, refl)

-- with DEMO and its stamps: they fill the first page, LOAD is on a page of the root's that comes before the files' pages; the table tells of the copy: pages of the root, DEMO and LOAD
pub in_order_lem : (entries_in 0 8 21 (gathered grown).1 ≡ stamp_bytes ++ (stamp_bytes ++ (DEMO ++ (2 ∷ 1 ∷ [])))) × (entries_in 1 1 7 (gathered grown).1 ≡ LOAD ++ (3 ∷ 1 ∷ []))
    × (take 16 (gathered grown).2 ≡ 1 ∷ 0 ∷ 0 ∷ 0 ∷ 1 ∷ 0 ∷ 1 ∷ 0 ∷ 3 ∷ 0 ∷ 0 ∷ 0 ∷ 4 ∷ 0 ∷ 0 ∷ 0 ∷ [])
unfolding rules root put_call fits_here gathered_image gathered_bytes gather gather_call
in_order_lem = (refl, refl, refl)

-- a second image of another length is 1 before everything, also for a source that a check refuses; such a source gives the check's answer; nothing changes, but for 1 the table is filled
pub refused : (gather_call 32 16 full (replicate 511 0) table ≡ (err 1 0, replicate 511 0, table)) × (gather_call 32 16 (replicate 512 0) (replicate 511 0) table ≡ (err 1 0, replicate 511 0, table))
    × (gather_call 32 16 (replicate 512 0) (replicate 512 7) (replicate 65 9) ≡ (err 2 0, replicate 512 7, replicate 64 0 ++ (9 ∷ [])))
unfolding rules root fits_here gathered_image gathered_bytes gather gather_call
refused = (refl, refl, refl)

-- what stands gathered already stays byte for byte: three directories one in the other, two of them hidden, with a read-only file; an image with a bitmap file
abbrev nested : List ℕ
nested = deep hidden visible hidden read_only

abbrev with_file : List ℕ
with_file = (put_in LOAD (5 ∷ []) (format_call 32 16 (replicate 512 0xFF) table false).1).1

pub stays : ((gathered nested).0 ≡ ok tt) × ((gathered nested).1 ≡ nested) × (checked with_file ≡ 3 ∷ 1 ∷ 0 ∷ []) × ((gathered with_file).0 ≡ ok tt) × ((gathered with_file).1 ≡ with_file)
unfolding rules root deep put_call format_call fits_here gathered_image gathered_bytes gather gather_call
stays = (refl, refl, refl, refl, refl)
