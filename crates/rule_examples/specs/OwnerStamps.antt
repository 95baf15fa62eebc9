-- Document 02, A2, on small images: DEMO.12 with a stamp before it, accepted, listed, replaced, deleted, and with a new file beside it; a stamp with no entry after it; a stamp before an entry that is at fault.
use Rattle.std.specs.Prelude.{◌≡◌, refl, List, [], ◌∷◌, ◌++◌, ℕ, take, drop, replicate}
use Rattle.geometry.specs.Number.{number_bytes}
use Rattle.geometry.specs.Page.{page_of}
use Rattle.packet.specs.Packet.{write, after_writes}
use Rattle.rules.specs.Result.{Res, ok, err, and_then}
use Rattle.rules.specs.Chain.{views_of}
use Rattle.rules.specs.Check.{check}
use Rattle.rules.specs.Owners.{totals}
use Rattle.rules.specs.Listing.{lines_of, line_at}
use Rattle.rules.specs.Delete.{delete}
use Rattle.rules.specs.Put.{put}
use Rattle.rule_examples.specs.Cases.{g, DEMO}
use Rattle.rule_examples.specs.Opened.{rules}

-- a root page of these entries, its bitmap with pages 0 and 1 marked; page 1 holds one byte
unfoldable pub root : List ℕ → List ℕ
root entries = after_writes g (write 0 ((0xAA ∷ 0 ∷ 128 ∷ 3 ∷ 0 ∷ 0 ∷ 0 ∷ []) ++ entries) 0 ∷ write 1 (7 ∷ []) 0 ∷ []) (replicate 512 0xFF)

-- a stamp whose other bytes would be a start page past the image and a wrong count
abbrev pub stamp_bytes : List ℕ
stamp_bytes = 128 ∷ 1 ∷ 2 ∷ 3 ∷ 126 ∷ 200 ∷ 9 ∷ []

-- the entry of DEMO.12, with one page from page 1 on
abbrev pub demo : List ℕ
demo = DEMO ++ (1 ∷ 1 ∷ [])

-- the path of LOAD.0, and its entry with one page from page p on
abbrev pub LOAD : List ℕ
LOAD = 0x4C ∷ 0x4F ∷ 0x41 ∷ 0x44 ∷ 0 ∷ []

abbrev load : ℕ → List ℕ
load p = LOAD ++ (p ∷ 1 ∷ [])

-- what an answer tells, or the refusal and its page
abbrev pub told : Res (List ℕ) → List ℕ
told (ok x) = x
told (err number p) = number ∷ p ∷ []

-- pages in use, files and directories; or the refusal and its page
abbrev pub checked : List ℕ → List ℕ
checked image = told (and_then (check g (views_of g image)) λ i. ok ((totals i).used ∷ (totals i).files ∷ (totals i).directories ∷ []))

-- the entries of the root's page in an edit's result, so many bytes
abbrev pub entries_after : ℕ → Res (List ℕ) → List ℕ
entries_after n r = told (and_then r λ image. ok (take n (drop 8 (page_of g 0 image))))

-- the name and start page at a walk position; or the refusal and its page
abbrev listed : ℕ → List ℕ → List ℕ
listed k image = told (and_then (check g (views_of g image)) λ i. and_then (line_at k (lines_of 0 i.tree)) λ x. ok (number_bytes 4 x.name ++ (x.start ∷ [])))

-- stamps are accepted, and count neither as files nor as pages; one alone is 10 at its page, one before a bad name leaves it at 9
pub accepted : (checked (root (stamp_bytes ++ demo)) ≡ 2 ∷ 1 ∷ 0 ∷ []) × (checked (root (demo ++ stamp_bytes)) ≡ 10 ∷ 0 ∷ []) × (checked (root (stamp_bytes ++ (0x64 ∷ drop 1 demo))) ≡ 9 ∷ 0 ∷ [])
unfolding rules root
accepted = (refl, refl, refl)

-- a stamp has no line and no walk position
pub passed_over : (listed 0 (root (stamp_bytes ++ demo)) ≡ 0x44 ∷ 0x45 ∷ 0x4D ∷ 0x4F ∷ 1 ∷ []) × (listed 1 (root (stamp_bytes ++ demo)) ≡ 15 ∷ 0 ∷ [])
unfolding rules root
passed_over = (refl, refl)

-- a replaced file keeps its stamp; a deleted one loses it, so a new one of its name has none
pub edited_with : (entries_after 14 (put g DEMO (1 ∷ 2 ∷ []) (root (stamp_bytes ++ demo))) ≡ stamp_bytes ++ demo)
    × (entries_after 7 (and_then (delete g DEMO (root (stamp_bytes ++ demo))) (put g DEMO (1 ∷ []))) ≡ demo)
unfolding rules root
edited_with = (refl, refl)

-- a new entry comes behind a page's last entry, so never between a stamp and its entry; a stamp takes a slot: with two before DEMO the page is full, and a page joins
pub new_behind : (entries_after 21 (put g LOAD [] (root (stamp_bytes ++ demo))) ≡ stamp_bytes ++ (demo ++ load 2))
    × (told (and_then (put g LOAD [] (root (stamp_bytes ++ (stamp_bytes ++ demo)))) λ image. ok (take 8 (page_of g 2 image))) ≡ 8 ∷ load 3)
unfolding rules root
new_behind = (refl, refl)
