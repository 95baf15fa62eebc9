-- The order of a careful edit, write by write, on the image of example 3 (DEMO.12 in page 1); and what a program with another order leaves, which no careful call may.
use Rattle.std.specs.Prelude.{◌≡◌, refl, ◌⊎◌, List, [], ◌∷◌, ◌++◌, map, ℕ, zero, suc, get_or, take, drop, replicate}
use Rattle.std.proofs.Common.{ap, inl, inr, arith}
use Rattle.packet.specs.Packet.{Write, write, after_writes}
use Rattle.rules.specs.declared.WriteCount.{WriteCount}
use Rattle.rules.specs.Result.{Res, ok, err, and_then}
use Rattle.rules.specs.PageSets.{bit}
use Rattle.rules.specs.Chain.{views_of}
use Rattle.rules.specs.Check.{check}
use Rattle.rules.specs.Put.{put}
use Rattle.rules.specs.Calls.{Effect}
use Rattle.rules.specs.Careful.{careful_put, careful_delete, mend}
use Rattle.rules.specs.CarefulPromises.{MendDone, CarefullyPut, CarefullyDeleted}
use Rattle.reading_theorems.specs.Accepted.{accepted}
use Rattle.rule_examples.specs.Cases.{Case, g, DEMO, formatted, with_demo, number_of, file_of}
use Rattle.rule_examples.specs.KeptBytes.{demo}
use Rattle.rule_examples.specs.Opened.{rules}

-- the bytes put in place of "TEST"
abbrev GONE : List ℕ
GONE = 0x47 ∷ 0x4F ∷ 0x4E ∷ 0x45 ∷ []

-- what an image shows: length of the root's packet, marks of the first eight pages, start page of its first entry, the first data byte of page 1 and of page 2
abbrev shows : List ℕ → List ℕ
shows image = take 1 image ++ (take 1 (drop 4 image) ++ (take 1 (drop 13 image) ++ (take 1 (drop 33 image) ++ take 1 (drop 65 image))))

-- writes made, 1 if any are left, and what the image shows; or the number of the refusal
abbrev row : Res (Effect WriteCount) → List ℕ
row (ok x) = x.answer.made ∷ (bit x.answer.left ∷ shows x.image)
row (err n p) = n ∷ []

-- the root's page with these marks of the first eight pages, and DEMO.12 at this start page
abbrev root : ℕ → ℕ → Write
root marks start = write 0 (0xAA ∷ 0 ∷ 0x80 ∷ marks ∷ 0 ∷ 0 ∷ 0 ∷ 0x44 ∷ 0x45 ∷ 0x4D ∷ 0x4F ∷ 12 ∷ start ∷ 1 ∷ []) 0

-- page 1 released before the entry is written that leads to page 2
unfoldable pub released_early : List ℕ
released_early = after_writes g (root 7 1 ∷ (write 2 GONE 0 ∷ (root 5 1 ∷ []))) demo

-- page 1 released before its entry goes
unfoldable pub released_first : List ℕ
released_first = after_writes g (root 1 1 ∷ []) demo

-- the file written and its entry not: its marks as a mend leaves them that clears nothing
unfoldable pub halfway : List ℕ
halfway = after_writes g (root 7 1 ∷ (write 2 GONE 0 ∷ [])) demo

-- 8 pages of bytes
abbrev eight : List ℕ
eight = replicate 224 0x41

pub orders : List Case
orders =
    -- a put with so many writes allowed: marks for page 2, the file in page 2, the entry that leads to it, the mark of page 1 cleared; page 1 keeps its bytes
    record { given = row (careful_put g 0 DEMO GONE demo); printed = 0 ∷ 1 ∷ 15 ∷ 3 ∷ 1 ∷ 0x54 ∷ 0xFF ∷ [] }
    ∷ record { given = row (careful_put g 1 DEMO GONE demo); printed = 1 ∷ 1 ∷ 15 ∷ 7 ∷ 1 ∷ 0x54 ∷ 0xFF ∷ [] }
    ∷ record { given = row (careful_put g 2 DEMO GONE demo); printed = 2 ∷ 1 ∷ 15 ∷ 7 ∷ 1 ∷ 0x54 ∷ 0x47 ∷ [] }
    ∷ record { given = row (careful_put g 3 DEMO GONE demo); printed = 3 ∷ 1 ∷ 15 ∷ 7 ∷ 2 ∷ 0x54 ∷ 0x47 ∷ [] }
    ∷ record { given = row (careful_put g 4 DEMO GONE demo); printed = 4 ∷ 0 ∷ 15 ∷ 5 ∷ 2 ∷ 0x54 ∷ 0x47 ∷ [] }
    ∷ record { given = row (careful_put g 5 DEMO GONE demo); printed = 4 ∷ 0 ∷ 15 ∷ 5 ∷ 2 ∷ 0x54 ∷ 0x47 ∷ [] }
    -- the file written before its page is marked; and over page 1, which the replaced one has
    ∷ record { given = shows (after_writes g (write 2 GONE 0 ∷ []) demo); printed = 15 ∷ 3 ∷ 1 ∷ 0x54 ∷ 0x47 ∷ [] }
    ∷ record { given = shows (after_writes g (write 1 GONE 0 ∷ []) demo); printed = 15 ∷ 3 ∷ 1 ∷ 0x47 ∷ 0xFF ∷ [] }
    -- a delete: the entry goes, then the mark of page 1
    ∷ record { given = row (careful_delete g 0 DEMO demo); printed = 0 ∷ 1 ∷ 15 ∷ 3 ∷ 1 ∷ 0x54 ∷ 0xFF ∷ [] }
    ∷ record { given = row (careful_delete g 1 DEMO demo); printed = 1 ∷ 1 ∷ 8 ∷ 3 ∷ 1 ∷ 0x54 ∷ 0xFF ∷ [] }
    ∷ record { given = row (careful_delete g 2 DEMO demo); printed = 2 ∷ 0 ∷ 8 ∷ 1 ∷ 1 ∷ 0x54 ∷ 0xFF ∷ [] }
    ∷ record { given = row (careful_delete g 3 DEMO demo); printed = 2 ∷ 0 ∷ 8 ∷ 1 ∷ 1 ∷ 0x54 ∷ 0xFF ∷ [] }
    -- the replaced chain is not free: 8 pages in place of 8 of 15 are 17, where a plain put is done
    ∷ record { given = number_of (and_then (file_of 224) (careful_put g 9 DEMO eight)) ∷ []; printed = 17 ∷ [] }
    ∷ record { given = number_of (and_then (file_of 224) (put g DEMO eight)) ∷ []; printed = 0 ∷ [] }
    -- no mend takes an image in which a page of a file is unmarked; no check accepts marks without an owner
    ∷ record { given = number_of (mend g released_early) ∷ number_of (mend g released_first) ∷ number_of (check g (views_of g halfway)) ∷ []; printed = 13 ∷ 13 ∷ 13 ∷ [] }
    ∷ []

pub all_in_order : map (λ (c : Case). c.given) orders ≡ map (λ (c : Case). c.printed) orders
unfolding rules orders released_early released_first halfway file_of formatted with_demo
all_in_order = refl

-- ---- what a careful put may leave, whatever number of writes is allowed: a new page is marked before it is written, and page 1 keeps its bytes
abbrev marks_of : List ℕ → ℕ
marks_of image = get_or (shows image) 1 0

abbrev first_of : List ℕ → ℕ
first_of image = get_or (shows image) 3 0

abbrev second_of : List ℕ → ℕ
second_of image = get_or (shows image) 4 0

abbrev left_by : Res (Effect WriteCount) → List ℕ
left_by (ok x) = x.image
left_by (err n p) = []

-- marks without page 2 and bytes in page 2 do not go together
pub marked_first : (k : ℕ) → (first_of (left_by (careful_put g k DEMO GONE demo)) ≡ 0x54) × ((marks_of (left_by (careful_put g k DEMO GONE demo)) ≡ 3 → ⊥) ⊎ (second_of (left_by (careful_put g k DEMO GONE demo)) ≡ 0xFF))
unfolding rules formatted with_demo
marked_first zero = (refl, inr refl)
marked_first (suc zero) = (refl, inr refl)
marked_first (suc (suc zero)) = (refl, inl (λ e. absurd (omega arith)))
marked_first (suc (suc (suc zero))) = (refl, inl (λ e. absurd (omega arith)))
marked_first (suc (suc (suc (suc zero)))) = (refl, inl (λ e. absurd (omega arith)))
marked_first (suc (suc (suc (suc (suc k))))) = (refl, inl (λ e. absurd (omega arith)))

-- the last row, number by number
last_row : (k : ℕ) → get_or (get_or (map (λ (c : Case). c.given) orders) 14 []) k 0 ≡ get_or (13 ∷ 13 ∷ 13 ∷ []) k 0
unfolding orders
last_row k = ap (λ (rows : List (List ℕ)). get_or (get_or rows 14 []) k 0) all_in_order

-- so no number of writes allowed lets a careful put, or a careful delete, leave what releases too early leave
pub put_releases_last : (k : ℕ) (count : WriteCount) → CarefullyPut g k DEMO GONE demo count released_early → ⊥
unfolding orders
put_releases_last k count d =
    let e : number_of (mend g released_early) ≡ 13 = last_row 0 in
    let f : number_of (mend g released_early) ≡ 0 = ap number_of d.stops.mend_is in
    absurd (omega arith)

pub delete_releases_last : (k : ℕ) (count : WriteCount) → CarefullyDeleted g k DEMO demo count released_first → ⊥
unfolding orders
delete_releases_last k count d =
    let e : number_of (mend g released_first) ≡ 13 = last_row 1 in
    let f : number_of (mend g released_first) ≡ 0 = ap number_of d.stops.mend_is in
    absurd (omega arith)

-- and a mend does not leave the marks without an owner
pub mend_clears : (cleared : ℕ) → MendDone g halfway cleared halfway → ⊥
unfolding orders
mend_clears cleared d =
    let e : number_of (check g (views_of g halfway)) ≡ 13 = last_row 2 in
    let f : number_of (check g (views_of g halfway)) ≡ 0 = ap number_of (accepted g halfway d.tree d.well_formed) in
    absurd (omega arith)
