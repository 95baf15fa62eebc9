-- The starred examples of document 01, "Examples with their numbers" (case 9 as A3 has it), over the rules: one list, one claim, by computation.
use Rattle.std.specs.Prelude.{◌≡◌, refl, true, List, [], ◌∷◌, map, ℕ, ◌+◌, take, drop, replicate}
use Rattle.geometry.specs.declared.Geometry.{Geometry}
use Rattle.geometry.specs.Number.{number_bytes}
use Rattle.packet.specs.Packet.{check_of}
use Rattle.rules.specs.Result.{Res, ok, err, and_then}
use Rattle.rules.specs.Chain.{views_of}
use Rattle.rules.specs.Check.{check}
use Rattle.rules.specs.Owners.{totals}
use Rattle.rules.specs.Listing.{lines_of, line_at}
use Rattle.rules.specs.Format.{format}
use Rattle.rules.specs.Put.{put}
use Rattle.rules.specs.Delete.{delete}
use Rattle.rule_examples.specs.Opened.{rules}

-- P 32 and N pages
abbrev pub sizes : ℕ → Geometry
sizes N = record { size = 32; pages = N; width = 1 }

abbrev pub g : Geometry
g = sizes 16

-- format, P 32, N 16, local, over bytes FF
unfoldable pub formatted : Res (List ℕ)
formatted = format g true (replicate 512 0xFF)

-- a one-letter file with extension 0
abbrev letter : ℕ → List ℕ
letter c = c ∷ 32 ∷ 32 ∷ 32 ∷ 0 ∷ []

abbrev pub DEMO : List ℕ
DEMO = 0x44 ∷ 0x45 ∷ 0x4D ∷ 0x4F ∷ 12 ∷ []

unfoldable pub with_demo : Res (List ℕ)
with_demo = and_then formatted (put g DEMO (0x54 ∷ 0x45 ∷ 0x53 ∷ 0x54 ∷ []))

without : Res (List ℕ)
without = and_then with_demo (delete g DEMO)

-- n bytes of an image from a place on, or the number of the refusal
abbrev pub shown : ℕ → ℕ → Res (List ℕ) → List ℕ
shown at n (ok image) = take n (drop at image)
shown at n (err number p) = number ∷ []

-- the number of an answer
abbrev pub number_of : {A : Type 0} → Res A → ℕ
number_of (ok a) = 0
number_of (err n p) = n

-- pages in use, and the pages of the first entry, once the image is accepted
used_in : List ℕ → Res ℕ
used_in image = and_then (check g (views_of g image)) λ i. ok (totals i).used

entry_pages : List ℕ → Res ℕ
entry_pages image = and_then (check g (views_of g image)) λ i. and_then (line_at 0 (lines_of 0 i.tree)) λ x. ok x.pages

-- a value, or 100 and the number of the refusal
abbrev value_of : Res ℕ → ℕ
value_of (ok n) = n
value_of (err n p) = 100 + n

-- a file of so many bytes after format
unfoldable pub file_of : ℕ → Res (List ℕ)
file_of n = and_then formatted (put g DEMO (replicate n 0x41))

three_files : Res (List ℕ)
three_files = and_then formatted λ a. and_then (put g (letter 65) [] a) λ b. and_then (put g (letter 66) [] b) (put g (letter 67) [])

four_files : Res (List ℕ)
four_files = and_then three_files (put g (letter 68) [])

-- each example: what the rules give, and what document 01 prints
pub record Case : Type 0 where
  pub given : List ℕ
  pub printed : List ℕ

pub cases : List Case
cases =
    -- 1. page 1, 05 54 65 73 74 00: check 07 A0
    record { given = number_bytes 2 (check_of 1 (0x05 ∷ 0x54 ∷ 0x65 ∷ 0x73 ∷ 0x74 ∷ 0x00 ∷ [])); printed = 0x07 ∷ 0xA0 ∷ [] }
    -- 2. format: page 0
    ∷ record { given = shown 0 11 formatted; printed = 0x08 ∷ 0xAA ∷ 0x00 ∷ 0x80 ∷ 0x01 ∷ 0x00 ∷ 0x00 ∷ 0x00 ∷ 0x00 ∷ 0x30 ∷ 0x38 ∷ [] }
    -- 3. put DEMO.12, "TEST": page 0 and page 1
    ∷ record {
      given = shown 0 18 with_demo;
      printed = 0x0F ∷ 0xAA ∷ 0x00 ∷ 0x80 ∷ 0x03 ∷ 0x00 ∷ 0x00 ∷ 0x00 ∷ 0x44 ∷ 0x45 ∷ 0x4D ∷ 0x4F ∷ 0x0C ∷ 0x01 ∷ 0x01 ∷ 0x00 ∷ 0x73 ∷ 0xA5 ∷ [];
    }
    ∷ record { given = shown 32 8 with_demo; printed = 0x05 ∷ 0x54 ∷ 0x45 ∷ 0x53 ∷ 0x54 ∷ 0x00 ∷ 0x14 ∷ 0x6A ∷ [] }
    -- 4. delete it: page 0 starts as in 2, its bytes 11 to 17 stay; page 1 stays
    ∷ record {
      given = shown 0 18 without;
      printed = 0x08 ∷ 0xAA ∷ 0x00 ∷ 0x80 ∷ 0x01 ∷ 0x00 ∷ 0x00 ∷ 0x00 ∷ 0x00 ∷ 0x30 ∷ 0x38 ∷ 0x4F ∷ 0x0C ∷ 0x01 ∷ 0x01 ∷ 0x00 ∷ 0x73 ∷ 0xA5 ∷ [];
    }
    ∷ record { given = shown 32 32 without; printed = 0x05 ∷ 0x54 ∷ 0x45 ∷ 0x53 ∷ 0x54 ∷ 0x00 ∷ 0x14 ∷ 0x6A ∷ replicate 24 0xFF }
    -- 5. page 3, 05 54 45 53 54 00: check 15 88; page 2, 05 and five zeros: FE 48
    ∷ record { given = number_bytes 2 (check_of 3 (0x05 ∷ 0x54 ∷ 0x45 ∷ 0x53 ∷ 0x54 ∷ 0x00 ∷ [])); printed = 0x15 ∷ 0x88 ∷ [] }
    ∷ record { given = number_bytes 2 (check_of 2 (0x05 ∷ replicate 5 0)); printed = 0xFE ∷ 0x48 ∷ [] }
    -- 6. files of 0, 28, 29 bytes: 1, 1, 2 pages
    ∷ record { given = map (λ n. value_of (and_then (file_of n) entry_pages)) (0 ∷ 28 ∷ 29 ∷ []); printed = 1 ∷ 1 ∷ 2 ∷ [] }
    -- 7. a put of 420 bytes takes 15 pages; of 421 is 17; replacing the 420 by 420 is done
    ∷ record { given = value_of (and_then (file_of 420) entry_pages) ∷ number_of (file_of 421) ∷ []; printed = 15 ∷ 17 ∷ [] }
    ∷ record { given = number_of (and_then (file_of 420) (put g DEMO (replicate 420 0x42))) ∷ []; printed = 0 ∷ [] }
    -- 8. three one-page files, then a fourth: two pages more
    ∷ record { given = value_of (and_then three_files used_in) ∷ value_of (and_then four_files used_in) ∷ []; printed = 4 ∷ 6 ∷ [] }
    -- 9. N 32 local is formatted; N 33 local is 4 (A3)
    ∷ record {
      given = number_of (format (sizes 32) true (replicate 1024 0)) ∷ number_of (format (sizes 33) true (replicate 1056 0)) ∷ [];
      printed = 0 ∷ 4 ∷ [];
    }
    ∷ []

pub all_as_printed : map (λ (c : Case). c.given) cases ≡ map (λ (c : Case). c.printed) cases
unfolding rules cases formatted with_demo without used_in entry_pages file_of three_files four_files
all_as_printed = refl
