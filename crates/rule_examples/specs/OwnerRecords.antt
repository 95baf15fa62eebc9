-- Document 02, A8, on small images: the owner table of DEMO.12 and a file of two pages. Each chain's places begin with 0.
use Rattle.std.specs.Prelude.{◌≡◌, refl, List, [], ◌∷◌, ◌++◌, ℕ, replicate}
use Rattle.packet.specs.Packet.{write, after_writes}
use Rattle.rules.specs.Result.{Res, ok, err, and_then}
use Rattle.rules.specs.Chain.{views_of}
use Rattle.rules.specs.Check.{check}
use Rattle.rules.specs.Owners.{table_after}
use Rattle.rules.specs.Put.{put}
use Rattle.rule_examples.specs.Cases.{g, formatted, with_demo}
use Rattle.rule_examples.specs.Opened.{rules}

-- A.00 with 30 bytes, two pages, beside DEMO.12 in page 1
unfoldable pub two_files : Res (List ℕ)
two_files = and_then with_demo (put g (0x41 ∷ 32 ∷ 32 ∷ 32 ∷ 0 ∷ []) (replicate 30 0))

-- the table after a check of an image, over 65 bytes 9
abbrev table_of : Res (List ℕ) → List ℕ
table_of (ok image) = table_after 16 (check g (views_of g image)) (replicate 65 9)
table_of (err n p) = []

-- page 0 the root's, page 1 of the first entry, pages 2 and 3 of the second, the others free; the byte past the table stays
pub two_files_lem : table_of two_files ≡ (1 ∷ 0 ∷ 0 ∷ 0 ∷ 3 ∷ 0 ∷ 0 ∷ 0 ∷ 4 ∷ 0 ∷ 0 ∷ 0 ∷ 4 ∷ 0 ∷ 1 ∷ 0 ∷ []) ++ (replicate 48 0 ++ (9 ∷ []))
unfolding rules two_files formatted with_demo
two_files_lem = refl

-- a bitmap file on pages 9 and 2; F.00 on 5, 4 and 7; a directory D on 3 and 6 with G.00 on page 1
unfoldable pub nested : List ℕ
nested = after_writes g (
    write 0 (0xAA ∷ 0 ∷ 0 ∷ 0 ∷ 0 ∷ 9 ∷ 2 ∷ 0x46 ∷ 32 ∷ 32 ∷ 32 ∷ 0 ∷ 5 ∷ 3 ∷ 0x44 ∷ 32 ∷ 32 ∷ 32 ∷ 127 ∷ 3 ∷ 0 ∷ []) 0
    ∷ write 9 (0xFF ∷ []) 2 ∷ write 2 (2 ∷ []) 0
    ∷ write 5 [] 4 ∷ write 4 (1 ∷ []) 7 ∷ write 7 [] 0
    ∷ write 3 (0xAA ∷ 0x52 ∷ 0x4F ∷ 0x4F ∷ 0x54 ∷ 0 ∷ 0 ∷ []) 6 ∷ write 6 (0x47 ∷ 32 ∷ 32 ∷ 32 ∷ 0 ∷ 1 ∷ 1 ∷ []) 0
    ∷ write 1 [] 0 ∷ []) (replicate 512 0xFF)

-- owners 1 root, 2 bitmap file, 3 F, 4 D, 5 G; the places are those of each chain
pub each_chain : table_of (ok nested)
    ≡ (1 ∷ 0 ∷ 0 ∷ 0 ∷ 5 ∷ 0 ∷ 0 ∷ 0 ∷ 2 ∷ 0 ∷ 1 ∷ 0 ∷ 4 ∷ 0 ∷ 0 ∷ 0 ∷ 3 ∷ 0 ∷ 1 ∷ 0 ∷ 3 ∷ 0 ∷ 0 ∷ 0 ∷ 4 ∷ 0 ∷ 1 ∷ 0 ∷ 3 ∷ 0 ∷ 2 ∷ 0 ∷ 0 ∷ 0 ∷ 0 ∷ 0 ∷ 2 ∷ 0 ∷ 0 ∷ 0 ∷ [])
    ++ (replicate 24 0 ++ (9 ∷ []))
unfolding rules nested formatted with_demo
each_chain = refl

-- an image that is not accepted: all 0
pub not_accepted : table_of (ok (replicate 512 0)) ≡ replicate 64 0 ++ (9 ∷ [])
unfolding rules formatted with_demo
not_accepted = refl
