-- Document 02, A6, on a small image: LOAD.0 three directories deep, A, B and C, each of them hidden or not.
use Rattle.std.specs.Prelude.{◌≡◌, refl, List, [], ◌∷◌, ◌++◌, ℕ, take, drop, replicate}
use Rattle.packet.specs.Packet.{write, after_writes}
use Rattle.rules.specs.Result.{ok, and_then}
use Rattle.rules.specs.Chain.{views_of}
use Rattle.rules.specs.Check.{check}
use Rattle.rules.specs.Calls.{bytes_of, file_at}
use Rattle.rules.specs.Delete.{delete}
use Rattle.rules.specs.Put.{put}
use Rattle.rules.specs.Careful.{careful_put, careful_delete}
use Rattle.rule_examples.specs.Cases.{g, number_of}
use Rattle.rule_examples.specs.Opened.{rules}
use Rattle.rule_examples.specs.OwnerStamps.{LOAD}

-- the name of a directory, of one letter
abbrev pub name_of : ℕ → List ℕ
name_of x = x ∷ 32 ∷ 32 ∷ 32 ∷ []

-- the bytes of a directory's first page: the name and start page of the one above it, then an entry
abbrev below : List ℕ → ℕ → List ℕ → List ℕ
below up start entry = (0xAA ∷ up) ++ (0 ∷ start ∷ entry)

-- the extension bytes of a directory that is not hidden, and of one that is; of LOAD, and of LOAD read-only
abbrev pub visible : ℕ
visible = 127

abbrev pub hidden : ℕ
hidden = 255

abbrev pub plain : ℕ
plain = 0

abbrev pub read_only : ℕ
read_only = 128

-- A, B and C with these extension bytes on pages 1, 2 and 3, LOAD with this one on page 4
unfoldable pub deep : ℕ → ℕ → ℕ → ℕ → List ℕ
deep a b c x =
    let root : List ℕ = 0xAA ∷ 0 ∷ 128 ∷ 31 ∷ 0 ∷ 0 ∷ 0 ∷ [] in
    let in_c : List ℕ = take 4 LOAD ++ (x ∷ 4 ∷ 1 ∷ []) in
    after_writes g (write 0 (root ++ (name_of 65 ++ (a ∷ 1 ∷ 0 ∷ []))) 0
    ∷ write 1 (below (0x52 ∷ 0x4F ∷ 0x4F ∷ 0x54 ∷ []) 0 (name_of 66 ++ (b ∷ 2 ∷ 0 ∷ []))) 0
    ∷ write 2 (below (name_of 65) 1 (name_of 67 ++ (c ∷ 3 ∷ 0 ∷ []))) 0
    ∷ write 3 (below (name_of 66) 2 in_c) 0
    ∷ write 4 (7 ∷ 8 ∷ []) 0
    ∷ []) (replicate 512 0xFF)

-- the directories A, B and C of a path; LOAD in C, another file there, a directory that C does not have
abbrev pub above : List ℕ
above = name_of 65 ++ (name_of 66 ++ name_of 67)

abbrev to_load : List ℕ
to_load = above ++ LOAD

abbrev to_new : List ℕ
to_new = above ++ (name_of 78 ++ (0 ∷ []))

abbrev beyond : List ℕ
beyond = above ++ (name_of 90 ++ LOAD)

-- the four calls, with a file of one byte
abbrev edits : List ℕ → List ℕ → List ℕ
edits path image = number_of (put g path (1 ∷ []) image) ∷ number_of (delete g path image) ∷ number_of (careful_put g 100 path (1 ∷ []) image) ∷ number_of (careful_delete g 100 path image) ∷ []

-- whichever of the directories is hidden: 22; if none is, they are done
pub every_depth : (edits to_load (deep hidden visible visible plain) ≡ 22 ∷ 22 ∷ 22 ∷ 22 ∷ []) × (edits to_load (deep visible hidden visible plain) ≡ 22 ∷ 22 ∷ 22 ∷ 22 ∷ [])
    × (edits to_load (deep visible visible hidden plain) ≡ 22 ∷ 22 ∷ 22 ∷ 22 ∷ []) × (edits to_load (deep visible visible visible plain) ≡ 0 ∷ 0 ∷ 0 ∷ 0 ∷ [])
unfolding rules deep
every_depth = (refl, refl, refl, refl)

-- a new file too; 22 comes before 16 and 17 and after 14 and 15, for a delete also after its file's absence; a read-only file makes nothing hidden
pub in_order_lem : (edits to_load (deep visible hidden visible read_only) ≡ 22 ∷ 22 ∷ 22 ∷ 22 ∷ []) × (edits to_load (deep visible visible visible read_only) ≡ 16 ∷ 16 ∷ 16 ∷ 16 ∷ [])
    × (edits to_new (deep visible hidden visible plain) ≡ 22 ∷ 15 ∷ 22 ∷ 15 ∷ []) × (edits to_new (deep visible visible visible read_only) ≡ 0 ∷ 15 ∷ 0 ∷ 15 ∷ [])
    × (edits beyond (deep hidden visible visible plain) ≡ 15 ∷ 15 ∷ 15 ∷ 15 ∷ []) × (edits (drop 1 to_load) (deep hidden visible visible plain) ≡ 14 ∷ 14 ∷ 14 ∷ 14 ∷ [])
    × (number_of (careful_put g 100 to_load (replicate 400 1) (deep hidden visible visible plain)) ≡ 22) × (number_of (careful_put g 100 to_load (replicate 400 1) (deep visible visible visible plain)) ≡ 17)
    × (number_of (put g to_load (replicate 400 1) (deep hidden visible visible plain)) ≡ 22) × (number_of (put g to_load (replicate 400 1) (deep visible visible visible plain)) ≡ 17)
unfolding rules deep
in_order_lem = (refl, refl, refl, refl, refl, refl, refl, refl, refl, refl)

-- a read does not ask
pub read_there : (and_then (check g (views_of g (deep hidden visible hidden plain))) (file_at to_load) ≡ ok (7 ∷ 8 ∷ [])) × (and_then (check g (views_of g (deep visible visible visible plain))) (file_at to_load) ≡ ok (7 ∷ 8 ∷ []))
unfolding rules deep file_at bytes_of
read_there = (refl, refl)
