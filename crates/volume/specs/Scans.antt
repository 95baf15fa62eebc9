-- For contracts: the two halves of the check over an owner table.
use Rattle.rules.specs.Answers.{refused}
use Rattle.refusals.specs.declared.Refusal.{Refusal}
use Rattle.std.specs.Prelude.{Result, Ok, Err, ◌≡◌, List, ℕ, suc, length, Option}
use Rattle.geometry.specs.declared.Geometry.{Geometry}
use Rattle.packet.specs.Packet.{Packet, bad, good}
use Rattle.rules.specs.declared.Totals.{Totals}
use Rattle.rules.specs.Result.{Res, ok, err}
use Rattle.rules.specs.Chain.{Views}
use Rattle.rules.specs.Tree.{map_pages, Image}
use Rattle.rules.specs.Control.{the_root, head_of, root_page}
use Rattle.rules.specs.Owners.{OwnerRecord, own, owners, totals}
use Rattle.owners.specs.Owned.{Represents, all_free}
use Rattle.rules.specs.Check.{Scan, judge_map_file, judge_bits, judge_directory, judge_sub, scan, check}
use Rattle.directory.specs.declared.control.Root.{Root}
use Rattle.directory.specs.Faults.{control}
use Rattle.bitmap.specs.Bits.{Compares}
use Rattle.walk.specs.Walks.{Answers, plus_directory, own_directory}

-- page 0's packet (2), then the root's control field
abbrev pub root_of : Geometry → Packet → Res Root
root_of g bad = err 2 0
root_of g (good b n) = control g.width (head_of g b)

-- no entry yet, so many pages in use
abbrev pub no_entries : ℕ → Totals
no_entries n = record { used = n; files = 0; directories = 0 }

-- the bitmap file claimed in an empty table
unfoldable pub MapClaimed : Geometry → Views → ℕ → ℕ → Result Totals Refusal → List OwnerRecord → Type 0
MapClaimed g vs start pages r u = Answers (λ m. no_entries (length (map_pages m))) (λ m. own 2 (map_pages m) (all_free g.pages)) (judge_map_file g vs (suc g.pages) start pages) r u

-- the root walked in a table that has the bitmap file
abbrev pub RootWalked : Geometry → Views → ℕ → List OwnerRecord → Result Totals Refusal → List OwnerRecord → Type 0
RootWalked g vs n t r u = (claimed : List ℕ) → Represents t claimed → Answers (plus_directory (no_entries n)) (own_directory 1 0 t) (judge_directory g vs (suc g.pages) (judge_sub g vs (suc g.pages) 8) (root_page g) the_root claimed 0) r u

-- the first half of the check
abbrev pub Scanned : Geometry → Views → Result Totals Refusal → List OwnerRecord → Type 0
Scanned g vs r u = Answers (λ s. totals s.image) (λ s. owners g.pages s.image) (scan g vs) r u

abbrev pub IsScanned : Geometry → Views → Type 0
IsScanned g vs = (s : Scan) × (scan g vs ≡ ok s)

-- the second half: the bits of a scanned image's bitmap
abbrev pub BitsCompared : Geometry → Views → List OwnerRecord → Option ℕ → Type 0
BitsCompared g vs table r = (s : Scan) → scan g vs ≡ ok s → (used : List ℕ) → Represents table used → Compares (judge_bits s.raw used) r

-- both halves: the totals and the table of an accepted image, else its refusal
abbrev pub ImageJudged : Geometry → Views → Result Totals Refusal → List OwnerRecord → Type 0
ImageJudged g vs (Ok d) u = (i : Image) × (check g vs ≡ ok i) × (d ≡ totals i) × (u ≡ owners g.pages i)
ImageJudged g vs (Err z) u = check g vs ≡ refused z

-- with an empty table after a refusal
abbrev pub TableChecked : Geometry → Views → Result Totals Refusal → List OwnerRecord → Type 0
TableChecked g vs (Ok d) u = (i : Image) × (check g vs ≡ ok i) × (d ≡ totals i) × (u ≡ owners g.pages i)
TableChecked g vs (Err z) u = (check g vs ≡ refused z) × (u ≡ all_free g.pages)
