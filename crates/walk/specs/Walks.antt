-- For contracts: the walk over the entries of a directory against the order of the check, with the totals and the owner table that follow from the tree.
use Rattle.std.specs.Prelude.{◌≡◌, Result, Ok, Err, not, List, ℕ, zero, suc, ◌+◌, ◌≤◌, ◌<◌, ltb, eqb, length, take}
use Rattle.geometry.specs.declared.Geometry.{Geometry}
use Rattle.geometry.specs.Geometry.{control_size}
use Rattle.packet.specs.Packet.{View}
use Rattle.rules.specs.declared.Entry.{Entry}
use Rattle.rules.specs.declared.Totals.{Totals}
use Rattle.rules.specs.Result.{Res, ok, err, and_after as ◌>>◌, refuse_unless}
use Rattle.rules.specs.PageSets.{mem}
use Rattle.rules.specs.Chain.{Views, Link, pages, Test}
use Rattle.rules.specs.Names.{key}
use Rattle.rules.specs.Tree.{Items, own_pages, inner_pages}
use Rattle.rules.specs.Owners.{OwnerRecord, file_count, directory_count, own, own_entries}
use Rattle.owners.specs.Owned.{Represents}
use Rattle.owners.specs.OwnerLaws.{in_use}
use Rattle.rules.specs.Check.{Part, chain, directory, judge_label, judge_file, judge_entry, judge_directory, judge_sub}
use Rattle.rules.specs.Answers.{refused, answer_of}
use Rattle.entries.specs.EntrySlots.{chain_keys}
use Rattle.walk.specs.declared.Directory.{Directory}
use Rattle.refusals.specs.declared.Refusal.{Refusal}
use Rattle.chain.specs.KnownChain.{ChainAt}

-- the totals inside a directory whose chain is claimed: each entry and the directory itself have a page, and so has a bitmap file, which many pages need
pub record Good (g : Geometry) (c : Totals) (table : List OwnerRecord) : Type 0 where
  pub used_is : c.used ≡ in_use table
  pub below : c.files + c.directories < c.used
  pub spare : 65532 < g.pages → c.files + c.directories + 1 < c.used

-- and before its chain is claimed, for an owner's number that fits
pub record Ready (g : Geometry) (c : Totals) (owner : ℕ) (table : List OwnerRecord) : Type 0 where
  pub used_is : c.used ≡ in_use table
  pub below : c.files + c.directories ≤ c.used
  pub spare : 65532 < g.pages → c.files + c.directories + 1 ≤ c.used
  pub some : 0 < owner
  pub few : in_use table < g.pages → owner < 65536

-- an entry with so many to go in its directory, itself among them
pub record Remaining (parent : Directory) (left : ℕ) : Type 0 where
  pub some : 0 < left
  pub most : left ≤ parent.count
  pub few : parent.count < 16777216

-- the answer r with the table u is the rule's answer, with the totals and the table that follow from what the rule gives
abbrev pub Answers : {A : Type 0} → (A → Totals) → (A → List OwnerRecord) → Res A → Result Totals Refusal → List OwnerRecord → Type 0
Answers {A = A} f h rule (Ok d) u = (a : A) × (rule ≡ ok a) × (d ≡ f a) × (u ≡ h a)
Answers f h rule (Err r) u = rule ≡ refused r

-- the totals after entries, after a directory with its chain, after one entry
abbrev pub plus_entries : Totals → Items → Totals
plus_entries c t = record { used = c.used + length (inner_pages t); files = c.files + file_count t; directories = c.directories + directory_count t }

abbrev pub plus_directory : Totals → Items → Totals
plus_directory c t = record { used = c.used + (length (own_pages t) + length (inner_pages t)); files = c.files + file_count t; directories = c.directories + directory_count t }

abbrev pub plus_part : Totals → Part → Totals
plus_part c (chain ls) = record { used = c.used + length ls; files = c.files + 1; directories = c.directories }
plus_part c (directory d) = plus_directory (record { used = c.used; files = c.files; directories = c.directories + 1 }) d

-- the table after them; k entries come before
abbrev pub own_directory : ℕ → ℕ → List OwnerRecord → Items → List OwnerRecord
own_directory owner k table t = own_entries k t (own owner (own_pages t) table)

abbrev pub own_part : ℕ → List OwnerRecord → Part → List OwnerRecord
own_part k table (chain ls) = own (3 + k) (pages ls) table
own_part k table (directory d) = own_directory (3 + k) (suc k) table d

-- an entry's label, then whether its name was met (11)
unfoldable pub judge_first : ℕ → List ℕ → Entry → Res (Unit {0})
judge_first p seen e = do
  judge_label p e
  refuse_unless (not (mem (key e.name e.extension) seen)) 11 p

-- a subdirectory's level (12), count (8) and start page (6)
unfoldable pub judge_below : ℕ → ℕ → Entry → Res (Unit {0})
judge_below zero p e = err 12 p
judge_below (suc levels) p e = do
  refuse_unless (eqb e.pages 0) 8 p
  refuse_unless (ltb 0 e.start) 6 p

-- the names met before an entry are those of the directory's first m entries
abbrev pub Met : Geometry → View → ℕ → ℕ → ℕ → List ℕ → Type 0
Met g v start m k seen = (ls : List Link) × ChainAt g v start ls × (m ≤ length (chain_keys g (control_size g) ls)) × (mem k seen ≡ mem k (take m (chain_keys g (control_size g) ls)))

-- the answers of the parts: for every list of claimed pages that the table represents and every list of the names met
abbrev pub EntryJudged : Geometry → View → ℕ → ℕ → ℕ → Entry → Result (Unit {0}) Refusal → Type 0
EntryJudged g v start m p e r = (seen : List ℕ) → Met g v start m (key e.name e.extension) seen → answer_of r ≡ judge_first p seen e

abbrev pub FileWalked : Geometry → Views → ℕ → Entry → Totals → List OwnerRecord → Result Totals Refusal → List OwnerRecord → Type 0
FileWalked g vs page e c t r u = (claimed : List ℕ) → Represents t claimed → Answers (plus_part c) (own_part (c.files + c.directories) t) (judge_file g vs (suc g.pages) claimed page e) r u

abbrev pub EntryWalked : Geometry → Views → ℕ → ℕ → ℕ → ℕ → ℕ → Entry → Totals → List OwnerRecord → Result Totals Refusal → List OwnerRecord → Type 0
EntryWalked g vs levels name start page m e c t r u = (claimed seen : List ℕ) → Represents t claimed → Met g vs.pages start m (key e.name e.extension) seen
    → Answers (plus_part c) (own_part (c.files + c.directories) t) (judge_entry g vs (suc g.pages) (judge_sub g vs (suc g.pages) levels) (record { name = name; start = start }) claimed page seen e) r u

abbrev pub DirectoryWalked : Geometry → Views → ℕ → Test → ℕ → ℕ → ℕ → ℕ → Totals → List OwnerRecord → Result Totals Refusal → List OwnerRecord → Type 0
DirectoryWalked g vs levels test name start from owner c t r u = (claimed : List ℕ) → Represents t claimed
    → Answers (plus_directory c) (own_directory owner (c.files + c.directories) t) (judge_directory g vs (suc g.pages) (judge_sub g vs (suc g.pages) levels) test (record { name = name; start = start }) claimed from) r u
