-- For contracts: what stands in a slot at a place of a page's bytes.
use Rattle.std.specs.Prelude.{◌≡◌, true, false, List, ℕ, ◌+◌, ◌*◌, ◌≤◌, ◌<◌, length, drop}
use Rattle.rules.specs.declared.Entry.{Entry}
use Rattle.rules.specs.Names.{entry_of, extended}
use Rattle.directory.specs.declared.entries.Item.{Item}
use Rattle.directory.specs.declared.entries.Item.TheVariants.{Plain, Extended}

-- a whole entry stands there, with page numbers of n bytes
abbrev pub HasEntry : ℕ → List ℕ → ℕ → Type 0
HasEntry n bytes at = (1 ≤ n) × (n ≤ 2) × (at + (5 + 2 * n) ≤ length bytes)

-- it is this one; its numbers fit 16 bits
abbrev pub IsEntry : ℕ → List ℕ → ℕ → Entry → Type 0
IsEntry n bytes at e = (e ≡ entry_of n (drop at bytes)) × (e.start < 65536) × (e.pages < 65536)

-- it is this plain entry, or an extended one
abbrev pub IsItem : ℕ → List ℕ → ℕ → Item → Type 0
IsItem n bytes at (Plain e) = IsEntry n bytes at e × (extended e ≡ false)
IsItem n bytes at Extended = extended (entry_of n (drop at bytes)) ≡ true
