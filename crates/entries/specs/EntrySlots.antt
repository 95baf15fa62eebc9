-- For contracts: a place in a directory, and the keys of the entries before it.
use Rattle.std.specs.Prelude.{◌≡◌, Bool, List, [], ◌∷◌, ◌++◌, ℕ, zero, suc, ◌+◌, ◌*◌, ◌/◌, ◌%◌, ◌≤◌, ◌<◌, length, get_or, take, drop}
use Rattle.geometry.specs.declared.Geometry.{Geometry}
use Rattle.geometry.specs.Geometry.{entry_size, control_size}
use Rattle.geometry.specs.Number.{number}
use Rattle.packet.specs.Packet.{Packet, bad, good, View}
use Rattle.rules.specs.PageSets.{mem}
use Rattle.rules.specs.Chain.{Link, link}
use Rattle.rules.specs.Names.{key}
use Rattle.chain.specs.declared.Cursor.{Cursor}
use Rattle.chain.specs.KnownChain.{ChainAt}
use Rattle.chain.specs.Steps.{after}
use Rattle.entries.specs.declared.Slot.{Slot}

-- the key of the entry in front of bytes
abbrev pub entry_key : List ℕ → ℕ
entry_key b = key (number (take 4 b)) (get_or b 4 0)

-- a plain entry's key: the first byte of its name is at most 127, so no extended entry has it
abbrev pub PlainKey : ℕ → Type 0
PlainKey k = k / 128 % 256 ≤ 127

-- the keys of the first m entries in bytes
abbrev pub keys_from : Geometry → ℕ → List ℕ → List ℕ
keys_from g zero b = []
keys_from g (suc m) b = entry_key b ∷ keys_from g m (drop (entry_size g) b)

-- the keys of a directory's entries in chain order, the control field skipped
abbrev pub chain_keys : Geometry → ℕ → List Link → List ℕ
chain_keys g skip [] = []
chain_keys g skip (link p b ∷ ls) = keys_from g (length (drop skip b) / entry_size g) (drop skip b) ++ chain_keys g 0 ls

-- the entries of a place lie in its page
pub record Fits (g : Geometry) (s : Slot) : Type 0 where
  pub inside : s.page < g.pages
  pub room : 1 + s.skip + entry_size g * s.count ≤ g.size

-- a place at the first entry of a page
abbrev pub opened : Geometry → ℕ → Cursor → Packet → Slot
opened g skip c bad = record { page = c.page; skip = skip; count = 0; at = 0; next = c }
opened g skip c (good b n) = record { page = c.page; skip = skip; count = length (drop skip b) / entry_size g; at = 0; next = after c (length b) n }

unfoldable pub open_of : Geometry → View → ℕ → Cursor → Slot
open_of g v skip c = opened g skip c (v c.page)

-- at another entry of the page; past one entry
abbrev pub at_entry : Slot → ℕ → Slot
at_entry s i = record { page = s.page; skip = s.skip; count = s.count; at = i; next = s.next }

abbrev pub advanced : Slot → Slot
advanced s = at_entry s (s.at + 1)

-- there is a directory's chain, and it has at least so many entries
pub record HasEntries (g : Geometry) (v : View) (start m : ℕ) : Type 0 where
  pub links : List Link
  pub chain : ChainAt g v start links
  pub enough : m ≤ length (chain_keys g (control_size g) links)

-- how many entries the directory from `start` on has
abbrev pub CountsEntries : Geometry → View → ℕ → ℕ → Type 0
CountsEntries g v start n = (ls : List Link) → ChainAt g v start ls → n ≡ length (chain_keys g (control_size g) ls)

-- whether one of the first m entries of the directory from `start` on has this key
abbrev pub Repeats : Geometry → View → ℕ → ℕ → ℕ → Bool → Type 0
Repeats g v start m k r = (ls : List Link) → ChainAt g v start ls → m ≤ length (chain_keys g (control_size g) ls) → r ≡ mem k (take m (chain_keys g (control_size g) ls))
