-- What a page holds: data bytes, and slots for entries in a directory's first and later pages.
use Rattle.std.specs.Prelude.{◌≡◌, refl, List, ◌∷◌, ℕ, ◌+◌, ◌-◌, ◌*◌, ◌≤◌, ◌<◌, length}
use Rattle.std.proofs.Common.{ap, ◌∙◌, le-div_iff_mul-le, suc-mul, add-mul, arith, length-append}
use Rattle.geometry.specs.declared.Geometry.{Geometry}
use Rattle.geometry.specs.Geometry.{Valid, data_capacity, entry_size, control_size, first_entries, later_entries}
use Rattle.rules.specs.declared.Entry.{Entry}
use Rattle.rules.specs.Names.{entry_bytes}
use Rattle.rules.specs.Tree.{Label, width, Items, end, page, file, dir, file_entry, directory_entry, Token, entry, stamp_tokens, tokens, token_bytes}
use Rattle.rules.proofs.EditLaws.{width_is}
use Rattle.reading_theorems.specs.EntryLaws.{entry_size_lem, length_entry}
use Rattle.reading_theorems.specs.TokenLaws.{length_stamps}
use Rattle.reading_theorems.specs.ControlLaws.{control_size_lem}

pub capacity_is : (g : Geometry) → data_capacity g ≡ g.size - 3 - g.width
unfolding data_capacity
capacity_is g = refl

pub capacity_least : (g : Geometry) → Valid g → 27 ≤ data_capacity g
capacity_least g v = omega (arith, capacity_is g, v.least, v.two)

-- k slots fit behind the control field of a first page, or in a later page, exactly when k is at most the capacity
module _ (g : Geometry) (v : Valid g) where
  pub first_holds : (k : ℕ) → control_size g + k * entry_size g ≤ data_capacity g → k ≤ first_entries g
  unfolding first_entries
  first_holds k h = (le-div_iff_mul-le {k = entry_size g} {x = k} {y = g.size - (9 + 2 * g.width)} (omega (arith, entry_size_lem g))).1
      (omega (arith, capacity_is g, control_size_lem g, v.least, v.two))

  pub holds_first : (k : ℕ) → k ≤ first_entries g → control_size g + k * entry_size g ≤ data_capacity g
  unfolding first_entries
  holds_first k h =
      let m : k * entry_size g ≤ g.size - (9 + 2 * g.width) = (le-div_iff_mul-le {k = entry_size g} {x = k} {y = g.size - (9 + 2 * g.width)} (omega (arith, entry_size_lem g))).0 h in
      omega (arith, capacity_is g, control_size_lem g, v.least, v.two)

  pub later_holds : (k : ℕ) → 0 + k * entry_size g ≤ data_capacity g → k ≤ later_entries g
  unfolding later_entries
  later_holds k h = (le-div_iff_mul-le {k = entry_size g} {x = k} {y = g.size - (3 + g.width)} (omega (arith, entry_size_lem g))).1
      (omega (arith, capacity_is g, v.least, v.two))

  pub holds_later : (k : ℕ) → k ≤ later_entries g → 0 + k * entry_size g ≤ data_capacity g
  unfolding later_entries
  holds_later k h =
      let m : k * entry_size g ≤ g.size - (3 + g.width) = (le-div_iff_mul-le {k = entry_size g} {x = k} {y = g.size - (3 + g.width)} (omega (arith, entry_size_lem g))).0 h in
      omega (arith, capacity_is g, v.least, v.two)

  pub first_some : 0 < first_entries g
  first_some = first_holds 1 (omega (arith, capacity_is g, control_size_lem g, entry_size_lem g, v.least, v.two))

  pub later_some : 0 < later_entries g
  later_some = later_holds 1 (omega (arith, capacity_is g, entry_size_lem g, v.least, v.two))

-- ---- slots on the pages of a directory
-- the slots taken up to the next page
abbrev pub slots_here : Items → ℕ
slots_here end = 0
slots_here (page p t) = 0
slots_here (file l ls t) = width l + slots_here t
slots_here (dir l d t) = width l + slots_here t

-- no page has more slots taken than it holds: the next page so many, each later one so many
abbrev pub PagesHold : ℕ → ℕ → Items → Type 0
PagesHold next later end = Unit {0}
PagesHold next later (page p t) = (slots_here t ≤ next) × PagesHold later later t
PagesHold next later (file l ls t) = PagesHold next later t
PagesHold next later (dir l d t) = PagesHold next later t

-- an entry's bytes, with its stamps', fill its slots
pub length_slots : (g : Geometry) (l : Label) (e : Entry) (ts : List Token)
    → length (token_bytes g.width (stamp_tokens l.stamps (entry e ∷ ts))) ≡ width l * entry_size g + length (token_bytes g.width ts)
length_slots g l e ts = omega (
  arith,
  length_stamps g l.stamps (entry e ∷ ts),
  length-append (entry_bytes g.width e) (token_bytes g.width ts),
  length_entry g e,
  suc-mul (length l.stamps) (entry_size g),
  ap (λ (k : ℕ). k * entry_size g) (width_is l),
)

pub length_here : (g : Geometry) (t : Items) → length (token_bytes g.width (tokens t)) ≡ slots_here t * entry_size g
length_here g end = omega arith
length_here g (page p t) = omega arith
length_here g (file l ls t) = length_slots g l (file_entry l ls) (tokens t) ∙ omega (arith, length_here g t, add-mul (width l) (slots_here t) (entry_size g))
length_here g (dir l d t) = length_slots g l (directory_entry l d) (tokens t) ∙ omega (arith, length_here g t, add-mul (width l) (slots_here t) (entry_size g))
