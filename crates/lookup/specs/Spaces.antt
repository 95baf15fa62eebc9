-- For contracts: the page of a directory that a new entry goes to.
use Rattle.std.specs.Prelude.{◌≡◌, true, false, List, [], ◌∷◌, ◌++◌, ℕ, length}
use Rattle.geometry.specs.declared.Geometry.{Geometry}
use Rattle.geometry.specs.Geometry.{control_size, first_entries, later_entries}
use Rattle.packet.specs.Packet.{good, View}
use Rattle.rules.specs.declared.Entry.{Entry}
use Rattle.rules.specs.Chain.{Views}
use Rattle.rules.specs.Tree.{Items, Token, new_page, entry, entry_tokens, tokens}
use Rattle.rules.specs.Put.{insert, is_full}
use Rattle.editing_theorems.specs.PageChange.{control_on}
use Rattle.entries.specs.declared.Slot.{Slot}
use Rattle.entries.specs.EntrySlots.{Fits}
use Rattle.lookup.specs.Searches.{TreeAt}
use Rattle.lookup.specs.declared.space.Space.{Space}
use Rattle.lookup.specs.declared.space.Space.TheVariants.{At, Full}

-- a file or a directory put in front: its entry is e
abbrev pub EntersAs : (Items → Items) → Entry → Type 0
EntersAs new e = (t : Items) → tokens (new t) ≡ entry e ∷ tokens t

module _ (g : Geometry) (v : View) where
  -- the page s of the directory t with all its entries: the tokens before it, and those after its entries
  pub record PageEnd (t : Items) (s : Slot) (before : List Token) (entries : List Entry) (later : List Token) : Type 0 where
    pub shape : tokens t ≡ before ++ (new_page s.page ∷ (entry_tokens entries ++ later))
    pub count_is : length entries ≡ s.count
    pub fits : Fits g s
    pub skip_is : (control : List ℕ) → length control ≡ control_size g → length (control_on g.width control before) ≡ s.skip
    pub next_is : (b : List ℕ) (n : ℕ) → v s.page ≡ good b n → s.next.page ≡ n

  -- it has space: a new entry goes to its end
  pub record SpaceAt (t : Items) (s : Slot) : Type 0 where
    pub before : List Token
    pub entries : List Entry
    pub later : List Token
    pub page : PageEnd t s before entries later
    pub space : is_full (later_entries g) (first_entries g) 0 t ≡ false
    pub inserted : (new : Items → Items) (e : Entry) → EntersAs new e → (q : ℕ)
        → tokens (insert new (later_entries g) q (first_entries g) 0 t) ≡ before ++ (new_page s.page ∷ (entry_tokens entries ++ (entry e ∷ later)))

  -- no page has space: page q joins after the last one
  pub record NoSpace (t : Items) (s : Slot) : Type 0 where
    pub before : List Token
    pub entries : List Entry
    pub page : PageEnd t s before entries []
    pub full : is_full (later_entries g) (first_entries g) 0 t ≡ true
    pub inserted : (new : Items → Items) (e : Entry) → EntersAs new e → (q : ℕ)
        → tokens (insert new (later_entries g) q (first_entries g) 0 t) ≡ before ++ (new_page s.page ∷ (entry_tokens entries ++ (new_page q ∷ (entry e ∷ []))))

  abbrev pub IsSpace : Items → Space → Type 0
  IsSpace t (At s) = SpaceAt t s
  IsSpace t (Full s) = NoSpace t s

abbrev pub Spaces : Geometry → Views → ℕ → Space → Type 0
Spaces g vs start r = (t : Items) → TreeAt g vs start t → IsSpace g vs.pages t r
