-- For contracts: where a change of a directory's pages stands in an edit of the directory.
use Rattle.std.specs.Prelude.{◌≡◌, List, [], ◌∷◌, ◌++◌, ℕ, ◌+◌, length}
use Rattle.geometry.specs.declared.Geometry.{Geometry}
use Rattle.geometry.specs.Geometry.{control_size}
use Rattle.rules.specs.declared.Entry.{Entry}
use Rattle.rules.specs.Chain.{first}
use Rattle.rules.specs.Tree.{Token, new_page, entry_tokens, tokens, token_links}
use Rattle.editing_theorems.specs.PageChange.{control_on}
use Rattle.editing_theorems.specs.EditedImage.{DirectoryOf, OneEdit}
use Rattle.writes.specs.declared.Change.{Change}

-- the directory keeps its pages: on one of them entries are exchanged for `more`
pub record Exchanges {g : Geometry} {image marks : List ℕ} {D : DirectoryOf g image marks} (E : OneEdit D) (c : Change) (more : List Entry) : Type 0 where
  pub before : List Token
  pub entries : List Entry
  pub exchanged : List Entry
  pub later : List Token
  pub shape : tokens D.place.items ≡ before ++ (new_page c.slot.page ∷ (entry_tokens entries ++ (entry_tokens exchanged ++ later)))
  pub then : tokens E.after ≡ before ++ (new_page c.slot.page ∷ (entry_tokens entries ++ (entry_tokens more ++ later)))
  pub first_is : length entries ≡ c.first
  pub last_is : length entries + length exchanged ≡ c.last
  pub skip_is : (control : List ℕ) → length control ≡ control_size g → length (control_on g.width control before) ≡ c.slot.skip
  pub next_is : c.slot.next.page ≡ first (token_links g.width [] later)

-- a page joins after its last one with the entries `more`
pub record Joins {g : Geometry} {image marks : List ℕ} {D : DirectoryOf g image marks} (E : OneEdit D) (c : Change) (more : List Entry) : Type 0 where
  pub before : List Token
  pub entries : List Entry
  pub shape : tokens D.place.items ≡ before ++ (new_page c.slot.page ∷ (entry_tokens entries ++ []))
  pub then : tokens E.after ≡ before ++ (new_page c.slot.page ∷ (entry_tokens entries ++ (new_page c.joins ∷ (entry_tokens more ++ []))))
  pub other : c.slot.page ≡ c.joins → ⊥

-- the one or the other
pub record Entering {g : Geometry} {image marks : List ℕ} {D : DirectoryOf g image marks} (E : OneEdit D) (c : Change) (more : List Entry) : Type 0 where
  pub exchanges : c.joins ≡ 0 → Exchanges E c more
  pub joins : (c.joins ≡ 0 → ⊥) → Joins E c more
