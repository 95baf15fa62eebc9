-- For contracts: an edit that puts a chain with its entry, and a put within a budget.
use Rattle.rules.specs.Answers.{refused}
use Rattle.refusals.specs.declared.Refusal.{Refusal}
use Rattle.std.specs.Prelude.{Err, Result, Ok, ◌≡◌, List, [], ◌∷◌, ◌++◌, ℕ, ◌+◌, ◌-◌, ◌≤◌, length}
use Rattle.geometry.specs.declared.Geometry.{Geometry}
use Rattle.geometry.specs.Choose.{choose}
use Rattle.geometry.specs.Geometry.{control_size, data_capacity}
use Rattle.packet.specs.Packet.{good, view_of, Write}
use Rattle.packet.specs.declared.Budget.{Budget}
use Rattle.packet.specs.Budgets.{Progress, write_all}
use Rattle.rules.specs.declared.Entry.{Entry}
use Rattle.rules.specs.Result.{Res, ok, and_then}
use Rattle.rules.specs.PageSets.{count, range, free_pages}
use Rattle.rules.specs.Chain.{Link, chain_of, pages_for}
use Rattle.rules.specs.Tree.{Label, Items, Token, new_page, entry, entry_tokens, tokens, Image, used}
use Rattle.rules.specs.Bitmap.{bitmap_of}
use Rattle.rules.specs.Paths.{Path, file_label, Found, Target}
use Rattle.rules.specs.Writes.{edited, edit_writes}
use Rattle.rules.specs.Names.{directory_number}
use Rattle.rules.specs.EditLaws.{new_entry}
use Rattle.rules.specs.Put.{kept_pages, extra_pages, items_after, put_edit}
use Rattle.rules.specs.Owners.{OwnerRecord}
use Rattle.owners.specs.Owned.{Represents}
use Rattle.owners.specs.Free.{free_from}
use Rattle.editing_theorems.specs.PageChange.{control_on}
use Rattle.editing_theorems.specs.PutLaws.{Asked}
use Rattle.editing_theorems.specs.EditedImage.{DirectoryOf, OneEdit, left}
use Rattle.entries.specs.declared.Slot.{Slot}
use Rattle.writes.specs.declared.Change.{Change}
use Rattle.writes.specs.Stores.{chosen}
use Rattle.edit.specs.declared.Pages.{Pages}
use Rattle.edit.specs.declared.NewFile.{NewFile}
use Rattle.edit.specs.Entering.{Entering}
use Rattle.edit.specs.StepLaws.{step₂, step₃}

-- the change of its directory's pages that puts a file, or a directory, and its entry, for the pages found
abbrev pub change_of : NewFile → Pages → Change
change_of f p = record { slot = f.slot; first = f.first; last = f.last; joins = p.joins }

-- the page count that an entry tells: 0 for a directory
abbrev pub count_told : ℕ → ℕ → ℕ
count_told extension n = choose (directory_number extension) 0 n

abbrev pub entry_of : NewFile → Pages → ℕ → Entry
entry_of f p n = record { name = f.name; extension = f.extension; start = p.start; pages = count_told f.extension n }

-- an edit of a directory of the image whose new chain has the bytes in the lowest free pages from the entry's start page on, and the change that enters the entry
pub record Plan (g : Geometry) (image : List ℕ) (table : List OwnerRecord) (bytes : List ℕ) (c : Change) (e : Entry) : Type 0 where
  pub marks : List ℕ
  pub directory : DirectoryOf g image marks
  pub edit : OneEdit directory
  pub used : List ℕ
  pub represents : Represents table used
  pub enough : pages_for (data_capacity g) (length bytes) ≤ length (free_from used e.start g.pages)
  pub chain_is : edit.chain ≡ chain_of (data_capacity g) (chosen g used e.start bytes) bytes
  pub entering : Entering edit c (e ∷ [])

-- its first two steps
abbrev pub Carries : Geometry → List ℕ → List OwnerRecord → List ℕ → Change → Entry → Budget → List ℕ → Budget → Type 0
Carries g image table bytes c e budget after left = (p : Plan g image table bytes c e) → ◌≡◌ {A = Progress} (record { image = after; budget = left }) (step₂ p.edit budget)

-- ---- a removal
-- an edit without a new chain that takes the entry at a slot and so many stamps before it out of its directory; the table tells of the pages that stay in use
pub record Removal (g : Geometry) (image : List ℕ) (table : List OwnerRecord) (s : Slot) (stamps : ℕ) : Type 0 where
  pub marks : List ℕ
  pub directory : DirectoryOf g image marks
  pub edit : OneEdit directory
  pub none : edit.chain ≡ []
  pub entering : Entering edit (record { slot = s; first = s.at - stamps; last = s.at + 1; joins = 0 }) []
  pub kept : Represents table (left edit)

abbrev pub RemovesEntry : Geometry → List ℕ → List OwnerRecord → Slot → ℕ → Budget → List ℕ → Budget → Type 0
RemovesEntry g image table s stamps budget after rest = (p : Removal g image table s stamps) → ◌≡◌ {A = Progress} (record { image = after; budget = rest }) (step₃ p.edit budget)

-- ---- a put
-- where the entry goes if the directory keeps its pages: to the page of the slot, in the place of the entries from number `first` to `last`
pub record PutInPage (g : Geometry) (image : List ℕ) (l : Label) (d : Items) (f : NewFile) : Type 0 where
  pub before : List Token
  pub entries : List Entry
  pub exchanged : List Entry
  pub later : List Token
  pub shape : tokens d ≡ before ++ (new_page f.slot.page ∷ (entry_tokens entries ++ (entry_tokens exchanged ++ later)))
  pub then : (q : ℕ) (chain : List Link) → tokens (items_after g l q chain d) ≡ before ++ (new_page f.slot.page ∷ (entry_tokens entries ++ (entry (new_entry l chain) ∷ later)))
  pub first_is : length entries ≡ f.first
  pub last_is : length entries + length exchanged ≡ f.last
  pub skip_is : (control : List ℕ) → length control ≡ control_size g → length (control_on g.width control before) ≡ f.slot.skip
  pub next_is : (b : List ℕ) (n : ℕ) → view_of g image f.slot.page ≡ good b n → f.slot.next.page ≡ n

-- if no page has space: a page joins after the last page, that of the slot, with the entry
pub record PutInNewPage (g : Geometry) (l : Label) (d : Items) (f : NewFile) : Type 0 where
  pub before : List Token
  pub entries : List Entry
  pub shape : tokens d ≡ before ++ (new_page f.slot.page ∷ (entry_tokens entries ++ []))
  pub then : (q : ℕ) (chain : List Link) → tokens (items_after g l q chain d)
      ≡ before ++ (new_page f.slot.page ∷ (entry_tokens entries ++ (new_page q ∷ (entry (new_entry l chain) ∷ []))))

-- where the entry of what a path names goes in its directory d
pub record EntryPlace (g : Geometry) (image : List ℕ) (q : Path) (d : Items) (f : NewFile) : Type 0 where
  pub name_is : q.name ≡ f.name
  pub extension_is : q.extension ≡ f.extension
  pub extra_is : extra_pages g (file_label q) d ≡ f.extra
  pub in_page_lem : f.extra ≡ 0 → PutInPage g image (file_label q) d f
  pub in_new_page : f.extra ≡ 1 → PutInNewPage g (file_label q) d f

-- a put, or a making, that nothing but room could refuse; the table tells of the pages that must not be taken, those that stay in use among them
pub record Putting (in_use : Path → Image → List ℕ) (g : Geometry) (image : List ℕ) (table : List OwnerRecord) (bytes : List ℕ) (f : NewFile) : Type 0 where
  pub stands : Label → List Link → Found
  pub asked : Asked g image bytes stands
  pub at : EntryPlace g image asked.to asked.place.items f
  pub represents : Represents table (in_use asked.to asked.tree)
  pub clear : (x : ℕ) → count x (free_pages (in_use asked.to asked.tree) g.pages) + count x (kept_pages asked.to asked.tree) ≤ count x (range g.pages)

-- a plain put: every page that does not stay in use is free
abbrev pub PlainPutting : Geometry → List ℕ → List OwnerRecord → List ℕ → NewFile → Type 0
PlainPutting = Putting kept_pages

-- the page writes that a rule gives, carried out; or its refusal
abbrev pub Outcomes : Geometry → Res (List Write) → List ℕ → Budget → List ℕ → Result Budget Refusal → Type 0
Outcomes g rule image budget after (Ok left) =
    (ws : List Write) × (rule ≡ ok ws) × (◌≡◌ {A = Progress} (record { image = after; budget = left }) (write_all g ws (record { image = image; budget = budget })))
Outcomes g rule image budget after (Err z) = (rule ≡ refused z) × (after ≡ image)

-- the page writes of a put that has its target
abbrev pub put_writes : Geometry → List ℕ → Image → Target → Res (List Write)
put_writes g bytes i x = and_then (put_edit g (free_pages (kept_pages x.to i) g.pages) x.to bytes x.place)
    (λ e. ok (edit_writes g (bitmap_of g (used i) i.map) e i (edited g x.to.directories e i)))

abbrev pub PutsFile : Geometry → List ℕ → List OwnerRecord → List ℕ → NewFile → Budget → List ℕ → Result Budget Refusal → Type 0
PutsFile g image table bytes f budget after r = (p : PlainPutting g image table bytes f)
    → Outcomes g (put_writes g bytes p.asked.tree (record { to = p.asked.to; place = p.asked.place })) image budget after r
