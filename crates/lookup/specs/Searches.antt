-- For contracts: what stands under a key in a directory, and where the names of a path lead.
use Rattle.std.specs.Prelude.{Option, Some, None, Result, Ok, Err, ◌≡◌, ◌||◌, List, ◌∷◌, ◌++◌, ℕ, ◌+◌, ◌<◌, eqb, length, drop}
use Rattle.refusals.specs.declared.Refusal.{Refusal}
use Rattle.geometry.specs.declared.Geometry.{Geometry}
use Rattle.geometry.specs.Geometry.{control_size}
use Rattle.packet.specs.Packet.{good, View}
use Rattle.rules.specs.declared.Entry.{Entry}
use Rattle.rules.specs.Answers.{refused}
use Rattle.rules.specs.Result.{Res, ok}
use Rattle.rules.specs.Chain.{Views, Link}
use Rattle.rules.specs.Names.{attribute}
use Rattle.rules.specs.Tree.{Label, Items, file_entry, directory_entry, Token, new_page, entry, entry_tokens, tokens}
use Rattle.rules.specs.Paths.{names_in, Found, nothing, a_file, a_directory, find, Place, directory_at}
use Rattle.rules.specs.Put.{replace}
use Rattle.rules.specs.Delete.{remove}
use Rattle.editing_theorems.specs.PageChange.{control_on}
use Rattle.entries.specs.declared.Slot.{Slot}
use Rattle.entries.specs.EntrySlots.{Fits}
use Rattle.listing.specs.KnownTree.{DirectoryAt}
use Rattle.lookup.specs.declared.Spot.{Spot}
use Rattle.lookup.specs.declared.Reached.{Reached}

-- one name on: the subdirectory of the entry e, hidden if its top bit is set or one above it is
abbrev pub entered : Reached → ℕ → Entry → Reached
entered from name e = record { start = e.start; name = name; hidden = from.hidden || eqb (attribute e.extension) 1 }

-- the entry of what was found
abbrev pub entry_of : Found → Option Entry
entry_of nothing = None
entry_of (a_file l ls) = Some (file_entry l ls)
entry_of (a_directory l d) = Some (directory_entry l d)

module _ (g : Geometry) (vs : Views) where
  -- a directory's tree from a start page on, with some levels left; that there is one
  pub record TreeAt (start : ℕ) (t : Items) : Type 0 where
    pub levels : ℕ
    pub stands : DirectoryAt g vs levels start t

  pub record HasTree (start : ℕ) : Type 0 where
    pub tree : Items
    pub at : TreeAt start tree

module _ (g : Geometry) (v : View) where
  -- the place s of the entry e under a key in the directory t, so many stamps right before it: the tokens before its page, the entries before its stamps, what comes after;
  -- and the directory with the entry removed, its stamps too, or with the file replaced, which keeps them
  pub record PlaceOf (k : ℕ) (t : Items) (s : Slot) (stamped : ℕ) (e : Entry) : Type 0 where
    pub found : Some e ≡ entry_of (find k t)
    pub before : List Token
    pub entries : List Entry
    pub stamps : List Entry
    pub later : List Token
    pub shape : tokens t ≡ before ++ (new_page s.page ∷ (entry_tokens entries ++ (entry_tokens stamps ++ (entry e ∷ later))))
    pub removed : tokens (remove k t) ≡ before ++ (new_page s.page ∷ (entry_tokens entries ++ later))
    pub replaced : (l : Label) (ls new : List Link) → find k t ≡ a_file l ls
        → tokens (replace k new t) ≡ before ++ (new_page s.page ∷ (entry_tokens entries ++ (entry_tokens stamps ++ (entry (file_entry l new) ∷ later))))
    pub stamped_is : length stamps ≡ stamped
    pub at_is : length entries + stamped ≡ s.at
    pub under : s.at < s.count
    pub fits : Fits g s
    pub skip_is : (control : List ℕ) → length control ≡ control_size g → length (control_on g.width control before) ≡ s.skip
    pub next_is : (b : List ℕ) (n : ℕ) → v s.page ≡ good b n → s.next.page ≡ n

  abbrev pub IsPlace : ℕ → Items → Option Spot → Type 0
  IsPlace k t (Some x) = PlaceOf k t x.slot x.stamps x.entry
  IsPlace k t None = None ≡ entry_of (find k t)

module _ (g : Geometry) (vs : Views) where
  abbrev pub Places : ℕ → ℕ → Option Spot → Type 0
  Places start k r = (t : Items) → TreeAt g vs start t → IsPlace g vs.pages k t r

  -- the entry under a key, for whatever directory stands there
  abbrev pub Finds : ℕ → ℕ → Option Entry → Type 0
  Finds start k r = (t : Items) → TreeAt g vs start t → r ≡ entry_of (find k t)

  -- a place of the rule's as the code tells it
  pub record IsReached (p : Place) (r : Reached) : Type 0 where
    pub here_is : p.here ≡ record { name = r.name; start = r.start }
    pub hidden_is : p.hidden ≡ r.hidden
    pub tree : TreeAt g vs r.start p.items

  -- the directory told is the rule's, or its refusal
  abbrev pub Leads : Res Place → Result Reached Refusal → Type 0
  Leads rule (Ok r) = (place : Place) × (rule ≡ ok place) × IsReached place r
  Leads rule (Err z) = rule ≡ refused z

  abbrev pub Resolves : Reached → List ℕ → ℕ → ℕ → Result Reached Refusal → Type 0
  Resolves from path at names r = (p : Place) → IsReached p from → Leads (directory_at (names_in names (drop at path)) p) r
