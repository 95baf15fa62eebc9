-- A page that joins a directory's end: the code writes it, then the last page with its number, and that is what the rule writes.
use Rattle.std.specs.Prelude.{◌≡◌, refl, Bool, List, [], ◌∷◌, ◌++◌, ℕ, ◌<◌, length}
use Rattle.std.proofs.Common.{ap, ap₂, sym, ◌∙◌, subst, append-nil, arith, ne_eqb}
use Rattle.geometry.specs.declared.Geometry.{Geometry}
use Rattle.geometry.specs.Choose.{choose}
use Rattle.geometry.specs.ChooseLaws.{choose_false}
use Rattle.packet.specs.Packet.{good, view_of, Write, write}
use Rattle.packet.specs.Budgets.{Progress, write_all}
use Rattle.rules.specs.declared.Entry.{Entry}
use Rattle.rules.specs.Chain.{first, linked}
use Rattle.rules.specs.Tree.{Token, new_page, token_bytes, token_links, entry_tokens}
use Rattle.rules.specs.WellFormed.{HasPackets}
use Rattle.rules.specs.Writes.{changes, backwards}
use Rattle.reading_theorems.specs.PacketLaws.{packets_right}
use Rattle.editing_theorems.specs.AfterWrites.{WriteFits, WritesFit}
use Rattle.editing_theorems.specs.PageChange.{entries_bytes, control_on, from_page, Parted, parted, bytes_of_entries, links_of_entries, changes_grown}
use Rattle.editing_theorems.specs.EditedImage.{DirectoryOf, OneEdit, control, old, new, ws₂, image₁, own₁, new_fits}
use Rattle.writes.specs.declared.Change.{Change}
use Rattle.writes.specs.Changes.{spliced, entry_from, JoinFits, change_writes}
use Rattle.edit.specs.Entering.{Joins}
use Rattle.edit.specs.ExchangeLaws.{fits_from}

module _ {g : Geometry} {image marks : List ℕ} {D : DirectoryOf g image marks} (E : OneEdit D) (c : Change) (more : List Entry) (some : c.joins ≡ 0 → ⊥) (X : Joins E c more) where
  open X use {before, entries, shape, then, other}

  abbrev n : ℕ
  n = g.width

  abbrev p : ℕ
  p = c.slot.page

  abbrev q : ℕ
  q = c.joins

  abbrev last : List ℕ
  last = control_on n (control E) before ++ (entries_bytes n entries ++ [])

  apart : Parted n p (entry_tokens entries ++ []) (entry_tokens entries ++ (new_page q ∷ (entry_tokens more ++ []))) before (control E)
  apart = parted n p (entry_tokens entries ++ []) (entry_tokens entries ++ (new_page q ∷ (entry_tokens more ++ []))) before (control E)

  -- the packets from the last page on, before and after
  from_last : (ts : List Token) → token_bytes n ts ≡ []
      → from_page n p (control_on n (control E) before) (entry_tokens entries ++ ts) ≡ write p last (first (token_links n [] ts)) ∷ linked (token_links n [] ts)
  from_last ts z =
      let b : token_bytes n (entry_tokens entries ++ ts) ≡ entries_bytes n entries ++ [] = bytes_of_entries n entries ts ∙ ap (λ (y : List ℕ). entries_bytes n entries ++ y) z in
      let l : token_links n [] (entry_tokens entries ++ ts) ≡ token_links n [] ts = links_of_entries n [] entries ts in
      rw (b, l) refl

  old_is : old E ≡ apart.before ++ (write p last 0 ∷ [])
  old_is = ap (λ (ts : List Token). linked (token_links n (control E) ts)) shape ∙ apart.old_is ∙ ap (λ (ws : List Write). apart.before ++ ws) (from_last [] refl)

  more_bytes : token_bytes n (entry_tokens more ++ []) ≡ entries_bytes n more
  more_bytes = bytes_of_entries n more [] ∙ append-nil (entries_bytes n more)

  more_links : token_links n [] (entry_tokens more ++ []) ≡ []
  more_links = links_of_entries n [] more []

  new_is : new E ≡ apart.before ++ (write p last q ∷ (write q (entries_bytes n more) 0 ∷ []))
  new_is =
      ap (λ (ts : List Token). linked (token_links n (control E) ts)) then ∙ apart.new_is
      ∙ ap (λ (ws : List Write). apart.before ++ ws) (from_last (new_page q ∷ (entry_tokens more ++ [])) refl)
      ∙ rw (more_bytes, more_links) refl

  packet : view_of g (image₁ E) p ≡ good last 0
  packet = let v = view_of g (image₁ E) in (packets_right v apart.before (write p last 0 ∷ []) (subst (HasPackets v) old_is (own₁ E))).0

  new_fit : WriteFits g p last q × (WriteFits g q (entries_bytes n more) 0 × Unit {0})
  new_fit = fits_from g apart.before (write p last q ∷ (write q (entries_bytes n more) 0 ∷ [])) (subst (WritesFit g) new_is (new_fits E))

  pub can_join : (c.slot.page < g.pages) × JoinFits g (view_of g (image₁ E)) c (length (entries_bytes g.width more))
  can_join = (
    new_fit.0.below,
    record {
      inside = new_fit.1.0.below;
      room = new_fit.1.0.room;
      other = other;
      last = record { bytes = last; next = 0; span = record { packet = packet; order = omega arith; inside = omega arith; room = omega (arith, new_fit.0.room) } };
    },
  )

  -- the code's two writes are the rule's
  pub joined_is : (s t : Progress) → s.image ≡ image₁ E
      → ((b : List ℕ) (k : ℕ) → view_of g s.image c.slot.page ≡ good b k → t ≡ write_all g (change_writes g c (entries_bytes g.width more) b) s) → t ≡ write_all g (ws₂ E) s
  joined_is s t e h =
      let ws : change_writes g c (entries_bytes n more) last ≡ write q (entries_bytes n more) 0 ∷ write p last q ∷ [] =
      ap (λ (b : Bool). choose b (write p (spliced (entry_from g c.slot c.first) (entry_from g c.slot c.last) (entries_bytes n more) last) c.slot.next.page ∷ [])
      (write c.joins (entries_bytes n more) 0 ∷ write p last c.joins ∷ [])) (ne_eqb c.joins 0 some) ∙ choose_false _ _ in
      h last 0 (ap (λ (i : List ℕ). view_of g i p) e ∙ packet) ∙ ap (λ (us : List Write). write_all g us s) ws
      ∙ sym (ap (λ (us : List Write). write_all g (backwards us) s) (ap₂ changes old_is new_is ∙ changes_grown apart.before p q last (entries_bytes n more) some))
