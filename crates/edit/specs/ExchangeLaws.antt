-- Entries of one page of a directory exchanged: the code writes that page, and that is what the rule writes.
use Rattle.std.specs.Prelude.{◌≡◌, refl, Bool, true, false, ℕ, ◌+◌, ◌*◌, ◌<◌, length, take, drop}
use Rattle.std.proofs.Math.Path.{ap, ap₂, sym}
use Rattle.std.proofs.Common.{◌∙◌, subst, arith, length-append, take_at, drop_at, eq-eqb}
use mathlib.Core.List.{List, [], ◌∷◌, ◌++◌, append_assoc}
use Rattle.geometry.specs.declared.Geometry.{Geometry}
use Rattle.geometry.specs.Choose.{choose}
use Rattle.geometry.specs.ChooseLaws.{choose_true}
use Rattle.geometry.specs.Geometry.{entry_size}
use Rattle.geometry.specs.Number.{Bytes}
use Rattle.packet.specs.Packet.{good, View, view_of, Write, write}
use Rattle.packet.specs.Budgets.{Progress, write_one, write_all}
use Rattle.rules.specs.declared.Entry.{Entry}
use Rattle.rules.specs.Chain.{first, linked}
use Rattle.rules.specs.Names.{entry_bytes}
use Rattle.rules.specs.Tree.{Token, new_page, entry_tokens, tokens, token_bytes, token_links}
use Rattle.rules.specs.WellFormed.{HasPackets}
use Rattle.rules.specs.Writes.{same_write, changes, backwards, control_of}
use Rattle.reading_theorems.specs.EntryLaws.{length_entry}
use Rattle.reading_theorems.specs.PacketLaws.{packets_right}
use Rattle.editing_theorems.specs.AfterWrites.{WriteFits, WritesFit}
use Rattle.editing_theorems.specs.DirectoryWrites.{same_write_lem}
use Rattle.editing_theorems.specs.MapWrites.{control_length}
use Rattle.editing_theorems.specs.BudgetedWrites.{one_stands}
use Rattle.editing_theorems.specs.PageChange.{OneChange, changes_none, changes_one, entries_bytes, control_on, page_change}
use Rattle.editing_theorems.specs.HeldPackets.{fits_right}
use Rattle.editing_theorems.specs.EditedImage.{DirectoryOf, OneEdit, here_stands, control, old, new, ws₂, image₁, bytes₁, own₁, new_fits}
use Rattle.writes.specs.declared.Change.{Change}
use Rattle.writes.specs.Changes.{spliced, HasSpan, entry_from, change_writes}
use Rattle.edit.specs.Entering.{Exchanges}

-- what is left of writes that fit fits
pub fits_from : (g : Geometry) (ws us : List Write) → WritesFit g (ws ++ us) → WritesFit g us
fits_from g ws us f = fits_right g ws us f

-- entries of one size
entries_length : (g : Geometry) (es : List Entry) → length (entries_bytes g.width es) ≡ entry_size g * length es
entries_length g [] = omega arith
entries_length g (e ∷ es) = omega (arith, length-append (entry_bytes g.width e) (entries_bytes g.width es), length_entry g e, entries_length g es)

-- bytes exchanged in the middle
middle : (a x y z : List ℕ) (from to : ℕ) → length a ≡ from → length a + length x ≡ to → spliced from to y (a ++ (x ++ z)) ≡ a ++ (y ++ z)
middle a x y z from to h k =
    let t : take from (a ++ (x ++ z)) ≡ a = take_at a (x ++ z) from h in
    let d : drop to (a ++ (x ++ z)) ≡ z = ap (drop to) (sym (append_assoc a x z)) ∙ drop_at (a ++ x) z to (length-append a x ∙ k) in
    ap₂ (λ (p q : List ℕ). p ++ (y ++ q)) t d

-- one packet written again, whether it differs or not
one_written : (g : Geometry) (s : Progress) (ws us : List Write) (p : ℕ) (b c : List ℕ) (next : ℕ) → OneChange ws us p b c next → write_one g (write p b next) s ≡ s
    → write_all g (backwards (changes ws us)) s ≡ write_one g (write p c next) s
unfolding write_all
one_written g s ws us p b c next o z = by (same_write (write p b next) (write p c next)) refl
  where
    by : (t : Bool) → same_write (write p b next) (write p c next) ≡ t → write_all g (backwards (changes ws us)) s ≡ write_one g (write p c next) s
    by true e =
        let w = same_write_lem (write p b next) (write p c next) e in
        let i : b ≡ c = cc in
        ap (λ (xs : List Write). write_all g (backwards xs) s) (changes_none ws us p b next (subst (λ (x : List ℕ). OneChange ws us p b x next) (sym i) o))
        ∙ sym z ∙ ap (λ (x : List ℕ). write_one g (write p x next) s) i
    by false e = ap (λ (xs : List Write). write_all g (backwards xs) s) (changes_one ws us p b c next o e)

-- the pointer of a page of a directory, by what comes after the page's entries
pub pointer_is : {g : Geometry} {image marks : List ℕ} (D : DirectoryOf g image marks) (p next : ℕ) (before : List Token) (entries exchanged : List Entry) (later : List Token)
    → tokens D.place.items ≡ before ++ (new_page p ∷ (entry_tokens entries ++ (entry_tokens exchanged ++ later)))
    → ((b : List ℕ) (n : ℕ) → view_of g image p ≡ good b n → next ≡ n) → next ≡ first (token_links g.width [] later)
pointer_is {g} {image} {marks} D p next before entries exchanged later shape h =
    let v = view_of g image in
    let c = control_of g.width marks D.tree.map D.place.site in
    let o = page_change g.width p entries exchanged exchanged later before c in
    let s = subst (HasPackets v) (ap (λ (ts : List Token). linked (token_links g.width c ts)) shape ∙ o.old_is) (here_stands D).own in
    h _ _ (packets_right v o.before (write p _ _ ∷ o.after) s).0

-- ---- entries exchanged
module _ {g : Geometry} {image marks : List ℕ} {D : DirectoryOf g image marks} (E : OneEdit D) (c : Change) (more : List Entry) (X : Exchanges E c more) where
  open X use {before, entries, exchanged, later, shape, then, first_is, last_is, skip_is, next_is}

  abbrev n : ℕ
  n = g.width

  abbrev p : ℕ
  p = c.slot.page

  abbrev head : List ℕ
  head = control_on n (control E) before

  -- the data of the page before and after, and its pointer
  abbrev data₀ : List ℕ
  data₀ = head ++ (entries_bytes n entries ++ (entries_bytes n exchanged ++ token_bytes n later))

  abbrev data₁ : List ℕ
  data₁ = head ++ (entries_bytes n entries ++ (entries_bytes n more ++ token_bytes n later))

  abbrev pointer : ℕ
  pointer = first (token_links n [] later)

  one : OneChange (old E) (new E) p data₀ data₁ pointer
  one =
      let o = page_change n p entries exchanged more later before (control E) in
      let a = ap (λ (ts : List Token). linked (token_links n (control E) ts)) shape in
      let b = ap (λ (ts : List Token). linked (token_links n (control E) ts)) then in
      record { before = o.before; after = o.after; old_is = a ∙ o.old_is; new_is = b ∙ o.new_is }

  -- the page as it stands, and that its new data fit
  stands : (v : View) → HasPackets v (old E) → v p ≡ good data₀ pointer
  stands v h = (packets_right v one.before (write p data₀ pointer ∷ one.after) (subst (HasPackets v) one.old_is h)).0

  packet₁ : view_of g (image₁ E) p ≡ good data₀ pointer
  packet₁ = stands (view_of g (image₁ E)) (own₁ E)

  fits : WriteFits g p data₁ pointer
  fits = (fits_from g one.before (write p data₁ pointer ∷ one.after) (subst (WritesFit g) one.new_is (new_fits E))).0

  -- where the exchanged entries begin and end
  abbrev front : List ℕ
  front = head ++ entries_bytes n entries

  front_length : length front ≡ entry_from g c.slot c.first
  front_length =
      let k = skip_is (control E) (control_length g D.fit.valid marks D.tree.map D.stands.room D.place.site) in
      omega (arith, length-append head (entries_bytes n entries), k, entries_length g entries, ap (λ (i : ℕ). entry_size g * i) first_is)

  to_is : length front + length (entries_bytes n exchanged) ≡ entry_from g c.slot c.last
  to_is = omega (arith, front_length, entries_length g exchanged, ap (λ (i : ℕ). entry_size g * i) last_is, ap (λ (i : ℕ). entry_size g * i) first_is)

  parts : (xs : List ℕ) → head ++ (entries_bytes n entries ++ xs) ≡ front ++ xs
  parts xs = sym (append_assoc head (entries_bytes n entries) xs)

  spliced_is : spliced (entry_from g c.slot c.first) (entry_from g c.slot c.last) (entries_bytes n more) data₀ ≡ data₁
  spliced_is =
      let from = entry_from g c.slot c.first in
      let to = entry_from g c.slot c.last in
      ap (spliced from to (entries_bytes n more)) (parts (entries_bytes n exchanged ++ token_bytes n later))
      ∙ middle front (entries_bytes n exchanged) (entries_bytes n more) (token_bytes n later) from to front_length to_is ∙ sym (parts (entries_bytes n more ++ token_bytes n later))

  lengths : (length data₀ ≡ entry_from g c.slot c.last + length (token_bytes n later))
      × (length data₁ ≡ entry_from g c.slot c.first + length (entries_bytes n more) + length (token_bytes n later))
  lengths =
      let t = token_bytes n later in (
        omega (arith, ap length (parts (entries_bytes n exchanged ++ t)), length-append front (entries_bytes n exchanged ++ t), length-append (entries_bytes n exchanged) t, to_is),
        omega (arith, ap length (parts (entries_bytes n more ++ t)), length-append front (entries_bytes n more ++ t), length-append (entries_bytes n more) t, front_length),
      )

  span : HasSpan g (view_of g (image₁ E)) p (entry_from g c.slot c.first) (entry_from g c.slot c.last) (length (entries_bytes n more))
  span = record {
    bytes = data₀;
    next = pointer;
    span = record { packet = packet₁; order = omega (arith, front_length, to_is); inside = omega (arith, lengths.0); room = omega (arith, lengths.0, lengths.1, fits.room) };
  }

  pub can_exchange : (c.slot.page < g.pages)
      × HasSpan g (view_of g (image₁ E)) c.slot.page (entry_from g c.slot c.first) (entry_from g c.slot c.last) (length (entries_bytes g.width more))
  can_exchange = (fits.below, span)

  -- the code's write is the rule's
  pub exchanged_is : c.joins ≡ 0 → (s t : Progress) → s.image ≡ image₁ E
      → ((b : List ℕ) (k : ℕ) → view_of g s.image c.slot.page ≡ good b k → t ≡ write_all g (change_writes g c (entries_bytes g.width more) b) s) → t ≡ write_all g (ws₂ E) s
  unfolding write_all
  exchanged_is z s t e h =
      let q : view_of g s.image p ≡ good data₀ pointer = ap (λ (i : List ℕ). view_of g i p) e ∙ packet₁ in
      let ws : change_writes g c (entries_bytes n more) data₀ ≡ write p data₁ pointer ∷ [] =
      ap (λ (b : Bool). choose b (write p (spliced (entry_from g c.slot c.first) (entry_from g c.slot c.last) (entries_bytes n more) data₀) c.slot.next.page ∷ [])
      (write c.joins (entries_bytes n more) 0 ∷ write p data₀ c.joins ∷ [])) (eq-eqb c.joins 0 z) ∙ choose_true _ _ ∙ ap₂ (λ (b : List ℕ) (i : ℕ). write p b i ∷ []) spliced_is next_is in
      h data₀ pointer q ∙ ap (λ (us : List Write). write_all g us s) ws
      ∙ sym (one_written g s (old E) (new E) p data₀ data₁ pointer one (one_stands g p data₀ pointer s q (subst Bytes (sym e) (bytes₁ E))))
