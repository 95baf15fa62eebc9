-- The copy that the code lays is the one of the rule.
use mathlib.Core.Path.{◌≡◌, ap, ap₂, sym, ◌∙◌, subst}
use mathlib.Core.Bool.{Bool, true, false}
use mathlib.Core.List.{List, ◌∷◌, ◌++◌}
use Prim.Native.Nat.{ℕ, zero, suc, ◌+◌, ◌-◌, ◌*◌, ◌≤◌}
use native.Mathlib.Omega.{arith}
use lib.ListN.{length, replicate, length-append, length-replicate}
use Rattle.geometry.specs.declared.Geometry.{Geometry}
use Rattle.geometry.specs.Geometry.{Valid, Fit, data_capacity, bitmap_size, control_size, first_entries}
use Rattle.geometry.specs.Number.{number_bytes, Bytes}
use Rattle.geometry.specs.NumberLaws.{length_number}
use Rattle.packet.specs.Packet.{view_of, after_writes}
use Rattle.rules.specs.Result.{ok}
use Rattle.rules.specs.Chain.{views_of, Link, linked, chain_of, pages_for}
use Rattle.rules.proofs.ChainLaws.{length_chain_of}
use Rattle.rules.specs.Tree.{is_local, Image, used}
use Rattle.rules.specs.Control.{the_root, root_control, place_bytes}
use Rattle.rules.specs.Bitmap.{bitmap_from}
use Rattle.rules.specs.Check.{check}
use Rattle.rules.specs.Owners.{OwnerRecord, free}
use Rattle.rules.specs.Format.{upward}
use Rattle.reading_theorems.specs.Accepted.{accepted_iff}
use Rattle.editing_theorems.specs.NewChains.{length_upward}
use Rattle.owners.specs.Owned.{Marks}
use Rattle.owners.specs.Records.{records_of, Empty}
use Rattle.marks.specs.MapPages.{TellsLocal}
use Rattle.marks.specs.RootLaws.{root_held}
use Rattle.marks.specs.Marks.{marks_from}
use Rattle.marks.specs.MarkLaws.{marks_are}
use Rattle.format.specs.Formats.{control_field, map_page_count, bits_writes}
use Rattle.format.proofs.Marking.{new_marks}
use Rattle.listing.specs.KnownTree.{HasImage}
use Rattle.listing.proofs.Accepting.{accepted_stands}
use Rattle.layout.specs.Layout.{KnownEntries, CountsFurther, KnownDirectory, LaysDirectory}
use Rattle.gathering.specs.Gather.{Bare, BareImage, bare, bare_of, map_needs, gathered_size, gathered_image, gathered_bytes}
use Rattle.gathering.proofs.GatherPages.{count_gathered}
use Rattle.gathering.proofs.GatherLaid.{Layable, layable, bitmap_same}
use Rattle.gathering.proofs.GatherOrder.{pass_writes}
use Rattle.gathering.proofs.GatherPass.{gathered_then_map}
use Rattle.gather.specs.Copies.{HasRoom, root_writes, LaysRoot, HasKind, CopiesAll}

-- ---- the bits of the pages up to the last: a table without owners, and a bound
pub run_marks : (table : List OwnerRecord) (n size : ℕ) → table ≡ replicate n free → 1 ≤ size → Marks table size (upward 0 size)
run_marks table n zero e h = absurd (omega arith)
run_marks table n (suc k) e h = let z : k + 1 ≡ suc k = omega arith in subst (λ (m : ℕ). Marks table m (upward 0 (suc k))) z (new_marks table n k e)

-- ---- the copy in the order of the pass
module _ (g : Geometry) (valid : Valid g) (t : Bare) where
  abbrev blank_image : List ℕ
  blank_image = replicate (g.size * g.pages) 0xFF

  bits_same : (b : BareImage) (n : ℕ) → bitmap_from (used (gathered_image g b)) 0 n ≡ bitmap_from (upward 0 (gathered_size g b)) 0 n
  bits_same b n = bitmap_same (used (gathered_image g b)) (upward 0 (gathered_size g b)) (count_gathered g b) 0 n

  -- the bitmap in the root
  pub local_copy : Layable g (record { tree = t; local = true }) → (four : List ℕ) → four ≡ bitmap_from (upward 0 (gathered_size g (record { tree = t; local = true }))) 0 4
      → gathered_bytes g (record { tree = t; local = true }) ≡ after_writes g (root_writes g (control_field g.width 128 four) 1 t) blank_image
  unfolding gathered_image after_writes root_control control_field
  local_copy able four e =
      gathered_then_map g valid (record { tree = t; local = true }) able
      ∙ ap (λ (bits : List ℕ). after_writes g (root_writes g (control_field g.width 128 bits) 1 t) blank_image) (bits_same (record { tree = t; local = true }) 4 ∙ sym e)

  -- a bitmap file
  abbrev file_bare : BareImage
  file_bare = record { tree = t; local = false }

  abbrev map_run : List ℕ → List Link
  map_run bits = chain_of (data_capacity g) (upward 1 (pages_for (data_capacity g) (bitmap_size g))) bits

  map_length : (bits : List ℕ) → length (map_run bits) ≡ pages_for (data_capacity g) (bitmap_size g)
  map_length bits = length_chain_of (data_capacity g) (upward 1 (pages_for (data_capacity g) (bitmap_size g))) bits ∙ length_upward 1 (pages_for (data_capacity g) (bitmap_size g))

  pub file_copy : Layable g (record { tree = t; local = false }) → (count : ℕ) → count ≡ map_page_count g
      → (table : List OwnerRecord) → Marks table (gathered_size g (record { tree = t; local = false })) (upward 0 (gathered_size g (record { tree = t; local = false })))
      → gathered_bytes g (record { tree = t; local = false })
      ≡ after_writes g (bits_writes g table (gathered_size g (record { tree = t; local = false }))) (after_writes g (root_writes g (control_field g.width 0 (place_bytes g.width 1 count)) (suc count) t) blank_image)
  unfolding gathered_image root_control control_field bits_writes map_page_count
  file_copy able count c table m =
      let size = gathered_size g file_bare in
      let bits = bitmap_from (upward 0 size) 0 (bitmap_size g) in
      let k : length (map_run bits) ≡ count = map_length bits ∙ sym c in
      gathered_then_map g valid file_bare able
      ∙ ap₂ (λ (xs : List ℕ) (n : ℕ). after_writes g (linked (map_run xs)) (after_writes g (root_writes g (control_field g.width 0 (place_bytes g.width 1 n)) (suc (pages_for (data_capacity g) (bitmap_size g))) t) blank_image))
      (sym (marks_are table size (upward 0 size) m (bitmap_size g) 0)) k
      ∙ ap (λ (n : ℕ). after_writes g (linked (map_run (marks_from table size 0 (bitmap_size g)))) (after_writes g (root_writes g (control_field g.width 0 (place_bytes g.width 1 count)) (suc n) t) blank_image)) (sym c)

-- ---- an accepted image
module _ (g : Geometry) (image : List ℕ) (fit : Fit g image) (bytes : Bytes image) (i : Image) (a : check g (views_of g image) ≡ ok i) where
  able : Layable g (bare_of i)
  able = layable g image i bytes ((accepted_iff g image fit bytes i).0 a)

  -- the tree without its pages, its kind known
  kind_known : (local : Bool) → is_local i.map ≡ local → bare_of i ≡ record { tree = bare i.tree; local = local }
  kind_known local e = ap (λ (b : Bool). record { tree = bare i.tree; local = b }) e

  pub able_as : (local : Bool) → is_local i.map ≡ local → Layable g (record { tree = bare i.tree; local = local })
  able_as local e = subst (Layable g) (kind_known local e) able

  pub room_for : (local : Bool) → is_local i.map ≡ local → (from : ℕ) → from ≡ suc (map_needs g local) → HasRoom g image from
  room_for local e from f = record { tree = i; accepted = a; some = omega (arith, f); room = omega (arith, f, (able_as local e).room) }

  pub copy_is : (local : Bool) → is_local i.map ≡ local → (after : List ℕ) → after ≡ gathered_bytes g (record { tree = bare i.tree; local = local }) → after ≡ gathered_bytes g (bare_of i)
  copy_is local e after k = k ∙ ap (gathered_bytes g) (sym (kind_known local e))

-- ---- the root laid
module _ (g : Geometry) (image : List ℕ) (fit : Fit g image) (bytes : Bytes image) (from : ℕ) (R : HasRoom g image from) where
  entries_fit : Layable g (bare_of R.tree)
  entries_fit = able g image fit bytes R.tree R.accepted

  pub known_root_entries : KnownEntries g (views_of g image) 8 0
  known_root_entries = record { tree = R.tree.tree; stands = accepted_stands g (views_of g image) R.tree R.accepted; fitting = entries_fit.entries; few = omega (arith, R.room) }

  module _ (more : ℕ) (c : CountsFurther g (views_of g image) 8 0 more) where
    pub known_root : (head : List ℕ) → length head ≡ control_size g → KnownDirectory g (views_of g image) 8 0 head 0 from (from + more)
    known_root head h =
        let f = c R.tree.tree (accepted_stands g (views_of g image) R.tree R.accepted) in
        record {
          tree = R.tree.tree;
          stands = accepted_stands g (views_of g image) R.tree R.accepted;
          fitting = entries_fit.entries;
          field = h;
          order = omega (arith, R.some);
          inner = omega (arith, f);
          room = omega (arith, f, R.room);
        }

    pub root_few : from + more ≤ g.pages
    root_few = omega (arith, c R.tree.tree (accepted_stands g (views_of g image) R.tree R.accepted), R.room)

    pub root_laid : (control : ℕ) (four head second after : List ℕ) (r : ℕ) → head ≡ control_field g.width control four → second ≡ replicate (g.size * g.pages) 0xFF
        → LaysDirectory g (views_of g image) 8 the_root 0 head 0 from (from + more) second after r → LaysRoot g image control four from after r
    root_laid control four head second after r h s L i a =
        let S = accepted_stands g (views_of g image) i a in
        let l = L i.tree S in
        let f = c i.tree S in (
          l.0 ∙ ap₂ (λ (x y : List ℕ). after_writes g (pass_writes g the_root x 0 (first_entries g) from (from + more) (bare i.tree)) y) h s
              ∙ ap (λ (n : ℕ). after_writes g (pass_writes g the_root (control_field g.width control four) 0 (first_entries g) from (from + n) (bare i.tree)) (replicate (g.size * g.pages) 0xFF)) f,
          omega (arith, l.1, f),
        )

-- ---- the control field's size, and that of a place in it
pub field_length : (g : Geometry) (control : ℕ) (four : List ℕ) → length four ≡ 4 → length (control_field g.width control four) ≡ control_size g
unfolding control_field control_size
field_length g control four h = omega (arith, length-append (number_bytes g.width 0) (control ∷ four), length_number g.width 0, h)

pub place_length : (g : Geometry) → Valid g → (count : ℕ) → length (place_bytes g.width 1 count) ≡ 4
place_length g valid count =
    let n = g.width in
    omega (
      arith,
      length-append (replicate {A = ℕ} (4 - 2 * n) 0) (number_bytes n 1 ++ number_bytes n count),
      length-replicate {A = ℕ} (4 - 2 * n) 0,
      length-append (number_bytes n 1) (number_bytes n count),
      length_number n 1,
      length_number n count,
      valid.two,
    )

-- ---- by the kind of the bitmap
pub has_kind : (g : Geometry) (image : List ℕ) → Fit g image → Bytes image → HasImage g (views_of g image) → (r local : Bool) → TellsLocal g (view_of g image) r → r ≡ local → HasKind g image local
unfolding TellsLocal
has_kind g image fit bytes H r local T e = record {
  tree = H.image;
  accepted = H.accepted;
  kind = λ i a. let w = (accepted_iff g image fit bytes i).0 a in sym (T _ i.tree i.map (root_held g image _ i w.holds)) ∙ e;
}

module _ (g : Geometry) (image : List ℕ) (fit : Fit g image) (bytes : Bytes image) where
  pub file_room : (i : Image) → check g (views_of g image) ≡ ok i → is_local i.map ≡ false → (count : ℕ) → count ≡ map_page_count g → HasRoom g image (count + 1)
  unfolding map_page_count
  file_room i a k count c = room_for g image fit bytes i a false k (count + 1) (omega (arith, c))

  -- the bitmap in the root: laid, the pages counted, and laid with their bits
  pub local_copied : ((i : Image) → check g (views_of g image) ≡ ok i → is_local i.map ≡ true) → (table : List ℕ) → Empty g.pages table → (zeros first : List ℕ) (size : ℕ) → LaysRoot g image 128 zeros 1 first size
      → (four : List ℕ) → four ≡ marks_from (records_of table) size 0 4 → (after : List ℕ) (last : ℕ) → LaysRoot g image 128 four 1 after last → CopiesAll g image after
  local_copied kind table empty zeros first size L four f after last M i a =
      let k = kind i a in
      let s : size ≡ gathered_size g (record { tree = bare i.tree; local = true }) = omega (arith, (L i a).1) in
      let m = marks_are (records_of table) size (upward 0 size) (run_marks (records_of table) g.pages size empty.free (omega (arith, (L i a).1))) 4 0 in
      copy_is g image fit bytes i a true k after
      ((M i a).0 ∙ sym (local_copy g fit.valid (bare i.tree) (able_as g image fit bytes i a true k) four (f ∙ m ∙ ap (λ (n : ℕ). bitmap_from (upward 0 n) 0 4) s)))

  -- a bitmap file: the tree laid behind its pages, then the file written
  pub file_copied : ((i : Image) → check g (views_of g image) ≡ ok i → is_local i.map ≡ false) → (count : ℕ) → count ≡ map_page_count g → (table : List ℕ) → Empty g.pages table
      → (four : List ℕ) → four ≡ place_bytes g.width 1 count → (laid : List ℕ) (size : ℕ) → LaysRoot g image 0 four (count + 1) laid size
      → (after : List ℕ) → after ≡ after_writes g (bits_writes g (records_of table) size) laid → CopiesAll g image after
  unfolding map_page_count
  file_copied kind count c table empty four f laid size L after w i a =
      let k = kind i a in
      let t = bare i.tree in
      let z : count + 1 ≡ suc count = omega arith in
      let s : size ≡ gathered_size g (record { tree = t; local = false }) = omega (arith, (L i a).1, c) in
      let m : Marks (records_of table) (gathered_size g (record { tree = t; local = false })) (upward 0 (gathered_size g (record { tree = t; local = false })))
      = subst (λ (n : ℕ). Marks (records_of table) n (upward 0 n)) s (run_marks (records_of table) g.pages size empty.free (omega (arith, (L i a).1))) in
      copy_is g image fit bytes i a false k after
      (w ∙ ap₂ (λ (n : ℕ) (x : List ℕ). after_writes g (bits_writes g (records_of table) n) x) s
      ((L i a).0 ∙ ap₂ (λ (x : List ℕ) (n : ℕ). after_writes g (root_writes g (control_field g.width 0 x) n t) (replicate (g.size * g.pages) 0xFF)) f z)
      ∙ sym (file_copy g fit.valid t (able_as g image fit bytes i a false k) count c (records_of table) m))
