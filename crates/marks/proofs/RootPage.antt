-- Page 0: its packet copied, four bytes of its control field put, and what the field tells.
use Rattle.std.specs.Prelude.{Option, Some}
use Rattle.std.specs.Option.{IsSome}
use mathlib.Core.Path.{◌≡◌, refl, ap, ap₂, sym, ◌∙◌}
use mathlib.Core.List.{List, [], ◌∷◌, ◌++◌, append_assoc}
use Prim.Native.Nat.{ℕ, suc, ◌+◌, ◌-◌, ◌*◌, ◌^◌, ◌≤◌, ◌<◌}
use native.Mathlib.Omega.{arith}
use lib.Dec.{leb}
use lib.ListN.{length, get_or, take, drop, replicate, length-append, length-take, length-drop, length-replicate, take-append-drop}
use lib.Seq.{take_at, drop_at, get_or_at, drop-drop}
use Rattle.geometry.specs.declared.Geometry.{Geometry}
use Rattle.geometry.specs.Geometry.{Fit}
use Rattle.geometry.specs.Number.{number, number_bytes}
use Rattle.geometry.specs.NumberLaws.{length_number}
use Rattle.geometry.specs.Page.{page_of, overwritten}
use Rattle.geometry.specs.PageLaws.{page_length}
use Rattle.packet.specs.declared.Whole.{Whole}
use Rattle.packet.specs.Packet.{good, packet_of, view_of, write}
use Rattle.packet.specs.declared.Budget.{Budget}
use Rattle.packet.specs.Budgets.{Progress, write_one}
use Rattle.packet.specs.Judged.{frame_of, whole, judged}
use Rattle.packet.specs.Reading.{Right, right_packet, frame_right}
use Rattle.rules.specs.Chain.{Link, first}
use Rattle.rules.specs.Tree.{Map, in_root, in_file, is_local}
use Rattle.rules.specs.Control.{marker, control_byte, bitmap_field, root_control}
use Rattle.rules.specs.Owners.{OwnerRecord}
use Rattle.reading_theorems.specs.ByteLaws.{number_front}
use Rattle.marks.specs.Marks.{marks_from}
use Rattle.marks.specs.MarkLaws.{length_marks}
use Rattle.marks.specs.MapPages.{LocalMapAt, CopiesRoot}

-- ---- the packet of page 0 copied
module _ (g : Geometry) (image : List ℕ) (fit : Fit g image) (b : List ℕ) (next : ℕ) (q : view_of g image 0 ≡ good b next) where
  first_right : Right g.width (page_of g 0 image) b next
  unfolding view_of
  first_right = right_packet g.width 0 (page_of g 0 image) b next q

  first_size : length (page_of g 0 image) ≡ g.size
  first_size = page_length g image 0 fit (omega (arith, fit.valid.some))

  pub first_room : length b + g.width + 3 ≤ g.size
  first_room = omega (arith, first_right.room, first_size)

  module _ (page : List ℕ) (e : page ≡ page_of g 0 image) where
    -- the bytes after the length byte
    pub after_length : drop 1 page ≡ b ++ drop (length b) (drop 1 page)
    after_length =
        let k : take (length b) (drop 1 page) ≡ b = ap (λ (l : List ℕ). take (length b) (drop 1 l)) e ∙ sym first_right.bytes_are in
        sym (take-append-drop (length b) (drop 1 page)) ∙ ap (λ (l : List ℕ). l ++ drop (length b) (drop 1 page)) k

    module _ (r : Option Whole) (o : r ≡ judged (frame_of g.width page)) where
      first_known : r ≡ whole (length b) next
      unfolding view_of
      first_known = o ∙ ap judged (frame_right g.width 0 page b next (ap (packet_of g.width 0) e ∙ q))

      pub first_some : IsSome r
      first_some = rw first_known refl

      module _ (x : Whole) (m : r ≡ Some x) where
        told : x ≡ record { length = length b; next = next }
        told = let k : Some x ≡ whole (length b) next = sym m ∙ first_known in cc

        size_is : x.length ≡ length b
        size_is = ap (λ (y : Whole). y.length) told

        pub first_inside : x.length + 1 ≤ length page
        first_inside = omega (arith, ap length e, first_right.room, size_is)

        module _ (bytes : List ℕ) (i : bytes ≡ take x.length (drop 1 page)) where
          bytes_is : bytes ≡ b
          bytes_is = i ∙ ap₂ (λ (k : ℕ) (l : List ℕ). take k (drop 1 l)) size_is e ∙ sym first_right.bytes_are

          pub first_place : 0 + length bytes ≤ 256
          first_place = omega (arith, ap length bytes_is, first_room, fit.valid.most)

          pub first_copied : (before after : List ℕ) → after ≡ overwritten 0 bytes before → (Some x ≡ judged (good b next)) × (after ≡ b ++ drop (length b) before)
          unfolding overwritten
          first_copied before after w = (sym m ∙ first_known, w ∙ ap (λ (l : List ℕ). l ++ drop (length l) before) bytes_is)

-- ---- four bytes put into a control field
front : ℕ → List ℕ
front n = marker n ∷ (number_bytes n 0 ++ (128 ∷ []))

length_front : (n : ℕ) → length (front n) ≡ n + 2
unfolding front
length_front n = simp (length-append, length_number) (omega arith)

field_last : (n : ℕ) (bits rest : List ℕ) → root_control n bits in_root ++ rest ≡ front n ++ (bits ++ rest)
unfolding root_control front
field_last n bits rest =
    ap (λ (l : List ℕ). marker n ∷ l) (append_assoc (number_bytes n 0) (128 ∷ bits) rest ∙ sym (append_assoc (number_bytes n 0) (128 ∷ []) (bits ++ rest)))

module _ (n : ℕ) (bits rest more marks : List ℕ) (four : length bits ≡ 4) (also : length marks ≡ 4) where
  abbrev old : List ℕ
  old = (root_control n bits in_root ++ rest) ++ more

  old_is : old ≡ front n ++ (bits ++ (rest ++ more))
  old_is = ap (λ (l : List ℕ). l ++ more) (field_last n bits rest) ∙ append_assoc (front n) (bits ++ rest) more ∙ ap (λ (l : List ℕ). front n ++ l) (append_assoc bits rest more)

  put_is : take (n + 2) old ++ (marks ++ drop 4 (drop (n + 2) old)) ≡ (root_control n marks in_root ++ rest) ++ more
  put_is =
      let t : take (n + 2) old ≡ front n = ap (take (n + 2)) old_is ∙ take_at (front n) (bits ++ (rest ++ more)) (n + 2) (length_front n) in
      let d : drop (n + 2) old ≡ bits ++ (rest ++ more) = ap (drop (n + 2)) old_is ∙ drop_at (front n) (bits ++ (rest ++ more)) (n + 2) (length_front n) in
      let f : drop 4 (drop (n + 2) old) ≡ rest ++ more = ap (drop 4) d ∙ drop_at bits (rest ++ more) 4 four in
      ap₂ (λ (x y : List ℕ). x ++ (marks ++ y)) t f
      ∙ sym (ap (λ (l : List ℕ). l ++ more) (field_last n marks rest) ∙ append_assoc (front n) (marks ++ rest) more ∙ ap (λ (l : List ℕ). front n ++ l) (append_assoc marks rest more))

  same_size : length (root_control n marks in_root ++ rest) ≡ length (root_control n bits in_root ++ rest)
  same_size =
      let e : (xs : List ℕ) → length (root_control n xs in_root ++ rest) ≡ length (front n) + (length xs + length rest)
      = λ xs. ap length (field_last n xs rest) ∙ length-append (front n) (xs ++ rest) ∙ ap (λ (k : ℕ). length (front n) + k) (length-append xs rest) in
      omega (arith, e bits, e marks)

  pub field_put : take (length (root_control n bits in_root ++ rest)) (take (n + 2) old ++ (marks ++ drop 4 (drop (n + 2) old))) ≡ root_control n marks in_root ++ rest
  field_put = ap (take (length (root_control n bits in_root ++ rest))) put_is ∙ take_at (root_control n marks in_root ++ rest) more (length (root_control n bits in_root ++ rest)) same_size

-- ---- page 0 written
module _ (g : Geometry) (image : List ℕ) (fit : Fit g image) (table : List OwnerRecord) (below : ℕ) (buffer copied : List ℕ) (r : Whole) (C : CopiesRoot g (view_of g image) r buffer copied)
    (bits rest : List ℕ) (next : ℕ) (L : LocalMapAt g (view_of g image) bits rest next) where
  abbrev n : ℕ
  n = g.width

  abbrev root : List ℕ → List ℕ
  root xs = root_control n xs in_root ++ rest

  known : r ≡ record { length = length (root bits); next = next }
  unfolding CopiesRoot
  known = let k : Some r ≡ whole (length (root bits)) next = (C (root bits) next L.packet).0 in cc

  copied_is : copied ≡ root bits ++ drop (length (root bits)) buffer
  unfolding CopiesRoot
  copied_is = (C (root bits) next L.packet).1

  module _ {marks : List ℕ} (f : marks ≡ marks_from table below 0 (length (take (n + 2 + 4 - (n + 2)) (drop (n + 2) copied)))) where
    size_told : r.length ≡ length (root bits)
    size_told = ap (λ (y : Whole). y.length) known

    next_told : r.next ≡ next
    next_told = ap (λ (y : Whole). y.next) known

    four : n + 2 + 4 - (n + 2) ≡ 4
    four = omega arith

    four_are : length (take (n + 2 + 4 - (n + 2)) (drop (n + 2) copied)) ≡ 4
    four_are =
        let l : length (root bits) ≡ n + 2 + (4 + length rest) =
        ap length (field_last n bits rest) ∙ length-append (front n) (bits ++ rest) ∙ ap₂ (λ (x y : ℕ). x + y) (length_front n) (length-append bits rest ∙ ap (λ (x : ℕ). x + length rest) L.four) in
        let c : length copied ≡ length (root bits) + length (drop (length (root bits)) buffer) = ap length copied_is ∙ length-append (root bits) (drop (length (root bits)) buffer) in
        rw four (simp (length-take, length-drop) (omega arith))

    marks_are : marks ≡ marks_from table below 0 4
    marks_are = f ∙ ap (marks_from table below 0) four_are

    abbrev put : List ℕ
    put = take (n + 2) copied ++ (marks ++ drop (n + 2 + 4 - (n + 2)) (drop (n + 2) copied))

    pub root_put : take r.length put ≡ root (marks_from table below 0 4)
    root_put =
        let a : take r.length put ≡ take r.length (take (n + 2) copied ++ (marks ++ drop 4 (drop (n + 2) copied))) = ap (λ (j : ℕ). take r.length (take (n + 2) copied ++ (marks ++ drop j (drop (n + 2) copied)))) four in
        a ∙ ap₂ (λ (j : ℕ) (l : List ℕ). take j (take (n + 2) l ++ (marks ++ drop 4 (drop (n + 2) l)))) size_told copied_is
        ∙ field_put n bits rest (drop (length (root bits)) buffer) marks L.four (ap length marks_are ∙ length_marks table below 4 0) ∙ ap root marks_are

    -- it is as long as before
    pub root_size : length (take r.length put) ≡ r.length
    root_size = ap length root_put ∙ same_size n bits rest [] (marks_from table below 0 4) L.four (length_marks table below 4 0) ∙ sym size_told

    pub root_there : r.length ≤ length put
    root_there = omega (arith, root_size, length-take r.length put)

    pub root_fits : length (take r.length put) + n + 3 ≤ g.size
    root_fits = omega (arith, root_size, size_told, first_room g image fit (root bits) next L.packet)

    pub root_written : (budget : Budget) (after : Progress) → after ≡ write_one g (write 0 (take r.length put) r.next) (record { image = image; budget = budget })
        → after ≡ write_one g (write 0 (root (marks_from table below 0 4)) next) (record { image = image; budget = budget })
    root_written budget after w = w ∙ ap₂ (λ (l : List ℕ) (j : ℕ). write_one g (write 0 l j) (record { image = image; budget = budget })) root_put next_told

-- ---- what the control field tells
control_split : (n : ℕ) (bits : List ℕ) (m : Map) (rest : List ℕ) → root_control n bits m ++ rest ≡ (marker n ∷ number_bytes n 0) ++ (control_byte m ∷ (bitmap_field n bits m ++ rest))
unfolding root_control
control_split n bits m rest = ap (λ (l : List ℕ). marker n ∷ l) (append_assoc (number_bytes n 0) (control_byte m ∷ bitmap_field n bits m) rest)

length_head : (n : ℕ) → length (marker n ∷ number_bytes n 0) ≡ n + 1
length_head n = omega (arith, length_number n 0)

tail_at : (page : List ℕ) (k : ℕ) → get_or page (suc k) 0 ≡ get_or (drop 1 page) k 0
tail_at [] k = refl
tail_at (x ∷ page) k = refl

local_bit : (m : Map) → leb 128 (control_byte m) ≡ is_local m
local_bit in_root = refl
local_bit (in_file ls) = refl

module _ (n : ℕ) (page more : List ℕ) where
  pub local_told : (bits : List ℕ) (m : Map) → drop 1 page ≡ root_control n bits m ++ more → leb 128 (get_or page (n + 2) 0) ≡ is_local m
  local_told bits m e =
      let i : n + 2 ≡ suc (n + 1) = omega arith in
      let c : get_or page (n + 2) 0 ≡ control_byte m = ap (λ (k : ℕ). get_or page k 0) i ∙ tail_at page (n + 1) ∙ ap (λ (l : List ℕ). get_or l (n + 1) 0) (e ∙ control_split n bits m more)
      ∙ get_or_at (marker n ∷ number_bytes n 0) (control_byte m) (bitmap_field n bits m ++ more) 0 (n + 1) (length_head n) in
      ap (leb 128) c ∙ local_bit m

  pub start_told : (bits : List ℕ) (ls : List Link) → 1 ≤ n → n ≤ 2 → first ls < 256 ^ n → drop 1 page ≡ root_control n bits (in_file ls) ++ more → number (take n (drop (7 - n) page)) ≡ first ls
  start_told bits ls one two h e =
      let zs = replicate {A = ℕ} (4 - 2 * n) 0 in
      let start = number_bytes n (first ls) in
      let count = number_bytes n (length ls) in
      let i : 1 + (6 - n) ≡ 7 - n = omega arith in
      let j : 1 + (n + 1) ≡ n + 2 = omega arith in
      let a : drop (7 - n) page ≡ drop (6 - n) (drop 1 page) = ap (λ (k : ℕ). drop k page) (sym i) ∙ sym (drop-drop (6 - n) 1 page) in
      let b : (marker n ∷ number_bytes n 0) ++ (0 ∷ ((zs ++ (start ++ count)) ++ more)) ≡ ((marker n ∷ number_bytes n 0) ++ (0 ∷ zs)) ++ (start ++ (count ++ more)) =
      ap (λ (l : List ℕ). (marker n ∷ number_bytes n 0) ++ (0 ∷ l)) (append_assoc zs (start ++ count) more ∙ ap (λ (l : List ℕ). zs ++ l) (append_assoc start count more))
      ∙ sym (append_assoc (marker n ∷ number_bytes n 0) (0 ∷ zs) (start ++ (count ++ more))) in
      let l : length ((marker n ∷ number_bytes n 0) ++ (0 ∷ zs)) ≡ 6 - n = length-append (marker n ∷ number_bytes n 0) (0 ∷ zs) ∙ omega (arith, length_head n, length-replicate {A = ℕ} (4 - 2 * n) 0) in
      ap (λ (x : List ℕ). number (take n x)) (a ∙ ap (drop (6 - n)) (e ∙ control_split n bits (in_file ls) more ∙ b) ∙ drop_at ((marker n ∷ number_bytes n 0) ++ (0 ∷ zs)) (start ++ (count ++ more)) (6 - n) l)
      ∙ number_front n (first ls) (count ++ more) h
