-- Two slices compared byte by byte, and what a page's packet is then.
use mathlib.Core.Path.{◌≡◌, refl, ap, sym, ◌∙◌}
use mathlib.Core.Bool.{Bool, true, false, ◌&&◌}
use mathlib.Core.List.{List, [], ◌∷◌}
use Prim.Native.Nat.{ℕ, ◌+◌, ◌≤◌}
use native.Mathlib.Omega.{arith}
use lib.Dec.{eqb}
use lib.ListN.{length, take, drop}
use Rattle.std.specs.Cmp.Lexicographic.{pointwise}
use borrow.Author.Tests.{eq-eqb, ne_eqb}
use Rattle.std.specs.Prelude.{Option, Some, None}
use Rattle.packet.specs.declared.Whole.{Whole}
use Rattle.packet.specs.Packet.{Packet, bad, good, packet_of, same_list, is_packet_of}
use Rattle.packet.specs.Judged.{judged}
use Rattle.packet.specs.Reading.{right_packet}

and_false : (b : Bool) → (b && false) ≡ false
and_false true = refl
and_false false = refl

and_true : (b : Bool) → (b && true) ≡ b
and_true true = refl
and_true false = refl

-- the rule's equality of lists is that of slices
same_is : (a b : List ℕ) → pointwise eqb a b ≡ same_list a b
same_is [] [] = refl
same_is [] (y ∷ b) = refl
same_is (x ∷ a) [] = refl
same_is (x ∷ a) (y ∷ b) = ap (λ (t : Bool). eqb x y && t) (same_is a b)

-- ---- a page's packet against bytes and a pointer
module _ (n p : ℕ) (page bytes : List ℕ) (next : ℕ) (r : Option Whole) (e : r ≡ judged (packet_of n p page)) where
  pub no_packet : r ≡ None → false ≡ is_packet_of (packet_of n p page) bytes next
  no_packet z = go (packet_of n p page) (sym z ∙ e)
    where
      go : (x : Packet) → None ≡ judged x → false ≡ is_packet_of x bytes next
      go bad y = refl
      go (good b k) y = absurd (let o : ◌≡◌ {A = ℕ} 0 1 = cc in omega arith)

  module _ (x : Whole) (m : r ≡ Some x) where
    -- its data bytes
    record Told : Type 0 where
      pub data_bytes : List ℕ
      pub packet : packet_of n p page ≡ good data_bytes x.next
      pub size_is : length data_bytes ≡ x.length

    told : Told
    told = go (packet_of n p page) refl
      where
        go : (q : Packet) → packet_of n p page ≡ q → Told
        go bad y = absurd (let o : Some x ≡ None = sym m ∙ e ∙ ap judged y in let z : ◌≡◌ {A = ℕ} 0 1 = cc in omega arith)
        go (good b k) y =
            let o : Some x ≡ Some (record { length = length b; next = k }) = sym m ∙ e ∙ ap judged y in
            let f : x ≡ record { length = length b; next = k } = cc in
            let i : x.length ≡ length b = ap (λ (w : Whole). w.length) f in
            let j : x.next ≡ k = ap (λ (w : Whole). w.next) f in
            record { data_bytes = b; packet = y ∙ ap (good b) (sym j); size_is = sym i }

    pub data_inside : x.length + 1 ≤ length page
    data_inside = let r = right_packet n p page told.data_bytes x.next told.packet in omega (arith, r.room, told.size_is)

    pub other_pointer : (x.next ≡ next → ⊥) → false ≡ is_packet_of (packet_of n p page) bytes next
    other_pointer z = sym (ap (λ (k : Packet). is_packet_of k bytes next) told.packet ∙ ap (λ (t : Bool). same_list told.data_bytes bytes && t) (ne_eqb x.next next z) ∙ and_false (same_list told.data_bytes bytes))

    pub same_pointer : x.next ≡ next → (d : List ℕ) → d ≡ take x.length (drop 1 page) → (t : Bool) → t ≡ pointwise eqb d bytes → t ≡ is_packet_of (packet_of n p page) bytes next
    same_pointer z d f t q =
        let b = told.data_bytes in
        let k : d ≡ b = f ∙ ap (λ (j : ℕ). take j (drop 1 page)) (sym told.size_is) ∙ sym (right_packet n p page b x.next told.packet).bytes_are in
        q ∙ same_is d bytes ∙ ap (λ (l : List ℕ). same_list l bytes) k ∙ sym (and_true (same_list b bytes))
        ∙ sym (ap (λ (k : Packet). is_packet_of k bytes next) told.packet ∙ ap (λ (u : Bool). same_list b bytes && u) (eq-eqb x.next next z))
