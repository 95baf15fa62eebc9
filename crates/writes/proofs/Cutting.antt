-- A page's data put together with some bytes exchanged, as the code does it, and written.
use Rattle.std.specs.Prelude.{Ok}
use mathlib.Core.Path.{◌≡◌, refl, ap, ap₂, sym, ◌∙◌, subst}
use mathlib.Core.List.{List, [], ◌++◌, append_assoc}
use Prim.Native.Nat.{ℕ, ◌+◌, ◌-◌, ◌≤◌, ◌<◌}
use native.Mathlib.Omega.{arith}
use lib.ListN.{length, take, drop, length-append, length-drop}
use lib.Seq.{length-take-le, take_at, take_all}
use Rattle.geometry.specs.declared.Geometry.{Geometry}
use Rattle.geometry.specs.Geometry.{Fit}
use Rattle.geometry.specs.Page.{page_of, overwritten}
use Rattle.packet.specs.Packet.{good, View, view_of}
use Rattle.packet.specs.Reading.{right_packet}
use Rattle.packet.proofs.Fronts.{front_more}
use Rattle.chain.specs.declared.Cursor.{Cursor}
use Rattle.chain.specs.Claims.{IsGood, Counted}
use Rattle.chain.specs.Steps.{first_step, step_of}
use Rattle.chain.proofs.Following.{stepped, small_view}
use Rattle.writes.specs.Changes.{over_front, spliced, HasSpan}

pub length_spliced : (from to : ℕ) (new b : List ℕ) → from ≤ to → to ≤ length b → length (spliced from to new b) ≡ from + length new + (length b - to)
length_spliced from to new b h k =
    omega (arith, length-append (take from b) (new ++ drop to b), length-append new (drop to b), length-take-le from b (omega arith), length-drop to b)

-- its places are in a page
pub span_few : (g : Geometry) (image : List ℕ) → Fit g image → (page from to n : ℕ) → HasSpan g (view_of g image) page from to n → (from ≤ to) × (to < 256)
span_few g image fit page from to n h = (h.span.order, omega (arith, h.span.inside, small_view g image fit page h.bytes h.next h.span.packet))

-- three parts one after the other
pub splice_is : (bytes new out b₁ b₂ b₃ : List ℕ) (from to : ℕ) → from ≤ to → to ≤ length bytes → b₁ ≡ overwritten 0 (take from bytes) out → b₂ ≡ overwritten from new b₁
    → b₃ ≡ overwritten (from + length new) (take (length bytes - to) (drop to bytes)) b₂ → b₃ ≡ over_front (spliced from to new bytes) out
splice_is bytes new out b₁ b₂ b₃ from to h k e f q =
    let n : length (take from bytes) ≡ from = length-take-le from bytes (omega arith) in
    let i : b₁ ≡ over_front (take from bytes) out = e ∙ front_more [] (take from bytes) out 0 refl in
    let m : b₂ ≡ over_front (take from bytes ++ new) out = f ∙ ap (overwritten from new) i ∙ front_more (take from bytes) new out from n in
    let j : take (length bytes - to) (drop to bytes) ≡ drop to bytes = take_all (length bytes - to) (drop to bytes) (omega (arith, length-drop to bytes)) in
    q ∙ ap₂ (overwritten (from + length new)) j m ∙ front_more (take from bytes ++ new) (drop to bytes) out (from + length new) (length-append (take from bytes) new ∙ ap (λ (x : ℕ). x + length new) n)
    ∙ ap (λ (x : List ℕ). over_front x out) (append_assoc (take from bytes) new (drop to bytes))

module _ {g : Geometry} {image : List ℕ} (fit : Fit g image) {page from to n : ℕ} (below : page < g.pages) (H : HasSpan g (view_of g image) page from to n) {c : Cursor} (c_is : c ≡ first_step page page) where
  abbrev v : View
  v = view_of g image

  at_page : c.page ≡ page
  at_page = ap (λ (x : Cursor). x.page) c_is

  pub page_good : Counted c × IsGood (v c.page)
  page_good = (subst Counted (sym c_is) (record { few = omega arith; small = omega arith }), rw (at_page, H.span.packet) tt)

  pub page_below : c.page < g.pages
  page_below = rw at_page below

  module _ {size : ℕ} {d : Cursor} (o : Ok (size, d) ≡ step_of g v c) where
    -- what is read of the page
    reads : (b : List ℕ) (next : ℕ) → v page ≡ good b next → length b ≡ size
    reads b next p =
        let k = stepped g v c page_below size d o in
        let q : good b next ≡ good k.0 d.page = sym p ∙ ap v (sym at_page) ∙ k.1 in
        let i : b ≡ k.0 = cc in
        ap length i ∙ k.2

    -- the sizes of its parts
    pub parts : (from ≤ to) × (to ≤ size) × (from + n + (size - to) + g.width + 3 ≤ g.size) × (g.size ≤ 256) × (size < 256)
    parts =
        let k = reads H.bytes H.next H.span.packet in
        (H.span.order, omega (arith, H.span.inside, k), omega (arith, H.span.room, k), fit.valid.most, omega (arith, small_view g image fit page H.bytes H.next H.span.packet, k))

    module _ (bytes : List ℕ) (p_is : bytes ≡ page_of g page image) where
      right : (b : List ℕ) (next : ℕ) → v page ≡ good b next → (length b + g.width + 3 ≤ length bytes) × (b ≡ take size (drop 1 bytes))
      unfolding view_of
      right b next p =
          let r = right_packet g.width page (page_of g page image) b next p in
          (omega (arith, r.room, ap length p_is), r.bytes_are ∙ ap₂ (λ (n : ℕ) (x : List ℕ). take n (drop 1 x)) (reads b next p) (sym p_is))

      pub in_page_lem : size + 1 ≤ length bytes
      in_page_lem = omega (arith, (right H.bytes H.next H.span.packet).0, reads H.bytes H.next H.span.packet)

      pub data_size : (xs : List ℕ) → xs ≡ take size (drop 1 bytes) → length xs ≡ size
      data_size xs e = ap length e ∙ length-take-le size (drop 1 bytes) (omega (arith, in_page_lem, length-drop 1 bytes))

      -- the data written
      pub spliced_data : (new : List ℕ) → length new ≡ n → (xs out kept : List ℕ) → xs ≡ take size (drop 1 bytes) → kept ≡ over_front (spliced from to new xs) out
          → (b : List ℕ) (next : ℕ) → v page ≡ good b next → take (from + n + (size - to)) kept ≡ spliced from to new b
      spliced_data new z xs out kept d_is w b next p =
          let i : xs ≡ b = d_is ∙ sym (right b next p).1 in
          let l = length_spliced from to new b H.span.order (omega (arith, parts, reads b next p)) in
          ap (take (from + n + (size - to))) (w ∙ ap (λ (x : List ℕ). over_front (spliced from to new x) out) i)
          ∙ take_at (spliced from to new b) (drop (length (spliced from to new b)) out) (from + n + (size - to)) (omega (arith, l, z, reads b next p))
