-- The cases of a packet, as the code meets them.
use mathlib.Core.Path.{◌≡◌, refl, ap, ap₂, sym, ◌∙◌}
use mathlib.Core.Logic.{◌⊎◌, inl, inr}
use mathlib.Core.Bool.{Bool, true, false}
use mathlib.Core.List.{List}
use Prim.Native.Nat.{ℕ, ◌+◌, ◌-◌, ◌<◌, ◌≤◌}
use native.Mathlib.Omega.{arith}
use lib.ListN.{length, get_or, take, drop, length-drop}
use lib.Seq.{length-take-le}
use lib.Dec.{leb}
use borrow.Author.Tests.{le-leb, lt-leb, leb-true, eq-eqb, ne_eqb}
use Rattle.crc16.specs.Crc16.{crc16}
use Rattle.geometry.specs.ChooseLaws.{choose_true, choose_false}
use Rattle.geometry.specs.Number.{number}
use Rattle.std.specs.Prelude.{Option, Some, None}
use Rattle.packet.specs.declared.Whole.{Whole}
use Rattle.packet.specs.Packet.{Packet, bad, good, check_of, pointer_of, is_packet, packet_of}
use Rattle.packet.specs.Judged.{frame_of, whole, judged}

-- a packet by its length alone
module _ (n len : ℕ) (b : List ℕ) (e : len ≡ get_or b 0 0) where
  pub too_small : len < n → None ≡ judged (frame_of n b)
  unfolding frame_of
  too_small h = simp (frame_of, ← e, lt-leb n len h, choose_false)

  pub too_long : n ≤ len → length b < len + 3 → None ≡ judged (frame_of n b)
  unfolding frame_of
  too_long h k = simp (frame_of, ← e, le-leb n len h, lt-leb (len + 3) (length b) k, choose_false)

  pub framed : n ≤ len → len + 3 ≤ length b → (next : ℕ) → next ≡ number (take n (drop (len + 1 - n) b)) → whole (len - n) next ≡ judged (frame_of n b)
  unfolding frame_of pointer_of
  framed h k next q =
      let l : length (take (len - n) (drop 1 b)) ≡ len - n = length-take-le (len - n) (drop 1 b) (simp length-drop (omega arith)) in
      simp (frame_of, ← e, le-leb n len h, le-leb (len + 3) (length b) k, choose_true, pointer_of, ← q) (ap (λ (y : ℕ). whole y next) (sym l))

-- what a frame says of its page
judged_bad : (k : Packet) → judged k ≡ None → k ≡ bad
judged_bad bad e = refl
judged_bad (good c m) e = absurd (let z : ◌≡◌ {A = ℕ} 0 1 = cc in omega arith)

judged_whole : (k : Packet) (x : Whole) → judged k ≡ Some x → (c : List ℕ) × (k ≡ good c x.next) × (length c ≡ x.length)
judged_whole bad x e = absurd (let z : ◌≡◌ {A = ℕ} 0 1 = cc in omega arith)
judged_whole (good c m) x e = let i : record { length = length c; next = m } ≡ x = cc in (c, ap (λ (y : Whole). good c y.next) i, ap (λ (y : Whole). y.length) i)

module _ (n p : ℕ) (b : List ℕ) (r : Option Whole) (f : r ≡ judged (frame_of n b)) where
  frame_tests : (s t : Bool) → leb n (get_or b 0 0) ≡ s → leb (get_or b 0 0 + 3) (length b) ≡ t → (k : Packet) → frame_of n b ≡ k
      → ((k ≡ bad) × (is_packet n p b ≡ false)) ⊎ ((s ≡ true) × (t ≡ true) × (k ≡ good (take (get_or b 0 0 - n) (drop 1 b)) (pointer_of n (get_or b 0 0) b)))
  unfolding frame_of is_packet
  frame_tests false t h j k e = inl (sym e ∙ simp (h, choose_false), simp h)
  frame_tests true false h j k e = inl (sym e ∙ simp (h, j, choose_false), simp (h, j))
  frame_tests true true h j k e = inr (refl, refl, sym e ∙ simp (h, j, choose_true))

  cases : ((frame_of n b ≡ bad) × (is_packet n p b ≡ false))
      ⊎ ((leb n (get_or b 0 0) ≡ true) × (leb (get_or b 0 0 + 3) (length b) ≡ true) × (frame_of n b ≡ good (take (get_or b 0 0 - n) (drop 1 b)) (pointer_of n (get_or b 0 0) b)))
  cases = frame_tests (leb n (get_or b 0 0)) (leb (get_or b 0 0 + 3) (length b)) refl refl (frame_of n b) refl

  pub no_frame : r ≡ None → None ≡ judged (packet_of n p b)
  unfolding packet_of
  no_frame z = elim cases [
    | inl q ↦ simp (packet_of, q.1, choose_false)
    | inr q ↦ absurd (let e : frame_of n b ≡ bad = judged_bad (frame_of n b) (sym f ∙ z) in let g = q.2 in let y : ◌≡◌ {A = ℕ} 0 1 = cc in omega arith)
  ]

  -- a frame fits its page
  pub record Framed (x : Whole) : Type 0 where
    pub least : n ≤ get_or b 0 0
    pub most : get_or b 0 0 + 3 ≤ length b
    pub whole : get_or b 0 0 ≡ x.length + n
    pub bytes : x.length ≡ length (take (get_or b 0 0 - n) (drop 1 b))
    pub points : x.next ≡ pointer_of n (get_or b 0 0) b

  pub frame_fits : (x : Whole) → r ≡ Some x → Framed x
  frame_fits x z = elim cases [
    | inl q ↦ absurd (let e = judged_whole (frame_of n b) x (sym f ∙ z) in let g = q.0 in let h = e.1 in let y : ◌≡◌ {A = ℕ} 0 1 = cc in omega arith)
    | inr q ↦ let e = judged_whole (frame_of n b) x (sym f ∙ z) in
        let i = leb-true n (get_or b 0 0) q.0 in
        let j = leb-true (get_or b 0 0 + 3) (length b) q.1 in
        let l : length (take (get_or b 0 0 - n) (drop 1 b)) ≡ get_or b 0 0 - n = length-take-le (get_or b 0 0 - n) (drop 1 b) (simp length-drop (omega arith)) in
        let g = q.2 in
        let h = e.1 in
        let c : e.0 ≡ take (get_or b 0 0 - n) (drop 1 b) = cc in
        let m : x.length ≡ length (take (get_or b 0 0 - n) (drop 1 b)) = sym e.2 ∙ ap length c in
        record { least = i; most = j; whole = omega arith; bytes = m; points = cc }
  ]

  -- then the check decides
  module _ (x : Whole) (z : r ≡ Some x) (u w : ℕ) (s : u ≡ number (take 2 (drop (x.length + n + 1) b))) (d : w ≡ crc16 p (take (x.length + n + 1) b)) where
    k : Framed x
    k = frame_fits x z

    u_is : u ≡ number (take 2 (drop (get_or b 0 0 + 1) b))
    u_is = s ∙ ap (λ (i : ℕ). number (take 2 (drop (i + 1) b))) (sym k.whole)

    w_is : 65535 - w ≡ check_of p (take (get_or b 0 0 + 1) b)
    unfolding check_of
    w_is = ap (λ (i : ℕ). 65535 - i) (d ∙ ap (λ (i : ℕ). crc16 p (take (i + 1) b)) (sym k.whole))

    pub wrong_check : (u ≡ 65535 - w → ⊥) → None ≡ judged (packet_of n p b)
    unfolding packet_of is_packet
    wrong_check t = simp (packet_of, is_packet, le-leb n (get_or b 0 0) k.least, le-leb (get_or b 0 0 + 3) (length b) k.most, ← u_is, ← w_is, ne_eqb u (65535 - w) t, choose_false)

    pub right_check : u ≡ 65535 - w → Some x ≡ judged (packet_of n p b)
    unfolding packet_of is_packet
    right_check t =
        simp (packet_of, is_packet, le-leb n (get_or b 0 0) k.least, le-leb (get_or b 0 0 + 3) (length b) k.most, ← u_is, ← w_is, eq-eqb u (65535 - w) t, choose_true)
        (ap₂ whole k.bytes k.points)
