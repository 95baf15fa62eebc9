-- What a right packet's page has: its data bytes after the length byte, its pointer after them, and room for both and the check.
use Rattle.std.specs.Prelude.{◌≡◌, refl, List, ℕ, ◌+◌, ◌-◌, ◌≤◌, leb, eqb, length, get_or, take, drop}
use Rattle.std.proofs.Common.{ap, sym, subst, arith, length-drop, length-take-le, leb-true, le-leb}
use mathlib.Core.Bool.{Bool, true, false, ◌&&◌}
use Rattle.geometry.specs.ChooseLaws.{choose_true, on_choose}
use Rattle.geometry.specs.Number.{number}
use Rattle.packet.specs.Packet.{bad, good, check_of, pointer_of, is_packet, packet_of}
use Rattle.packet.specs.Judged.{frame_of}

pub record Right (n : ℕ) (page bytes : List ℕ) (next : ℕ) : Type 0 where
  pub room : length bytes + n + 3 ≤ length page
  pub bytes_are : bytes ≡ take (length bytes) (drop 1 page)
  pub pointer : next ≡ number (take n (drop (length bytes + 1) page))

-- a packet is right by its length
lengths : (n p : ℕ) (page : List ℕ) → is_packet n p page ≡ true → (n ≤ get_or page 0 0) × (get_or page 0 0 + 3 ≤ length page)
unfolding is_packet
lengths n p page e = go (leb n (get_or page 0 0)) (leb (get_or page 0 0 + 3) (length page)) refl refl e
  where
    go : (s t : Bool) → leb n (get_or page 0 0) ≡ s → leb (get_or page 0 0 + 3) (length page) ≡ t
        → (s && (t && eqb (number (take 2 (drop (get_or page 0 0 + 1) page))) (check_of p (take (get_or page 0 0 + 1) page)))) ≡ true
        → (n ≤ get_or page 0 0) × (get_or page 0 0 + 3 ≤ length page)
    go true true a b q = (leb-true n (get_or page 0 0) a, leb-true (get_or page 0 0 + 3) (length page) b)
    go true false a b q = absurd (mathlib.Core.Bool.false≢true q)
    go false t a b q = absurd (mathlib.Core.Bool.false≢true q)

right_of : (n len : ℕ) (page : List ℕ) → n ≤ len → len + 3 ≤ length page → Right n page (take (len - n) (drop 1 page)) (pointer_of n len page)
unfolding pointer_of
right_of n len page h k =
    let l : length (take (len - n) (drop 1 page)) ≡ len - n = length-take-le (len - n) (drop 1 page) (simp length-drop (omega arith)) in
    let i : len + 1 - n ≡ length (take (len - n) (drop 1 page)) + 1 = omega arith in
    record { room = omega arith; bytes_are = ap (λ (j : ℕ). take j (drop 1 page)) (sym l); pointer = ap (λ (j : ℕ). number (take n (drop j page))) i }

pub right_packet : (n p : ℕ) (page bytes : List ℕ) (next : ℕ) → packet_of n p page ≡ good bytes next → Right n page bytes next
unfolding packet_of
right_packet n p page bytes next e =
    on_choose (is_packet n p page) (good (take (get_or page 0 0 - n) (drop 1 page)) (pointer_of n (get_or page 0 0) page)) bad (good bytes next) e
    (λ q e. let l = lengths n p page q in
    let a : take (get_or page 0 0 - n) (drop 1 page) ≡ bytes = cc in
    let b : pointer_of n (get_or page 0 0) page ≡ next = cc in
    subst (λ (x : ℕ). Right n page bytes x) b (subst (λ (l : List ℕ). Right n page l (pointer_of n (get_or page 0 0) page)) a (right_of n (get_or page 0 0) page l.0 l.1)))
    (λ q e. absurd (let z : ◌≡◌ {A = ℕ} 0 1 = cc in omega arith))

-- a right packet is right by its length alone
pub frame_right : (n p : ℕ) (page bytes : List ℕ) (next : ℕ) → packet_of n p page ≡ good bytes next → frame_of n page ≡ good bytes next
unfolding packet_of frame_of
frame_right n p page bytes next e =
    on_choose (is_packet n p page) (good (take (get_or page 0 0 - n) (drop 1 page)) (pointer_of n (get_or page 0 0) page)) bad (good bytes next) e
    (λ q e. let l = lengths n p page q in simp (le-leb n (get_or page 0 0) l.0, le-leb (get_or page 0 0 + 3) (length page) l.1, choose_true) e)
    (λ q e. absurd (let z : ◌≡◌ {A = ℕ} 0 1 = cc in omega arith))
