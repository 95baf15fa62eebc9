-- What is written is judged good, with those bytes and that pointer.
use Rattle.std.specs.Prelude.{◌≡◌, refl, true}
use Rattle.std.proofs.Math.Path.{ap, subst}
use Rattle.std.proofs.Common.{sym, ◌∙◌, take_at}
use mathlib.Core.List.{List, ◌∷◌, ◌++◌, append_assoc}
use Prim.Native.Nat.{ℕ, suc, ◌+◌, ◌-◌, ◌^◌, ◌≤◌, ◌<◌}
use native.Mathlib.Omega.{arith}
use lib.ListN.{length, take, drop, length-append}
use Rattle.std.proofs.Math.Seq.{drop_at}
use borrow.Author.Tests.{le-leb, eq-eqb}
use Rattle.geometry.specs.ChooseLaws.{choose_true}
use Rattle.geometry.specs.Number.{number, number_bytes}
use Rattle.geometry.specs.NumberLaws.{length_number, number_of}
use Rattle.packet.specs.Packet.{good, check_of, pointer_of, is_packet, packet_of, packet_body, packet_bytes, written}

pub length_packet : (n p : ℕ) (bytes : List ℕ) (next : ℕ) → length (packet_bytes n p bytes next) ≡ length bytes + n + 3
unfolding packet_bytes
length_packet n p bytes next = simp (length-append, length_number) (omega arith)

module _ (n p : ℕ) (bytes : List ℕ) (next : ℕ) (page : List ℕ) (h : length bytes + n + 3 ≤ length page) (k : next < 256 ^ n) where
  rest : List ℕ
  rest = drop (length (packet_bytes n p bytes next)) page

  check : ℕ
  check = check_of p (packet_body n bytes next)

  -- the page after the length byte
  tail : List ℕ
  tail = (bytes ++ number_bytes n next) ++ (number_bytes 2 check ++ rest)

  page_is : written n p bytes next page ≡ (length bytes + n) ∷ tail
  unfolding written packet_bytes rest check tail
  page_is = ap (λ (l : List ℕ). (length bytes + n) ∷ l) (append_assoc (bytes ++ number_bytes n next) (number_bytes 2 check) rest)

  size : length (bytes ++ number_bytes n next) ≡ length bytes + n
  size = simp (length-append, length_number)

  body_taken : take (length bytes + n + 1) ((length bytes + n) ∷ tail) ≡ packet_body n bytes next
  unfolding tail
  body_taken =
      let e : length bytes + n + 1 ≡ suc (length bytes + n) = omega arith in
      rw e (ap (λ (l : List ℕ). (length bytes + n) ∷ l) (take_at (bytes ++ number_bytes n next) (number_bytes 2 check ++ rest) (length bytes + n) size))

  check_found : number (take 2 (drop (length bytes + n + 1) ((length bytes + n) ∷ tail))) ≡ check
  unfolding tail check check_of
  check_found =
      let e : length bytes + n + 1 ≡ suc (length bytes + n) = omega arith in
      rw e (ap (λ (l : List ℕ). number (take 2 l)) (drop_at (bytes ++ number_bytes n next) (number_bytes 2 check ++ rest) (length bytes + n) size)
      ∙ ap number (take_at (number_bytes 2 check) rest 2 (length_number 2 check)) ∙ number_of 2 check (omega arith))

  regroup : tail ≡ bytes ++ (number_bytes n next ++ (number_bytes 2 check ++ rest))
  unfolding tail
  regroup = append_assoc bytes (number_bytes n next) (number_bytes 2 check ++ rest)

  bytes_taken : take (length bytes + n - n) tail ≡ bytes
  bytes_taken =
      let e : length bytes + n - n ≡ length bytes = omega arith in
      rw (e, regroup) (take_at bytes (number_bytes n next ++ (number_bytes 2 check ++ rest)) (length bytes) refl)

  pointer_found : pointer_of n (length bytes + n) ((length bytes + n) ∷ tail) ≡ next
  unfolding pointer_of
  pointer_found =
      let e : length bytes + n + 1 - n ≡ suc (length bytes) = omega arith in
      rw (e, regroup) (ap (λ (l : List ℕ). number (take n l)) (drop_at bytes (number_bytes n next ++ (number_bytes 2 check ++ rest)) (length bytes) refl)
      ∙ ap number (take_at (number_bytes n next) (number_bytes 2 check ++ rest) n (length_number n next)) ∙ number_of n next k)

  length_written : length (written n p bytes next page) ≡ length page
  unfolding written
  length_written = simp (length-append, lib.ListN.length-drop) (omega (arith, length_packet n p bytes next))

  is_packet_lem : is_packet n p ((length bytes + n) ∷ tail) ≡ true
  unfolding is_packet check
  is_packet_lem =
      let l : length bytes + n + 3 ≤ length ((length bytes + n) ∷ tail) = subst (λ (x : ℕ). length bytes + n + 3 ≤ x) (sym length_written ∙ ap length page_is) h in
      let c : number (take 2 (drop (length bytes + n + 1) ((length bytes + n) ∷ tail))) ≡ check_of p (take (length bytes + n + 1) ((length bytes + n) ∷ tail)) = check_found ∙ ap (check_of p) (sym body_taken) in
      simp (is_packet, le-leb n (length bytes + n) (omega arith), le-leb (length bytes + n + 3) (length ((length bytes + n) ∷ tail)) l, eq-eqb _ _ c)

  pub packet_written : packet_of n p (written n p bytes next page) ≡ good bytes next
  unfolding packet_of
  packet_written = rw page_is (simp (is_packet_lem, choose_true, bytes_taken, pointer_found))

  -- every byte after the packet stays
  pub rest_stays : drop (length bytes + n + 3) (written n p bytes next page) ≡ drop (length bytes + n + 3) page
  unfolding written
  rest_stays =
      let e = length_packet n p bytes next in
      drop_at (packet_bytes n p bytes next) (drop (length (packet_bytes n p bytes next)) page) (length bytes + n + 3) e ∙ ap (λ (i : ℕ). drop i page) e
