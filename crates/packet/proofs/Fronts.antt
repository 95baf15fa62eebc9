-- A page whose front is written part by part, and a page written in its image.
use mathlib.Core.Path.{◌≡◌, refl, ap, sym, ◌∙◌}
use mathlib.Core.List.{List, [], ◌∷◌, ◌++◌, append-nil, append_assoc}
use Prim.Native.Nat.{ℕ, ◌+◌, ◌-◌, ◌*◌, ◌≤◌, ◌<◌}
use native.Mathlib.Nat.{add-sub_cancel_left}
use native.Mathlib.Omega.{arith}
use lib.ListN.{length, take, drop, length-append, drop_of_length-le, replicate, length-replicate}
use lib.Seq.{take_at, drop_at, drop-drop, length-take-le}
use Rattle.crc16.specs.Crc16.{crc16}
use Rattle.geometry.specs.Number.{number_bytes}
use Rattle.geometry.specs.NumberLaws.{length_number}
use Rattle.geometry.specs.declared.Geometry.{Geometry}
use Rattle.geometry.specs.Page.{overwritten, page_of, with_page}
use Rattle.packet.specs.Packet.{check_of, packet_body, packet_bytes, written, write, write_page}

-- b with the bytes xs over its front
abbrev pub front : List ℕ → List ℕ → List ℕ
front xs b = xs ++ drop (length xs) b

-- the part after the front is written
pub front_more : (xs ys b : List ℕ) (at : ℕ) → length xs ≡ at → overwritten at ys (front xs b) ≡ front (xs ++ ys) b
unfolding overwritten
front_more xs ys b at e =
    let t : take at (front xs b) ≡ xs = take_at xs (drop (length xs) b) at e in
    let d : drop at (front xs b) ≡ drop (length xs) b = drop_at xs (drop (length xs) b) at e in
    let i : length xs + length ys ≡ length (xs ++ ys) = omega (arith, length-append xs ys) in
    let z : drop (length ys) (drop (length xs) b) ≡ drop (length (xs ++ ys)) b = drop-drop (length ys) (length xs) b ∙ ap (λ (j : ℕ). drop j b) i in
    rw (t, d, z) (sym (append_assoc xs ys (drop (length (xs ++ ys)) b)))

-- a front of the whole length is all there is
pub front_whole : (xs b : List ℕ) → length xs ≡ length b → front xs b ≡ xs
front_whole xs b e = ap (λ (l : List ℕ). xs ++ l) (drop_of_length-le b {i = length xs} (omega (arith, e))) ∙ append-nil xs

-- a whole packet, written in four parts as the code does it
module _ (n p next x : ℕ) (bytes b b₀ b₁ b₂ b₃ : List ℕ) (h : length bytes + n < 256) where
  abbrev size : ℕ
  size = length bytes + n

  body_size : length (packet_body n bytes next) ≡ size + 1
  body_size = simp (length-append, length_number) (omega arith)

  module _ (e₀ : b₀ ≡ overwritten 0 (number_bytes 1 size) b) (e₁ : b₁ ≡ overwritten 1 bytes b₀) (e₂ : b₂ ≡ overwritten (length bytes + 1) (number_bytes n next) b₁) where
    is₀ : b₀ ≡ front (size ∷ []) b
    is₀ = e₀ ∙ front_more [] (number_bytes 1 size) b 0 refl ∙ ap (λ (y : ℕ). front (y ∷ []) b) (omega arith)

    is₁ : b₁ ≡ front (size ∷ bytes) b
    is₁ = e₁ ∙ rw is₀ (front_more (size ∷ []) bytes b 1 refl)

    is₂ : b₂ ≡ front (packet_body n bytes next) b
    is₂ = e₂ ∙ rw is₁ (front_more (size ∷ bytes) (number_bytes n next) b (length bytes + 1) (omega arith))

    module _ (s : x ≡ crc16 p (take (size + 1) b₂)) (e₃ : b₃ ≡ overwritten (size + 1) (number_bytes 2 (65535 - x)) b₂) where
      summed : x ≡ crc16 p (packet_body n bytes next)
      summed = s ∙ rw (is₂, take_at (packet_body n bytes next) (drop (length (packet_body n bytes next)) b) (size + 1) body_size)

      pub packet_is : b₃ ≡ written n p bytes next b
      unfolding written packet_bytes check_of
      packet_is =
          e₃ ∙ rw (is₂, front_more (packet_body n bytes next) (number_bytes 2 (65535 - x)) b (size + 1) body_size)
          (ap (λ (y : ℕ). front (packet_body n bytes next ++ number_bytes 2 (65535 - y)) b) summed)

-- a page that was lent and written, said of the image
pub page_written_lem : (g : Geometry) (p next : ℕ) (bytes image last : List ℕ) → last ≡ written g.width p bytes next (take (p * g.size + g.size - p * g.size) (drop (p * g.size) image))
    → take (p * g.size) image ++ (last ++ drop (p * g.size + g.size - p * g.size) (drop (p * g.size) image)) ≡ write_page g (write p bytes next) image
unfolding write_page with_page page_of
page_written_lem g p next bytes image last e = rw (e, add-sub_cancel_left (p * g.size) g.size) refl

-- ---- a front of an array of zeros
pub zeros_front : (n k : ℕ) → n ≤ k → length (take n (replicate {A = ℕ} k 0)) ≡ n
zeros_front n k h = length-take-le n (replicate k 0) (omega (arith, length-replicate {A = ℕ} k 0, h))

-- what was written to a front is read there
module _ (n : ℕ) (xs ys rest : List ℕ) (e : xs ≡ ys) (l : length ys ≡ n) where
  pub front_room : n ≤ length (xs ++ rest)
  front_room = omega (arith, length-append xs rest, ap length e, l)

  pub front_size : n ≡ length (take n (xs ++ rest))
  front_size = sym (length-take-le n (xs ++ rest) front_room)

  pub front_read : take n (xs ++ rest) ≡ ys
  front_read = take_at xs rest n (ap length e ∙ l) ∙ e

  -- and a page is written with it
  pub front_written : (g : Geometry) (p next : ℕ) (image after : List ℕ) → after ≡ write_page g (write p (take n (xs ++ rest)) next) image → after ≡ write_page g (write p ys next) image
  front_written g p next image after k = k ∙ ap (λ (b : List ℕ). write_page g (write p b next) image) front_read
