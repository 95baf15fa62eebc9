-- The root's control field and a bitmap file's place, written part by part.
use mathlib.Core.Path.{◌≡◌, refl, ap, sym, ◌∙◌}
use mathlib.Core.List.{List, [], ◌∷◌, ◌++◌, append_assoc}
use Prim.Native.Nat.{ℕ, zero, suc, ◌+◌, ◌-◌, ◌*◌, ◌%◌, ◌≤◌, ◌<◌}
use native.Mathlib.Omega.{arith}
use lib.ListN.{length, take, replicate, length-append}
use Rattle.geometry.specs.declared.Geometry.{Geometry}
use Rattle.geometry.specs.Geometry.{data_capacity, Valid}
use Rattle.geometry.specs.Number.{number_bytes}
use Rattle.geometry.specs.NumberLaws.{length_number}
use Rattle.geometry.specs.Page.{overwritten}
use Rattle.packet.proofs.Fronts.{front, front_more, front_whole, zeros_front, front_size}
use Rattle.rules.specs.Control.{marker, place_bytes}
use Rattle.rules.specs.Owners.{OwnerRecord}
use Rattle.editing_theorems.specs.Capacity.{capacity_is, capacity_least}
use Rattle.marks.specs.Marks.{marks_from}
use Rattle.format.specs.Formats.{control_field}

-- ---- the control field
pub length_field : (n control : ℕ) (four : List ℕ) → length four ≡ 4 → length (control_field n control four) ≡ 6 + n
unfolding control_field
length_field n control four h = simp (length-append, length_number) (omega (arith, h))

module _ (n control : ℕ) (four b b₀ b₁ b₂ b₃ : List ℕ) (h : (length b ≡ 6 + n) × (n ≤ 2) × (control < 256) × (length four ≡ 4))
    (e₀ : b₀ ≡ overwritten 0 (number_bytes 1 (169 + n)) b) (e₁ : b₁ ≡ overwritten 1 (number_bytes n 0) b₀)
    (e₂ : b₂ ≡ overwritten (1 + n) (number_bytes 1 control) b₁) (e₃ : b₃ ≡ overwritten (2 + n) four b₂) where
  abbrev head : List ℕ
  head = marker n ∷ number_bytes n 0

  marker_is : (169 + n) % 256 ≡ marker n
  unfolding marker
  marker_is = omega (arith, h.1)

  is₀ : b₀ ≡ front (marker n ∷ []) b
  is₀ = e₀ ∙ front_more [] (number_bytes 1 (169 + n)) b 0 refl ∙ ap (λ (x : ℕ). front (x ∷ []) b) marker_is

  is₁ : b₁ ≡ front head b
  is₁ = e₁ ∙ rw is₀ (front_more (marker n ∷ []) (number_bytes n 0) b 1 refl)

  is₂ : b₂ ≡ front (head ++ (control ∷ [])) b
  is₂ =
      let c : control % 256 ≡ control = omega (arith, h.2) in
      e₂ ∙ rw is₁ (front_more head (number_bytes 1 control) b (1 + n) (omega (arith, length_number n 0))) ∙ ap (λ (x : ℕ). front (head ++ (x ∷ [])) b) c

  pub control_filled : b₃ ≡ control_field n control four
  unfolding control_field
  control_filled =
      let l = length-append head (control ∷ []) in
      let e : (head ++ (control ∷ [])) ++ four ≡ marker n ∷ (number_bytes n 0 ++ (control ∷ four)) = append_assoc head (control ∷ []) four in
      e₃ ∙ rw is₂ (front_more (head ++ (control ∷ [])) four b (2 + n) (omega (arith, l, length_number n 0)))
      ∙ ap (λ (l : List ℕ). front l b) e ∙ front_whole (control_field n control four) b (length_field n control four h.3 ∙ sym h.0)

-- ---- the place of a bitmap file
zero_bytes : (k : ℕ) → number_bytes k 0 ≡ replicate k 0
zero_bytes zero = refl
zero_bytes (suc k) = ap (λ (l : List ℕ). 0 ∷ l) (zero_bytes k)

module _ (n count : ℕ) (b b₀ b₁ b₂ : List ℕ) (h : (length b ≡ 4) × (1 ≤ n) × (n ≤ 2))
    (e₀ : b₀ ≡ overwritten 0 (number_bytes (4 - 2 * n) 0) b) (e₁ : b₁ ≡ overwritten (4 - 2 * n) (number_bytes n 1) b₀)
    (e₂ : b₂ ≡ overwritten (4 - n) (number_bytes n count) b₁) where
  abbrev zeros : List ℕ
  zeros = number_bytes (4 - 2 * n) 0

  place₀ : b₀ ≡ front zeros b
  place₀ = e₀ ∙ front_more [] zeros b 0 refl

  place₁ : b₁ ≡ front (zeros ++ number_bytes n 1) b
  place₁ = e₁ ∙ rw place₀ (front_more zeros (number_bytes n 1) b (4 - 2 * n) (length_number (4 - 2 * n) 0))

  pub place_filled : b₂ ≡ place_bytes n 1 count
  place_filled =
      let l₁ = length-append zeros (number_bytes n 1) in
      let l₂ = length-append (zeros ++ number_bytes n 1) (number_bytes n count) in
      let z = length_number (4 - 2 * n) 0 in
      let o = length_number n 1 in
      let m = length_number n count in
      e₂ ∙ rw place₁ (front_more (zeros ++ number_bytes n 1) (number_bytes n count) b (4 - n) (omega (arith, l₁, z, o, h.2)))
      ∙ front_whole ((zeros ++ number_bytes n 1) ++ number_bytes n count) b (omega (arith, l₁, l₂, z, o, m, h.0, h.2))
      ∙ append_assoc zeros (number_bytes n 1) (number_bytes n count) ∙ ap (λ (l : List ℕ). l ++ (number_bytes n 1 ++ number_bytes n count)) (zero_bytes (4 - 2 * n))

-- ---- a page written from the front of an array
pub front_fits : (n : ℕ) (xs ys rest : List ℕ) → xs ≡ ys → length ys ≡ n → (g : Geometry) → Valid g → n ≤ data_capacity g → length (take n (xs ++ rest)) + g.width + 3 ≤ g.size
front_fits n xs ys rest e l g v h = omega (arith, front_size n xs ys rest e l, capacity_is g, v.least, v.two)

pub control_room : (g : Geometry) → Valid g → 6 + g.width ≤ data_capacity g
control_room g v = omega (arith, capacity_least g v, v.two)

pub capacity_most : (g : Geometry) → Valid g → (n : ℕ) → n ≤ data_capacity g → n ≤ 252
capacity_most g v n h = omega (arith, capacity_is g, v.most, v.one)

pub marks_front : (table : List OwnerRecord) (below : ℕ) (xs : List ℕ) (k size room : ℕ) → size ≤ room → xs ≡ marks_from table below k (length (take size (replicate {A = ℕ} room 0))) → xs ≡ marks_from table below k size
marks_front table below xs k size room h e = e ∙ ap (marks_from table below k) (zeros_front size room h)
