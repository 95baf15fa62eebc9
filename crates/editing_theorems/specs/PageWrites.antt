-- A page put into an image, and a packet written into a page: what changes and what stays.
use Rattle.std.specs.Prelude.{◌≡◌, refl, List, [], ◌∷◌, ◌++◌, ℕ, suc, ◌+◌, ◌-◌, ◌*◌, ◌≤◌, ◌<◌, length, take}
use Rattle.std.proofs.Math.Path.{ap, sym}
use Rattle.std.proofs.Common.{ap₂, ◌∙◌, mul-le-mul_right, suc-mul, arith, length-append, take-append-drop, length-take-le, drop_at, take-add, leb-true, eqb-true}
use Rattle.std.proofs.Math.Decide.{dec_lt}
use Rattle.std.proofs.Math.ListN.{get_or, drop, length-take, length-drop, get_or-append}
use Rattle.std.proofs.Math.Seq.{take_at, get_or-take, get_or-drop, get_or-append-add, ext_get_or}
use Rattle.geometry.specs.declared.Geometry.{Geometry}
use Rattle.geometry.specs.ChooseLaws.{on_choose}
use Rattle.geometry.specs.Geometry.{Fit}
use Rattle.geometry.specs.Number.{number, number_bytes, Bytes}
use Rattle.geometry.specs.NumberLaws.{bytes_append, bytes_take, bytes_drop, number_bytes_lem}
use Rattle.geometry.specs.Page.{page_of, with_page}
use Rattle.geometry.specs.PageLaws.{page_end}
use Rattle.packet.specs.Packet.{good, check_of, pointer_of, is_packet, packet_of, packet_body, packet_bytes, written}
use Rattle.packet.specs.Reading.{right_packet}
use Rattle.packet.specs.RoundTrip.{length_packet}
use Rattle.geometry.specs.BoolLaws.{both}
use Rattle.reading_theorems.specs.ByteLaws.{number_back}

-- ---- a page put into an image
pub page_bytes_lem : (g : Geometry) (image : List ℕ) (p : ℕ) → Bytes image → Bytes (page_of g p image)
unfolding page_of
page_bytes_lem g image p h = bytes_take g.size (drop (p * g.size) image) (bytes_drop (p * g.size) image h)

-- a page put where it stands changes nothing
pub same_page : (g : Geometry) (image : List ℕ) (p : ℕ) → with_page g p (page_of g p image) image ≡ image
unfolding page_of with_page
same_page g image p =
    let a = p * g.size in
    ap (λ (l : List ℕ). take a image ++ l) (take-append-drop g.size (drop a image)) ∙ take-append-drop a image

module _ (g : Geometry) (image : List ℕ) (fit : Fit g image) (p : ℕ) (inside : p < g.pages) (b : List ℕ) (full : length b ≡ g.size) where
  pub length_with : length (with_page g p b image) ≡ length image
  unfolding with_page
  length_with = simp (length-append, length-take, length-drop) (omega (arith, page_end g image p fit inside))

  before_page : length (take (p * g.size) image) ≡ p * g.size
  before_page = length-take-le (p * g.size) image (omega (arith, page_end g image p fit inside))

  -- the page is there
  pub page_with_lem : page_of g p (with_page g p b image) ≡ b
  unfolding page_of with_page
  page_with_lem =
      let rest = drop g.size (drop (p * g.size) image) in
      ap (take g.size) (drop_at (take (p * g.size) image) (b ++ rest) (p * g.size) before_page) ∙ take_at b rest g.size full

  byte_before : (j : ℕ) → j < p * g.size → get_or (with_page g p b image) j 0 ≡ get_or image j 0
  unfolding with_page
  byte_before j h =
      get_or-append (take (p * g.size) image) (b ++ drop g.size (drop (p * g.size) image)) 0 j (omega (arith, before_page))
      ∙ get_or-take (p * g.size) image j 0 h

  byte_after : (j : ℕ) → get_or (with_page g p b image) (p * g.size + (g.size + j)) 0 ≡ get_or image (p * g.size + (g.size + j)) 0
  unfolding with_page
  byte_after j =
      let rest = drop g.size (drop (p * g.size) image) in
      ap (λ (x : ℕ). get_or (with_page g p b image) (x + (g.size + j)) 0) (sym before_page)
      ∙ get_or-append-add (take (p * g.size) image) (b ++ rest) (g.size + j) 0
      ∙ ap (λ (x : ℕ). get_or (b ++ rest) (x + j) 0) (sym full) ∙ get_or-append-add b rest j 0
      ∙ get_or-drop g.size (drop (p * g.size) image) j 0 ∙ get_or-drop (p * g.size) image (g.size + j) 0

  -- a byte of another page
  byte_elsewhere : (q : ℕ) → (q ≡ p → ⊥) → (i : ℕ) → i < g.size → get_or (with_page g p b image) (q * g.size + i) 0 ≡ get_or image (q * g.size + i) 0
  byte_elsewhere q n i h = elim (dec_lt q p) [
    | yes k ↦ byte_before (q * g.size + i) (omega (arith, mul-le-mul_right g.size k, suc-mul q g.size))
    | no k ↦
        let m : suc p * g.size ≤ q * g.size = mul-le-mul_right g.size (omega arith) in
        let e : q * g.size + i ≡ p * g.size + (g.size + (q * g.size + i - (p * g.size + g.size))) = omega (arith, suc-mul p g.size) in
        ap (λ (x : ℕ). get_or (with_page g p b image) x 0) e ∙ byte_after (q * g.size + i - (p * g.size + g.size)) ∙ ap (λ (x : ℕ). get_or image x 0) (sym e)
  ]

  -- every other page is as before
  pub page_other : (q : ℕ) → (q ≡ p → ⊥) → page_of g q (with_page g p b image) ≡ page_of g q image
  unfolding page_of
  page_other q n =
      let a = q * g.size in
      let after = with_page g p b image in
      ext_get_or 0 (take g.size (drop a after)) (take g.size (drop a image)) (simp (length-take, length-drop, length_with) refl)
      (λ i h. let k : i < g.size = omega (arith, length-take g.size (drop a after)) in
      get_or-take g.size (drop a after) i 0 k ∙ get_or-drop a after i 0 ∙ byte_elsewhere q n i k
      ∙ sym (get_or-drop a image i 0) ∙ sym (get_or-take g.size (drop a image) i 0 k))

pub bytes_with : (g : Geometry) (image : List ℕ) (p : ℕ) (b : List ℕ) → Bytes b → Bytes image → Bytes (with_page g p b image)
unfolding with_page
bytes_with g image p b h k =
    let a = p * g.size in
    bytes_append (take a image) (b ++ drop g.size (drop a image)) (bytes_take a image k)
    (bytes_append b (drop g.size (drop a image)) h (bytes_drop g.size (drop a image) (bytes_drop a image k)))

-- ---- a packet written into a page
pub length_written : (n p : ℕ) (b : List ℕ) (next : ℕ) (page : List ℕ) → length b + n + 3 ≤ length page → length (written n p b next page) ≡ length page
unfolding written
length_written n p b next page h = simp (length-append, length-drop) (omega (arith, length_packet n p b next))

pub bytes_written : (n p : ℕ) (b : List ℕ) (next : ℕ) (page : List ℕ) → length b + n < 256 → Bytes b → Bytes page → Bytes (written n p b next page)
unfolding written packet_bytes
bytes_written n p b next page l h k =
    let body = packet_body n b next in
    let c = number_bytes 2 (check_of p body) in
    bytes_append (body ++ c) (drop (length (body ++ c)) page)
    (bytes_append body c (l, bytes_append b (number_bytes n next) h (number_bytes_lem n next)) (number_bytes_lem 2 (check_of p body)))
    (bytes_drop (length (body ++ c)) page k)

-- a page of bytes whose packet is right holds just that packet's bytes
stored : (n p x : ℕ) (r : List ℕ) → Bytes (x ∷ r) → n ≤ x → x + 3 ≤ suc (length r)
    → number (take 2 (drop (x + 1) (x ∷ r))) ≡ check_of p (take (x + 1) (x ∷ r))
    → packet_bytes n p (take (x - n) r) (pointer_of n x (x ∷ r)) ≡ take (x + 3) (x ∷ r)
unfolding packet_bytes pointer_of
stored n p x r h l₁ l₂ c =
    let e₁ : x + 1 ≡ suc x = omega arith in
    let e₂ : x + 1 - n ≡ suc (x - n) = omega arith in
    let e₃ : x - n + n ≡ x = omega arith in
    let e₄ : x + 3 ≡ suc (x + 2) = omega arith in
    let lb : length (take (x - n) r) ≡ x - n = length-take-le (x - n) r (omega arith) in
    let c' : number (take 2 (drop x r)) ≡ check_of p (x ∷ take x r) = rw e₁ at c in
    let np = number_back n (drop (x - n) r) (bytes_drop (x - n) r h.1) (simp length-drop (omega arith)) in
    let nc = number_back 2 (drop x r) (bytes_drop x r h.1) (simp length-drop (omega arith)) in
    let bl : take (x - n) r ++ number_bytes n (number (take n (drop (x - n) r))) ≡ take x r
    = ap (λ (l : List ℕ). take (x - n) r ++ l) np ∙ sym (take-add (x - n) n r) ∙ ap (λ (i : ℕ). take i r) e₃ in
    let hd : length (take (x - n) r) + n ≡ x = omega arith in
    rw (e₂, e₄) (ap₂ (λ (a : ℕ) (l : List ℕ). (a ∷ l) ++ number_bytes 2 (check_of p (a ∷ l))) hd bl
    ∙ ap (λ (k : ℕ). (x ∷ take x r) ++ number_bytes 2 k) (sym c') ∙ ap (λ (l : List ℕ). x ∷ (take x r ++ l)) nc ∙ ap (λ (l : List ℕ). x ∷ l) (sym (take-add x 2 r)))

written_stored : (n p : ℕ) (b : List ℕ) (next k : ℕ) (page : List ℕ) → packet_bytes n p b next ≡ take k page → k ≤ length page → written n p b next page ≡ page
unfolding written
written_stored n p b next k page e h =
    ap (λ (l : List ℕ). l ++ drop (length l) page) e ∙ ap (λ (i : ℕ). take k page ++ drop i page) (length-take-le k page h) ∙ take-append-drop k page

-- a packet written where it stands changes no byte
pub same_written : (n p : ℕ) (b : List ℕ) (next : ℕ) (page : List ℕ) → Bytes page → packet_of n p page ≡ good b next → written n p b next page ≡ page
unfolding packet_of is_packet
same_written n p b next [] h e = absurd (omega (arith, (right_packet n p [] b next e).room))
same_written n p b next (x ∷ r) h e = on_choose _ _ _ _ e
    (λ t e.
    let q = both _ _ t in
    let s = both _ _ q.1 in
    let l₁ : n ≤ x = leb-true n x q.0 in
    let l₂ : x + 3 ≤ suc (length r) = leb-true (x + 3) (suc (length r)) s.0 in
    let eb : take (x - n) r ≡ b = cc in
    let ep : pointer_of n x (x ∷ r) ≡ next = cc in
    let w = stored n p x r h l₁ l₂ (eqb-true _ _ s.1) in
    written_stored n p b next (x + 3) (x ∷ r) (ap₂ (packet_bytes n p) (sym eb) (sym ep) ∙ w) l₂)
    (λ t e. absurd (let z : ◌≡◌ {A = ℕ} 0 1 = cc in omega arith))
