-- Writes to different pages may change places: an image is its pages.
use Rattle.std.specs.Prelude.{◌≡◌, ◌⊎◌, ℕ, zero, suc, ◌+◌, ◌*◌, ◌≤◌, ◌<◌, length, take, drop}
use Rattle.std.proofs.Common.{ap, ap₂, sym, ◌∙◌, inl, inr, eq-zero-or-pos, mul_comm, suc-mul, arith, take-append-drop, length-drop, drop-drop}
use mathlib.Core.List.{List, [], ◌∷◌, ◌++◌}
use Rattle.geometry.specs.declared.Geometry.{Geometry}
use Rattle.geometry.specs.Geometry.{Fit}
use Rattle.geometry.specs.Page.{page_of}
use Rattle.packet.specs.Packet.{Write, write, written, write_page, after_writes}
use Rattle.rules.specs.PageSets.{count}
use Rattle.rules.proofs.PageSetLaws.{same, other, hits}
use Rattle.rules.proofs.ChainLaws.{no_bytes}
use Rattle.geometry.specs.PageLaws.{page_length}
use Rattle.editing_theorems.specs.PageWrites.{page_with_lem, length_written}
use Rattle.editing_theorems.specs.AfterWrites.{write_pages, WriteFits, WritesFit, page_elsewhere, write_fit, after_writes_append, fit_after_writes, page_stays}

-- ---- two lists that agree in every part of so many numbers
parts_same : (k n : ℕ) (a b : List ℕ) → length a ≡ n * k → length b ≡ n * k → ((p : ℕ) → p < n → take k (drop (p * k) a) ≡ take k (drop (p * k) b)) → a ≡ b
parts_same k zero a b e f h = sym (no_bytes a (omega arith)) ∙ no_bytes b (omega arith)
parts_same k (suc n) a b e f h =
    let s = suc-mul n k in
    let z : 0 * k ≡ 0 = omega arith in
    let first : take k a ≡ take k b = rw z at (h 0 (omega arith)) in
    let shift : (p : ℕ) (l : List ℕ) → drop (p * k) (drop k l) ≡ drop (suc p * k) l = λ p l. next p l in
    let rest = parts_same k n (drop k a) (drop k b) (omega (arith, length-drop k a)) (omega (arith, length-drop k b))
    (λ p i. ap (take k) (shift p a) ∙ h (suc p) (omega arith) ∙ ap (take k) (sym (shift p b))) in
    sym (take-append-drop k a) ∙ ap₂ (λ (u w : List ℕ). u ++ w) first rest ∙ take-append-drop k b
  where
    next : (p : ℕ) (l : List ℕ) → drop (p * k) (drop k l) ≡ drop (suc p * k) l
    next p l = let e : k + p * k ≡ suc p * k = omega (arith, suc-mul p k) in drop-drop (p * k) k l ∙ ap (λ (m : ℕ). drop m l) e

pub image_same : (g : Geometry) (a b : List ℕ) → Fit g a → Fit g b → ((p : ℕ) → p < g.pages → page_of g p a ≡ page_of g p b) → a ≡ b
unfolding page_of
image_same g a b f h k = parts_same g.size g.pages a b (f.whole ∙ mul_comm g.size g.pages) (h.whole ∙ mul_comm g.size g.pages) k

module _ (g : Geometry) where
  -- the page that a write leaves
  written_page : (p : ℕ) (b : List ℕ) (n : ℕ) → WriteFits g p b n → (image : List ℕ) → Fit g image
      → page_of g p (write_page g (write p b n) image) ≡ written g.width p b n (page_of g p image)
  unfolding write_page
  written_page p b n f image fit =
      let l = page_length g image p fit f.below in
      page_with_lem g image fit p f.below (written g.width p b n (page_of g p image)) (length_written g.width p b n (page_of g p image) (omega (arith, f.room, l)) ∙ l)

  -- a page after writes depends on that page alone
  write_alone : (p : ℕ) (b : List ℕ) (n : ℕ) → WriteFits g p b n → (x : ℕ) (a c : List ℕ) → Fit g a → Fit g c → page_of g x a ≡ page_of g x c
      → page_of g x (write_page g (write p b n) a) ≡ page_of g x (write_page g (write p b n) c)
  write_alone p b n f x a c fa fc e = elim (hits x p) [
    | same q i ↦ rw q (written_page p b n f a fa ∙ ap (written g.width p b n) (rw q at e) ∙ sym (written_page p b n f c fc))
    | other q i ↦ page_elsewhere g p b n f a fa x q ∙ e ∙ sym (page_elsewhere g p b n f c fc x q)
  ]

  writes_alone : (ws : List Write) → WritesFit g ws → (x : ℕ) (a c : List ℕ) → Fit g a → Fit g c → page_of g x a ≡ page_of g x c → page_of g x (after_writes g ws a) ≡ page_of g x (after_writes g ws c)
  unfolding after_writes
  writes_alone [] f x a c fa fc e = e
  writes_alone (write p b n ∷ ws) f x a c fa fc e =
      writes_alone ws f.1 x (write_page g (write p b n) a) (write_page g (write p b n) c) (write_fit g p b n f.0 a fa) (write_fit g p b n f.0 c fc) (write_alone p b n f.0 x a c fa fc e)

  -- lists of writes that share no page change places
  pub writes_exchange : (ws us : List Write) → WritesFit g ws → WritesFit g us → ((x : ℕ) → count x (write_pages ws) + count x (write_pages us) ≤ 1) → (image : List ℕ) → Fit g image
      → after_writes g us (after_writes g ws image) ≡ after_writes g ws (after_writes g us image)
  writes_exchange ws us f h o image fit =
      let fw = fit_after_writes g ws f image fit in
      let fu = fit_after_writes g us h image fit in
      image_same g (after_writes g us (after_writes g ws image)) (after_writes g ws (after_writes g us image))
      (fit_after_writes g us h (after_writes g ws image) fw) (fit_after_writes g ws f (after_writes g us image) fu) (λ x _. go x fw fu (eq-zero-or-pos (count x (write_pages ws))))
    where
      go : (x : ℕ) → Fit g (after_writes g ws image) → Fit g (after_writes g us image) → (count x (write_pages ws) ≡ 0) ⊎ (0 < count x (write_pages ws))
          → page_of g x (after_writes g us (after_writes g ws image)) ≡ page_of g x (after_writes g ws (after_writes g us image))
      go x fw fu (inl z) = writes_alone us h x (after_writes g ws image) image fw fit (page_stays g ws f image fit x z) ∙ sym (page_stays g ws f (after_writes g us image) fu x z)
      go x fw fu (inr z) =
          let y : count x (write_pages us) ≡ 0 = omega (arith, o x) in
          page_stays g us h (after_writes g ws image) fw x y ∙ sym (writes_alone ws f x (after_writes g us image) image fu fit (page_stays g us h image fit x y))

  -- in a list, the first two of three parts
  pub writes_turn : (ws us rest : List Write) → WritesFit g ws → WritesFit g us → ((x : ℕ) → count x (write_pages ws) + count x (write_pages us) ≤ 1) → (image : List ℕ) → Fit g image
      → after_writes g (ws ++ (us ++ rest)) image ≡ after_writes g (us ++ (ws ++ rest)) image
  writes_turn ws us rest f h o image fit =
      after_writes_append g ws (us ++ rest) image ∙ after_writes_append g us rest (after_writes g ws image) ∙ ap (after_writes g rest) (writes_exchange ws us f h o image fit)
      ∙ sym (after_writes_append g us (ws ++ rest) image ∙ after_writes_append g ws rest (after_writes g us image))
