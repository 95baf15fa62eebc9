-- An image after page writes: its length, its view, its bytes, and every byte outside the packets written.
use Rattle.std.specs.Prelude.{◌≡◌, ℕ, ◌+◌, ◌-◌, ◌^◌, ◌≤◌, ◌<◌, max, eqb, length, drop}
use Rattle.std.proofs.Math.Path.{refl, ap, fun_ext}
use Rattle.std.proofs.Common.{subst, sym, ◌∙◌, arith, drop-drop, eq-eqb, ne_eqb}
use mathlib.Core.List.{List, [], ◌∷◌, ◌++◌}
use Rattle.geometry.specs.declared.Geometry.{Geometry}
use Rattle.geometry.specs.Choose.{choose}
use Rattle.geometry.specs.ChooseLaws.{choose_true, choose_false}
use Rattle.geometry.specs.Geometry.{Fit}
use Rattle.geometry.specs.Number.{Bytes}
use Rattle.geometry.specs.Page.{page_of, with_page}
use Rattle.geometry.specs.PageLaws.{page_length}
use Rattle.packet.specs.Packet.{good, packet_of, view_of, View, Write, write, written, write_page, after_writes}
use Rattle.packet.specs.RoundTrip.{packet_written, rest_stays}
use Rattle.rules.specs.PageSets.{count, Once}
use Rattle.rules.proofs.PageSetLaws.{hit_same, same, other, hits}
use Rattle.rules.specs.WellFormed.{HasPackets}
use Rattle.rules.specs.Demand2.{reach}
use Rattle.editing_theorems.specs.PageWrites.{page_bytes_lem, same_page, length_with, page_with_lem, page_other, bytes_with, length_written, bytes_written, same_written}

-- the pages that are written
abbrev pub write_pages : List Write → List ℕ
write_pages [] = []
write_pages (write p b n ∷ ws) = p ∷ write_pages ws

-- a write that a page of the image can take
pub record WriteFits (g : Geometry) (p : ℕ) (b : List ℕ) (next : ℕ) : Type 0 where
  pub below : p < g.pages
  pub room : length b + g.width + 3 ≤ g.size
  pub pointer : next < 256 ^ g.width
  pub bytes : Bytes b

abbrev pub WritesFit : Geometry → List Write → Type 0
WritesFit g [] = Unit {0}
WritesFit g (write p b n ∷ ws) = WriteFits g p b n × WritesFit g ws

-- ---- one write
module _ (g : Geometry) (p : ℕ) (b : List ℕ) (next : ℕ) (f : WriteFits g p b next) (image : List ℕ) (fit : Fit g image) where
  page_room : length b + g.width + 3 ≤ length (page_of g p image)
  page_room = omega (arith, f.room, page_length g image p fit f.below)

  page_full : length (written g.width p b next (page_of g p image)) ≡ g.size
  page_full = length_written g.width p b next (page_of g p image) page_room ∙ page_length g image p fit f.below

  pub length_write : length (write_page g (write p b next) image) ≡ length image
  unfolding write_page
  length_write = length_with g image fit p f.below (written g.width p b next (page_of g p image)) page_full

  pub write_fit : Fit g (write_page g (write p b next) image)
  write_fit = record { valid = fit.valid; whole = length_write ∙ fit.whole }

  -- the packet is there
  pub view_write : view_of g (write_page g (write p b next) image) p ≡ good b next
  unfolding view_of write_page
  view_write =
      ap (packet_of g.width p) (page_with_lem g image fit p f.below (written g.width p b next (page_of g p image)) page_full)
      ∙ packet_written g.width p b next (page_of g p image) page_room f.pointer

  -- every other page is as before
  pub page_elsewhere : (q : ℕ) → (q ≡ p → ⊥) → page_of g q (write_page g (write p b next) image) ≡ page_of g q image
  unfolding write_page
  page_elsewhere q n = page_other g image fit p f.below (written g.width p b next (page_of g p image)) page_full q n

  pub view_elsewhere : (q : ℕ) → (q ≡ p → ⊥) → view_of g (write_page g (write p b next) image) q ≡ view_of g image q
  unfolding view_of
  view_elsewhere q n = ap (packet_of g.width q) (page_elsewhere q n)

  -- and so is every byte of its page after the packet
  pub after_packet : drop (length b + g.width + 3) (page_of g p (write_page g (write p b next) image)) ≡ drop (length b + g.width + 3) (page_of g p image)
  unfolding write_page
  after_packet =
      ap (drop (length b + g.width + 3)) (page_with_lem g image fit p f.below (written g.width p b next (page_of g p image)) page_full)
      ∙ rest_stays g.width p b next (page_of g p image) page_room f.pointer

  pub bytes_write : Bytes image → Bytes (write_page g (write p b next) image)
  unfolding write_page
  bytes_write h =
      let page = page_of g p image in
      bytes_with g image p (written g.width p b next page)
      (bytes_written g.width p b next page (omega (arith, f.room, fit.valid.most)) f.bytes (page_bytes_lem g image p h)) h

-- a packet written where it stands changes no byte
pub write_same : (g : Geometry) (p : ℕ) (b : List ℕ) (next : ℕ) (image : List ℕ) → Bytes image → view_of g image p ≡ good b next → write_page g (write p b next) image ≡ image
unfolding view_of write_page
write_same g p b next image h e =
    ap (λ (l : List ℕ). with_page g p l image) (same_written g.width p b next (page_of g p image) (page_bytes_lem g image p h) e) ∙ same_page g image p

-- ---- a list of writes
drop_more : (j k : ℕ) (a b : List ℕ) → drop j a ≡ drop j b → drop (j + k) a ≡ drop (j + k) b
drop_more j k a b e = sym (drop-drop k j a) ∙ ap (drop k) e ∙ drop-drop k j b

drop_larger : (k r : ℕ) (a c d : List ℕ) → drop r a ≡ drop r c → drop k c ≡ drop k d → drop (max k r) a ≡ drop (max k r) d
drop_larger k r a c d u w =
    let e : max k r ≡ r + (k - r) = omega arith in
    let f : max k r ≡ k + (r - k) = omega arith in
    ap (λ (m : ℕ). drop m a) e ∙ drop_more r (k - r) a c u ∙ ap (λ (m : ℕ). drop m c) (sym e ∙ f) ∙ drop_more k (r - k) c d w ∙ ap (λ (m : ℕ). drop m d) (sym f)

-- a view with packets written over it, the first one first
unfoldable pub overlay : View → List Write → View
overlay v [] x = v x
overlay v (write p b n ∷ ws) x = overlay (λ y. choose (eqb y p) (good b n) (v y)) ws x

module _ (g : Geometry) where
  one_write : (p : ℕ) (b : List ℕ) (n : ℕ) → WriteFits g p b n → (image : List ℕ) → Fit g image → (x : ℕ)
      → view_of g (write_page g (write p b n) image) x ≡ choose (eqb x p) (good b n) (view_of g image x)
  one_write p b n f image fit x = elim (hits x p) [
    | same e i ↦ simp (eq-eqb x p e, choose_true) (ap (view_of g (write_page g (write p b n) image)) e ∙ view_write g p b n f image fit)
    | other e i ↦ simp (ne_eqb x p e, choose_false) (view_elsewhere g p b n f image fit x e)
  ]

  pub after_writes_append : (ws us : List Write) (image : List ℕ) → after_writes g (ws ++ us) image ≡ after_writes g us (after_writes g ws image)
  unfolding after_writes
  after_writes_append [] us image = refl
  after_writes_append (w ∷ ws) us image = after_writes_append ws us (write_page g w image)

  pub length_after_writes : (ws : List Write) → WritesFit g ws → (image : List ℕ) → Fit g image → length (after_writes g ws image) ≡ length image
  unfolding after_writes
  length_after_writes [] f image fit = refl
  length_after_writes (write p b n ∷ ws) f image fit =
      length_after_writes ws f.1 (write_page g (write p b n) image) (write_fit g p b n f.0 image fit) ∙ length_write g p b n f.0 image fit

  pub fit_after_writes : (ws : List Write) → WritesFit g ws → (image : List ℕ) → Fit g image → Fit g (after_writes g ws image)
  fit_after_writes ws f image fit = record { valid = fit.valid; whole = length_after_writes ws f image fit ∙ fit.whole }

  pub bytes_after_writes : (ws : List Write) → WritesFit g ws → (image : List ℕ) → Fit g image → Bytes image → Bytes (after_writes g ws image)
  unfolding after_writes
  bytes_after_writes [] f image fit h = h
  bytes_after_writes (write p b n ∷ ws) f image fit h =
      bytes_after_writes ws f.1 (write_page g (write p b n) image) (write_fit g p b n f.0 image fit) (bytes_write g p b n f.0 image fit h)

  -- a page that is not written is as before
  pub page_stays : (ws : List Write) → WritesFit g ws → (image : List ℕ) → Fit g image → (x : ℕ) → count x (write_pages ws) ≡ 0 → page_of g x (after_writes g ws image) ≡ page_of g x image
  unfolding after_writes
  page_stays [] f image fit x h = refl
  page_stays (write p b n ∷ ws) f image fit x h = elim (hits x p) [
    | same e i ↦ absurd (omega arith)
    | other e i ↦ page_stays ws f.1 (write_page g (write p b n) image) (write_fit g p b n f.0 image fit) x (omega arith) ∙ page_elsewhere g p b n f.0 image fit x e
  ]

  pub view_stays : (ws : List Write) → WritesFit g ws → (image : List ℕ) → Fit g image → (x : ℕ) → count x (write_pages ws) ≡ 0 → view_of g (after_writes g ws image) x ≡ view_of g image x
  unfolding view_of
  view_stays ws f image fit x h = ap (packet_of g.width x) (page_stays ws f image fit x h)

  -- the view then: the old one with the packets written over it
  pub view_after_writes : (ws : List Write) → WritesFit g ws → (image : List ℕ) → Fit g image → (x : ℕ) → view_of g (after_writes g ws image) x ≡ overlay (view_of g image) ws x
  unfolding after_writes overlay
  view_after_writes [] f image fit x = refl
  view_after_writes (write p b n ∷ ws) f image fit x =
      view_after_writes ws f.1 (write_page g (write p b n) image) (write_fit g p b n f.0 image fit) x
      ∙ ap (λ (v : View). overlay v ws x) (fun_ext (λ y. one_write p b n f.0 image fit y))

  -- where no page is written twice, every packet written stands
  pub after_writes_packets : (ws : List Write) → WritesFit g ws → (image : List ℕ) → Fit g image → Once (write_pages ws) → HasPackets (view_of g (after_writes g ws image)) ws
  unfolding after_writes
  after_writes_packets [] f image fit o = tt
  after_writes_packets (write p b n ∷ ws) f image fit o =
      let fit' = write_fit g p b n f.0 image fit in (
        view_stays ws f.1 (write_page g (write p b n) image) fit' p (omega (arith, o p, hit_same p)) ∙ view_write g p b n f.0 image fit,
        after_writes_packets ws f.1 (write_page g (write p b n) image) fit' (λ x. omega (arith, o x)),
      )

  -- packets that stand change no byte: they may be left out
  pub after_writes_same : (ws : List Write) (image : List ℕ) → Bytes image → HasPackets (view_of g image) ws → after_writes g ws image ≡ image
  unfolding after_writes
  after_writes_same [] image h s = refl
  after_writes_same (write p b n ∷ ws) image h s = let e = write_same g p b n image h s.0 in ap (after_writes g ws) e ∙ after_writes_same ws image h s.1

  -- in every page the bytes after the packets written there stay
  pub rest_of_page : (ws : List Write) → WritesFit g ws → (image : List ℕ) → Fit g image → (x : ℕ)
      → drop (reach g x ws) (page_of g x (after_writes g ws image)) ≡ drop (reach g x ws) (page_of g x image)
  unfolding after_writes
  rest_of_page [] f image fit x = refl
  rest_of_page (write p b n ∷ ws) f image fit x = elim (hits x p) [
    | same e i ↦ simp (eq-eqb x p e, choose_true) (drop_larger (length b + g.width + 3) (reach g x ws)
        (page_of g x (after_writes g ws (write_page g (write p b n) image))) (page_of g x (write_page g (write p b n) image)) (page_of g x image)
        (rest_of_page ws f.1 (write_page g (write p b n) image) (write_fit g p b n f.0 image fit) x)
        (subst (λ (y : ℕ). drop (length b + g.width + 3) (page_of g y (write_page g (write p b n) image)) ≡ drop (length b + g.width + 3) (page_of g y image)) (sym e)
        (after_packet g p b n f.0 image fit)))
    | other e i ↦ simp (ne_eqb x p e, choose_false)
        (rest_of_page ws f.1 (write_page g (write p b n) image) (write_fit g p b n f.0 image fit) x ∙ ap (drop (reach g x ws)) (page_elsewhere g p b n f.0 image fit x e))
  ]
