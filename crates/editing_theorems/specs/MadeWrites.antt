-- The writes that change a packet leave what all the writes leave: a write that changes no packet changes no byte.
use Rattle.std.specs.Prelude.{◌≡◌, Bool, ℕ, drop}
use Rattle.std.proofs.Math.Path.{refl, ap}
use Rattle.std.proofs.Common.{sym, ◌∙◌, eqb-true}
use Rattle.std.proofs.Math.Bool.{true, false}
use Rattle.std.proofs.lemmas.Bool.{false≢true}
use mathlib.Core.List.{List, [], ◌∷◌}
use Rattle.geometry.specs.declared.Geometry.{Geometry}
use Rattle.geometry.specs.BoolLaws.{both}
use Rattle.geometry.specs.Choose.{choose}
use Rattle.geometry.specs.ChooseLaws.{choose_true, choose_false}
use Rattle.geometry.specs.Geometry.{Fit}
use Rattle.geometry.specs.Number.{Bytes}
use Rattle.geometry.specs.Page.{page_of}
use Rattle.packet.specs.Packet.{Packet, bad, good, view_of, Write, write, write_page, after_writes, is_packet_of, unchanged, made}
use Rattle.rules.specs.Demand2.{reach}
use Rattle.editing_theorems.specs.AfterWrites.{WritesFit, write_fit, bytes_write, write_same, rest_of_page}
use Rattle.editing_theorems.specs.DirectoryWrites.{same_list_lem}

pub packet_same : (x : Packet) (b : List ℕ) (n : ℕ) → is_packet_of x b n ≡ true → x ≡ good b n
packet_same bad b n e = absurd (false≢true e)
packet_same (good c m) b n e =
    let h = both _ _ e in
    let e₁ = same_list_lem c b h.0 in
    let e₂ = eqb-true m n h.1 in
    cc

module _ (g : Geometry) where
  pub unchanged_same : (w : Write) (image : List ℕ) → Bytes image → unchanged g w image ≡ true → write_page g w image ≡ image
  unfolding unchanged
  unchanged_same (write p b n) image h e = write_same g p b n image h (packet_same (view_of g image p) b n e)

  -- they fit if all do
  pub made_fits : (ws : List Write) → WritesFit g ws → (image : List ℕ) → WritesFit g (made g ws image)
  unfolding made
  made_fits [] f image = tt
  made_fits (write p b n ∷ ws) f image = go (unchanged g (write p b n) image) (made_fits ws f.1 image) (made_fits ws f.1 (write_page g (write p b n) image))
    where
      go : (t : Bool) → WritesFit g (made g ws image) → WritesFit g (made g ws (write_page g (write p b n) image))
          → WritesFit g (choose t (made g ws image) (write p b n ∷ made g ws (write_page g (write p b n) image)))
      go true x y = simp choose_true x
      go false x y = simp choose_false (f.0, y)

  -- all the writes made leave what all the writes leave
  pub made_whole : (ws : List Write) → WritesFit g ws → (image : List ℕ) → Fit g image → Bytes image → after_writes g (made g ws image) image ≡ after_writes g ws image
  unfolding made after_writes
  made_whole [] f image fit h = refl
  made_whole (write p b n ∷ ws) f image fit h =
      go (unchanged g (write p b n) image) refl (made_whole ws f.1 image fit h)
      (made_whole ws f.1 (write_page g (write p b n) image) (write_fit g p b n f.0 image fit) (bytes_write g p b n f.0 image fit h))
    where
      go : (t : Bool) → unchanged g (write p b n) image ≡ t → after_writes g (made g ws image) image ≡ after_writes g ws image
          → after_writes g (made g ws (write_page g (write p b n) image)) (write_page g (write p b n) image) ≡ after_writes g ws (write_page g (write p b n) image)
          → after_writes g (choose t (made g ws image) (write p b n ∷ made g ws (write_page g (write p b n) image))) image ≡ after_writes g ws (write_page g (write p b n) image)
      go true e x y = simp choose_true (x ∙ ap (after_writes g ws) (sym (unchanged_same (write p b n) image h e)))
      go false e x y = simp choose_false y

  -- so in every page the bytes after the packets that change there stay
  pub made_rest : (ws : List Write) → WritesFit g ws → (image : List ℕ) → Fit g image → Bytes image → (p : ℕ)
      → drop (reach g p (made g ws image)) (page_of g p (after_writes g ws image)) ≡ drop (reach g p (made g ws image)) (page_of g p image)
  made_rest ws f image fit h p =
      ap (λ (after : List ℕ). drop (reach g p (made g ws image)) (page_of g p after)) (sym (made_whole ws f image fit h))
      ∙ rest_of_page g (made g ws image) (made_fits ws f image) image fit p
