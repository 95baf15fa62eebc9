-- Bytes taken into a packet's buffer: kept there, or spilling into its page.
use mathlib.Core.Path.{◌≡◌, refl, ap, ap₂, sym, ◌∙◌}
use mathlib.Core.List.{List, ◌++◌, append_assoc}
use Prim.Native.Nat.{ℕ, ◌+◌, ◌-◌, ◌≤◌, ◌<◌}
use native.Mathlib.Omega.{arith}
use lib.ListN.{length, take, drop, length-append, length-drop, take-append-drop}
use lib.Seq.{take_at, take_all, length-take-le}
use Rattle.geometry.specs.declared.Geometry.{Geometry}
use Rattle.geometry.specs.Geometry.{Fit}
use Rattle.geometry.specs.Page.{overwritten}
use Rattle.packet.specs.Packet.{write, write_page, after_writes}
use Rattle.rules.specs.Chain.{linked}
use Rattle.gathering.specs.Gather.{file_size, file_chain}
use Rattle.gathering.proofs.GatherPass.{size_more, chain_more}
use Rattle.runs.specs.declared.Filling.{Filling}
use Rattle.runs.specs.Runs.{Ready, Takes}

pub length_over : (at : ℕ) (xs b : List ℕ) → at + length xs ≤ length b → length (overwritten at xs b) ≡ length b
unfolding overwritten
length_over at xs b h =
    omega (arith, length-append (take at b) (xs ++ drop (length xs) (drop at b)), length-append xs (drop (length xs) (drop at b)), length-take-le at b (omega arith), length-drop (length xs) (drop at b), length-drop at b)

-- what is held then
pub front_over : (at : ℕ) (xs b : List ℕ) → at ≤ length b → take (at + length xs) (overwritten at xs b) ≡ take at b ++ xs
unfolding overwritten
front_over at xs b h =
    ap (take (at + length xs)) (sym (append_assoc (take at b) xs (drop (length xs) (drop at b))))
    ∙ take_at (take at b ++ xs) (drop (length xs) (drop at b)) (at + length xs) (omega (arith, length-append (take at b) xs, length-take-le at b h))

part_rest : (k : ℕ) (b : List ℕ) → take (length b - k) (drop k b) ≡ drop k b
part_rest k b = take_all (length b - k) (drop k b) (omega (arith, length-drop k b))

module _ (g : Geometry) (capacity : ℕ) (buffer : List ℕ) (f : Filling) (bytes second : List ℕ) (ready : Ready g capacity buffer f bytes) where
  pub keep_in : length bytes ≤ capacity - f.held → (buffer' : List ℕ) → buffer' ≡ overwritten f.held bytes buffer
      → Takes g buffer f bytes second buffer' (record { held = f.held + length bytes; page = f.page }) second
  keep_in h buffer' e =
      let x : take (f.held + length bytes) buffer' ≡ take f.held buffer ++ bytes = ap (take (f.held + length bytes)) e ∙ front_over f.held bytes buffer (omega (arith, ready.held, ready.most, ready.long)) in
      let y : (more : List ℕ) → take (f.held + length bytes) buffer' ++ more ≡ take f.held buffer ++ (bytes ++ more) = λ more. ap (λ (l : List ℕ). l ++ more) x ∙ append_assoc (take f.held buffer) bytes more in
      record {
        long = ap length e ∙ length_over f.held bytes buffer (omega (arith, ready.held, ready.most, ready.long)) ∙ ready.long;
        fits = refl;
        held = omega (arith, ready.held, ready.is);
        lays = λ more. ap (λ (l : List ℕ). after_writes g (linked (file_chain g f.page l)) second) (y more);
        ends = λ more. ap (λ (l : List ℕ). f.page + file_size g l) (y more);
      }

  pub room_first : capacity - f.held ≤ length bytes → f.held + length (take (capacity - f.held) bytes) ≤ length buffer
  room_first h = omega (arith, length-take-le (capacity - f.held) bytes (omega arith), ready.held, ready.most, ready.long)

  module _ (h : capacity - f.held ≤ length bytes) (buffer₁ : List ℕ) (e₁ : buffer₁ ≡ overwritten f.held (take (capacity - f.held) bytes) buffer) where
    abbrev room : ℕ
    room = capacity - f.held

    pub long₁ : length buffer₁ ≡ 256
    long₁ = ap length e₁ ∙ length_over f.held (take room bytes) buffer (room_first h) ∙ ready.long

    full : take capacity buffer₁ ≡ take f.held buffer ++ take room bytes
    full =
        let l = length-take-le room bytes (omega arith) in
        let n : capacity ≡ f.held + length (take room bytes) = omega (arith, l, ready.held) in
        ap₂ take n e₁ ∙ front_over f.held (take room bytes) buffer (omega (arith, ready.held, ready.most, ready.long))

    pub full_size : capacity ≡ length (take capacity buffer₁)
    full_size = sym (length-take-le capacity buffer₁ (omega (arith, long₁, ready.most)))

    pub page_there : room < length bytes → f.page < g.pages
    page_there past = ready.spills (omega arith)

    pub full_room : length (take capacity buffer₁) + g.width + 3 ≤ g.size
    full_room = omega (arith, full_size, ready.room)

    pub spill : room < length bytes → Fit g second → (second' : List ℕ) → second' ≡ write_page g (write f.page (take capacity buffer₁) (f.page + 1)) second → length second' ≡ length second
        → (buffer₂ : List ℕ) → buffer₂ ≡ overwritten 0 (take (length bytes - room) (drop room bytes)) buffer₁
        → Takes g buffer f bytes second buffer₂ (record { held = length bytes - room; page = f.page + 1 }) second'
    unfolding after_writes
    spill past fit second' w s buffer₂ e₂ =
        let part = take (length bytes - room) (drop room bytes) in
        let i = part_rest room bytes in
        let z = length-drop room bytes in
        let n : length part ≡ length bytes - room = ap length i ∙ z in
        let x : take (length bytes - room) buffer₂ ≡ drop room bytes =
        ap₂ take (sym n) e₂ ∙ (let q : length part ≡ 0 + length part = omega arith in ap (λ (k : ℕ). take k (overwritten 0 part buffer₁)) q) ∙ front_over 0 part buffer₁ (omega arith) ∙ i in
        let all : (more : List ℕ) → take capacity buffer₁ ++ (take (length bytes - room) buffer₂ ++ more) ≡ take f.held buffer ++ (bytes ++ more)
        = λ more.
        ap₂ (λ (u t : List ℕ). u ++ (t ++ more)) full x ∙ append_assoc (take f.held buffer) (take room bytes) (drop room bytes ++ more)
        ∙ ap (λ (l : List ℕ). take f.held buffer ++ l) (sym (append_assoc (take room bytes) (drop room bytes) more) ∙ ap (λ (l : List ℕ). l ++ more) (take-append-drop room bytes)) in
        let some : (more : List ℕ) → 0 < length (take (length bytes - room) buffer₂ ++ more) = λ more. omega (arith, length-append (take (length bytes - room) buffer₂) more, ap length x, z) in
        record {
          long = ap length e₂ ∙ length_over 0 part buffer₁ (omega (arith, n, long₁, ready.few, ready.most)) ∙ long₁;
          fits = s;
          held = omega (arith, ready.few, ready.is);
          lays = λ more.
              let rest = take (length bytes - room) buffer₂ ++ more in
              ap (after_writes g (linked (file_chain g (f.page + 1) rest))) w
              ∙ ap (λ (ws : List Rattle.packet.specs.Packet.Write). after_writes g ws second) (sym (chain_more g fit.valid f.page (take capacity buffer₁) rest (sym full_size ∙ ready.is) (some more)))
              ∙ ap (λ (l : List ℕ). after_writes g (linked (file_chain g f.page l)) second) (all more);
          ends = λ more.
              let rest = take (length bytes - room) buffer₂ ++ more in
              omega (arith, size_more g fit.valid (take capacity buffer₁) rest (sym full_size ∙ ready.is) (some more), ap (file_size g) (all more));
        }
