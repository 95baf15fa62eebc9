-- A place in a directory as the code makes and reads it.
use Rattle.std.specs.Prelude.{Ok}
use mathlib.Core.Path.{◌≡◌, refl, ap, ap₂, sym, ◌∙◌}
use mathlib.Core.List.{List}
use Prim.Native.Nat.{ℕ, suc, ◌+◌, ◌-◌, ◌*◌, ◌/◌, ◌≤◌, ◌<◌}
use native.Mathlib.Nat.{mul-le-mul_left, mul-div-le}
use native.Mathlib.Omega.{arith}
use lib.ListN.{length, drop, length-drop}
use Rattle.geometry.specs.declared.Geometry.{Geometry}
use Rattle.geometry.specs.Geometry.{entry_size, Fit}
use Rattle.geometry.specs.Page.{page_of}
use Rattle.geometry.specs.PageLaws.{page_length}
use Rattle.rules.specs.Names.{entry_of}
use Rattle.packet.specs.Packet.{Packet, bad, good, View, view_of}
use Rattle.packet.specs.Reading.{right_packet}
use Rattle.chain.specs.declared.Cursor.{Cursor}
use Rattle.chain.specs.Steps.{after, step_of}
use Rattle.chain.proofs.Following.{stepped}
use Rattle.entries.specs.declared.Slot.{Slot}
use Rattle.entries.specs.EntrySlots.{Fits, opened, open_of}

-- a place at the first entry of a page that is passed
module _ (g : Geometry) (v : View) (c : Cursor) (h : c.page < g.pages) where
  pub open_is : (size : ℕ) (d : Cursor) (skip n : ℕ) → Ok (size, d) ≡ step_of g v c → n ≡ (size - skip) / entry_size g
      → ◌≡◌ {A = Slot} (record { page = c.page; skip = skip; count = n; at = 0; next = d }) (open_of g v skip c)
  unfolding open_of
  open_is size d skip n f q =
      let k = stepped g v c h size d f in
      let s : n ≡ length (drop skip k.0) / entry_size g = q ∙ ap (λ (i : ℕ). i / entry_size g) (sym (length-drop skip k.0 ∙ ap (λ (i : ℕ). i - skip) k.2)) in
      let j : d ≡ after c (length k.0) d.page = k.3 ∙ ap (λ (i : ℕ). after c i d.page) (sym k.2) in
      ap₂ (λ (i : ℕ) (x : Cursor). record { page = c.page; skip = skip; count = i; at = 0; next = x }) s j ∙ ap (opened g skip c) (sym k.1)

-- a place's entries lie in its page
pub slot_fits : (g : Geometry) (image : List ℕ) (skip : ℕ) (c : Cursor) → Fit g image → c.page < g.pages → skip ≤ 31 → Fits g (open_of g (view_of g image) skip c)
unfolding open_of view_of
slot_fits g image skip c f h k = go (view_of g image c.page) refl
  where
    go : (x : Packet) → view_of g image c.page ≡ x → Fits g (opened g skip c x)
    go bad e = let z : entry_size g * 0 ≡ 0 = native.Mathlib.Nat.mul-zero (entry_size g) in record { inside = h; room = omega (arith, f.valid.least) }
    go (good b n) e =
        let r = right_packet g.width c.page (page_of g c.page image) b n e in
        let l = page_length g image c.page f h in
        let m : entry_size g * (length (drop skip b) / entry_size g) ≤ length (drop skip b) = mul-div-le (length (drop skip b)) (entry_size g) in
        record { inside = h; room = omega (arith, r.room, f.valid.least, length-drop skip b) }

-- the next entry lies in the page
pub entry_inside : (g : Geometry) (s : Slot) (e : ℕ) → e ≡ entry_size g → Fits g s → s.at < s.count → 1 + s.skip + e * s.at + e ≤ g.size
entry_inside g s e q f h =
    let j : e * suc s.at ≤ e * s.count = mul-le-mul_left e h in
    omega (arith, f.room, ap (λ (x : ℕ). x * s.count) q)

-- where it is read from
pub entry_from_lem : (g : Geometry) (s : Slot) (e : ℕ) (l image : List ℕ) → e ≡ entry_size g → l ≡ page_of g s.page image
    → entry_of g.width (drop (1 + s.skip + e * s.at) l) ≡ entry_of g.width (drop (1 + s.skip + entry_size g * s.at) (page_of g s.page image))
entry_from_lem g s e l image q r = ap₂ (λ (x : ℕ) (y : List ℕ). entry_of g.width (drop (1 + s.skip + x * s.at) y)) q r

-- its bytes are in the page
pub entry_reads : (g : Geometry) (s : Slot) (e : ℕ) (l image : List ℕ) → e ≡ entry_size g → l ≡ page_of g s.page image → Fit g image → Fits g s → s.at < s.count → 1 + s.skip + e * s.at + (5 + 2 * g.width) ≤ length l
unfolding entry_size
entry_reads g s e l image q r f fs h = omega (arith, entry_inside g s e q fs h, ap length r, page_length g image s.page f fs.inside)
