-- The bitmap where the root places it: what page 0 tells, and which of the two ways writes it.
use mathlib.Core.Path.{◌≡◌, refl, ap, sym, ◌∙◌, subst}
use mathlib.Core.Bool.{Bool, true, false}
use mathlib.Core.List.{List, [], ◌∷◌, ◌++◌, append_assoc}
use Prim.Native.Nat.{ℕ, ◌+◌, ◌-◌}
use native.Mathlib.Omega.{arith}
use lib.Dec.{leb}
use lib.ListN.{length, get_or, take, drop}
use Rattle.geometry.specs.declared.Geometry.{Geometry}
use Rattle.geometry.specs.Geometry.{Fit, bitmap_size}
use Rattle.geometry.specs.Number.{number}
use Rattle.geometry.specs.Page.{page_of}
use Rattle.packet.specs.Packet.{good, View, view_of, Write, write}
use Rattle.packet.specs.declared.Budget.{Budget}
use Rattle.packet.specs.Budgets.{Progress, write_all}
use Rattle.rules.specs.Chain.{first, linked}
use Rattle.rules.specs.Tree.{Items, end, page, file, dir, start_of, tokens, token_bytes, token_links, directory_links, Map, in_root, in_file}
use Rattle.rules.specs.Control.{root_control}
use Rattle.rules.specs.Bitmap.{bitmap_from, bitmap_of, refill}
use Rattle.rules.specs.WellFormed.{HasPackets, IsDirectory}
use Rattle.rules.specs.Writes.{map_writes}
use Rattle.rules.specs.Owners.{OwnerRecord}
use Rattle.reading_theorems.specs.DirectoryComplete.{pages_fit}
use Rattle.chain.proofs.Following.{first_stands}
use Rattle.marks.specs.Marks.{marks_from}
use Rattle.marks.specs.MarkLaws.{marks_are}
use Rattle.marks.specs.MapPages.{LocalMapAt, HasLocal, WritesLocal, MapFileAt, HasMapFile, WritesFile, RootHeld, HasRoot, WritesMap, TellsLocal, TellsStart}
use Rattle.marks.proofs.RootPage.{after_length, local_told, start_told}

-- the root's first page: page 0, with the control field before its entries
pub record RootFirst (g : Geometry) (v : View) (control : List ℕ) (t : Items) : Type 0 where
  pub rest : List ℕ
  pub next : ℕ
  pub packet : v 0 ≡ good (control ++ rest) next
  pub anew : (new : List ℕ) → take 1 (linked (directory_links g new t)) ≡ write 0 (new ++ rest) next ∷ []

root_first : (g : Geometry) (v : View) (control : List ℕ) (t : Items) → IsDirectory t → start_of t ≡ 0 → HasPackets v (linked (directory_links g control t)) → RootFirst g v control t
root_first g v control end i e s = absurd i
root_first g v control (file l ls t) i e s = absurd i
root_first g v control (dir l d t) i e s = absurd i
root_first g v control (page p t) i e s = record {
  rest = token_bytes g.width (tokens t);
  next = first (token_links g.width [] (tokens t));
  packet = ap v (sym e) ∙ s.0;
  anew = λ new. ap (λ (q : ℕ). write q (new ++ token_bytes g.width (tokens t)) (first (token_links g.width [] (tokens t))) ∷ []) e;
}

module _ (g : Geometry) (v : View) (bits : List ℕ) (t : Items) (m : Map) (R : RootHeld g v bits t m) where
  held_first : RootFirst g v (root_control g.width bits m) t
  held_first = root_first g v (root_control g.width bits m) t R.is_directory R.at_zero R.chain

-- ---- what page 0 tells
module _ {g : Geometry} {image : List ℕ} (fit : Fit g image) {raw : List ℕ} (e : raw ≡ page_of g 0 image) where
  field_there : (bits : List ℕ) (t : Items) (m : Map) (R : RootHeld g (view_of g image) bits t m) → (more : List ℕ) × (drop 1 raw ≡ root_control g.width bits m ++ more)
  field_there bits t m R =
      let F = held_first g (view_of g image) bits t m R in
      let b = root_control g.width bits m ++ F.rest in
      (F.rest ++ drop (length b) (drop 1 raw), after_length g image fit b F.next F.packet raw e ∙ append_assoc (root_control g.width bits m) F.rest (drop (length b) (drop 1 raw)))

  pub tells_local : TellsLocal g (view_of g image) (leb 128 (get_or raw (g.width + 2) 0))
  unfolding TellsLocal
  tells_local bits t m R = let k = field_there bits t m R in local_told g.width raw k.0 bits m k.1

  pub tells_start : (r : ℕ) → r ≡ number (take g.width (drop (7 - g.width) raw)) → TellsStart g (view_of g image) r
  unfolding TellsStart
  tells_start r q bits t ls R =
      let k = field_there bits t (in_file ls) R in
      let h = (first_stands g (view_of g image) (first ls) ls R.map.0.chain).0 in
      q ∙ start_told g.width raw k.0 bits ls fit.valid.one fit.valid.two (omega (arith, pages_fit g fit.valid)) k.1

-- ---- the two ways
module _ (g : Geometry) (image : List ℕ) (r : Bool) (T : TellsLocal g (view_of g image) r) where
  abbrev v : View
  v = view_of g image

  module _ (y : r ≡ true) where
    local_map : (bits : List ℕ) (t : Items) (m : Map) → RootHeld g v bits t m → m ≡ in_root
    unfolding TellsLocal
    local_map bits t in_root R = refl
    local_map bits t (in_file ls) R = absurd (mathlib.Core.Bool.false≢true (sym (T bits t (in_file ls) R) ∙ y))

    local_stands : (bits : List ℕ) (t : Items) (R : RootHeld g v bits t in_root) → LocalMapAt g v bits (held_first g v bits t in_root R).rest (held_first g v bits t in_root R).next
    local_stands bits t R = record { packet = (held_first g v bits t in_root R).packet; four = R.room }

    pub has_local : HasRoot g v → HasLocal g v
    has_local H =
        let R = subst (RootHeld g v H.bits H.tree) (local_map H.bits H.tree H.map H.held) H.held in
        record { bits = H.bits; rest = _; next = _; stands = local_stands H.bits H.tree R }

    module _ (table : List OwnerRecord) (below : ℕ) (budget : Budget) (after : List ℕ) (left : Budget) where
      abbrev from : Progress
      from = record { image = image; budget = budget }

      pub map_local : WritesLocal g table below image budget after left → WritesMap g table below image budget after left
      unfolding WritesMap WritesLocal write_all
      map_local W bits t m R used u =
          let q = local_map bits t m R in
          let R₂ = subst (RootHeld g v bits t) q R in
          let F = held_first g v bits t in_root R₂ in
          W bits F.rest F.next (local_stands bits t R₂)
          ∙ ap (λ (x : List ℕ). write_all g (write 0 (root_control g.width x in_root ++ F.rest) F.next ∷ []) from) (marks_are table below used u 4 0)
          ∙ ap (λ (ws : List Write). write_all g ws from) (sym (F.anew (root_control g.width (bitmap_from used 0 4) in_root)))
          ∙ ap (λ (x : Map). write_all g (map_writes g (bitmap_of g used x) t x) from) (sym q)

  module _ (y : r ≡ false) (start : ℕ) (S : TellsStart g v start) where
    has_file' : (bits : List ℕ) (t : Items) (m : Map) → RootHeld g v bits t m → HasMapFile g v start
    unfolding TellsLocal TellsStart
    has_file' bits t in_root R = absurd (mathlib.Core.Bool.false≢true (sym y ∙ T bits t in_root R))
    has_file' bits t (in_file ls) R = record { links = ls; stands = subst (λ (x : ℕ). MapFileAt g v x ls) (sym (S bits t ls R)) R.map.0 }

    pub has_file : HasRoot g v → HasMapFile g v start
    has_file H = has_file' H.bits H.tree H.map H.held

    pub map_file : (table : List OwnerRecord) (below : ℕ) (budget : Budget) (after : List ℕ) (left : Budget) → WritesFile g table below start image budget after left
        → WritesMap g table below image budget after left
    unfolding WritesMap WritesFile TellsLocal TellsStart
    map_file table below budget after left W bits t in_root R used u = absurd (mathlib.Core.Bool.false≢true (sym y ∙ T bits t in_root R))
    map_file table below budget after left W bits t (in_file ls) R used u =
        W ls (subst (λ (x : ℕ). MapFileAt g v x ls) (sym (S bits t ls R)) R.map.0)
        ∙ ap (λ (x : List ℕ). write_all g (linked (refill ls x)) (record { image = image; budget = budget })) (ap (marks_from table below 0) R.map.1 ∙ marks_are table below used u (bitmap_size g) 0)
