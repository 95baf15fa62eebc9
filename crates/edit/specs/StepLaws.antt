-- An edit within a budget, in steps: the new chain's pages, the directory's pages, the bitmap's pages. Each step starts from what the one before leaves, unless a write was held back.
use Rattle.std.specs.Prelude.{◌≡◌, refl, Bool, true, false, ℕ, length}
use Rattle.std.proofs.Math.Path.{ap, subst}
use Rattle.std.proofs.Common.{sym, ◌∙◌, arith}
use Rattle.std.proofs.lemmas.Bool.{false≢true}
use mathlib.Core.List.{List, ◌++◌}
use Rattle.geometry.specs.declared.Geometry.{Geometry}
use Rattle.geometry.specs.Geometry.{Fit}
use Rattle.geometry.specs.Number.{Bytes}
use Rattle.packet.specs.Packet.{view_of, Write, after_writes}
use Rattle.packet.specs.declared.Budget.{Budget}
use Rattle.packet.specs.Budgets.{Progress, Open, write_all}
use Rattle.packet.specs.BudgetLaws.{all_joined, stopped_all}
use Rattle.rules.proofs.PageSetLaws.{range_le}
use Rattle.rules.specs.Chain.{linked}
use Rattle.rules.specs.Tree.{Items, Map, in_root, in_file}
use Rattle.rules.specs.Bitmap.{bitmap_of, remap}
use Rattle.rules.specs.WellFormed.{MapHolds}
use Rattle.rules.specs.Writes.{map_writes}
use Rattle.rules.specs.Owners.{OwnerRecord}
use Rattle.owners.specs.Owned.{Marks}
use Rattle.editing_theorems.specs.MapWrites.{refill_twice}
use Rattle.editing_theorems.specs.BudgetedWrites.{all_open, all_stopped, all_stand}
use Rattle.editing_theorems.specs.EditedImage as es
use Rattle.editing_theorems.specs.EditedImage.{DirectoryOf, OneEdit}
use Rattle.marks.specs.MapPages.{RootHeld, HasRoot, WritesMap}
use Rattle.marks.specs.RootLaws.{map_holds, zero_taken}

-- a bitmap file's pages written again are its pages written
same_map : (g : Geometry) (bits : List ℕ) (t : Items) (m : Map) → MapHolds g bits m → (new : List ℕ) → length new ≡ length bits → map_writes g new t (remap new m) ≡ map_writes g new t m
same_map g bits t in_root h new l = refl
same_map g bits t (in_file ls) h new l = ap linked (refill_twice ls new (l ∙ ap length (sym h.1)))

module _ {g : Geometry} {image marks : List ℕ} {D : DirectoryOf g image marks} (E : OneEdit D) (b : Budget) where
  abbrev pub step₁ : Progress
  step₁ = write_all g (linked E.chain) (record { image = image; budget = b })

  abbrev pub step₂ : Progress
  step₂ = write_all g (es.ws₂ E) step₁

  abbrev pub step₃ : Progress
  step₃ = write_all g (es.ws₃ E) step₂

  -- together they are the rule's list: the bitmap bytes that stand need no write
  pub whole_is : write_all g (es.the_writes E) (record { image = image; budget = b }) ≡ step₃
  whole_is =
      let s : Progress = record { image = image; budget = b } in
      ap (λ (ws : List Write). write_all g ws s) (es.writes_are E) ∙ all_joined g (es.ws₀ E) (linked E.chain ++ (es.ws₂ E ++ es.ws₃ E)) s
      ∙ ap (write_all g (linked E.chain ++ (es.ws₂ E ++ es.ws₃ E))) (all_stand g (es.ws₀ E) s (es.marks_stand E) D.bytes)
      ∙ all_joined g (linked E.chain) (es.ws₂ E ++ es.ws₃ E) s ∙ all_joined g (es.ws₂ E) (es.ws₃ E) step₁

  module _ (o : Open b) where
    -- a step in which a write was held back is the last
    pub stopped₁ : step₁.budget.stopped ≡ true → (step₂ ≡ step₁) × (step₃ ≡ step₁)
    stopped₁ z =
        let s = all_stopped g (linked E.chain) (record { image = image; budget = b }) o z in
        let e = stopped_all g (es.ws₂ E) step₁ s in
        (e, ap (write_all g (es.ws₃ E)) e ∙ stopped_all g (es.ws₃ E) step₁ s)

    pub open₁ : Open step₁.budget → step₁.image ≡ es.image₁ E
    open₁ z = all_open g (linked E.chain) E.fits (record { image = image; budget = b }) D.fit D.bytes o z

    module _ (z : Open step₁.budget) where
      pub stopped₂ : step₂.budget.stopped ≡ true → step₃ ≡ step₂
      stopped₂ y = stopped_all g (es.ws₃ E) step₂ (all_stopped g (es.ws₂ E) step₁ z y)

      pub open₂ : Open step₂.budget → step₂.image ≡ es.image₂ E
      open₂ y =
          let e = open₁ z in
          all_open g (es.ws₂ E) (es.fits₂ E) step₁ (subst (Fit g) (sym e) (es.fit₁ E)) (subst Bytes (sym e) (es.bytes₁ E)) z y ∙ ap (after_writes g (es.ws₂ E)) e

-- ---- after two steps: stopped, they are all there is; else the image is that of the chain and the directory written
module _ {g : Geometry} {image marks : List ℕ} {D : DirectoryOf g image marks} (E : OneEdit D) (b : Budget) (o : Open b) (mid : List ℕ) (rest : Budget)
    (h : ◌≡◌ {A = Progress} (record { image = mid; budget = rest }) (step₂ E b)) where
  stopped_is : (t : Bool) → rest.stopped ≡ t → (step₂ E b).budget.stopped ≡ t
  stopped_is t z = ap (λ (x : Progress). x.budget.stopped) (sym h) ∙ z

  open_first : rest.stopped ≡ false → Open (step₁ E b).budget
  open_first z = by (step₁ E b).budget.stopped refl
    where
      by : (t : Bool) → (step₁ E b).budget.stopped ≡ t → (step₁ E b).budget.stopped ≡ false
      by false q = q
      by true q = absurd (false≢true (sym (stopped_is false z) ∙ ap (λ (x : Progress). x.budget.stopped) (stopped₁ E b o q).0 ∙ q))

  pub two_stopped : rest.stopped ≡ true → ◌≡◌ {A = Progress} (record { image = mid; budget = rest }) (step₃ E b)
  two_stopped z = h ∙ sym (by (step₁ E b).budget.stopped refl)
    where
      by : (t : Bool) → (step₁ E b).budget.stopped ≡ t → step₃ E b ≡ step₂ E b
      by true q = let s = stopped₁ E b o q in s.1 ∙ sym s.0
      by false q = stopped₂ E b o q (stopped_is true z)

  pub two_open : rest.stopped ≡ false → mid ≡ es.image₂ E
  two_open z = ap (λ (x : Progress). x.image) h ∙ open₂ E b o (open_first z) (stopped_is false z)

-- ---- the bitmap
module _ {g : Geometry} {image marks : List ℕ} {D : DirectoryOf g image marks} (E : OneEdit D) where
  held : RootHeld g (view_of g (es.image₂ E)) marks (es.whole E) D.tree.map
  held = record {
    is_directory = (es.shaped E).is_directory;
    at_zero = es.start_is E;
    room = D.stands.room;
    chain = (es.parts₂ E).own;
    map = map_holds g (view_of g (es.image₂ E)) marks D.tree.map D.stands.map D.stands.room (es.parts₂ E).map
        (omega (arith, es.within E 0, range_le 0 g.pages, zero_taken (es.whole E) (es.shaped E).is_directory (es.start_is E))) (λ x. omega (arith, es.within E x));
  }

  module _ (now : List ℕ) (e : now ≡ es.image₂ E) where
    pub fit_then : Fit g now
    fit_then = subst (Fit g) (sym e) (es.fit₂ E)

    pub has_root : HasRoot g (view_of g now)
    has_root = subst (λ (i : List ℕ). HasRoot g (view_of g i)) (sym e) (record { bits = marks; tree = es.whole E; map = D.tree.map; held = held })

    -- written from a table that gives the bits of the pages then in use
    pub map_is : (table : List OwnerRecord) (below : ℕ) → Marks table below (es.left E) → (budget : Budget) (after : List ℕ) (left : Budget) → WritesMap g table below now budget after left
        → ◌≡◌ {A = Progress} (record { image = after; budget = left }) (write_all g (es.ws₃ E) (record { image = now; budget = budget }))
    unfolding WritesMap
    map_is table below h budget after left w =
        let us = es.left E in
        let m = D.tree.map in
        let t = es.whole E in
        let R = subst (λ (i : List ℕ). RootHeld g (view_of g i) marks t m) (sym e) held in
        w marks t m R us h
        ∙ ap (λ (l : List ℕ). write_all g (map_writes g (bitmap_of g l m) t m) (record { image = now; budget = budget })) (es.left_is E)
        ∙ ap (λ (ws : List Write). write_all g ws (record { image = now; budget = budget })) (sym (same_map g marks t m D.stands.map (es.bits E) (es.size E)))
