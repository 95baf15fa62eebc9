-- What an entry names: a file's chain is copied, a subdirectory is laid with one level less.
use mathlib.Core.Path.{◌≡◌, refl, ap₂, sym, ◌∙◌, subst}
use mathlib.Core.Bool.{true, false, false≢true}
use mathlib.Core.List.{List}
use Prim.Native.Nat.{ℕ, zero, suc, ◌+◌, ◌-◌, ◌≤◌}
use native.Mathlib.Omega.{arith}
use lib.ListN.{length}
use Rattle.geometry.specs.declared.Geometry.{Geometry}
use Rattle.geometry.specs.Geometry.{control_size, first_entries}
use Rattle.packet.specs.Packet.{view_of, after_writes}
use Rattle.rules.specs.declared.Entry.{Entry}
use Rattle.rules.specs.Chain.{views_of}
use Rattle.rules.specs.Names.{directory_number}
use Rattle.rules.specs.Tree.{Items}
use Rattle.rules.specs.Control.{Parent, sub_control}
use Rattle.rules.specs.Check.{Part, chain, directory}
use Rattle.rules.specs.WellFormed.{Under}
use Rattle.gathering.specs.Gather.{bare, own_size, below_size}
use Rattle.gathering.proofs.GatherLaid.{BareEntries}
use Rattle.gathering.proofs.GatherOrder.{pass_writes}
use Rattle.listing.specs.KnownTree.{DirectoryAt, PartAt}
use Rattle.runs.specs.Runs.{KnownRun, LaysRun}
use Rattle.layout.specs.Layout.{parent_of, KnownEntries, CountsFurther, part_writes, part_size, PartFits, KnownPart, LaysPart, KnownDirectory, LaysDirectory}

module _ (g : Geometry) (image : List ℕ) (levels : ℕ) (e : Entry) where
  -- ---- a file's chain
  module _ (n : directory_number e.extension ≡ false) where
    pub known_run : (a : ℕ) → KnownPart g (views_of g image) levels e a → KnownRun g (view_of g image) e.start a
    known_run a k = go k.part k.stands k.room
      where
        go : (x : Part) → PartAt g (views_of g image) levels e x → a + part_size g x ≤ g.pages → KnownRun g (view_of g image) e.start a
        go (chain ls) s r = record { links = ls; chain = s.0; room = r }
        go (directory d) s r = absurd (false≢true (sym n ∙ s.2))

    pub lays_chain : (here : Parent) (a : ℕ) (before after : List ℕ) (r : ℕ) → LaysRun g (view_of g image) e.start a before after r → LaysPart g (views_of g image) levels here e a before after r
    lays_chain here a before after r l (chain ls) s = l ls s.0
    lays_chain here a before after r l (directory d) s = absurd (false≢true (sym n ∙ s.2))

  -- ---- a subdirectory
  pub record KnownSub (a : ℕ) : Type 0 where
    pub tree : Items
    pub level : 1 ≤ levels
    pub stands : DirectoryAt g (views_of g image) (levels - 1) e.start tree
    pub fitting : BareEntries g (levels - 1) (bare tree)
    pub room : a + (own_size g (bare tree) + below_size g (bare tree)) ≤ g.pages

  module _ (n : directory_number e.extension ≡ true) where
    pub known_sub : (a : ℕ) → KnownPart g (views_of g image) levels e a → KnownSub a
    known_sub a k = go k.part k.stands k.fitting k.room
      where
        under : (l : ℕ) (d : Items) → levels ≡ l → Under l (λ less. DirectoryAt g (views_of g image) less e.start d) → Under l (λ less. BareEntries g less (bare d))
            → a + (own_size g (bare d) + below_size g (bare d)) ≤ g.pages → KnownSub a
        under zero d q u f r = absurd u
        under (suc l) d q u f r =
            let w : l ≡ levels - 1 = omega (arith, q) in
            record { tree = d; level = omega (arith, q); stands = subst (λ (m : ℕ). DirectoryAt g (views_of g image) m e.start d) w u; fitting = subst (λ (m : ℕ). BareEntries g m (bare d)) w f; room = r }

        go : (x : Part) → PartAt g (views_of g image) levels e x → PartFits g levels x → a + part_size g x ≤ g.pages → KnownSub a
        go (chain ls) s f r = absurd (false≢true (sym s.2 ∙ n))
        go (directory d) s f r = under levels d refl s.3 f r

    pub known_entries : {a : ℕ} → KnownSub a → KnownEntries g (views_of g image) (levels - 1) e.start
    known_entries K = record { tree = K.tree; stands = K.stands; fitting = K.fitting; few = omega (arith, K.room) }

    module _ (here : Parent) (a more : ℕ) (c : CountsFurther g (views_of g image) (levels - 1) e.start more) where
      pub known_directory : KnownSub a → (head : List ℕ) → length head ≡ control_size g → KnownDirectory g (views_of g image) (levels - 1) e.start head a (a + 1) (a + 1 + more)
      known_directory K head h =
          let f = c K.tree K.stands in
          record { tree = K.tree; stands = K.stands; fitting = K.fitting; field = h; order = omega arith; inner = omega (arith, f); room = omega (arith, f, K.room) }

      pub further_small : KnownSub a → a + 1 + more ≤ g.pages
      further_small K = omega (arith, c K.tree K.stands, K.room)

      pub lays_sub : (before after head : List ℕ) (r : ℕ) → head ≡ sub_control g.width here
          → LaysDirectory g (views_of g image) (levels - 1) (parent_of e.name a) e.start head a (a + 1) (a + 1 + more) before after r → LaysPart g (views_of g image) levels here e a before after r
      lays_sub before after head r q l (chain ls) s = absurd (false≢true (sym s.2 ∙ n))
      lays_sub before after head r q l (directory d) s = go levels refl s.3
        where
          go : (m : ℕ) → levels ≡ m → Under m (λ less. DirectoryAt g (views_of g image) less e.start d)
              → (after ≡ after_writes g (part_writes g here e a (directory d)) before) × (r ≡ a + part_size g (directory d))
          go zero k u = absurd u
          go (suc m) k u =
              let w : m ≡ levels - 1 = omega (arith, k) in
              let S = subst (λ (j : ℕ). DirectoryAt g (views_of g image) j e.start d) w u in
              let i = l d S in
              let f = c d S in
              let x : a + 1 + more ≡ a + own_size g (bare d) = omega (arith, f) in
              (i.0 ∙ ap₂ (λ (y : List ℕ) (z : ℕ). after_writes g (pass_writes g (parent_of e.name a) y a (first_entries g) (a + 1) z (bare d)) before) q x, omega (arith, i.1, f))
