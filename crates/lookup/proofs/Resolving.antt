-- What stands under a key, and the names of a path followed one by one.
use Rattle.std.specs.Prelude.{Some, None, Result, Ok, Err}
use Rattle.refusals.specs.declared.Refusal.{Refusal}
use Rattle.refusals.specs.declared.Fault.TheVariants.{Absent}
use mathlib.Core.Path.{◌≡◌, refl, ap, ap₂, sym, ◌∙◌, subst}
use mathlib.Core.Bool.{Bool, true, false, ◌||◌}
use mathlib.Core.List.{List, [], ◌∷◌}
use Prim.Native.Nat.{ℕ, zero, suc, ◌+◌, ◌-◌, ◌%◌, ◌≤◌}
use native.Mathlib.Omega.{arith}
use lib.Dec.{eqb}
use lib.ListN.{take, drop}
use lib.Seq.{drop-drop}
use borrow.Author.Tests.{eq-eqb, ne_eqb, eqb-true, eqb-false}
use Rattle.geometry.specs.declared.Geometry.{Geometry}
use Rattle.geometry.specs.ChooseLaws.{choose_true, choose_false}
use Rattle.geometry.specs.Number.{number}
use Rattle.rules.specs.declared.Entry.{Entry}
use Rattle.rules.proofs.PageSetLaws.{hits, same, other}
use Rattle.rules.specs.Result.{Res, ok, err}
use Rattle.rules.proofs.ResultLaws.{clash, ok_inj}
use Rattle.rules.specs.Chain.{Views, first}
use Rattle.rules.specs.Names.{key, attribute, directory_number}
use Rattle.rules.specs.Tree.{Label, key_of, Items, end, page, file, dir, start_of, directory_entry}
use Rattle.rules.specs.WellFormed.{Under}
use Rattle.rules.specs.Paths.{names_in, directory_key, Found, nothing, a_file, a_directory, find, Place, step_down, in_directory, directory_at}
use Rattle.chain.specs.KnownChain.{ChainAt}
use Rattle.listing.specs.KnownTree.{Chained, Below}
use Rattle.lookup.specs.declared.Reached.{Reached}
use Rattle.lookup.specs.Searches.{entered, entry_of, TreeAt, HasTree, IsReached, Leads}

-- ---- what is found stands
abbrev pub FoundAt : Geometry → Views → ℕ → ℕ → Found → Type 0
FoundAt g vs levels k nothing = Unit {0}
FoundAt g vs levels k (a_file l ls) = (k ≡ key_of l) × ChainAt g (vs.file l.extension) (first ls) ls × (directory_number l.extension ≡ false)
FoundAt g vs levels k (a_directory l d) = (k ≡ key_of l) × Chained g vs.pages (start_of d) d × (directory_number l.extension ≡ true) × Under levels (λ less. Below g vs less d)

module _ (g : Geometry) (vs : Views) (levels k : ℕ) where
  pub find_stands : (t : Items) → Below g vs levels t → FoundAt g vs levels k (find k t)
  find_stands end b = tt
  find_stands (page p t) b = find_stands t b
  find_stands (file l ls t) b = elim (hits k (key_of l)) [
    | same e i ↦ rw (eq-eqb k (key_of l) e, choose_true) (e, b.0, b.1)
    | other e i ↦ rw (ne_eqb k (key_of l) e, choose_false) (find_stands t b.2)
  ]
  find_stands (dir l d t) b = elim (hits k (key_of l)) [
    | same e i ↦ rw (eq-eqb k (key_of l) e, choose_true) (e, b.0, b.1, b.2)
    | other e i ↦ rw (ne_eqb k (key_of l) e, choose_false) (find_stands t b.3)
  ]

-- a directory's key is no file's, a file's is no directory's
pub no_file : (k x : ℕ) (l : Label) → k ≡ directory_key x → k ≡ key_of l → directory_number l.extension ≡ false → ⊥
unfolding directory_number
no_file k x l e i h = eqb-false (l.extension % 128) 127 h (omega arith)

pub no_directory : (k x y : ℕ) (l : Label) → k ≡ key x y → y ≤ 99 → k ≡ key_of l → directory_number l.extension ≡ true → ⊥
unfolding directory_number
no_directory k x y l e b i h = let j = eqb-true (l.extension % 128) 127 h in omega arith

-- ---- the names of a path
pub at_first : (p q : Place) → directory_at [] p ≡ ok q → p.items ≡ q.items
unfolding directory_at
at_first p q e = ap (λ (x : Place). x.items) (ok_inj e)

pub at_next : (x : ℕ) (xs : List ℕ) (p : Place) → directory_at (x ∷ xs) p ≡ in_directory (find (directory_key x) p.items) (λ l d. directory_at xs (step_down p x l d))
unfolding directory_at
at_next x xs p = refl

-- from a directory that stands to one that stands
pub place_below : (g : Geometry) (vs : Views) (names : List ℕ) (from : Place) (levels : ℕ) → Below g vs levels from.items → (p : Place) → directory_at names from ≡ ok p
    → (n : ℕ) × Below g vs n p.items
place_below g vs [] from levels b p e = (levels, subst (Below g vs levels) (at_first from p e) b)
place_below g vs (x ∷ xs) from levels b p e =
    go (find (directory_key x) from.items) (find_stands g vs levels (directory_key x) from.items b) (λ l d n u q. place_below g vs xs (step_down from x l d) n u p q) (sym (at_next x xs from) ∙ e)
  where
    under : (d : Items) → ((n : ℕ) → Below g vs n d → (n : ℕ) × Below g vs n p.items) → (n : ℕ) → Under n (λ less. Below g vs less d) → (n : ℕ) × Below g vs n p.items
    under d k zero u = absurd u
    under d k (suc n) u = k n u

    go : (f : Found) → FoundAt g vs levels (directory_key x) f
        → ((l : Label) (d : Items) (n : ℕ) → Below g vs n d → directory_at xs (step_down from x l d) ≡ ok p → (n : ℕ) × Below g vs n p.items)
        → in_directory f (λ l d. directory_at xs (step_down from x l d)) ≡ ok p → (n : ℕ) × Below g vs n p.items
    go nothing s k e = clash e
    go (a_file l ls) s k e = clash e
    go (a_directory l d) s k e = under d (λ n u. k l d n u e) levels s.3

-- one name on: the top bit set or clear
pub enter_hidden : (from : Reached) (name : ℕ) (e : Entry) → attribute e.extension ≡ 1 → record { start = e.start; name = name; hidden = true } ≡ entered from name e
enter_hidden from name e h = ap (λ (b : Bool). record { start = e.start; name = name; hidden = b }) (sym (go from.hidden))
  where
    go : (b : Bool) → b || eqb (attribute e.extension) 1 ≡ true
    go true = refl
    go false = eq-eqb (attribute e.extension) 1 h

pub enter_shown : (from : Reached) (name : ℕ) (e : Entry) → (attribute e.extension ≡ 1 → ⊥) → record { start = e.start; name = name; hidden = from.hidden } ≡ entered from name e
enter_shown from name e h = ap (λ (b : Bool). record { start = e.start; name = name; hidden = b }) (sym (go from.hidden))
  where
    go : (b : Bool) → b || eqb (attribute e.extension) 1 ≡ b
    go true = refl
    go false = ne_eqb (attribute e.extension) 1 h

-- the same of the rule's place and the code's
pub step_reached : (g : Geometry) (vs : Views) (from : Reached) (p : Place) → IsReached g vs p from → (x : ℕ) (l : Label) (d : Items) (e : Entry) → e ≡ directory_entry l d → TreeAt g vs e.start d
    → IsReached g vs (step_down p x l d) (entered from x e)
step_reached g vs from p h x l d e e_is tree = record {
  here_is = ap (λ (n : ℕ). record { name = x; start = n }) (sym (ap (λ (y : Entry). y.start) e_is));
  hidden_is = ap₂ (λ (a : Bool) (n : ℕ). a || eqb (attribute n) 1) h.hidden_is (sym (ap (λ (y : Entry). y.extension) e_is));
  tree = tree;
}

pub has_tree_from : {g : Geometry} {vs : Views} {d : Items} (start n : ℕ) → n ≡ start → TreeAt g vs start d → HasTree g vs n
has_tree_from {g} {vs} {d} start n q tree = rw q (record { tree = d; at = tree })

module _ (g : Geometry) (vs : Views) (from : Reached) (path : List ℕ) (at names : ℕ) where
  -- none is left
  pub lead_here : names ≡ 0 → (p : Place) → IsReached g vs p from → Leads g vs (directory_at (names_in names (drop at path)) p) (Ok from)
  unfolding directory_at
  lead_here z p T = (p, ap (λ (n : ℕ). directory_at (names_in n (drop at path)) p) z, T)

  module _ (some : names ≡ 0 → ⊥) (k x : ℕ) (x_is : x ≡ number (take 4 (drop at path))) (k_is : k ≡ directory_key x) where
    -- the first of them
    first_name : (n : ℕ) → (n ≡ 0 → ⊥) → names_in n (drop at path) ≡ x ∷ names_in (n - 1) (drop (at + 4) path)
    first_name zero h = absurd (h refl)
    first_name (suc n) h = let e : suc n - 1 ≡ n = omega arith in
        ap₂ (λ (y : ℕ) (l : List ℕ). y ∷ names_in n l) (sym x_is) (drop-drop 4 at path) ∙ ap (λ (m : ℕ). x ∷ names_in m (drop (at + 4) path)) (sym e)

    -- what the names after it lead to
    abbrev onward : Place → Label → Items → Res Place
    onward p l d = directory_at (names_in (names - 1) (drop (at + 4) path)) (step_down p x l d)

    one_name : (p : Place) → directory_at (names_in names (drop at path)) p ≡ in_directory (find k p.items) (onward p)
    one_name p = ap (λ (l : List ℕ). directory_at l p) (first_name names some) ∙ at_next x (names_in (names - 1) (drop (at + 4) path)) p
        ∙ ap (λ (n : ℕ). in_directory (find n p.items) (onward p)) (sym k_is)

    -- it is absent
    pub lead_absent : (p : Place) → None ≡ entry_of (find k p.items) → Leads g vs (directory_at (names_in names (drop at path)) p) (Err (record { 0 = Absent; 1 = 0 }))
    lead_absent p e = one_name p ∙ go (find k p.items) e
      where
        go : (f : Found) → None ≡ entry_of f → in_directory f (onward p) ≡ err 15 0
        go nothing e = refl
        go (a_file l ls) e = refl
        go (a_directory l d) e = absurd (let z : ◌≡◌ {A = ℕ} 0 1 = cc in omega arith)

    -- or a directory, and the names after it lead on from there
    pub record Next (t : Items) (e : Entry) : Type 0 where
      pub label : Label
      pub items : Items
      pub is : find k t ≡ a_directory label items
      pub entry_is : e ≡ directory_entry label items
      pub tree : TreeAt g vs e.start items

    pub lead_next : (t : Items) → TreeAt g vs from.start t → (e : Entry) → Some e ≡ entry_of (find k t) → Next t e
    lead_next t T e q = go (find k t) refl (find_stands g vs T.levels k t T.stands.below) q
      where
        under : (n : ℕ) (d : Items) → Chained g vs.pages (start_of d) d → Under n (λ less. Below g vs less d) → TreeAt g vs (start_of d) d
        under zero d c u = absurd u
        under (suc n) d c u = record { levels = n; stands = record { chained = c; below = u } }

        go : (f : Found) → find k t ≡ f → FoundAt g vs T.levels k f → Some e ≡ entry_of f → Next t e
        go nothing i s q = absurd (let z : ◌≡◌ {A = ℕ} 0 1 = cc in omega arith)
        go (a_file l ls) i s q = absurd (no_file k x l k_is s.0 s.2)
        go (a_directory l d) i s q =
            let j : e ≡ directory_entry l d = cc in
            record { label = l; items = d; is = i; entry_is = j; tree = subst (λ (n : ℕ). TreeAt g vs n d) (sym (ap (λ (y : Entry). y.start) j)) (under T.levels d s.1 s.3) }

    pub lead_on : (p : Place) (e : Entry) (n : Next p.items e) (r : Result Reached Refusal) → Leads g vs (onward p n.label n.items) r → Leads g vs (directory_at (names_in names (drop at path)) p) r
    lead_on p e n r h = subst (λ (q : Res Place). Leads g vs q r) (sym (one_name p ∙ ap (λ (f : Found). in_directory f (onward p)) n.is)) h
