-- Lines at positions, and the line of one entry.
use Rattle.std.specs.declared.ops.ControlFlow.TheVariants.{Break, Continue}
use Rattle.std.specs.ControlFlow.{break_value}
use mathlib.Core.Path.{◌≡◌, refl, ap, sym, ◌∙◌, subst}
use mathlib.Core.Bool.{Bool, true, false}
use mathlib.Core.List.{List, [], ◌∷◌, ◌++◌}
use Prim.Native.Nat.{ℕ, zero, suc, ◌+◌, ◌-◌, ◌<◌}
use native.Mathlib.Omega.{arith}
use lib.ListN.{length, length-append}
use Rattle.geometry.specs.declared.Geometry.{Geometry}
use Rattle.rules.specs.declared.Entry.{Entry}
use Rattle.rules.specs.declared.Line.{Line}
use Rattle.rules.specs.Result.{ok, err}
use Rattle.rules.proofs.ResultLaws.{clash}
use Rattle.rules.specs.Chain.{Views}
use Rattle.rules.specs.Names.{extension_number, attribute, directory_number}
use Rattle.rules.specs.Tree.{Items}
use Rattle.rules.specs.WellFormed.{Under}
use Rattle.rules.specs.Listing.{lines_of, line_at}
use Rattle.rules.specs.Check.{Part, chain, directory}
use Rattle.directory.specs.declared.extensions.Extension.{Extension}
use Rattle.directory.specs.Extensions.{Means}
use Rattle.listing.specs.KnownTree.{LineSearch, DirectoryAt, PartAt, HasDirectory, HasPart, line_of, head_line, part_lines, Looks, Tells, Heads, LooksPart, LooksDirectory}
use Rattle.chain.specs.KnownChain.{KnownChain}
use Rattle.chain.specs.Contents.{Counts}

-- ---- positions
line_first : (k : ℕ) (xs ys : List Line) (x : Line) → line_at k xs ≡ ok x → line_at k (xs ++ ys) ≡ ok x
unfolding line_at
line_first k [] ys x q = clash q
line_first zero (a ∷ xs) ys x q = q
line_first (suc k) (a ∷ xs) ys x q = line_first k xs ys x q

line_past : (xs ys : List Line) (j : ℕ) → line_at (length xs + j) (xs ++ ys) ≡ line_at j ys
unfolding line_at
line_past [] ys j = let q : 0 + j ≡ j = omega arith in ap (λ (x : ℕ). line_at x ys) q
line_past (a ∷ xs) ys j = let q : suc (length xs) + j ≡ suc (length xs + j) = omega arith in ap (λ (x : ℕ). line_at x (a ∷ (xs ++ ys))) q ∙ line_past xs ys j

line_none : (xs : List Line) (j : ℕ) → line_at (length xs + j) xs ≡ err 15 0
unfolding line_at
line_none [] j = refl
line_none (a ∷ xs) j = let q : suc (length xs) + j ≡ suc (length xs + j) = omega arith in ap (λ (x : ℕ). line_at x (a ∷ xs)) q ∙ line_none xs j

-- found among the first lines
pub looks_first : (k : ℕ) (xs ys : List Line) (x : Line) → Looks k xs (Break x) → Looks k (xs ++ ys) (Break x)
looks_first k xs ys x q = line_first k xs ys x q

-- past the first lines, looked for among the others
pub looks_on : (k j : ℕ) (xs ys : List Line) → Looks k xs (Continue j) → (r : LineSearch) → Looks j ys r → Looks k (xs ++ ys) r
looks_on k j xs ys q (Break x) h = ap (λ (a : ℕ). line_at a (xs ++ ys)) q ∙ line_past xs ys j ∙ h
looks_on k j xs ys q (Continue i) h = omega (arith, length-append xs ys)

-- and so by the rule
pub looks_tells : (k : ℕ) (xs : List Line) (r : LineSearch) → Looks k xs r → Tells k xs (break_value r)
looks_tells k xs (Break x) h = h
looks_tells k xs (Continue j) h = ap (λ (a : ℕ). line_at a xs) h ∙ line_none xs j

-- ---- the extension tells a file from a subdirectory
pub line_is : (level : ℕ) (e : Entry) (n : ℕ) (x : Extension) → Means e.extension x
    → record { level = level; name = e.name; extension = x.number; attribute = x.attribute; start = e.start; pages = e.pages; length = n } ≡ line_of level e n
line_is level e n x m i = record { level = level; name = e.name; extension = m.number_is i; attribute = m.attribute_is i; start = e.start; pages = e.pages; length = n }

apart : (b : Bool) → b ≡ true → b ≡ false → ⊥
apart true p q = let z : ◌≡◌ {A = ℕ} 0 1 = cc in omega arith
apart false p q = let z : ◌≡◌ {A = ℕ} 0 1 = cc in omega arith

module _ (g : Geometry) (vs : Views) (levels level : ℕ) (e : Entry) where
  -- below a subdirectory is a level less
  less_level : (n : ℕ) (d : Items) → Under n (λ less. DirectoryAt g vs less e.start d) → DirectoryAt g vs (n - 1) e.start d
  less_level zero d u = absurd u
  less_level (suc n) d u = let q : n ≡ suc n - 1 = omega arith in subst (λ (m : ℕ). DirectoryAt g vs m e.start d) q u

  module _ (h : directory_number e.extension ≡ true) where
    pub directory_head : (r : Line) → r ≡ line_of level e 0 → Heads g vs levels level e r
    directory_head r q (chain ls) s = absurd (apart (directory_number e.extension) h s.2)
    directory_head r q (directory d) s = q ∙ λ i. record {
      level = level;
      name = e.name;
      extension = extension_number e.extension;
      attribute = attribute e.extension;
      start = sym s.0 i;
      pages = s.1 i;
      length = 0;
    }

    -- a subdirectory has a level left
    pub some_level : HasPart g vs levels e → 0 < levels
    some_level p = go p.part p.stands
      where
        under : (n : ℕ) (d : Items) → Under n (λ less. DirectoryAt g vs less e.start d) → 0 < n
        under zero d u = absurd u
        under (suc n) d u = omega arith

        go : (x : Part) → PartAt g vs levels e x → 0 < levels
        go (chain ls) s = absurd (apart (directory_number e.extension) h s.2)
        go (directory d) s = under levels d s.3

    pub has_directory : HasPart g vs levels e → HasDirectory g vs (levels - 1) e.start
    has_directory p = go p.part p.stands
      where
        go : (x : Part) → PartAt g vs levels e x → HasDirectory g vs (levels - 1) e.start
        go (chain ls) s = absurd (apart (directory_number e.extension) h s.2)
        go (directory d) s = record { tree = d; stands = less_level levels d s.3 }

    -- past its own line, what is looked for below it
    pub looks_below : (k : ℕ) (r : LineSearch) → (k ≡ 0 → ⊥) → LooksDirectory g vs (levels - 1) (level + 1) e.start (k - 1) r → LooksPart g vs levels level e k r
    looks_below k r z f (chain ls) s = absurd (apart (directory_number e.extension) h s.2)
    looks_below k r z f (directory d) s =
        let u : level + 1 ≡ suc level = omega arith in
        let a = subst (λ (m : ℕ). Looks (k - 1) (lines_of m d) r) u (f d (less_level levels d s.3)) in
        looks_on k (k - 1) (head_line level e (directory d) ∷ []) (lines_of (suc level) d) (omega arith) r a

  module _ (h : directory_number e.extension ≡ false) where
    pub file_head : (n : ℕ) (r : Line) → Counts g (vs.file e.extension) e.start n → r ≡ line_of level e n → Heads g vs levels level e r
    file_head n r f q (directory d) s = absurd (apart (directory_number e.extension) s.2 h)
    file_head n r f q (chain ls) s = q ∙ λ i. record {
      level = level;
      name = e.name;
      extension = extension_number e.extension;
      attribute = attribute e.extension;
      start = sym s.0.begins i;
      pages = s.1 i;
      length = f ls s.0 i;
    }

    pub file_known : HasPart g vs levels e → KnownChain g (vs.file e.extension) e.start
    file_known p = go p.part p.stands
      where
        go : (x : Part) → PartAt g vs levels e x → KnownChain g (vs.file e.extension) e.start
        go (directory d) s = absurd (apart (directory_number e.extension) s.2 h)
        go (chain ls) s = record { links = ls; chain = s.0 }

    pub looks_file : (k : ℕ) → (k ≡ 0 → ⊥) → LooksPart g vs levels level e k (Continue (k - 1))
    looks_file k z (directory d) s = absurd (apart (directory_number e.extension) s.2 h)
    looks_file k z (chain ls) s = omega arith

  -- its own line
  pub looks_head : (k : ℕ) (r : Line) → k ≡ 0 → Heads g vs levels level e r → LooksPart g vs levels level e k (Break r)
  unfolding line_at
  looks_head k r z f (chain ls) s = ap (λ (a : ℕ). line_at a (part_lines level e (chain ls))) z ∙ ap ok (sym (f (chain ls) s))
  looks_head k r z f (directory d) s = ap (λ (a : ℕ). line_at a (part_lines level e (directory d))) z ∙ ap ok (sym (f (directory d) s))
