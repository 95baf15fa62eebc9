-- A directory's entries, one by one: totals, owner table and what is left of them.
use Rattle.std.specs.Prelude.{Result, Ok, Err}
use mathlib.Core.Path.{◌≡◌, refl, ap, sym, ◌∙◌}
use mathlib.Core.Bool.{true, false}
use mathlib.Core.List.{List, [], ◌∷◌, ◌++◌}
use Prim.Native.Nat.{ℕ, suc, ◌+◌, ◌≤◌, ◌<◌}
use native.Mathlib.Omega.{arith}
use lib.ListN.{length, length-append}
use Rattle.geometry.specs.declared.Geometry.{Geometry}
use Rattle.geometry.specs.ChooseLaws.{choose_true, choose_false}
use Rattle.geometry.specs.Geometry.{control_size}
use Rattle.rules.specs.declared.Entry.{Entry}
use Rattle.rules.specs.declared.Totals.{Totals}
use Rattle.rules.specs.Result.{ok, err}
use Rattle.rules.proofs.ResultLaws.{then_ok, then_err, refuse_true, refuse_false}
use Rattle.rules.specs.PageSets.{count, range, Within}
use Rattle.rules.proofs.PageSetLaws.{count_append}
use Rattle.rules.specs.Chain.{Views, Link, pages, Test, walk}
use Rattle.rules.proofs.ChainLaws.{length_pages}
use Rattle.rules.specs.Names.{key, extended}
use Rattle.rules.specs.Tree.{Items, end, page, Token, new_page, entry, link_tokens, own_pages, inner_pages, all_pages}
use Rattle.rules.specs.TreeLaws.{page_tokens, last_page}
use Rattle.rules.specs.Control.{Parent}
use Rattle.rules.specs.Owners.{OwnerRecord, file_count, directory_count, own, own_entries}
use Rattle.owners.specs.Owned.{Represents}
use Rattle.owners.specs.OwnerLaws.{represents_own, represents_entries, represents_length, length_own}
use Rattle.rules.specs.Check.{Part, chain, directory, part_pages, add, stamp, followed, Judge, judge_entry, judge_entries, judge_directory, judge_sub}
use Rattle.rules.proofs.StampLaws.{stamp_inner, stamp_files, stamp_directories, stamp_owners}
use Rattle.rules.proofs.Soundness.{PartClear, entries_of, entries_sound, sub_sound, pages_tokens}
use Rattle.refusals.specs.declared.Refusal.{Refusal}
use Rattle.refusals.specs.declared.Fault.TheVariants.{Extension}
use Rattle.rules.specs.Answers.{refused}
use Rattle.walk.specs.Walks.{Good, Ready, Answers, plus_entries, plus_directory, plus_part, own_directory, own_part}

-- ---- the table and the totals after one entry
pub represents_directory : (owner k : ℕ) (d : Items) (t : List OwnerRecord) (claimed : List ℕ) → 0 < owner → Represents t claimed
    → ((z : ℕ) → count z (all_pages d) + count z claimed ≤ count z (range (length t))) → Represents (own_directory owner k t d) (all_pages d ++ claimed)
represents_directory owner k d t claimed p h c =
    let c' : (z : ℕ) → count z (own_pages d) + count z (inner_pages d) + count z claimed ≤ count z (range (length t)) = λ z. simp count_append at (c z) in
    let a = represents_own owner (own_pages d) t claimed p h (λ z. omega (arith, c' z)) in
    let n = length_own owner (own_pages d) t in
    let r = represents_entries k d (own owner (own_pages d) t) (own_pages d ++ claimed) a (λ z. rw n (simp count_append (omega (arith, c' z)))) in
    λ z. simp count_append (omega (arith, simp count_append at (r z)))

pub represents_part : (k : ℕ) (x : Part) (t : List OwnerRecord) (claimed : List ℕ) → Represents t claimed → ((z : ℕ) → count z (part_pages x) + count z claimed ≤ count z (range (length t)))
    → Represents (own_part k t x) (part_pages x ++ claimed)
represents_part k (chain ls) t claimed h c = represents_own (3 + k) (pages ls) t claimed (omega arith) h c
represents_part k (directory d) t claimed h c = represents_directory (3 + k) (suc k) d t claimed (omega arith) h c

used_part : (c : Totals) (x : Part) → (plus_part c x).used ≡ length (part_pages x) + c.used
used_part c (chain ls) = omega (arith, length_pages ls)
used_part c (directory d) = omega (arith, length-append (own_pages d) (inner_pages d))

count_part : (c : Totals) (x : Part) → (plus_part c x).files + (plus_part c x).directories ≡ entries_of x + (c.files + c.directories)
count_part c (chain ls) = omega arith
count_part c (directory d) = omega arith

pub good_part : (g : Geometry) (c : Totals) (x : Part) (t : List OwnerRecord) (claimed : List ℕ) → Good g c t → Represents t claimed → length t ≡ g.pages → PartClear g claimed x
    → Good g (plus_part c x) (own_part (c.files + c.directories) t x)
good_part g c x t claimed h r l k =
    let p = represents_part (c.files + c.directories) x t claimed r (λ z. rw l (k.clear z)) in
    let n = represents_length (own_part (c.files + c.directories) t x) (part_pages x ++ claimed) p in
    let m = represents_length t claimed r in
    let u = used_part c x in
    let e = count_part c x in
    record {
      used_is = omega (arith, n, m, u, h.used_is, length-append (part_pages x) claimed);
      below = omega (arith, u, e, h.below, k.room);
      spare = λ i. omega (arith, u, e, h.spare i, k.room);
    }

-- and after a directory's chain
pub good_chain : (g : Geometry) (c : Totals) (owner n : ℕ) (t : List OwnerRecord) (claimed : List ℕ) (ls : List Link) → Ready g c owner t → Represents t claimed → 0 < length ls → n ≡ length ls
    → Represents (own owner (pages ls) t) (pages ls ++ claimed) → Good g (record { used = c.used + n; files = c.files; directories = c.directories }) (own owner (pages ls) t)
good_chain g c owner n t claimed ls h r s e p =
    let i = represents_length (own owner (pages ls) t) (pages ls ++ claimed) p in
    let m = represents_length t claimed r in
    record {
      used_is = omega (arith, i, m, h.used_is, length-append (pages ls) claimed, length_pages ls);
      below = omega (arith, h.below);
      spare = λ j. omega (arith, h.spare j);
    }

-- ---- totals of what is left, and of all
same_totals : (a b c d e f : ℕ) → a ≡ d → b ≡ e → c ≡ f → ◌≡◌ {A = Totals} (record { used = a; files = b; directories = c }) (record { used = d; files = e; directories = f })
same_totals a b c d e f p q r = λ i. record { used = p i; files = q i; directories = r i }

totals_add : (c : Totals) (e : Entry) (x : Part) (t : Items) → plus_entries (plus_part c x) t ≡ plus_entries c (add e x t)
totals_add c e (chain ls) t = same_totals _ _ _ _ _ _ (omega (arith, length-append (pages ls) (inner_pages t), length_pages ls)) (omega arith) (omega arith)
totals_add c e (directory d) t = same_totals _ _ _ _ _ _ (omega (arith, length-append (own_pages d) (inner_pages d ++ inner_pages t), length-append (inner_pages d) (inner_pages t))) (omega arith) (omega arith)

table_add : (c : Totals) (e : Entry) (x : Part) (t : Items) (table : List OwnerRecord)
    → own_entries ((plus_part c x).files + (plus_part c x).directories) t (own_part (c.files + c.directories) table x) ≡ own_entries (c.files + c.directories) (add e x t) table
table_add c e (chain ls) t table = let q : c.files + 1 + c.directories ≡ suc (c.files + c.directories) = omega arith in rw q refl
table_add c e (directory d) t table =
    let q : c.files + file_count d + (c.directories + 1 + directory_count d) ≡ suc (c.files + c.directories) + (file_count d + directory_count d) = omega arith in
    rw q refl

module _ (g : Geometry) (vs : Views) (sub : Judge) (here : Parent) where
  -- the answer for the entries from here on, with the totals and the table so far
  abbrev pub Rest : List ℕ → ℕ → List ℕ → List Token → Totals → List OwnerRecord → Result Totals Refusal → List OwnerRecord → Type 0
  Rest claimed p seen ts c t r u = Answers (plus_entries c) (λ i. own_entries (c.files + c.directories) i t) (judge_entries g vs (suc g.pages) sub here claimed p seen ts) r u

  module _ (claimed : List ℕ) (p : ℕ) (seen : List ℕ) where
    -- no entry is left
    pub rest_end : (c : Totals) (t : List OwnerRecord) → Rest claimed p seen [] c t (Ok c) t
    unfolding judge_entries
    rest_end c t = (end, refl, same_totals _ _ _ _ _ _ (omega arith) (omega arith) (omega arith), refl)

    -- a page begins
    pub rest_page : (q : ℕ) (ts : List Token) (c : Totals) (t : List OwnerRecord) (r : Result Totals Refusal) (u : List OwnerRecord) → Rest claimed q seen ts c t r u → Rest claimed p seen (new_page q ∷ ts) c t r u
    unfolding judge_entries
    rest_page q ts c t (Ok d) u (i, a, b, k) = (page q i, simp (a, then_ok), b, k)
    rest_page q ts c t (Err z) u a = simp (a, then_err)

    -- a stamp, and an entry after it in its page; or none
    module _ (e : Entry) (x : extended e ≡ true) (ts : List Token) (c : Totals) (t : List OwnerRecord) where
      pub rest_stamp : followed ts ≡ true → (r : Result Totals Refusal) (u : List OwnerRecord) → Rest claimed p seen ts c t r u → Rest claimed p seen (entry e ∷ ts) c t r u
      unfolding judge_entries
      rest_stamp f (Ok d) u (i, a, b, k) = (
        stamp e i,
        simp (x, choose_true, f, refuse_true, then_ok, a),
        b ∙ same_totals _ _ _ _ _ _ (omega (arith, ap length (stamp_inner e i))) (omega (arith, stamp_files e i)) (omega (arith, stamp_directories e i)),
        k ∙ sym (stamp_owners e (c.files + c.directories) i t),
      )
      rest_stamp f (Err z) u a = simp (x, choose_true, f, refuse_true, then_ok, a, then_err)

      pub rest_loose : followed ts ≡ false → (u : List OwnerRecord) → Rest claimed p seen (entry e ∷ ts) c t (Err (record { 0 = Extension; 1 = p })) u
      unfolding judge_entries
      rest_loose f u = simp (x, choose_true, f, refuse_false, then_err)

    module _ (e : Entry) (plain : extended e ≡ false) (ts : List Token) (c : Totals) (t : List OwnerRecord) where
      pub rest_refused : (z : Refusal) (u : List OwnerRecord) → judge_entry g vs (suc g.pages) sub here claimed p seen e ≡ refused z → Rest claimed p seen (entry e ∷ ts) c t (Err z) u
      unfolding judge_entries
      rest_refused z u a = simp (plain, choose_false, a, then_err)

      -- an entry done
      pub rest_entry : (x : Part) → judge_entry g vs (suc g.pages) sub here claimed p seen e ≡ ok x → (r : Result Totals Refusal) (u : List OwnerRecord)
          → Rest (part_pages x ++ claimed) p (key e.name e.extension ∷ seen) ts (plus_part c x) (own_part (c.files + c.directories) t x) r u → Rest claimed p seen (entry e ∷ ts) c t r u
      unfolding judge_entries
      rest_entry x q (Ok d) u (i, a, b, k) = (add e x i, simp (plain, choose_false, q, then_ok, a), b ∙ totals_add c e x i, k ∙ table_add c e x i t)
      rest_entry x q (Err z) u a = simp (plain, choose_false, q, then_ok, a, then_err)

  -- pages without entries
  pub rest_pages : (claimed : List ℕ) (p : ℕ) (seen ps : List ℕ) (ts : List Token) (c : Totals) (t : List OwnerRecord) (r : Result Totals Refusal) (u : List OwnerRecord) → Rest claimed (last_page p ps) seen ts c t r u
      → Rest claimed p seen (page_tokens ps ++ ts) c t r u
  rest_pages claimed p seen [] ts c t r u a = a
  rest_pages claimed p seen (q ∷ ps) ts c t r u a = rest_page claimed p seen q (page_tokens ps ++ ts) c t r u (rest_pages claimed q seen ps ts c t r u a)

-- ---- a directory: its chain, then its entries
module _ (g : Geometry) (vs : Views) (levels : ℕ) (test : Test) (here : Parent) (claimed : List ℕ) (from : ℕ) where
  pub directory_refused : (n p : ℕ) → walk g.pages vs.pages test (suc g.pages) 0 claimed from here.start ≡ err n p → judge_directory g vs (suc g.pages) (judge_sub g vs (suc g.pages) levels) test here claimed from ≡ err n p
  unfolding judge_directory
  directory_refused n p e = simp (e, then_err)

  pub directory_rest : (ls : List Link) (owner n : ℕ) (c : Totals) (t : List OwnerRecord) → walk g.pages vs.pages test (suc g.pages) 0 claimed from here.start ≡ ok ls → n ≡ length ls → Within g.pages (pages ls ++ claimed)
      → (r : Result Totals Refusal) (u : List OwnerRecord)
      → Rest g vs (judge_sub g vs (suc g.pages) levels) here (pages ls ++ claimed) here.start [] (link_tokens g (control_size g) ls)
      (record { used = c.used + n; files = c.files; directories = c.directories }) (own owner (pages ls) t) r u
      → Answers (plus_directory c) (own_directory owner (c.files + c.directories) t) (judge_directory g vs (suc g.pages) (judge_sub g vs (suc g.pages) levels) test here claimed from) r u
  unfolding judge_directory
  directory_rest ls owner n c t e l f (Ok d) u (i, a, b, k) =
      let s = entries_sound g vs (judge_sub g vs (suc g.pages) levels) (sub_sound g vs levels) here (link_tokens g (control_size g) ls) (pages ls ++ claimed) here.start [] i f a in
      let o : own_pages i ≡ pages ls = s.own_pages_lem ∙ pages_tokens g (control_size g) ls in (
        i,
        simp (e, then_ok, a),
        b ∙ same_totals _ _ _ _ _ _ (omega (arith, l, ap length o, length_pages ls)) refl refl,
        k ∙ ap (λ (x : List ℕ). own_entries (c.files + c.directories) i (own owner x t)) (sym o),
      )
  directory_rest ls owner n c t e l f (Err z) u a = simp (e, then_ok, a)
