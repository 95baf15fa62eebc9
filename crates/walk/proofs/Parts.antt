-- One entry, as the code takes it: its label and name, a subdirectory's entry, a file.
use Rattle.std.specs.Prelude.{Result, Ok, Err}
use mathlib.Core.Path.{◌≡◌, refl, ap, ap₂, sym, ◌∙◌, subst}
use mathlib.Core.Bool.{Bool, true, false, not}
use mathlib.Core.List.{List, ◌++◌}
use Prim.Native.Nat.{ℕ, zero, suc, ◌+◌, ◌-◌, ◌≤◌, ◌<◌}
use native.Mathlib.Decide.{dec_lt}
use native.Mathlib.Omega.{arith}
use lib.ListN.{length, length-append, take}
use lib.Dec.{ltb, eqb}
use borrow.Author.Tests.{eq-eqb, ne_eqb, lt-ltb, le-ltb}
use Rattle.geometry.specs.declared.Geometry.{Geometry}
use Rattle.geometry.specs.Choose.{choose}
use Rattle.geometry.specs.ChooseLaws.{choose_true, choose_false}
use Rattle.geometry.specs.Geometry.{control_size}
use Rattle.packet.specs.Packet.{View}
use Rattle.rules.specs.declared.Entry.{Entry}
use Rattle.rules.specs.declared.Totals.{Totals}
use Rattle.rules.specs.Result.{Res, ok, err, and_then, and_after, refuse_unless}
use Rattle.rules.proofs.ResultLaws.{clash, then_ok, then_err, refuse_true, refuse_false}
use Rattle.rules.specs.PageSets.{mem, Within}
use Rattle.rules.proofs.PageSetLaws.{count_append, within_length}
use Rattle.rules.specs.Chain.{Views, Link, pages, content, Test, any_page, walk}
use Rattle.rules.proofs.ChainLaws.{length_pages, walk_sound}
use Rattle.rules.specs.Names.{key, directory_number}
use Rattle.rules.specs.Owners.{OwnerRecord, own}
use Rattle.owners.specs.OwnerLaws.{in_use, in_use_le, taken, represents_taken, represents_within}
use Rattle.rules.specs.Check.{Part, chain, directory, judge_label, judge_file, judge_entry, judge_directory, judge_sub}
use Rattle.rules.specs.Control.{Parent, sub_page}
use Rattle.directory.specs.declared.control.Kind.TheVariants as kind
use Rattle.directory.specs.Faults.{test_of}
use Rattle.chain.specs.declared.Claim.{Claim}
use Rattle.chain.specs.Claims.{Agrees, Claims}
use Rattle.entries.specs.EntrySlots.{chain_keys, Repeats}
use Rattle.refusals.specs.declared.Refusal.{Refusal}
use Rattle.refusals.specs.declared.Fault.TheVariants.{Twice, Depth, Count, PageNumber}
use Rattle.rules.specs.Answers.{refused}
use Rattle.walk.specs.Walks.{Good, Ready, Answers, plus_directory, plus_part, own_directory, own_part, judge_first, judge_below, Met}

-- ---- label and name
pub met_before : (g : Geometry) (v : View) (start m k j : ℕ) (seen : List ℕ) (r : Bool) → j ≡ k → Repeats g v start m j r → Met g v start m k seen → r ≡ mem k seen
met_before g v start m k j seen r e h q = h q.0 q.1 q.2 ∙ ap (λ (i : ℕ). mem i (take m (chain_keys g (control_size g) q.0))) e ∙ sym q.3

module _ (p : ℕ) (seen : List ℕ) (e : Entry) where
  pub first_label : (z : Refusal) → refused z ≡ judge_label p e → refused z ≡ judge_first p seen e
  unfolding judge_first
  first_label z h = simp (← h, then_err)

  module _ (h : ok tt ≡ judge_label p e) (r : Bool) (q : r ≡ mem (key e.name e.extension) seen) where
    pub first_met : r ≡ true → refused (record { 0 = Twice; 1 = p }) ≡ judge_first p seen e
    unfolding judge_first
    first_met t = let m : mem (key e.name e.extension) seen ≡ true = sym q ∙ t in simp (← h, then_ok, m, refuse_false)

    pub first_new : r ≡ false → ok tt ≡ judge_first p seen e
    unfolding judge_first
    first_new t = let m : mem (key e.name e.extension) seen ≡ false = sym q ∙ t in simp (← h, then_ok, m, refuse_true)

-- ---- a subdirectory's entry
below_step : (levels p : ℕ) (e : Entry) → (levels ≡ 0 → ⊥) → judge_below levels p e ≡ and_then (refuse_unless (eqb e.pages 0) 8 p) (λ _. refuse_unless (ltb 0 e.start) 6 p)
unfolding judge_below
below_step zero p e h = absurd (h refl)
below_step (suc levels) p e h = refl

module _ (levels p : ℕ) (e : Entry) where
  pub below_deep : levels ≡ 0 → refused (record { 0 = Depth; 1 = p }) ≡ judge_below levels p e
  unfolding judge_below
  below_deep z = rw z refl

  module _ (s : levels ≡ 0 → ⊥) where
    pub below_counted : (e.pages ≡ 0 → ⊥) → refused (record { 0 = Count; 1 = p }) ≡ judge_below levels p e
    below_counted n = simp (below_step levels p e s, ne_eqb e.pages 0 n, refuse_false, then_err)

    module _ (q : e.pages ≡ 0) where
      pub below_none : e.start ≡ 0 → refused (record { 0 = PageNumber; 1 = p }) ≡ judge_below levels p e
      below_none z = simp (below_step levels p e s, eq-eqb e.pages 0 q, refuse_true, then_ok, le-ltb 0 e.start (omega arith), refuse_false)

      pub below_good : (e.start ≡ 0 → ⊥) → ok tt ≡ judge_below levels p e
      below_good n = simp (below_step levels p e s, eq-eqb e.pages 0 q, refuse_true, then_ok, lt-ltb 0 e.start (omega arith), refuse_true)

pub below_some : (levels p : ℕ) (e : Entry) → ok tt ≡ judge_below levels p e → 0 < levels
unfolding judge_below
below_some zero p e h = clash (sym h)
below_some (suc levels) p e h = omega arith

-- ---- a file
pub test_file : (g : Geometry) → test_of g kind.File ≡ any_page
unfolding test_of
test_file g = refl

-- totals and owners' numbers fit
module _ (g : Geometry) (c : Totals) (t : List OwnerRecord) (h : Good g c t) (l : length t ≡ g.pages) (f : g.pages ≤ 65535) where
  pub totals_fit : (c.files + c.directories < c.used) × (c.used ≤ 65535)
  totals_fit = (h.below, omega (arith, h.used_is, in_use_le t))

  pub owner_fits : in_use t < g.pages → 3 + (c.files + c.directories) < 65536
  owner_fits i = elim (dec_lt 65532 g.pages) [
    | yes k ↦ omega (arith, h.spare k, h.used_is)
    | no k ↦ omega (arith, h.below, h.used_is)
  ]

  -- before a subdirectory's chain, its entry counted
  pub below_ready : Ready g (record { used = c.used; files = c.files; directories = c.directories + 1 }) (3 + (c.files + c.directories)) t
  below_ready = record { used_is = h.used_is; below = omega (arith, h.below); spare = λ i. omega (arith, h.spare i); some = omega arith; few = owner_fits }

-- a chain that was claimed
pub record IsClaimed (walked : Res (List Link)) (owner n b : ℕ) (t u : List OwnerRecord) : Type 0 where
  pub links : List Link
  pub chain_is : walked ≡ ok links
  pub pages_are : n ≡ length links
  pub bytes_are : b ≡ length (content links)
  pub table_is : u ≡ own owner (pages links) t

pub claimed_chain : (walked : Res (List Link)) (owner n b : ℕ) (t u : List OwnerRecord) (r : Result Claim Refusal) → Agrees 0 0 owner t walked r u → r ≡ Ok (record { pages = n; bytes = b }) → IsClaimed walked owner n b t u
claimed_chain walked owner n b t u r k i =
    let a : Agrees 0 0 owner t walked (Ok (record { pages = n; bytes = b })) u = subst (λ (x : Result Claim Refusal). Agrees 0 0 owner t walked x u) i k in
    record { links = a.0; chain_is = a.1; pages_are = omega (arith, a.2); bytes_are = omega (arith, a.3); table_is = a.4 }

pub claim_refused : (walked : Res (List Link)) (owner : ℕ) (z : Refusal) (t u : List OwnerRecord) (r : Result Claim Refusal) → Agrees 0 0 owner t walked r u → r ≡ Err z → walked ≡ refused z
claim_refused walked owner z t u r k i = subst (λ (x : Result Claim Refusal). Agrees 0 0 owner t walked x u) i k

-- its pages are no more than there are
pub claim_few : (g : Geometry) (v : View) (test : Test) (owner from start n b : ℕ) (t u : List OwnerRecord) (r : Result Claim Refusal) → Claims g v test owner from start t r u → r ≡ Ok (record { pages = n; bytes = b }) → length t ≡ g.pages
    → (1 ≤ n) × (in_use t + n ≤ g.pages)
claim_few g v test owner from start n b t u r k i l =
    let cl = taken t in
    let f : Within g.pages cl = subst (λ (x : ℕ). Within x cl) l (represents_within t cl (represents_taken t)) in
    let a = claimed_chain _ owner n b t u r (k cl (represents_taken t)) i in
    let c = walk_sound g.pages v test (suc g.pages) 0 cl from start a.links f a.chain_is in
    let m = within_length g.pages (pages a.links ++ cl) (λ x. simp count_append (c.clear x)) in
    (omega (arith, c.some, a.pages_are), omega (arith, m, length-append (pages a.links) cl, length_pages a.links, a.pages_are))

module _ (g : Geometry) (vs : Views) (claimed : List ℕ) (p : ℕ) (e : Entry) where
  abbrev walked : Res (List Link)
  walked = walk g.pages (vs.file e.extension) (test_of g kind.File) (suc g.pages) 0 claimed p e.start

  pub file_none : e.start ≡ 0 → judge_file g vs (suc g.pages) claimed p e ≡ err 6 p
  unfolding judge_file
  file_none z = simp (le-ltb 0 e.start (omega arith), refuse_false, then_err)

  module _ (s : e.start ≡ 0 → ⊥) where
    file_step : judge_file g vs (suc g.pages) claimed p e ≡ and_then walked (λ ls. and_then (refuse_unless (eqb e.pages (length ls)) 8 p) (λ _. ok (chain ls)))
    unfolding judge_file
    file_step = simp (lt-ltb 0 e.start (omega arith), refuse_true, then_ok, test_file g)

    module _ (owner : ℕ) (t u : List OwnerRecord) (r : Result Claim Refusal) (k : Agrees 0 0 owner t walked r u) where
      pub file_refused : (z : Refusal) → r ≡ Err z → judge_file g vs (suc g.pages) claimed p e ≡ refused z
      file_refused z i = simp (file_step, claim_refused walked owner z t u r k i, then_err)

      pub file_counted : (n b : ℕ) → r ≡ Ok (record { pages = n; bytes = b }) → (e.pages ≡ n → ⊥) → judge_file g vs (suc g.pages) claimed p e ≡ err 8 p
      file_counted n b i y =
          let a = claimed_chain walked owner n b t u r k i in
          simp (file_step, a.chain_is, then_ok, ne_eqb e.pages (length a.links) (λ j. y (j ∙ sym a.pages_are)), refuse_false, then_err)

      pub file_done : (c : Totals) (n b : ℕ) → r ≡ Ok (record { pages = n; bytes = b }) → owner ≡ 3 + (c.files + c.directories) → e.pages ≡ n
          → Answers (plus_part c) (own_part (c.files + c.directories) t) (judge_file g vs (suc g.pages) claimed p e) (Ok (record { used = c.used + n; files = c.files + 1; directories = c.directories })) u
      file_done c n b i o y =
          let a = claimed_chain walked owner n b t u r k i in (
            chain a.links,
            simp (file_step, a.chain_is, then_ok, eq-eqb e.pages (length a.links) (y ∙ a.pages_are), refuse_true),
            ap (λ (x : ℕ). record { used = c.used + x; files = c.files + 1; directories = c.directories }) a.pages_are,
            a.table_is ∙ ap (λ (x : ℕ). own x (pages a.links) t) o,
          )

-- ---- an entry from its parts
then_after : {A B C : Type 0} (r : Res A) (s : Res B) (k : Res C) → and_after r (and_after s k) ≡ and_after (and_after r s) k
unfolding and_then
then_after (ok a) s k = refl
then_after (err n p) s k = refl

sub_step : (g : Geometry) (vs : Views) (here : Parent) (claimed : List ℕ) (p : ℕ) (e : Entry) (levels : ℕ)
    → judge_sub g vs (suc g.pages) levels here claimed p e
    ≡ and_after (judge_below levels p e) (judge_directory g vs (suc g.pages) (judge_sub g vs (suc g.pages) (levels - 1)) (sub_page g here) (record { name = e.name; start = e.start }) claimed p)
unfolding judge_sub judge_below
sub_step g vs here claimed p e zero = sym (then_err 12 p (λ _. judge_directory g vs (suc g.pages) (judge_sub g vs (suc g.pages) (0 - 1)) (sub_page g here) (record { name = e.name; start = e.start }) claimed p))
sub_step g vs here claimed p e (suc levels) =
    let q : suc levels - 1 ≡ levels = omega arith in
    rw q (then_after (refuse_unless (eqb e.pages 0) 8 p) (refuse_unless (ltb 0 e.start) 6 p)
    (judge_directory g vs (suc g.pages) (judge_sub g vs (suc g.pages) levels) (sub_page g here) (record { name = e.name; start = e.start }) claimed p))

module _ (g : Geometry) (vs : Views) (levels name start : ℕ) (claimed : List ℕ) (p : ℕ) (seen : List ℕ) (e : Entry) where
  abbrev here : Parent
  here = record { name = name; start = start }

  abbrev entry_of : Res Part
  entry_of = judge_entry g vs (suc g.pages) (judge_sub g vs (suc g.pages) levels) here claimed p seen e

  by_kind : entry_of ≡ and_after (judge_first p seen e) (choose (directory_number e.extension) (and_then (judge_sub g vs (suc g.pages) levels here claimed p e) (λ d. ok (directory d))) (judge_file g vs (suc g.pages) claimed p e))
  unfolding judge_entry judge_first
  by_kind = then_after (judge_label p e) (refuse_unless (not (mem (key e.name e.extension) seen)) 11 p)
      (choose (directory_number e.extension) (and_then (judge_sub g vs (suc g.pages) levels here claimed p e) (λ d. ok (directory d))) (judge_file g vs (suc g.pages) claimed p e))

  pub entry_refused : (z : Refusal) → refused z ≡ judge_first p seen e → entry_of ≡ refused z
  entry_refused z h = simp (by_kind, ← h, then_err)

  module _ (h : ok tt ≡ judge_first p seen e) where
    entry_kind : entry_of ≡ choose (directory_number e.extension) (and_then (judge_sub g vs (suc g.pages) levels here claimed p e) (λ d. ok (directory d))) (judge_file g vs (suc g.pages) claimed p e)
    entry_kind = simp (by_kind, ← h, then_ok)

    entry_file : directory_number e.extension ≡ false → entry_of ≡ judge_file g vs (suc g.pages) claimed p e
    entry_file n = entry_kind ∙ ap (λ (b : Bool). choose b (and_then (judge_sub g vs (suc g.pages) levels here claimed p e) (λ d. ok (directory d))) (judge_file g vs (suc g.pages) claimed p e)) n ∙ choose_false _ _

    pub file_entry_lem : directory_number e.extension ≡ false → (c : Totals) (t : List OwnerRecord) (r : Result Totals Refusal) (u : List OwnerRecord)
        → Answers (plus_part c) (own_part (c.files + c.directories) t) (judge_file g vs (suc g.pages) claimed p e) r u
        → Answers (plus_part c) (own_part (c.files + c.directories) t) entry_of r u
    file_entry_lem n c t r u a = subst (λ (x : Res Part). Answers (plus_part c) (own_part (c.files + c.directories) t) x r u) (sym (entry_file n)) a

    module _ (x : directory_number e.extension ≡ true) where
      entry_sub : entry_of ≡ and_then (judge_sub g vs (suc g.pages) levels here claimed p e) (λ d. ok (directory d))
      entry_sub = entry_kind ∙ ap (λ (b : Bool). choose b (and_then (judge_sub g vs (suc g.pages) levels here claimed p e) (λ d. ok (directory d))) (judge_file g vs (suc g.pages) claimed p e)) x ∙ choose_true _ _

      pub entry_below : (z : Refusal) → refused z ≡ judge_below levels p e → entry_of ≡ refused z
      entry_below z b = simp (entry_sub, sub_step g vs here claimed p e levels, ← b, then_err)

      -- a subdirectory, with its entry counted
      pub entry_directory : ok tt ≡ judge_below levels p e → (c : Totals) (owner : ℕ) (t : List OwnerRecord) → owner ≡ 3 + (c.files + c.directories) → (r : Result Totals Refusal) (u : List OwnerRecord)
          → Answers (plus_directory (record { used = c.used; files = c.files; directories = c.directories + 1 })) (own_directory owner (c.files + (c.directories + 1)) t)
          (judge_directory g vs (suc g.pages) (judge_sub g vs (suc g.pages) (levels - 1)) (test_of g (kind.Sub name start)) (record { name = e.name; start = e.start }) claimed p) r u
          → Answers (plus_part c) (own_part (c.files + c.directories) t) entry_of r u
      unfolding test_of
      entry_directory b c owner t o (Ok d) u (i, a, q, s) =
          let j : c.files + (c.directories + 1) ≡ suc (c.files + c.directories) = omega arith in
          (directory i, simp (entry_sub, sub_step g vs here claimed p e levels, ← b, then_ok, a), q, s ∙ ap₂ (λ (m n : ℕ). own_directory m n t i) o j)
      entry_directory b c owner t o (Err z) u a = simp (entry_sub, sub_step g vs here claimed p e levels, ← b, then_ok, a, then_err)
