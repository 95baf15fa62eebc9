-- A bitmap in a chain, surveyed page by page: a mend takes the bits of the pages passed, and their marks without an owner are counted.
use mathlib.Core.Path.{◌≡◌, refl, ap, sym, ◌∙◌, subst}
use mathlib.Core.Bool.{true, false}
use mathlib.Core.List.{List}
use Prim.Native.Nat.{ℕ, ◌+◌, ◌*◌, ◌≤◌}
use native.Mathlib.Omega.{arith}
use lib.ListN.{length, take, drop, length-append}
use Rattle.geometry.specs.declared.Geometry.{Geometry}
use Rattle.geometry.specs.Geometry.{Fit}
use Rattle.geometry.specs.Page.{page_of}
use Rattle.packet.specs.Packet.{View, view_of}
use Rattle.rules.specs.Chain.{Link, content}
use Rattle.rules.specs.Careful.{all_mendable, unowned}
use Rattle.rules.specs.Owners.{OwnerRecord}
use Rattle.owners.specs.Owned.{Represents}
use Rattle.chain.specs.declared.Cursor.{Cursor}
use Rattle.chain.specs.Steps.{first_step, step_of}
use Rattle.chain.specs.KnownChain.{ChainAt}
use Rattle.chain.proofs.Following.{Passed, ReadTo, read_first, bytes_up, read_end, read_on}
use Rattle.std.specs.Prelude.{Ok, Option, Some, None}
use Rattle.bitmap.specs.Surveys.{SurveyIs, SurveysPart}
use Rattle.bitmap.proofs.PagesRead.{stands, length_is, turned}
use Rattle.bitmap.proofs.SurveyLaws.{all_joined, count_joined}

-- what holds before a page of a chain of so many pages is surveyed
pub record Surveying (g : Geometry) (v : View) (N : ℕ) (raw used : List ℕ) (total : ℕ) (c : Cursor) (u : ℕ) : Type 0 where
  pub read : ReadTo g v total raw c
  pub taken : all_mendable N raw used 0 (8 * c.bytes) ≡ true
  pub counted : u ≡ unowned raw used 0 (8 * c.bytes)

none_taken : (N : ℕ) (raw used : List ℕ) → all_mendable N raw used 0 0 ≡ true
unfolding all_mendable
none_taken N raw used = refl

none_counted : (raw used : List ℕ) → unowned raw used 0 0 ≡ 0
unfolding unowned
none_counted raw used = refl

module _ (g : Geometry) (image : List ℕ) (fit : Fit g image) where
  abbrev v : View
  v = view_of g image

  pub started : (start : ℕ) (c : Cursor) (N : ℕ) (used : List ℕ) (ls : List Link) → c ≡ first_step start start → ChainAt g (view_of g image) start ls → Surveying g (view_of g image) N (content ls) used (length ls) c 0
  started start c N used ls e d =
      let b : 8 * c.bytes ≡ 0 = omega (arith, ap (λ (x : Cursor). x.bytes) e) in
      record {
        read = read_first g v start c ls e d;
        taken = ap (all_mendable N (content ls) used 0) b ∙ none_taken N (content ls) used;
        counted = sym (ap (unowned (content ls) used 0) b ∙ none_counted (content ls) used);
      }

  -- one page of the chain surveyed, as the code reads it
  module _ {N : ℕ} {raw used : List ℕ} {total : ℕ} {c : Cursor} {u : ℕ} (C : Surveying g (view_of g image) N raw used total c u) {size : ℕ} {d : Cursor}
      (o : Ok (size, d) ≡ step_of g (view_of g image) c) {page : List ℕ} (e : page ≡ page_of g c.page image) {bytes : List ℕ} (i : bytes ≡ take size (drop 1 page))
      (table : List OwnerRecord) (sized : length table ≡ N) (R : Represents table used) (r : Option ℕ) (p : SurveysPart bytes c.bytes table u r) where
    passed : Passed c d C.read.more bytes
    passed = turned g image fit C.read o e i

    part : (x : Option ℕ) → r ≡ x → SurveyIs N raw used (8 * c.bytes) (8 * length bytes) u x
    part x q = subst (λ (n : ℕ). SurveyIs n raw used (8 * c.bytes) (8 * length bytes) u x) sized
        (subst (SurveyIs (length table) raw used (8 * c.bytes) (8 * length bytes) u) q (p raw used (stands g image fit raw total c d bytes C.read passed) R))

    -- the bits up to the end of the page
    both : (n : ℕ) → n ≡ 8 * c.bytes + 8 * length bytes → all_mendable N raw used 0 n ≡ all_mendable N raw used (8 * c.bytes) (8 * length bytes)
    both n q =
        let z : 0 + 8 * c.bytes ≡ 8 * c.bytes = omega arith in
        ap (all_mendable N raw used 0) q ∙ all_joined N raw used 0 (8 * c.bytes) (8 * length bytes) ∙ rw (C.taken, z) refl

    counts : (n : ℕ) → n ≡ 8 * c.bytes + 8 * length bytes → unowned raw used 0 n ≡ u + unowned raw used (8 * c.bytes) (8 * length bytes)
    counts n q =
        let z : 0 + 8 * c.bytes ≡ 8 * c.bytes = omega arith in
        ap (unowned raw used 0) q ∙ count_joined N raw used 0 (8 * c.bytes) (8 * length bytes) ∙ rw z (omega (arith, C.counted))

    pub answer_uncovered : r ≡ None → all_mendable N raw used 0 (8 * length raw) ≡ false
    answer_uncovered q =
        let rest = 8 * length (content passed.others) in
        let n : 8 * length raw ≡ (8 * c.bytes + 8 * length bytes) + rest = omega (arith, length_is g image fit raw total c d bytes C.read passed) in
        ap (all_mendable N raw used 0) n ∙ all_joined N raw used 0 (8 * c.bytes + 8 * length bytes) rest ∙ rw (both (8 * c.bytes + 8 * length bytes) refl, part None q) refl

    module _ (more : ℕ) (q : r ≡ Some more) where
      pub answer_end : d.page ≡ 0 → SurveyIs N raw used 0 (8 * length raw) 0 (Some more)
      answer_end z =
          let l : length raw ≡ length C.read.done + length bytes = ap length (read_end g image fit total raw c d C.read bytes passed z) ∙ length-append C.read.done bytes in
          let n : 8 * length raw ≡ 8 * c.bytes + 8 * length bytes = omega (arith, l, C.read.passed) in
          let x = part (Some more) q in
          (both (8 * length raw) n ∙ x.0, omega (arith, x.1, counts (8 * length raw) n))

      pub survey_on : (d.page ≡ 0 → ⊥) → total ≤ g.pages → Surveying g (view_of g image) N raw used total d more
      survey_on z w =
          let b : 8 * d.bytes ≡ 8 * c.bytes + 8 * length bytes = omega (arith, bytes_up g image fit total raw c d C.read bytes passed) in
          let x = part (Some more) q in
          record { read = read_on g image fit total raw c d C.read bytes passed z w; taken = both (8 * d.bytes) b ∙ x.0; counted = x.1 ∙ sym (counts (8 * d.bytes) b) }
