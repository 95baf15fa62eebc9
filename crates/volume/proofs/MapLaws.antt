-- The bitmap file claimed, as the code goes.
use Rattle.rules.specs.Answers.{refused}
use Rattle.std.specs.Prelude.{Result, Ok, Err}
use Rattle.refusals.specs.declared.Refusal.{Refusal}
use mathlib.Core.Path.{◌≡◌, ap, sym, ◌∙◌, subst}
use mathlib.Core.List.{List, []}
use Prim.Native.Nat.{ℕ, suc}
use native.Mathlib.Omega.{arith}
use lib.Dec.{eqb}
use lib.ListN.{length, replicate, length-replicate}
use borrow.Author.Tests.{eq-eqb, ne_eqb, lt-ltb, le-ltb}
use Rattle.geometry.specs.declared.Geometry.{Geometry}
use Rattle.geometry.specs.Geometry.{bitmap_size}
use Rattle.rules.specs.Result.{Res, ok, err, and_then, refuse_unless}
use Rattle.rules.proofs.ResultLaws.{then_ok, then_err, refuse_true, refuse_false}
use Rattle.rules.specs.Chain.{Views, Link, pages, content, walk}
use Rattle.rules.proofs.ChainLaws.{length_pages}
use Rattle.rules.specs.Tree.{in_file}
use Rattle.rules.specs.Owners.{OwnerRecord, free, own}
use Rattle.owners.specs.Owned.{Represents}
use Rattle.owners.specs.OwnerLaws.{represents_none, represents_length, in_use}
use Rattle.directory.specs.declared.control.Kind.TheVariants as kind
use Rattle.directory.specs.Faults.{test_of}
use Rattle.chain.specs.declared.Claim.{Claim}
use Rattle.chain.specs.Claims.{Claims}
use Rattle.walk.proofs.Parts.{test_file, IsClaimed, claimed_chain, claim_refused}
use Rattle.rules.specs.Check.{judge_map_file}
use Rattle.volume.specs.Scans.{no_entries, MapClaimed}

-- an empty table
pub empty_table : (N : ℕ) (t : List OwnerRecord) → t ≡ replicate N free → Represents t [] × (length t ≡ N) × (in_use t ≡ 0)
empty_table N t z =
    let r : Represents t [] = subst (λ (x : List OwnerRecord). Represents x []) (sym z) (represents_none N) in
    (r, ap length z ∙ length-replicate {A = OwnerRecord} N free, represents_length t [] r)

module _ (g : Geometry) (vs : Views) (start pages_told : ℕ) where
  pub map_none : start ≡ 0 → judge_map_file g vs (suc g.pages) start pages_told ≡ err 6 0
  unfolding judge_map_file
  map_none z = simp (le-ltb 0 start (omega arith), refuse_false, then_err)

  abbrev chain_of : Res (List Link)
  chain_of = walk g.pages vs.pages (test_of g kind.File) (suc g.pages) 0 [] 0 start

  module _ (s : start ≡ 0 → ⊥) where
    map_step : judge_map_file g vs (suc g.pages) start pages_told
        ≡ and_then chain_of (λ ls. and_then (refuse_unless (eqb pages_told (length ls)) 8 0) (λ _. and_then (refuse_unless (eqb (length (content ls)) (bitmap_size g)) 8 0) (λ _. ok (in_file ls))))
    unfolding judge_map_file
    map_step = simp (lt-ltb 0 start (omega arith), refuse_true, then_ok, test_file g)

    module _ (t u : List OwnerRecord) (z : t ≡ replicate g.pages free) (r : Result Claim Refusal) (k : Claims g vs.pages (test_of g kind.File) 2 0 start t r u) where
      pub map_refused : (x : Refusal) → r ≡ Err x → judge_map_file g vs (suc g.pages) start pages_told ≡ refused x
      map_refused x i = simp (map_step, claim_refused chain_of 2 x t u r (k [] (empty_table g.pages t z).0) i, then_err)

      module _ (n b : ℕ) (i : r ≡ Ok (record { pages = n; bytes = b })) where
        is_claimed : IsClaimed chain_of 2 n b t u
        is_claimed = claimed_chain chain_of 2 n b t u r (k [] (empty_table g.pages t z).0) i

        pub map_counted : (pages_told ≡ n → ⊥) → judge_map_file g vs (suc g.pages) start pages_told ≡ err 8 0
        map_counted y = simp (map_step, is_claimed.chain_is, then_ok, ne_eqb pages_told (length is_claimed.links) (λ j. y (j ∙ sym is_claimed.pages_are)), refuse_false, then_err)

        module _ (y : pages_told ≡ n) (m : ℕ) (e : m ≡ bitmap_size g) where
          pub map_short : (b ≡ m → ⊥) → judge_map_file g vs (suc g.pages) start pages_told ≡ err 8 0
          map_short x = simp (
            map_step,
            is_claimed.chain_is,
            then_ok,
            eq-eqb pages_told (length is_claimed.links) (y ∙ is_claimed.pages_are),
            refuse_true,
            ne_eqb (length (content is_claimed.links)) (bitmap_size g) (λ j. x (is_claimed.bytes_are ∙ j ∙ sym e)),
            refuse_false,
            then_err,
          )

          pub map_done : b ≡ m → MapClaimed g vs start pages_told (Ok (no_entries n)) u
          unfolding MapClaimed
          map_done x = (
            in_file is_claimed.links,
            simp (
              map_step,
              is_claimed.chain_is,
              then_ok,
              eq-eqb pages_told (length is_claimed.links) (y ∙ is_claimed.pages_are),
              refuse_true,
              eq-eqb (length (content is_claimed.links)) (bitmap_size g) (sym is_claimed.bytes_are ∙ x ∙ e),
            ),
            ap no_entries (is_claimed.pages_are ∙ sym (length_pages is_claimed.links)),
            is_claimed.table_is ∙ ap (own 2 (pages is_claimed.links)) z,
          )
