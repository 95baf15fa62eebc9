-- A directory whose chain was claimed, and the answer for all of it from the answer for its entries.
use Rattle.std.specs.Prelude.{Result, Ok, Err}
use mathlib.Core.Path.{◌≡◌, sym, subst}
use mathlib.Core.List.{List, [], ◌++◌}
use Prim.Native.Nat.{ℕ, suc, ◌+◌, ◌≤◌}
use lib.ListN.{length}
use Rattle.geometry.specs.declared.Geometry.{Geometry}
use Rattle.packet.specs.Packet.{View}
use Rattle.rules.specs.declared.Totals.{Totals}
use Rattle.rules.specs.Result.{Res}
use Rattle.rules.specs.PageSets.{Within}
use Rattle.rules.proofs.PageSetLaws.{count_append}
use Rattle.rules.specs.Chain.{Views, Link, pages, Test, walk}
use Rattle.rules.proofs.ChainLaws.{IsChain, walk_sound}
use Rattle.rules.specs.Owners.{OwnerRecord, own}
use Rattle.owners.specs.Owned.{Represents}
use Rattle.owners.specs.OwnerLaws.{represents_own, represents_within, in_use, taken, represents_taken}
use Rattle.rules.specs.Check.{judge_directory, judge_sub}
use Rattle.chain.specs.declared.Claim.{Claim}
use Rattle.chain.specs.Claims.{Claims}
use Rattle.chain.specs.KnownChain.{ChainAt, KnownChain}
use Rattle.chain.proofs.Following.{chain_at_lem}
use Rattle.refusals.specs.declared.Refusal.{Refusal}
use Rattle.rules.specs.Answers.{refused}
use Rattle.walk.specs.Walks.{Good, Ready, DirectoryWalked}
use Rattle.walk.proofs.Parts.{IsClaimed, claimed_chain, claim_refused, claim_few}
use Rattle.walk.proofs.Steps.{good_chain, directory_refused, directory_rest}
use Rattle.walk.proofs.Left.{here, Whole}

-- its chain was refused
pub refused_directory : (g : Geometry) (vs : Views) (test : Test) (owner from start : ℕ) (t u : List OwnerRecord) (r : Result Claim Refusal) → Claims g vs.pages test owner from start t r u
    → (levels name : ℕ) (z : Refusal) → r ≡ Err z → (claimed : List ℕ) → Represents t claimed
    → judge_directory g vs (suc g.pages) (judge_sub g vs (suc g.pages) levels) test (here g vs levels name start) claimed from ≡ refused z
refused_directory g vs test owner from start t u r k levels name z i claimed h =
    directory_refused g vs levels test (here g vs levels name start) claimed from _ _ (claim_refused (walk g.pages vs.pages test (suc g.pages) 0 claimed from start) owner z t u r (k claimed h) i)

-- its chain of n pages was claimed, with the totals c before, the table t before and u after it
pub record Claimed (g : Geometry) (v : View) (test : Test) (owner from start n : ℕ) (c : Totals) (t u : List OwnerRecord) : Type 0 where
  pub bytes : ℕ
  pub answer : Result Claim Refusal
  pub claims : Claims g v test owner from start t answer u
  pub is : answer ≡ Ok (record { pages = n; bytes = bytes })
  pub long : length t ≡ g.pages
  pub ready : Ready g c owner t

pub is_claimed : {g : Geometry} (v : View) (test : Test) {owner : ℕ} (from start : ℕ) {n b : ℕ} {c : Totals} {t : List OwnerRecord} (u : List OwnerRecord)
    {r : Result Claim Refusal} → Claims g v test owner from start t r u → r ≡ Ok (record { pages = n; bytes = b })
    → length t ≡ g.pages → Ready g c owner t → Claimed g v test owner from start n c t u
is_claimed v test from start {b = b} u {r} k i l a = record { bytes = b; answer = r; claims = k; is = i; long = l; ready = a }

module _ {g : Geometry} {v : View} {test : Test} {owner from start n : ℕ} {c : Totals} {t u : List OwnerRecord} (C : Claimed g v test owner from start n c t u) where
  open C use {bytes, answer, claims, is, long, ready}

  pub pages_few : in_use t + n ≤ g.pages
  pages_few = (claim_few g v test owner from start n bytes t u answer claims is long).1

  -- the totals with its pages
  abbrev pub begun : Totals
  begun = record { used = c.used + n; files = c.files; directories = c.directories }

  module _ (claimed : List ℕ) (h : Represents t claimed) where
    abbrev walked : Res (List Link)
    walked = walk g.pages v test (suc g.pages) 0 claimed from start

    found : IsClaimed walked owner n bytes t u
    found = claimed_chain walked owner n bytes t u answer (claims claimed h) is

    is_chain : IsChain g.pages v test 0 claimed start found.links
    is_chain =
        let f : Within g.pages claimed = subst (λ (x : ℕ). Within x claimed) long (represents_within t claimed h) in
        walk_sound g.pages v test (suc g.pages) 0 claimed from start found.links f found.chain_is

    stands : ChainAt g v start found.links
    stands = chain_at_lem g v test claimed start found.links is_chain

    owned : Represents (own owner (pages found.links) t) (pages found.links ++ claimed)
    owned = represents_own owner (pages found.links) t claimed ready.some h (λ x. rw long (is_chain.clear x))

    is_good : Good g begun u
    is_good = subst (Good g begun) (sym found.table_is) (good_chain g c owner n t claimed found.links ready h is_chain.some found.pages_are owned)

  -- a chain is known, and the totals are good
  pub claimed_known : KnownChain g v start × Good g begun u
  claimed_known = let h = represents_taken t in (record { links = (found (taken t) h).links; chain = stands (taken t) h }, is_good (taken t) h)

-- in any views: its chain is read as a directory's
module _ {g : Geometry} (vs : Views) {test : Test} {owner from start n : ℕ} {c : Totals} {t u : List OwnerRecord} (C : Claimed g vs.pages test owner from start n c t u) where
  -- an answer for the entries of every such chain answers the directory
  whole_directory : (levels name : ℕ) (x : Result Totals Refusal) (y : List OwnerRecord)
      → ((others : List ℕ) (ls : List Link) → Represents u others → ChainAt g vs.pages start ls → Whole g vs levels name start (begun C) u others ls x y)
      → DirectoryWalked g vs levels test name start from owner c t x y
  whole_directory levels name x y z claimed h =
      let f = found C claimed h in
      let ls = f.links in
      let all = pages ls ++ claimed in
      directory_rest g vs levels test (here g vs levels name start) claimed from ls owner n c t f.chain_is f.pages_are (λ x. simp count_append ((is_chain C claimed h).clear x)) x y
      (subst (λ (q : List OwnerRecord). Whole g vs levels name start (begun C) q all ls x y) f.table_is
      (z all ls (subst (λ (q : List OwnerRecord). Represents q all) (sym f.table_is) (owned C claimed h)) (stands C claimed h)))

  pub whole_done : (levels name : ℕ) (d : Totals) (y : List OwnerRecord)
      → ((others : List ℕ) (ls : List Link) → Represents u others → ChainAt g vs.pages start ls → Whole g vs levels name start (begun C) u others ls (Ok d) y)
      → DirectoryWalked g vs levels test name start from owner c t (Ok d) y
  whole_done levels name d y = whole_directory levels name (Ok d) y

  pub whole_refused : (levels name : ℕ) (z : Refusal)
      → ((others : List ℕ) (ls : List Link) → Represents u others → ChainAt g vs.pages start ls → Whole g vs levels name start (begun C) u others ls (Err z) [])
      → DirectoryWalked g vs levels test name start from owner c t (Err z) []
  whole_refused levels name z = whole_directory levels name (Err z) []
