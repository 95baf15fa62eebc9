-- A chain's pages made free one by one: those that are left give the whole.
use mathlib.Core.Path.{◌≡◌, refl, ap, sym, ◌∙◌}
use mathlib.Core.List.{List}
use Prim.Native.Nat.{ℕ, ◌≤◌}
use lib.ListN.{length, set}
use Rattle.std.specs.Prelude.{Ok}
use Rattle.geometry.specs.declared.Geometry.{Geometry}
use Rattle.geometry.specs.Geometry.{Fit}
use Rattle.packet.specs.Packet.{View, view_of}
use Rattle.rules.specs.Chain.{Link, pages, first}
use Rattle.rules.specs.Owners.{OwnerRecord, free}
use Rattle.owners.specs.Owned.{freed}
use Rattle.chain.specs.declared.Cursor.{Cursor}
use Rattle.chain.specs.Steps.{first_step, step_of}
use Rattle.chain.specs.KnownChain.{ChainAt}
use Rattle.chain.proofs.Following.{Following, follow, Passed, passes, all_passed, follow_on}

-- before a page is released
pub record Releasing (g : Geometry) (v : View) (total : ℕ) (target table : List OwnerRecord) (c : Cursor) : Type 0 where
  pub more : List Link
  pub following : Following g v total c more
  pub whole : target ≡ freed (pages more) table

pub release_first : (g : Geometry) (v : View) (start : ℕ) (c : Cursor) (ls : List Link) (table : List OwnerRecord) → c ≡ first_step start start → ChainAt g v start ls
    → Releasing g v (length ls) (freed (pages ls) table) table c
release_first g v start c ls table e d = record { more = ls; following = follow g v start c ls e d; whole = refl }

module _ {g : Geometry} {image : List ℕ} (fit : Fit g image) {total : ℕ} {target table : List OwnerRecord} {c : Cursor} (R : Releasing g (view_of g image) total target table c)
    {size : ℕ} {d : Cursor} (o : Ok (size, d) ≡ step_of g (view_of g image) c) where
  abbrev b : List ℕ
  b = (passes g image fit total c R.more R.following size d o).0

  abbrev P : Passed c d R.more b
  P = (passes g image fit total c R.more R.following size d o).1

  left : target ≡ freed (pages P.others) (set table c.page free)
  left =
      let n : P.number ≡ c.page = ap first (sym P.split) ∙ R.following.chain.begins in
      R.whole ∙ ap (λ (ls : List Link). freed (pages ls) table) P.split ∙ ap (λ (p : ℕ). freed (pages P.others) (set table p free)) n

  pub released_all : d.page ≡ 0 → (u : List OwnerRecord) → u ≡ set table c.page free → u ≡ target
  released_all z u w = w ∙ sym (left ∙ ap (λ (ls : List Link). freed (pages ls) (set table c.page free)) (all_passed g image fit total c R.more R.following d b P z))

  pub release_on : (d.page ≡ 0 → ⊥) → total ≤ g.pages → (u : List OwnerRecord) → u ≡ set table c.page free → Releasing g (view_of g image) total target u d
  release_on z n u w = rw w (record { more = P.others; following = follow_on g image fit total c R.more R.following d b P z n; whole = left })
