use mathlib.Core.Path.{◌≡◌, refl, ◌∙◌}
use mathlib.Core.List.{List, ◌++◌, append-nil}
use Prim.Native.Nat.{ℕ, ◌+◌, ◌<◌}
use native.Mathlib.Omega.{arith}
use lib.ListN.{length, length-set, replicate, drop, set}
use lib.Seq.{drop-length}
use borrow.Author.Fill.{fill_none, fill_more}
use Rattle.owners.proofs.clear.Goals as goal

all : (t : List ℕ) → replicate (length t) 0 ++ drop (length t) t ≡ replicate (length t) 0
all t = rw (drop-length t, append-nil)

-- One byte more is 0: the one at the place `j` of the code, which is `i`.
more : (i j : ℕ) (t l : List ℕ) → i < length t → l ≡ replicate i 0 ++ drop i t → j ≡ i → set l j 0 ≡ replicate (i + 1) 0 ++ drop (i + 1) t
more i j t l h e s = rw (s, e) (fill_more i 0 t h)

pub loop-at-init : goal.loop-at-init
loop-at-init c = (refl, fill_none _ 0)

pub loop-at-preserved : goal.loop-at-preserved
loop-at-preserved c = (simp length-set (omega arith), more c.loop-at.at _ c.args.table.now _ (omega arith) c.loop-at.invariant.1 (omega arith))

pub returns : goal.returns
returns c = let e : c.loop-at.at ≡ length c.args.table.now = omega arith in c.loop-at.invariant.1 ∙ rw e (all c.args.table.now)
