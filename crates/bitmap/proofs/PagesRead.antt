-- One page of a bitmap's chain, as the code reads it: where its bytes stand in the bitmap.
use Rattle.std.specs.Prelude.{Ok}
use mathlib.Core.Path.{◌≡◌, ap, ap₂, sym, ◌∙◌}
use mathlib.Core.List.{List, ◌++◌}
use Prim.Native.Nat.{ℕ, ◌+◌, ◌≤◌, ◌<◌}
use native.Mathlib.Omega.{arith}
use lib.ListN.{length, get_or, take, drop, length-append, get_or-append}
use lib.Seq.{get_or-append-add}
use Rattle.geometry.specs.declared.Geometry.{Geometry}
use Rattle.geometry.specs.Geometry.{Fit}
use Rattle.geometry.specs.Page.{page_of}
use Rattle.packet.specs.Packet.{View, view_of}
use Rattle.rules.specs.Chain.{content}
use Rattle.chain.specs.declared.Cursor.{Cursor}
use Rattle.chain.specs.Steps.{step_of}
use Rattle.chain.proofs.Following.{Passed, passes_data, ReadTo, split_whole}

module _ (g : Geometry) (image : List ℕ) (fit : Fit g image) where
  abbrev v : View
  v = view_of g image

  module _ (raw : List ℕ) (total : ℕ) (c d : Cursor) (bytes : List ℕ) (R : ReadTo g (view_of g image) total raw c) (t : Passed c d R.more bytes) where
    whole : raw ≡ R.done ++ (bytes ++ content t.others)
    whole = split_whole g image fit total raw c d R bytes t

    pub stands : (i : ℕ) → i < length bytes → get_or raw (c.bytes + i) 0 ≡ get_or bytes i 0
    stands i h =
        ap₂ (λ (l : List ℕ) (n : ℕ). get_or l (n + i) 0) whole R.passed ∙ get_or-append-add R.done (bytes ++ content t.others) i 0 ∙ get_or-append bytes (content t.others) 0 i h

    pub length_is : length raw ≡ c.bytes + (length bytes + length (content t.others))
    length_is = ap length whole ∙ length-append R.done (bytes ++ content t.others) ∙ ap₂ (λ (x y : ℕ). x + y) (sym R.passed) (length-append bytes (content t.others))

  -- as the code reads it
  module _ {raw : List ℕ} {total : ℕ} {c : Cursor} (R : ReadTo g (view_of g image) total raw c) {size : ℕ} {d : Cursor} (o : Ok (size, d) ≡ step_of g (view_of g image) c)
      {page : List ℕ} (e : page ≡ page_of g c.page image) {bytes : List ℕ} (i : bytes ≡ take size (drop 1 page)) where
    pub turned : Passed c d R.more bytes
    turned = passes_data g image fit total c R.more R.following size d o page e bytes i

    pub in_bounds : (c.bytes ≤ 16777216) × (length bytes ≤ 256)
    in_bounds = (omega (arith, R.following.counted.few, R.following.counted.small), omega (arith, turned.small))
