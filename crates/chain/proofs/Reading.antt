-- A chain read page by page: its bytes counted, and copied to the front of an output.
use mathlib.Core.Path.{◌≡◌, refl, ap, ap₂, sym, ◌∙◌}
use mathlib.Core.List.{List, ◌++◌, append_assoc}
use Prim.Native.Nat.{ℕ, ◌+◌, ◌-◌, ◌≤◌}
use native.Mathlib.Omega.{arith}
use lib.ListN.{length, take, drop, length-append, length-drop}
use lib.Seq.{drop-drop, take_at, drop_at}
use Rattle.std.specs.Prelude.{Ok}
use Rattle.geometry.specs.declared.Geometry.{Geometry}
use Rattle.geometry.specs.Geometry.{Fit}
use Rattle.geometry.specs.Page.{page_of, overwritten}
use Rattle.packet.specs.Packet.{View, view_of}
use Rattle.rules.specs.Chain.{Link, content}
use Rattle.chain.specs.declared.Cursor.{Cursor}
use Rattle.chain.specs.Steps.{first_step, step_of}
use Rattle.chain.specs.KnownChain.{ChainAt}
use Rattle.chain.proofs.Following.{Passed, passes, passes_data, ReadTo, read_first, bytes_up, split_whole, read_end, read_on}

-- before a page of a chain is copied: the output has the bytes passed at its front
pub record Copying (g : Geometry) (v : View) (total : ℕ) (all before out : List ℕ) (c : Cursor) : Type 0 where
  pub read : ReadTo g v total all c
  pub laid : out ≡ read.done ++ drop (length read.done) before

pub copy_first : (g : Geometry) (v : View) (start : ℕ) (c : Cursor) (ls : List Link) (out : List ℕ) → c ≡ first_step start start → ChainAt g v start ls → Copying g v (length ls) (content ls) out out c
unfolding read_first
copy_first g v start c ls out e d = record { read = read_first g v start c ls e d; laid = refl }

module _ {g : Geometry} {image : List ℕ} (fit : Fit g image) {total : ℕ} {all : List ℕ} {c : Cursor} (R : ReadTo g (view_of g image) total all c)
    {size : ℕ} {d : Cursor} (o : Ok (size, d) ≡ step_of g (view_of g image) c) where
  -- ---- counted
  pub counted_all : d.page ≡ 0 → d.bytes ≡ length all
  counted_all z =
      let k = passes g image fit total c R.more R.following size d o in
      let e : length all ≡ length R.done + length k.0 = ap length (read_end g image fit total all c d R k.0 k.1 z) ∙ length-append R.done k.0 in
      omega (arith, bytes_up g image fit total all c d R k.0 k.1, R.passed)

  pub count_on : (d.page ≡ 0 → ⊥) → total ≤ g.pages → ReadTo g (view_of g image) total all d
  count_on z u = let k = passes g image fit total c R.more R.following size d o in read_on g image fit total all c d R k.0 k.1 z u

  -- ---- copied
  module _ (page : List ℕ) (e : page ≡ page_of g c.page image) (bytes : List ℕ) (i : bytes ≡ take size (drop 1 page)) where
    page_passed : Passed c d R.more bytes
    page_passed = passes_data g image fit total c R.more R.following size d o page e bytes i

    -- the page's bytes have their place in the output
    pub has_place : (before out : List ℕ) → out ≡ R.done ++ drop (length R.done) before → length all ≤ length before → c.bytes + length bytes ≤ length out
    has_place before out l h =
        let n : length all ≡ length R.done + (length bytes + length (content page_passed.others)) =
        ap length (split_whole g image fit total all c d R bytes page_passed) ∙ length-append R.done (bytes ++ content page_passed.others) ∙ ap (λ (x : ℕ). length R.done + x) (length-append bytes (content page_passed.others)) in
        let k : length out ≡ length R.done + (length before - length R.done) =
        ap length l ∙ length-append R.done (drop (length R.done) before) ∙ ap (λ (x : ℕ). length R.done + x) (length-drop (length R.done) before) in
        omega (arith, R.passed)

    module _ (before out after : List ℕ) (l : out ≡ R.done ++ drop (length R.done) before) (w : after ≡ overwritten c.bytes bytes out) where
      laid : after ≡ (R.done ++ bytes) ++ drop (length (R.done ++ bytes)) before
      unfolding overwritten
      laid =
          let n : length R.done ≡ c.bytes = sym R.passed in
          let t : take c.bytes out ≡ R.done = ap (take c.bytes) l ∙ take_at R.done (drop (length R.done) before) c.bytes n in
          let u : drop c.bytes out ≡ drop (length R.done) before = ap (drop c.bytes) l ∙ drop_at R.done (drop (length R.done) before) c.bytes n in
          let x : drop (length bytes) (drop (length R.done) before) ≡ drop (length (R.done ++ bytes)) before =
          drop-drop (length bytes) (length R.done) before ∙ ap (λ (k : ℕ). drop k before) (sym (length-append R.done bytes)) in
          w ∙ ap₂ (λ (a b : List ℕ). a ++ (bytes ++ drop (length bytes) b)) t u ∙ ap (λ (a : List ℕ). R.done ++ (bytes ++ a)) x ∙ sym (append_assoc R.done bytes (drop (length (R.done ++ bytes)) before))

      pub copied_all : d.page ≡ 0 → after ≡ all ++ drop (length all) before
      copied_all z = laid ∙ ap (λ (x : List ℕ). x ++ drop (length x) before) (sym (read_end g image fit total all c d R bytes page_passed z))

      pub copy_on : (d.page ≡ 0 → ⊥) → total ≤ g.pages → Copying g (view_of g image) total all before after d
      unfolding read_on
      copy_on z u = record { read = read_on g image fit total all c d R bytes page_passed z u; laid = laid }
