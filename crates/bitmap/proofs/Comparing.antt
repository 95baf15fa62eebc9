-- A bitmap in a chain, compared page by page: the bits of the pages passed agree.
use mathlib.Core.Path.{◌≡◌, refl, ap, ◌∙◌, subst}
use mathlib.Core.List.{List}
use Prim.Native.Nat.{ℕ, ◌+◌, ◌*◌, ◌≤◌, ◌<◌}
use native.Mathlib.Omega.{arith}
use native.Mathlib.Decide.{dec_lt}
use lib.ListN.{length, take, drop, length-append}
use Rattle.geometry.specs.declared.Geometry.{Geometry}
use Rattle.geometry.specs.Geometry.{Fit}
use Rattle.geometry.specs.Page.{page_of}
use Rattle.packet.specs.Packet.{View, view_of}
use Rattle.rules.specs.Result.{ok, err}
use Rattle.rules.specs.PageSets.{bit, mem}
use Rattle.rules.specs.Chain.{Link, content}
use Rattle.rules.specs.Bitmap.{bit_at}
use Rattle.rules.specs.BitmapLaws.{IsLowest}
use Rattle.owners.specs.Owned.{Represents}
use Rattle.rules.specs.Check.{judge_bits}
use Rattle.rules.specs.Owners.{OwnerRecord}
use Rattle.chain.specs.declared.Cursor.{Cursor}
use Rattle.chain.specs.Steps.{first_step, step_of}
use Rattle.chain.specs.KnownChain.{ChainAt}
use Rattle.chain.proofs.Following.{Passed, ReadTo, read_first, bytes_up, read_end, read_on}
use Rattle.std.specs.Prelude.{Ok, Option, Some, None}
use Rattle.bitmap.specs.Bits.{Part, ComparesPart}
use Rattle.bitmap.proofs.BitLaws.{judged_same, judged_differ}
use Rattle.bitmap.proofs.PagesRead.{stands, length_is, turned}

-- an answer that names no bit
no_bit : (r : Option ℕ) → ((n : ℕ) → r ≡ Some n → ⊥) → r ≡ None
no_bit None h = refl
no_bit (Some n) h = absurd (h n refl)

-- what holds before a page of a chain of so many pages is compared
pub record Comparing (g : Geometry) (v : View) (raw used : List ℕ) (total : ℕ) (c : Cursor) : Type 0 where
  pub read : ReadTo g v total raw c
  pub agree : (j : ℕ) → j < 8 * c.bytes → bit_at raw j ≡ bit (mem j used)

module _ (g : Geometry) (image : List ℕ) (fit : Fit g image) where
  abbrev v : View
  v = view_of g image

  pub started : (start : ℕ) (c : Cursor) (used : List ℕ) (ls : List Link) → c ≡ first_step start start → ChainAt g v start ls → Comparing g v (content ls) used (length ls) c
  started start c used ls e d =
      let b : c.bytes ≡ 0 = ap (λ (x : Cursor). x.bytes) e in
      record { read = read_first g v start c ls e d; agree = λ j h. absurd (omega arith) }

  module _ (raw used : List ℕ) (total : ℕ) (c d : Cursor) (bytes : List ℕ) (C : Comparing g v raw used total c) (t : Passed c d C.read.more bytes) where
    agree_below : (n e : ℕ) → IsLowest raw used (8 * c.bytes) n e → (j : ℕ) → j < e → bit_at raw j ≡ bit (mem j used)
    agree_below n e l j h = elim (dec_lt j (8 * c.bytes)) [ yes q ↦ C.agree j q | no q ↦ l.agree j (omega arith) h ]

    pub differs : (e : ℕ) → Part raw used (8 * c.bytes) (8 * length bytes) (Some e) → judge_bits raw used ≡ err 13 e
    differs e l = judged_differ raw used e (omega (arith, l.1, length_is g image fit raw total c d bytes C.read t)) (agree_below (8 * length bytes) e l.0) (λ q. l.0.differs l.1 q)

    module _ (l : Part raw used (8 * c.bytes) (8 * length bytes) None) where
      pub same_all : d.page ≡ 0 → judge_bits raw used ≡ ok tt
      same_all z =
          let n : length raw ≡ length C.read.done + length bytes = ap length (read_end g image fit total raw c d C.read bytes t z) ∙ length-append C.read.done bytes in
          judged_same raw used (λ j h. agree_below (8 * length bytes) (8 * c.bytes + 8 * length bytes) l j (omega (arith, C.read.passed)))

      pub same_on : (d.page ≡ 0 → ⊥) → total ≤ g.pages → Comparing g v raw used total d
      same_on z u =
          let b : d.bytes ≡ c.bytes + length bytes = bytes_up g image fit total raw c d C.read bytes t in
          record { read = read_on g image fit total raw c d C.read bytes t z u; agree = λ j q. agree_below (8 * length bytes) (8 * c.bytes + 8 * length bytes) l j (omega arith) }

  -- one page of the chain compared, as the code reads it
  module _ {raw used : List ℕ} {total : ℕ} {c : Cursor} (C : Comparing g v raw used total c) {size : ℕ} {d : Cursor} (o : Ok (size, d) ≡ step_of g v c)
      {page : List ℕ} (e : page ≡ page_of g c.page image) {bytes : List ℕ} (i : bytes ≡ take size (drop 1 page)) where
    module _ (table : List OwnerRecord) (R : Represents table used) (r : Option ℕ) (p : ComparesPart bytes c.bytes table r) where
      part : (s : Option ℕ) → r ≡ s → Part raw used (8 * c.bytes) (8 * length bytes) s
      part s q = subst (Part raw used (8 * c.bytes) (8 * length bytes)) q (p raw used (stands g image fit raw total c d bytes C.read (turned g image fit C.read o e i)) R)

      pub answer_differ : (n : ℕ) → r ≡ Some n → judge_bits raw used ≡ err 13 n
      answer_differ n q = differs raw used total c d bytes C (turned g image fit C.read o e i) n (part (Some n) q)

      pub answer_same : ((n : ℕ) → r ≡ Some n → ⊥) → d.page ≡ 0 → judge_bits raw used ≡ ok tt
      answer_same q z = same_all raw used total c d bytes C (turned g image fit C.read o e i) (part None (no_bit r q)) z

      pub compare_on : ((n : ℕ) → r ≡ Some n → ⊥) → (d.page ≡ 0 → ⊥) → total ≤ g.pages → Comparing g v raw used total d
      compare_on q z u = same_on raw used total c d bytes C (turned g image fit C.read o e i) (part None (no_bit r q)) z u
