-- A chain that stands, followed step by step: each step passes its next page.
use mathlib.Core.Path.{◌≡◌, refl, ap, ap₂, sym, ◌∙◌, subst}
use mathlib.Core.List.{List, [], ◌∷◌, ◌++◌, append_assoc, append-nil}
use Prim.Native.Nat.{ℕ, suc, ◌+◌, ◌*◌, ◌≤◌, ◌<◌}
use native.Mathlib.Omega.{arith}
use lib.ListN.{length, take, drop, length-take, length-append}
use borrow.Author.Tests.{lt-ltb}
use Rattle.std.specs.Prelude.{Ok}
use Rattle.geometry.specs.declared.Geometry.{Geometry}
use Rattle.geometry.specs.ChooseLaws.{choose_true}
use Rattle.geometry.specs.Geometry.{Fit}
use Rattle.geometry.specs.Page.{page_of}
use Rattle.packet.specs.Packet.{Packet, bad, good, View, view_of}
use Rattle.packet.specs.Reading.{right_packet}
use Rattle.rules.specs.PageSets.{count}
use Rattle.rules.proofs.PageSetLaws.{hit_same, range_of, within_length}
use Rattle.rules.specs.Chain.{Link, link, pages, first, content, Test}
use Rattle.rules.proofs.ChainLaws.{IsChain, length_pages, first_nonzero}
use Rattle.rules.specs.ChainLaws.{rest}
use Rattle.chain.specs.declared.Cursor.{Cursor}
use Rattle.chain.specs.Steps.{first_step, after, passed, step_of}
use Rattle.chain.specs.Claims.{IsGood, Counted}
use Rattle.chain.specs.KnownChain.{ChainAt}

-- ---- chains that stand
-- a chain that the walk accepts
pub chain_at_lem : (g : Geometry) (v : View) (test : Test) (claimed : List ℕ) (start : ℕ) (ls : List Link) → IsChain g.pages v test 0 claimed start ls → ChainAt g v start ls
chain_at_lem g v test claimed start ls c = record {
  some = c.some;
  begins = c.start;
  packets = c.packets;
  within = λ x h. range_of x g.pages (omega (arith, c.clear x));
  few = omega (arith, within_length g.pages (pages ls) (λ x. omega (arith, c.clear x)), length_pages ls);
  onward = c.onward;
}

-- its first page
pub first_stands : (g : Geometry) (v : View) (start : ℕ) (ls : List Link) → ChainAt g v start ls → (start < g.pages) × IsGood (v start)
first_stands g v start [] d = absurd (omega (arith, d.some))
first_stands g v start (link p b ∷ ls) d =
    let i : start ≡ p = sym d.begins in
    (rw i (d.within p (omega (arith, hit_same p))), rw (i, d.packets.0) tt)

-- the chain after its first page
rest_stands : (g : Geometry) (v : View) (start p q : ℕ) (b : List ℕ) (ls : List Link) → ChainAt g v start (link p b ∷ ls) → first ls ≡ q → (q ≡ 0 → ⊥) → ChainAt g v q ls
rest_stands g v start p q b [] d e n = absurd (n (sym e))
rest_stands g v start p q b (link x y ∷ ls) d e n = record {
  some = omega arith;
  begins = e;
  packets = d.packets.1;
  within = λ z h. d.within z (omega arith);
  few = omega (arith, d.few);
  onward = omega (arith, d.onward);
}

-- where the next page is 0 the chain ends
no_more : (ls : List Link) → count 0 (pages ls) ≡ 0 → first ls ≡ 0 → ls ≡ []
no_more [] h e = refl
no_more (x ∷ ls) h e = absurd (first_nonzero (x ∷ ls) (omega arith) h e)

-- a packet's data are fewer than 256 bytes
pub small_view : (g : Geometry) (image : List ℕ) → Fit g image → (p : ℕ) (b : List ℕ) (n : ℕ) → view_of g image p ≡ good b n → length b < 256
unfolding view_of page_of
small_view g image f p b n e =
    let r = right_packet g.width p (take g.size (drop (p * g.size) image)) b n e in
    omega (arith, r.room, length-take g.size (drop (p * g.size) image), f.valid.most)

-- ---- a step over a right packet
module _ (g : Geometry) (v : View) (c : Cursor) (h : c.page < g.pages) where
  -- what it passes
  pub stepped : (size : ℕ) (d : Cursor) → Ok (size, d) ≡ step_of g v c → (b : List ℕ) × (v c.page ≡ good b d.page) × (length b ≡ size) × (d ≡ after c size d.page)
  unfolding step_of
  stepped size d e = go (v c.page) refl (e ∙ simp (lt-ltb c.page g.pages h, choose_true))
    where
      go : (x : Packet) → v c.page ≡ x → Ok (size, d) ≡ passed c x → (b : List ℕ) × (v c.page ≡ good b d.page) × (length b ≡ size) × (d ≡ after c size d.page)
      go bad q e = absurd (let z : ◌≡◌ {A = ℕ} 0 1 = cc in omega arith)
      go (good b m) q e =
          let p : (size, d) ≡ (length b, after c (length b) m) = cc in
          let i : d ≡ after c (length b) m = ap (λ (x : ℕ × Cursor). x.1) p in
          let j : m ≡ d.page = ap (λ (x : Cursor). x.page) (sym i) in
          let l : length b ≡ size = ap (λ (x : ℕ × Cursor). x.0) (sym p) in
          (b, q ∙ ap (good b) j, l, i ∙ ap₂ (after c) l j)

-- ---- a position before these pages, in a chain of so many
pub record Following (g : Geometry) (v : View) (total : ℕ) (c : Cursor) (more : List Link) : Type 0 where
  pub chain : ChainAt g v c.page more
  pub steps : c.count + length more ≡ total
  pub counted : Counted c

pub follow : (g : Geometry) (v : View) (start : ℕ) (c : Cursor) (ls : List Link) → c ≡ first_step start start → ChainAt g v start ls → Following g v (length ls) c ls
follow g v start c ls e d = subst (λ (x : Cursor). Following g v (length ls) x ls) (sym e) (record { chain = d; steps = omega arith; counted = record { few = omega arith; small = omega arith } })

-- a page passed: its number, its bytes and the pages to come
pub record Passed (c d : Cursor) (more : List Link) (bytes : List ℕ) : Type 0 where
  pub number : ℕ
  pub others : List Link
  pub split : more ≡ link number bytes ∷ others
  pub next : first others ≡ d.page
  pub on : d ≡ after c (length bytes) d.page
  pub small : length bytes < 256

module _ (g : Geometry) (image : List ℕ) (fit : Fit g image) (total : ℕ) (c : Cursor) (more : List Link) (F : Following g (view_of g image) total c more) where
  abbrev v : View
  v = view_of g image

  pub page_known : (c.page < g.pages) × IsGood (v c.page)
  page_known = first_stands g v c.page more F.chain

  module _ (size : ℕ) (d : Cursor) (o : Ok (size, d) ≡ step_of g v c) where
    pub counts_up : d.count ≡ c.count + 1
    counts_up = ap (λ (x : Cursor). x.count) (stepped g v c page_known.0 size d o).3

    -- the data of the page lie in it
    module _ (page : List ℕ) (e : page ≡ page_of g c.page image) where
      pub data_inside : size + 1 ≤ length page
      unfolding view_of
      data_inside =
          let k = stepped g v c page_known.0 size d o in
          let r = right_packet g.width c.page (page_of g c.page image) k.0 d.page k.1 in
          omega (arith, r.room, k.2, ap length e)

    -- the page is the chain's next
    passed_page : (ls : List Link) → ChainAt g v c.page ls → (b : List ℕ) → v c.page ≡ good b d.page → d ≡ after c (length b) d.page → Passed c d ls b
    passed_page [] h b e i = absurd (omega (arith, h.some))
    passed_page (link p a ∷ ls) h b e i =
        let q : good a (first ls) ≡ good b d.page = sym h.packets.0 ∙ ap v h.begins ∙ e in
        let j : a ≡ b = cc in
        record { number = p; others = ls; split = ap (λ (x : List ℕ). link p x ∷ ls) j; next = cc; on = i; small = small_view g image fit c.page b d.page e }

    pub passes : (b : List ℕ) × Passed c d more b × (length b ≡ size)
    passes =
        let k = stepped g v c page_known.0 size d o in
        (k.0, passed_page more F.chain k.0 k.1 (k.3 ∙ ap (λ (n : ℕ). after c n d.page) (sym k.2)), k.2)

    -- its bytes as the code cuts them from the page
    pub passes_data : (page : List ℕ) → page ≡ page_of g c.page image → (b : List ℕ) → b ≡ take size (drop 1 page) → Passed c d more b
    unfolding view_of
    passes_data page e b i =
        let k = stepped g v c page_known.0 size d o in
        let r = right_packet g.width c.page (page_of g c.page image) k.0 d.page k.1 in
        let j : k.0 ≡ b = r.bytes_are ∙ ap₂ (λ (n : ℕ) (l : List ℕ). take n (drop 1 l)) k.2 (sym e) ∙ sym i in
        subst (Passed c d more) j (passed_page more F.chain k.0 k.1 (k.3 ∙ ap (λ (n : ℕ). after c n d.page) (sym k.2)))

  module _ (d : Cursor) (b : List ℕ) (P : Passed c d more b) where
    -- the last page
    pub all_passed : d.page ≡ 0 → P.others ≡ []
    all_passed z = no_more P.others (ap (λ (x : List Link). count 0 (pages (rest x))) (sym P.split) ∙ F.chain.onward) (P.next ∙ z)

    -- the pages after it
    pub follow_on : (d.page ≡ 0 → ⊥) → total ≤ g.pages → Following g v total d P.others
    follow_on z u =
        let h : ChainAt g v d.page P.others = rest_stands g v c.page P.number d.page b P.others (subst (ChainAt g v c.page) P.split F.chain) P.next z in
        let l : length more ≡ suc (length P.others) = ap length P.split in
        let n : d.count ≡ c.count + 1 = ap (λ (x : Cursor). x.count) P.on in
        let k : d.bytes ≡ c.bytes + length b = ap (λ (x : Cursor). x.bytes) P.on in
        record {
          chain = h;
          steps = omega (arith, F.steps);
          counted = record { few = omega (arith, F.steps, h.some, fit.valid.few); small = omega (arith, F.counted.small, P.small) };
        }

-- ---- the bytes passed and those to come are all of a chain's
pub record ReadTo (g : Geometry) (v : View) (total : ℕ) (all : List ℕ) (c : Cursor) : Type 0 where
  pub done : List ℕ
  pub more : List Link
  pub following : Following g v total c more
  pub whole : all ≡ done ++ content more
  pub passed : c.bytes ≡ length done

unfoldable pub read_first : (g : Geometry) (v : View) (start : ℕ) (c : Cursor) (ls : List Link) → c ≡ first_step start start → ChainAt g v start ls → ReadTo g v (length ls) (content ls) c
read_first g v start c ls e d = record { done = []; more = ls; following = follow g v start c ls e d; whole = refl; passed = ap (λ (x : Cursor). x.bytes) e }

module _ (g : Geometry) (image : List ℕ) (fit : Fit g image) (total : ℕ) (all : List ℕ) (c d : Cursor) (R : ReadTo g (view_of g image) total all c) (bytes : List ℕ) (P : Passed c d R.more bytes) where
  pub bytes_up : d.bytes ≡ c.bytes + length bytes
  bytes_up = ap (λ (x : Cursor). x.bytes) P.on

  pub split_whole : all ≡ R.done ++ (bytes ++ content P.others)
  split_whole = R.whole ∙ ap (λ (x : List Link). R.done ++ content x) P.split

  pub read_end : d.page ≡ 0 → all ≡ R.done ++ bytes
  read_end z = split_whole ∙ ap (λ (x : List Link). R.done ++ (bytes ++ content x)) (all_passed g image fit total c R.more R.following d bytes P z) ∙ ap (λ (x : List ℕ). R.done ++ x) (append-nil bytes)

  unfoldable pub read_on : (d.page ≡ 0 → ⊥) → total ≤ g.pages → ReadTo g (view_of g image) total all d
  read_on z u = record {
    done = R.done ++ bytes;
    more = P.others;
    following = follow_on g image fit total c R.more R.following d bytes P z u;
    whole = split_whole ∙ sym (append_assoc R.done bytes (content P.others));
    passed = omega (arith, bytes_up, R.passed, length-append R.done bytes);
  }
