-- Chains: what an accepted walk has met, that each chain is accepted; bytes as a chain over pages.
use Rattle.std.specs.Prelude.{◌≡◌, length, take, drop}
use Rattle.std.proofs.Math.Path.{refl, subst}
use Rattle.std.proofs.Common.{ap, sym, ◌∙◌, div-lt_iff_lt-mul, mul-le-mul_right, arith, take-append-drop, length-drop}
use mathlib.Core.List.{List, [], ◌∷◌, ◌++◌}
use Prim.Native.Nat.{ℕ, zero, suc, ◌+◌, ◌-◌, ◌*◌, ◌≤◌, ◌<◌}
use borrow.Author.Tests.{eqb-true, eqb-false, ltb-true, eq-eqb, ne_eqb, lt-ltb}
use Rattle.geometry.specs.ChooseLaws.{choose_true, choose_false, on_choose}
use Rattle.packet.specs.Packet.{Packet, bad, good, View}
use Rattle.rules.specs.Result.{ok}
use Rattle.rules.proofs.ResultLaws.{ok_inj, clash, on_then, on_refuse, then_ok, refuse_true}
use Rattle.rules.specs.PageSets.{count, range, Within}
use Rattle.rules.proofs.PageSetLaws.{hit_same, same, other, hits, range_le, range_of, within_length, within_cons, free_test, free_true}
use Rattle.rules.specs.Chain.{Link, link, pages, first, content, linked, Body, packet_at, Test, any_page, walk, chain_of, pages_for}
use Rattle.rules.specs.WellFormed.{HasPackets}
use Rattle.rules.specs.ChainLaws.{rest}

-- ---- a page's packet
pub packet_good : (v : View) (p : ℕ) (b : List ℕ) (n : ℕ) → v p ≡ good b n → packet_at v p ≡ ok (record { bytes = b; next = n })
unfolding packet_at
packet_good v p b n e = rw e refl

packet_case : (v : View) (p : ℕ) (x : Body) (k : Packet) → v p ≡ k → packet_at v p ≡ ok x → v p ≡ good x.bytes x.next
unfolding packet_at
packet_case v p x bad q e = clash (rw q at e)
packet_case v p x (good b n) q e = let h : record { bytes = b; next = n } ≡ x = ok_inj (rw q at e) in q ∙ ap (λ (y : Body). good y.bytes y.next) h

pub packet_inv : (v : View) (p : ℕ) (x : Body) → packet_at v p ≡ ok x → v p ≡ good x.bytes x.next
packet_inv v p x e = packet_case v p x (v p) refl e

-- every page passes the test, the first of them as the i-th of its chain
abbrev pub Passes : Test → ℕ → List Link → Type 0
Passes test i [] = Unit {0}
Passes test i (link p b ∷ ls) = (test i p b ≡ ok tt) × Passes test (suc i) ls

-- the chain from page p on, the i-th of its chain, clear of the claimed pages
pub record IsChain (N : ℕ) (v : View) (test : Test) (i : ℕ) (claimed : List ℕ) (p : ℕ) (ls : List Link) : Type 0 where
  pub some : 0 < length ls
  pub start : first ls ≡ p
  pub packets : HasPackets v (linked ls)
  pub passes : Passes test i ls
  pub clear : (x : ℕ) → count x (pages ls) + count x claimed ≤ count x (range N)
  pub onward : count 0 (pages (rest ls)) ≡ 0

-- no later page is 0, so no pointer but the last
pub onward_cons : (ls : List Link) → (first ls ≡ 0 → ⊥) → count 0 (pages (rest ls)) ≡ 0 → count 0 (pages ls) ≡ 0
onward_cons [] n h = refl
onward_cons (link p b ∷ ls) n h = elim (hits 0 p) [ same e i ↦ absurd (n (sym e)) | other e i ↦ omega arith ]

pub first_nonzero : (ls : List Link) → 0 < length ls → count 0 (pages ls) ≡ 0 → first ls ≡ 0 → ⊥
first_nonzero [] s h e = omega arith
first_nonzero (link p b ∷ ls) s h e = elim (hits 0 p) [ same q i ↦ omega arith | other q i ↦ q (sym e) ]

pub length_pages : (ls : List Link) → length (pages ls) ≡ length ls
length_pages [] = refl
length_pages (link p b ∷ ls) = ap suc (length_pages ls)

-- a file's pages and a bitmap file's pass
pub any_passes : (i : ℕ) (ls : List Link) → Passes any_page i ls
unfolding any_page
any_passes i [] = tt
any_passes i (link p b ∷ ls) = (refl, any_passes (suc i) ls)

-- ---- the walk
module _ (N : ℕ) (v : View) (test : Test) where
  -- an accepted walk is a chain
  pub walk_sound : (fuel i : ℕ) (claimed : List ℕ) (from p : ℕ) (ls : List Link) → Within N claimed → walk N v test fuel i claimed from p ≡ ok ls
      → IsChain N v test i claimed p ls
  unfolding walk
  walk_sound zero i claimed from p ls fit e = clash e
  walk_sound (suc fuel) i claimed from p ls fit e =
      on_refuse _ _ _ _ _ e λ g₁ e. on_refuse _ _ _ _ _ e λ g₂ e. on_then _ _ _ e λ x b e. on_then _ _ _ e λ u k e. on_then _ _ _ e λ ms m e.
      let fit' = within_cons N p claimed (ltb-true p N g₁) (free_test p claimed g₂) fit in
      subst (IsChain N v test i claimed p) (ok_inj e) (on_choose _ _ _ _ m
      (λ q z. subst (λ (l : List Link). IsChain N v test i claimed p (link p x.bytes ∷ l)) (ok_inj z) (last x fit' k (packet_inv _ _ _ b) (eqb-true _ _ q)))
      (λ q z. step x ms k (packet_inv _ _ _ b) (walk_sound fuel (suc i) (p ∷ claimed) p x.next ms fit' z) (eqb-false _ _ q)))
    where
      last : (x : Body) → Within N (p ∷ claimed) → test i p x.bytes ≡ ok tt → v p ≡ good x.bytes x.next → x.next ≡ 0
          → IsChain N v test i claimed p (link p x.bytes ∷ [])
      last x fit k b n = record { some = omega arith; start = refl; packets = (rw (← n) b, tt); passes = (k, tt); clear = λ z. omega (arith, fit z); onward = refl }

      step : (x : Body) (ms : List Link) → test i p x.bytes ≡ ok tt → v p ≡ good x.bytes x.next → IsChain N v test (suc i) (p ∷ claimed) x.next ms
          → (x.next ≡ 0 → ⊥) → IsChain N v test i claimed p (link p x.bytes ∷ ms)
      step x ms k b c n = record {
        some = omega arith;
        start = refl;
        packets = (rw c.start b, c.packets);
        passes = (k, c.passes);
        clear = λ z. omega (arith, c.clear z);
        onward = onward_cons ms (rw c.start n) c.onward;
      }

  walk_complete : (fuel i : ℕ) (claimed : List ℕ) (from p : ℕ) (b : List ℕ) (ls : List Link) → length ls < fuel → HasPackets v (linked (link p b ∷ ls))
      → Passes test i (link p b ∷ ls)
      → ((x : ℕ) → count x (p ∷ pages ls) + count x claimed ≤ count x (range N)) → count 0 (pages ls) ≡ 0 → walk N v test fuel i claimed from p ≡ ok (link p b ∷ ls)
  unfolding walk
  walk_complete zero i claimed from p b ls h a u c o = absurd (omega arith)
  walk_complete (suc fuel) i claimed from p b [] h a u c o =
      let k : count p claimed ≡ 0 = omega (arith, c p, range_le p N, hit_same p) in
      let j = range_of p N (omega (arith, c p, hit_same p)) in
      simp (lt-ltb p N j, free_true p claimed k, packet_good v p b 0 a.0, refuse_true, then_ok, u.0, eq-eqb 0 0 refl, choose_true)
  walk_complete (suc fuel) i claimed from p b (link q d ∷ ls) h a u c o =
      let k : count p claimed ≡ 0 = omega (arith, c p, range_le p N, hit_same p) in
      let j = range_of p N (omega (arith, c p, hit_same p)) in
      let n = first_nonzero (link q d ∷ ls) (omega arith) o in
      let r = walk_complete fuel (suc i) (p ∷ claimed) p q d ls (omega arith) a.1 u.1 (λ x. omega (arith, c x)) (omega arith) in
      simp (lt-ltb p N j, free_true p claimed k, packet_good v p b q a.0, refuse_true, then_ok, u.0, ne_eqb q 0 n, choose_false, r)

  -- with N + 1 for fuel, each chain is accepted
  pub walk_accepts : (i : ℕ) (claimed : List ℕ) (from p : ℕ) (ls : List Link) → IsChain N v test i claimed p ls → walk N v test (suc N) i claimed from p ≡ ok ls
  walk_accepts i claimed from p [] c = absurd (omega (arith, c.some))
  walk_accepts i claimed from p (link q b ∷ ls) c =
      let h = within_length N (q ∷ pages ls) (λ x. omega (arith, c.clear x)) in
      rw (← c.start) (walk_complete (suc N) i claimed from q b ls (omega (arith, length_pages ls)) c.packets c.passes c.clear c.onward)

-- ---- bytes as a chain over pages
pub pages_chain_of : (capacity : ℕ) (ps bs : List ℕ) → pages (chain_of capacity ps bs) ≡ ps
pages_chain_of capacity [] bs = refl
pages_chain_of capacity (p ∷ ps) bs = ap (λ (l : List ℕ). p ∷ l) (pages_chain_of capacity ps (drop capacity bs))

pub length_chain_of : (capacity : ℕ) (ps bs : List ℕ) → length (chain_of capacity ps bs) ≡ length ps
length_chain_of capacity [] bs = refl
length_chain_of capacity (p ∷ ps) bs = ap suc (length_chain_of capacity ps (drop capacity bs))

pub no_bytes : (bs : List ℕ) → length bs ≤ 0 → [] ≡ bs
no_bytes [] h = refl
no_bytes (b ∷ bs) h = absurd (omega arith)

-- enough pages hold all the bytes
pub content_chain_of : (capacity : ℕ) (ps bs : List ℕ) → length bs ≤ length ps * capacity → content (chain_of capacity ps bs) ≡ bs
content_chain_of capacity [] bs h = no_bytes bs (omega arith)
content_chain_of capacity (p ∷ ps) bs h =
    ap (λ (l : List ℕ). take capacity bs ++ l) (content_chain_of capacity ps (drop capacity bs) (simp length-drop (omega arith))) ∙ take-append-drop capacity bs

-- the pages that so many bytes need hold them, and fewer do not
pub pages_enough : (capacity n : ℕ) → 0 < capacity → n ≤ pages_for capacity n * capacity
pages_enough capacity n h = let i : n - 1 < pages_for capacity n * capacity = (div-lt_iff_lt-mul {k = capacity} {x = n - 1} {y = pages_for capacity n} h).0 (omega arith) in omega arith

pub pages_least : (capacity n k : ℕ) → 0 < capacity → 0 < k → n ≤ k * capacity → pages_for capacity n ≤ k
pages_least capacity n k h p i = let j : 1 * capacity ≤ k * capacity = mul-le-mul_right capacity p in (div-lt_iff_lt-mul {k = capacity} {x = n - 1} {y = k} h).1 (omega arith)
