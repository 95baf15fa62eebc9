-- Fuel never decides: two runs of the check's first half that differ in fuel alone answer the same. And its refusals tell 2 to 12 and a page of the image; the check's 13 tells a bit.
-- One induction over the rules shows both: each walk's claimed pages are below N with none twice (`Soundness`), so N + 1 steps meet the end, a fault or a page twice.
use Rattle.std.specs.Prelude.{◌≡◌, Bool, T}
use Rattle.std.proofs.Math.Path.{refl, ap, sym, subst}
use Rattle.std.proofs.Math.Bool.{true, false}
use mathlib.Core.List.{List, [], ◌∷◌, ◌++◌}
use Prim.Native.Nat.{ℕ, zero, suc, ◌+◌, ◌*◌, ◌≤◌, ◌<◌}
use Rattle.std.proofs.Common.{arith}
use Rattle.std.proofs.Math.ListN.{length, length-take}
use borrow.Author.Tests.{ltb-true, eqb-true}
use Rattle.geometry.specs.declared.Geometry.{Geometry}
use Rattle.geometry.specs.Choose.{choose}
use Rattle.geometry.specs.ChooseLaws.{on_choose}
use Rattle.geometry.specs.Geometry.{control_size, bitmap_size}
use Rattle.packet.specs.Packet.{View}
use Rattle.rules.specs.declared.Entry.{Entry}
use Rattle.rules.specs.Result.{Res, ok, err, and_then, and_after, refuse_unless}
use Rattle.rules.proofs.ResultLaws.{ok_inj, on_then, on_refuse}
use Rattle.rules.specs.PageSets.{count, Within}
use Rattle.rules.proofs.PageSetLaws.{hit_same, count_append, range_of, within_length, within_cons, free_test}
use Rattle.rules.specs.Chain.{Views, Link, link, pages, first, content, Test, any_page, walk}
use Rattle.rules.proofs.ChainLaws.{walk_sound}
use Rattle.rules.specs.Tree.{Token, new_page, entry, link_tokens, Map, map_pages}
use Rattle.rules.specs.Control.{Parent, the_root, Head, head_of, root_page, sub_page}
use Rattle.rules.proofs.BitmapLaws.{lowest}
use Rattle.rules.specs.Check.{Judge, Scan, raw_bits, part_pages, judge_bits, judge_file, judge_entry, judge_entries, judge_directory, judge_sub, judge_map, judge_map_file, scan, scan_with, check}
use Rattle.rules.proofs.Soundness.{token_pages, pages_tokens, JudgeSound, entry_sound, sub_sound, map_sound}
use Rattle.rules.proofs.RefusalLaws.{Refuses, is_between, refuses_ok, refuses_with, refuses_err, refuses_unless, refuses_then, refuses_within, TestFaults, packet_faults, any_faults, root_faults, sub_faults, head_faults, label_faults}

-- two runs answer the same; a refusal tells a number from 2 to 12 and a page below `most`
pub record Alike {A : Type 0} (most : ℕ) (r s : Res A) : Type 0 where
  pub same : r ≡ s
  pub refuses : Refuses 2 12 most r

module _ {most : ℕ} where
  alike : {A : Type 0} {r : Res A} → Refuses 2 12 most r → Alike most r r
  alike h = record { same = refl; refuses = h }

  alike_then : {A B : Type 0} (r s : Res A) (f h : A → Res B) → Alike most r s → ((a : A) → s ≡ ok a → Alike most (f a) (h a)) → Alike most (and_then r f) (and_then s h)
  unfolding and_then
  alike_then (ok a) s f h k j = let e : s ≡ ok a = sym k.same in rw e (j a e)
  alike_then (err n p) s f h k j = let e : s ≡ err n p = sym k.same in rw e (alike (refuses_with (k.refuses.number n p refl) (k.refuses.page n p refl)))

  alike_test : {A : Type 0} (t : Bool) (n p : ℕ) (r s : Res A) → T (is_between 2 n 12) → p < most → (t ≡ true → Alike most r s)
      → Alike most (and_after (refuse_unless t n p) r) (and_after (refuse_unless t n p) s)
  unfolding and_then refuse_unless
  alike_test true n p r s h k j = j refl
  alike_test false n p r s h k j = alike (refuses_err h k)

  alike_choose : {A : Type 0} (t : Bool) (r s r' s' : Res A) → Alike most r r' → Alike most s s' → Alike most (choose t r s) (choose t r' s')
  unfolding choose
  alike_choose true r s r' s' h k = h
  alike_choose false r s r' s' h k = k

-- ---- a chain
module _ (N : ℕ) (v : View) (test : Test) (h : TestFaults N test) where
  walk_alike : (fuel more i : ℕ) (claimed : List ℕ) (from p : ℕ) → from < N → Within N claimed → N < length claimed + fuel → N < length claimed + more
      → Alike N (walk N v test fuel i claimed from p) (walk N v test more i claimed from p)
  unfolding walk
  walk_alike zero more i claimed from p k fit f m = absurd (omega (arith, within_length N claimed fit))
  walk_alike (suc fuel) zero i claimed from p k fit f m = absurd (omega (arith, within_length N claimed fit))
  walk_alike (suc fuel) (suc more) i claimed from p k fit f m =
      alike_test _ 6 _ _ _ tt k λ g₁. let q = ltb-true p N g₁ in
      alike_test _ 7 _ _ _ tt q λ g₂. alike_then _ _ _ _ (alike (packet_faults v p q)) λ x _. alike_then _ _ _ _ (alike (h i p x.bytes q)) λ _ _.
      alike_then _ _ _ _ (alike_choose _ _ _ _ _ (alike refuses_ok)
      (walk_alike fuel more (suc i) (p ∷ claimed) p x.next q (within_cons N p claimed q (free_test p claimed g₂) fit) (omega arith) (omega arith))) λ ls _. alike refuses_ok

first_counts : (ls : List Link) → 0 < length ls → 1 ≤ count (first ls) (pages ls)
first_counts [] h = absurd (omega (arith, h))
first_counts (link p b ∷ ls) h = omega (arith, hit_same p)

-- ---- the rules, with any fuel above N on the one side and N + 1 on the other
module _ (g : Geometry) (vs : Views) (fuel : ℕ) (enough : g.pages < fuel) where
  abbrev N : ℕ
  N = g.pages

  chain_alike : (v : View) (test : Test) → TestFaults N test → (claimed : List ℕ) (from p : ℕ) → from < N → Within N claimed
      → Alike N (walk N v test fuel 0 claimed from p) (walk N v test (suc N) 0 claimed from p)
  chain_alike v test h claimed from p k fit = walk_alike N v test h fuel (suc N) 0 claimed from p k fit (omega arith) (omega arith)

  file_alike : (claimed : List ℕ) (p : ℕ) (e : Entry) → p < N → Within N claimed → Alike N (judge_file g vs fuel claimed p e) (judge_file g vs (suc N) claimed p e)
  unfolding judge_file
  file_alike claimed p e h fit =
      alike_test _ 6 _ _ _ tt h λ _. alike_then _ _ _ _ (chain_alike (vs.file e.extension) any_page (any_faults N) claimed p e.start h fit) λ ls _. alike_test _ 8 _ _ _ tt h λ _. alike refuses_ok

  abbrev JudgeAlike : Judge → Judge → Type 0
  JudgeAlike sub sub' = (here : Parent) (claimed : List ℕ) (p : ℕ) (e : Entry) → p < N → Within N claimed → Alike N (sub here claimed p e) (sub' here claimed p e)

  module _ (sub sub' : Judge) (k : JudgeAlike sub sub') where
    entry_alike : (here : Parent) (claimed : List ℕ) (p : ℕ) (seen : List ℕ) (e : Entry) → p < N → Within N claimed
        → Alike N (judge_entry g vs fuel sub here claimed p seen e) (judge_entry g vs (suc N) sub' here claimed p seen e)
    unfolding judge_entry
    entry_alike here claimed p seen e h fit =
        alike_then _ _ _ _ (alike (label_faults N p e h)) λ _ _. alike_test _ 11 _ _ _ tt h λ _.
        alike_choose _ _ _ _ _ (alike_then _ _ _ _ (k here claimed p e h fit) λ d _. alike refuses_ok) (file_alike claimed p e h fit)

    abbrev Below : List Token → Type 0
    Below ts = (z : ℕ) → 1 ≤ count z (token_pages ts) → z < N

    entries_alike : JudgeSound g sub' → (here : Parent) (claimed : List ℕ) (p : ℕ) (seen : List ℕ) (ts : List Token) → p < N → Below ts → Within N claimed
        → Alike N (judge_entries g vs fuel sub here claimed p seen ts) (judge_entries g vs (suc N) sub' here claimed p seen ts)
    unfolding judge_entries
    entries_alike s here claimed p seen [] h low fit = alike refuses_ok
    entries_alike s here claimed p seen (new_page q ∷ ts) h low fit =
        alike_then _ _ _ _ (entries_alike s here claimed q seen ts (low q (omega (arith, hit_same q))) (λ z c. low z (omega (arith, c))) fit) λ t _. alike refuses_ok
    entries_alike s here claimed p seen (entry e ∷ ts) h low fit = alike_choose _ _ _ _ _
        (alike_test _ 10 _ _ _ tt h λ _. alike_then _ _ _ _ (entries_alike s here claimed p seen ts h low fit) λ t _. alike refuses_ok)
        (alike_then _ _ _ _ (entry_alike here claimed p seen e h fit) λ x d.
        alike_then _ _ _ _ (entries_alike s here (part_pages x ++ claimed) p _ ts h low (λ z. simp count_append ((entry_sound g vs sub' s here claimed p seen e x fit d).clear z))) λ t _. alike refuses_ok)

    directory_alike : JudgeSound g sub' → (test : Test) → TestFaults N test → (here : Parent) (claimed : List ℕ) (p : ℕ) → p < N → Within N claimed
        → Alike N (judge_directory g vs fuel sub test here claimed p) (judge_directory g vs (suc N) sub' test here claimed p)
    unfolding judge_directory
    directory_alike s test j here claimed p h fit =
        alike_then _ _ _ _ (chain_alike vs.pages test j claimed p here.start h fit) λ ls w.
        let c = walk_sound N vs.pages test (suc N) 0 claimed p here.start ls fit w in
        let below : (z : ℕ) → 1 ≤ count z (pages ls) → z < N = λ z i. range_of z N (omega (arith, c.clear z, i)) in
        entries_alike s here (pages ls ++ claimed) here.start [] (link_tokens g (control_size g) ls)
        (subst (λ (z : ℕ). z < N) c.start (below (first ls) (first_counts ls c.some)))
        (λ z i. below z (omega (arith, i, ap (count z) (pages_tokens g (control_size g) ls))))
        (λ z. simp count_append (c.clear z))

  nested_alike : (levels : ℕ) → JudgeAlike (judge_sub g vs fuel levels) (judge_sub g vs (suc N) levels)
  unfolding judge_sub
  nested_alike zero here claimed p e h fit = alike (refuses_err tt h)
  nested_alike (suc levels) here claimed p e h fit =
      alike_test _ 8 _ _ _ tt h λ _. alike_test _ 6 _ _ _ tt h λ _.
      directory_alike (judge_sub g vs fuel levels) (judge_sub g vs (suc N) levels) (nested_alike levels) (sub_sound g vs levels) (sub_page g here) (sub_faults g here N) _ claimed p h fit

  module _ (some : 0 < g.pages) where
    map_alike : (h : Head) → Alike N (judge_map g vs fuel h) (judge_map g vs (suc N) h)
    unfolding judge_map judge_map_file
    map_alike h =
        alike_choose _ _ _ _ _ (alike refuses_ok) (alike_test _ 6 _ _ _ tt some λ _.
        alike_then _ _ _ _ (chain_alike vs.pages any_page (any_faults N) [] 0 _ some (λ x. omega arith)) λ ls _.
        alike_test _ 8 _ _ _ tt some λ _. alike_test _ 8 _ _ _ tt some λ _. alike refuses_ok)

    scan_alike : Alike N (scan_with g vs fuel) (scan_with g vs (suc N))
    unfolding scan_with
    scan_alike =
        alike_then _ _ _ _ (alike (packet_faults vs.pages 0 some)) λ x _. alike_then _ _ _ _ (alike (head_faults g N x.bytes some)) λ h _. alike_then _ _ _ _ (map_alike h) λ m c.
        alike_then _ _ _ _ (directory_alike (judge_sub g vs fuel 8) (judge_sub g vs (suc N) 8) (nested_alike 8) (sub_sound g vs 8) (root_page g) (root_faults g N) the_root (map_pages m) 0 some (map_sound g vs h m c)) λ t _.
        alike refuses_ok

    -- any fuel above N gives the same answer, refusals too
    pub scan_fuel : scan_with g vs fuel ≡ scan g vs
    unfolding scan
    scan_fuel = scan_alike.same

-- ---- what the check's refusals tell
module _ (g : Geometry) (vs : Views) (some : 0 < g.pages) where
  pub scan_faults : Refuses 2 12 g.pages (scan g vs)
  unfolding scan
  scan_faults = (scan_alike g vs (suc g.pages) (omega arith) some).refuses

  head_short : (b : List ℕ) (h : Head) → head_of g b ≡ ok h → length h.field ≤ 4
  unfolding head_of
  head_short b h q =
      on_refuse _ _ _ _ _ q λ _ q. on_refuse _ _ _ _ _ q λ _ q. on_refuse _ _ _ _ _ q λ _ q. on_refuse _ _ _ _ _ q λ _ q. on_refuse _ _ _ _ _ q λ _ q. on_refuse _ _ _ _ _ q λ _ q.
      subst (λ (h : Head). length h.field ≤ 4) (ok_inj q) (simp length-take (omega arith))

  map_short : (h : Head) (m : Map) → length h.field ≤ 4 → judge_map g vs (suc g.pages) h ≡ ok m → 8 * length (raw_bits h m) ≤ g.pages + 32
  unfolding judge_map judge_map_file bitmap_size
  map_short h m k q = on_choose _ _ _ _ q
      (λ _ q. subst (λ (m : Map). 8 * length (raw_bits h m) ≤ g.pages + 32) (ok_inj q) (omega (arith, k)))
      (λ _ q. on_refuse _ _ _ _ _ q λ g₁ q. on_then _ _ _ q λ ls w q. on_refuse _ _ _ _ _ q λ g₂ q. on_refuse _ _ _ _ _ q λ g₃ q.
      subst (λ (m : Map). 8 * length (raw_bits h m) ≤ g.pages + 32) (ok_inj q) (omega (arith, eqb-true (length (content ls)) (bitmap_size g) g₃)))

  -- a bitmap has a bit for every page, and no more than 32 others
  pub raw_short : (s : Scan) → scan g vs ≡ ok s → 8 * length s.raw ≤ g.pages + 32
  unfolding scan scan_with
  raw_short s q = on_then _ _ _ q λ x a q. on_then _ _ _ q λ h b q. on_then _ _ _ q λ m c q. on_then _ _ _ q λ t d q.
      subst (λ (s : Scan). 8 * length s.raw ≤ g.pages + 32) (ok_inj q) (map_short h m (head_short x.bytes h b) c)

  bits_faults : (raw used : List ℕ) → 8 * length raw ≤ g.pages + 32 → Refuses 2 13 (g.pages + 33) (judge_bits raw used)
  unfolding judge_bits
  bits_faults raw used h = refuses_unless _ 13 _ tt (omega (arith, (lowest raw used 0 (8 * length raw)).high, h))

  -- 13 tells a bit of the bitmap, which may lie past the last page
  pub check_faults : Refuses 2 13 (g.pages + 33) (check g vs)
  unfolding check
  check_faults =
      refuses_then _ _ (refuses_within 2 13 (g.pages + 33) (omega arith) (omega arith) (omega arith) scan_faults) λ s e.
      refuses_then _ _ (bits_faults s.raw _ (raw_short s e)) λ _ _. refuses_ok
