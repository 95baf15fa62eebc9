-- A chain's bytes laid packet by packet: what is held and what is to come give the whole.
use Rattle.std.specs.Prelude.{Ok}
use mathlib.Core.Path.{◌≡◌, refl, ap, sym, ◌∙◌, subst}
use mathlib.Core.List.{List, [], ◌∷◌, ◌++◌, append-nil}
use Prim.Native.Nat.{ℕ, ◌+◌, ◌*◌, ◌≤◌, ◌<◌}
use native.Mathlib.Omega.{arith}
use lib.ListN.{length, take, drop, length-take}
use Rattle.geometry.specs.declared.Geometry.{Geometry}
use Rattle.geometry.specs.Geometry.{Fit, data_capacity}
use Rattle.geometry.specs.Page.{page_of}
use Rattle.packet.specs.Packet.{good, View, view_of, Write, write, write_page, after_writes}
use Rattle.packet.specs.Reading.{right_packet}
use Rattle.rules.specs.Chain.{Link, link, content, first, linked}
use Rattle.chain.specs.declared.Cursor.{Cursor}
use Rattle.chain.specs.Steps.{first_step, step_of}
use Rattle.chain.specs.KnownChain.{ChainAt}
use Rattle.chain.proofs.Following.{Following, follow, Passed, passes_data, all_passed, follow_on}
use Rattle.editing_theorems.specs.Capacity.{capacity_is}
use Rattle.gathering.specs.Gather.{file_size, file_chain}
use Rattle.gathering.proofs.GatherPass.{chain_last}
use Rattle.runs.specs.declared.Filling.{Filling}
use Rattle.runs.specs.Runs.{left_to_lay, page_after, Ready, Takes}

-- before a page of the chain is taken in
pub record Running (g : Geometry) (v : View) (to : ℕ) (second₀ : List ℕ) (ls : List Link) (second buffer : List ℕ) (f : Filling) (c : Cursor) : Type 0 where
  pub more : List Link
  pub following : Following g v (length ls) c more
  pub lays : left_to_lay g buffer f (content more) second ≡ after_writes g (linked (file_chain g to (content ls))) second₀
  pub ends : page_after g buffer f (content more) ≡ to + file_size g (content ls)

pub run_first : (g : Geometry) (v : View) (start to : ℕ) (second₀ buffer : List ℕ) (c : Cursor) (ls : List Link) → c ≡ first_step start start → ChainAt g v start ls
    → Running g v to second₀ ls second₀ buffer (record { held = 0; page = to }) c
run_first g v start to second₀ buffer c ls e d = record { more = ls; following = follow g v start c ls e d; lays = refl; ends = refl }

-- a packet's data fit a packet
packet_few : (g : Geometry) (image : List ℕ) → Fit g image → (p : ℕ) (b : List ℕ) (n : ℕ) → view_of g image p ≡ good b n → length b ≤ data_capacity g
unfolding view_of page_of
packet_few g image f p b n e =
    let r = right_packet g.width p (take g.size (drop (p * g.size) image)) b n e in
    omega (arith, r.room, length-take g.size (drop (p * g.size) image), capacity_is g)

module _ (g : Geometry) (image : List ℕ) (fit : Fit g image) (to : ℕ) (second₀ : List ℕ) (ls : List Link) (second buffer : List ℕ) (f : Filling) (c : Cursor)
    (R : Running g (view_of g image) to second₀ ls second buffer f c) (size : ℕ) (d : Cursor) (o : Ok (size, d) ≡ step_of g (view_of g image) c)
    (page : List ℕ) (e : page ≡ page_of g c.page image) (bytes : List ℕ) (i : bytes ≡ take size (drop 1 page)) where
  passed : Passed c d R.more bytes
  passed = passes_data g image fit (length ls) c R.more R.following size d o page e bytes i

  few : length bytes ≤ data_capacity g
  few = go R.more R.following.chain passed.split
    where
      go : (more : List Link) → ChainAt g (view_of g image) c.page more → more ≡ link passed.number bytes ∷ passed.others → length bytes ≤ data_capacity g
      go more h q = let h' = subst (ChainAt g (view_of g image) c.page) q h in packet_few g image fit passed.number bytes (first passed.others) h'.packets.0

  pub ready : (capacity : ℕ) → capacity ≡ data_capacity g → length buffer ≡ 256 → f.held ≤ capacity → to + file_size g (content ls) ≤ g.pages → Ready g capacity buffer f bytes
  ready capacity k l h r =
      let v = fit.valid in
      record {
        is = k;
        most = omega (arith, k, capacity_is g, v.most, v.one);
        room = omega (arith, k, capacity_is g, v.least, v.two);
        long = l;
        held = h;
        few = omega (arith, few, k);
        low = omega (arith, R.ends, v.few);
        spills = λ z. omega (arith, R.ends);
      }

  module _ (buffer' : List ℕ) (f' : Filling) (second' : List ℕ) (T : Takes g buffer f bytes second buffer' f' second') where
    rest_is : content R.more ≡ bytes ++ content passed.others
    rest_is = ap content passed.split

    lays_on : left_to_lay g buffer' f' (content passed.others) second' ≡ after_writes g (linked (file_chain g to (content ls))) second₀
    lays_on = T.lays (content passed.others) ∙ ap (λ (l : List ℕ). left_to_lay g buffer f l second) (sym rest_is) ∙ R.lays

    ends_on : page_after g buffer' f' (content passed.others) ≡ to + file_size g (content ls)
    ends_on = T.ends (content passed.others) ∙ ap (page_after g buffer f) (sym rest_is) ∙ R.ends

    pub run_on : (d.page ≡ 0 → ⊥) → length ls ≤ g.pages → Running g (view_of g image) to second₀ ls second' buffer' f' d
    run_on z u = record { more = passed.others; following = follow_on g image fit (length ls) c R.more R.following d bytes passed z u; lays = lays_on; ends = ends_on }

    pub page_left : to + file_size g (content ls) ≤ g.pages → f'.page < g.pages
    page_left r = omega (arith, ends_on)

    pub last_room : length (take f'.held buffer') + g.width + 3 ≤ g.size
    last_room = omega (arith, length-take f'.held buffer', T.held, capacity_is g, fit.valid.least, fit.valid.two)

    pub lays_all : d.page ≡ 0 → (after : List ℕ) → after ≡ write_page g (write f'.page (take f'.held buffer') 0) second'
        → (after ≡ after_writes g (linked (file_chain g to (content ls))) second₀) × (f'.page + 1 ≡ to + file_size g (content ls))
    unfolding after_writes
    lays_all z after w =
        let x = take f'.held buffer' in
        let n : content passed.others ≡ [] = ap content (all_passed g image fit (length ls) c R.more R.following d bytes passed z) in
        let y : x ++ content passed.others ≡ x = ap (λ (l : List ℕ). x ++ l) n ∙ append-nil x in
        let h : length x ≤ data_capacity g = omega (arith, length-take f'.held buffer', T.held) in
        let k : linked (file_chain g f'.page (x ++ content passed.others)) ≡ write f'.page x 0 ∷ [] = ap (λ (l : List ℕ). linked (file_chain g f'.page l)) y ∙ chain_last g fit.valid f'.page x h in
        (w ∙ ap (λ (ws : List Write). after_writes g ws second') (sym k) ∙ lays_on, omega (arith, ends_on, ap (file_size g) y, one x h))
      where
        one : (x : List ℕ) → length x ≤ data_capacity g → file_size g x ≡ 1
        one x h = Rattle.gathering.proofs.GatherPass.size_last g fit.valid x h
