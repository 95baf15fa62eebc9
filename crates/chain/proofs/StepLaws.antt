-- A step and a page entered, case by case, as the code meets them.
use mathlib.Core.Path.{◌≡◌, refl, ap, ap₂, sym, ◌∙◌, subst}
use mathlib.Core.Bool.{true}
use mathlib.Core.List.{List}
use Prim.Native.Nat.{ℕ, ◌+◌, ◌≤◌, ◌<◌}
use native.Mathlib.Omega.{arith}
use lib.Dec.{ltb}
use lib.ListN.{length, take, drop}
use borrow.Author.Tests.{lt-ltb, le-ltb, ltb-true}
use Rattle.std.specs.Prelude.{Result, Ok, Err, Option, Some, None}
use Rattle.std.specs.Option.{IsSome}
use Rattle.refusals.specs.declared.Refusal.{Refusal}
use Rattle.refusals.specs.declared.Fault.TheVariants.{Packet as BadPacket, PageNumber}
use Rattle.geometry.specs.declared.Geometry.{Geometry}
use Rattle.geometry.specs.ChooseLaws.{choose_true, choose_false, on_choose}
use Rattle.geometry.specs.Geometry.{Fit}
use Rattle.geometry.specs.Page.{page_of}
use Rattle.geometry.specs.PageLaws.{page_length}
use Rattle.packet.specs.declared.Whole.{Whole}
use Rattle.packet.specs.Judged.{frame_of, whole, judged}
use Rattle.packet.specs.Packet.{Packet, bad, good, View, packet_of, view_of}
use Rattle.packet.specs.Reading.{Right, right_packet, frame_right}
use Rattle.rules.specs.Result.{ok, err, and_then, refuse_unless}
use Rattle.rules.proofs.ResultLaws.{then_ok, then_err, refuse_true, refuse_false}
use Rattle.rules.specs.Chain.{packet_at, Test}
use Rattle.rules.proofs.ChainLaws.{packet_good}
use Rattle.rules.specs.Answers.{refused, answer_of}
use Rattle.chain.specs.declared.Cursor.{Cursor}
use Rattle.chain.specs.Steps.{after, passed, step_of}
use Rattle.chain.specs.Claims.{IsGood, enter_of, entered}

-- ---- a step
judged_bad : (k : Packet) → judged k ≡ None → k ≡ bad
judged_bad bad e = refl
judged_bad (good b n) e = absurd (let z : ◌≡◌ {A = ℕ} 0 1 = cc in omega arith)

judged_whole : (k : Packet) (x : Whole) → judged k ≡ Some x → (b : List ℕ) × (k ≡ good b x.next) × (length b ≡ x.length)
judged_whole bad x e = absurd (let z : ◌≡◌ {A = ℕ} 0 1 = cc in omega arith)
judged_whole (good b n) x e = let i : whole (length b) n ≡ Some x = e in let j : record { length = length b; next = n } ≡ x = cc in (b, ap (λ (y : Whole). good b y.next) j, ap (λ (y : Whole). y.length) j)

module _ (g : Geometry) (v : View) (c : Cursor) where
  pub step_far : g.pages ≤ c.page → Err (record { 0 = PageNumber; 1 = c.from }) ≡ step_of g v c
  unfolding step_of
  step_far h = simp (step_of, le-ltb c.page g.pages h, choose_false)

  module _ (h : c.page < g.pages) where
    step_bad' : v c.page ≡ bad → Err (record { 0 = BadPacket; 1 = c.page }) ≡ step_of g v c
    unfolding step_of
    step_bad' e = simp (step_of, lt-ltb c.page g.pages h, choose_true, e)

    step_page' : (b : List ℕ) (n : ℕ) → v c.page ≡ good b n → Ok (length b, after c (length b) n) ≡ step_of g v c
    unfolding step_of
    step_page' b n e = simp (step_of, lt-ltb c.page g.pages h, choose_true, e)

-- the page as the code cuts and judges it
module _ (g : Geometry) (image : List ℕ) (p : ℕ) (page : List ℕ) (e : page ≡ page_of g p image) where
  pub judged_there : (r : Option Whole) → r ≡ judged (packet_of g.width p page) → r ≡ judged (view_of g image p)
  unfolding view_of
  judged_there r q = q ∙ ap (λ (l : List ℕ). judged (packet_of g.width p l)) e

  framed_case : (k : Packet) → view_of g image p ≡ k → IsGood k → frame_of g.width page ≡ view_of g image p
  unfolding view_of
  framed_case bad q h = absurd h
  framed_case (good b n) q h = frame_right g.width p page b n (ap (packet_of g.width p) e ∙ q) ∙ sym q

  pub framed_there : (r : Option Whole) → r ≡ judged (frame_of g.width page) → IsGood (view_of g image p) → r ≡ judged (view_of g image p)
  framed_there r q h = q ∙ ap judged (framed_case (view_of g image p) refl h)

module _ (g : Geometry) (v : View) (c : Cursor) (h : c.page < g.pages) (r : Option Whole) (q : r ≡ judged (v c.page)) where
  pub step_bad : r ≡ None → Err (record { 0 = BadPacket; 1 = c.page }) ≡ step_of g v c
  step_bad z = step_bad' g v c h (judged_bad _ (sym q ∙ z))

  pub step_page : (x : Whole) → r ≡ Some x → (d : Cursor) → d ≡ after c x.length x.next → Ok (x.length, d) ≡ step_of g v c
  step_page x z d e =
      let k = judged_whole (v c.page) x (sym q ∙ z) in
      ap (λ (y : Cursor). Ok (x.length, y)) e ∙ subst (λ (l : ℕ). Ok (l, after c l x.next) ≡ step_of g v c) k.2 (step_page' g v c h k.0 x.next k.1)

-- a right packet is told
pub is_told : (k : Packet) → IsGood k → (r : Option Whole) → r ≡ judged k → IsSome r
is_told bad h r q = absurd h
is_told (good b n) h r q = rw q refl

-- a packet's data are fewer than 256 bytes
pub data_small : (g : Geometry) (image : List ℕ) (p : ℕ) → Fit g image → p < g.pages → (r : Option Whole) → r ≡ judged (view_of g image p) → (x : Whole) → r ≡ Some x → x.length < 256
unfolding view_of
data_small g image p f h r q x z =
    let k = judged_whole (view_of g image p) x (sym q ∙ z) in
    let y = right_packet g.width p (page_of g p image) k.0 x.next k.1 in
    omega (arith, y.room, k.2, page_length g image p f h, f.valid.most)

-- ---- what a step that was taken says
pub record Taken (g : Geometry) (v : View) (c : Cursor) (size : ℕ) (d : Cursor) : Type 0 where
  pub inside : c.page < g.pages
  pub bytes : List ℕ
  pub shows : v c.page ≡ good bytes d.page
  pub long : length bytes ≡ size
  pub is : d ≡ after c size d.page

module _ (g : Geometry) (v : View) (c : Cursor) where
  pub taken : (size : ℕ) (d : Cursor) → Ok (size, d) ≡ step_of g v c → Taken g v c size d
  unfolding step_of
  taken size d e = on_choose (ltb c.page g.pages) (passed c (v c.page)) (Err (record { 0 = PageNumber; 1 = c.from })) (Ok (size, d)) (sym e)
      (λ q e. go (ltb-true c.page g.pages q) (v c.page) refl e)
      (λ q e. absurd (let z : ◌≡◌ {A = ℕ} 0 1 = cc in omega arith))
    where
      go : c.page < g.pages → (k : Packet) → v c.page ≡ k → passed c k ≡ Ok (size, d) → Taken g v c size d
      go h bad s e = absurd (let z : ◌≡◌ {A = ℕ} 0 1 = cc in omega arith)
      go h (good b n) s e =
          let q : (length b, after c (length b) n) ≡ (size, d) = cc in
          let i : after c (length b) n ≡ d = ap (λ (x : ℕ × Cursor). x.1) q in
          let j : n ≡ d.page = ap (λ (x : Cursor). x.page) i in
          let l : length b ≡ size = ap (λ (x : ℕ × Cursor). x.0) q in
          record { inside = h; bytes = b; shows = s ∙ ap (good b) j; long = l; is = sym i ∙ ap₂ (after c) l j }

  packet_bad : (p : ℕ) → v p ≡ bad → packet_at v p ≡ err 2 p
  unfolding packet_at
  packet_bad p e = rw e refl

  -- a step's refusal is the page's
  pub enter_refused : (test : Test) (r : Refusal) → Err r ≡ step_of g v c → refused r ≡ entered c (enter_of g v test c)
  unfolding step_of enter_of
  enter_refused test r e = on_choose (ltb c.page g.pages) (passed c (v c.page)) (Err (record { 0 = PageNumber; 1 = c.from })) (Err r) (sym e)
      (λ q e. go q (v c.page) refl e)
      (λ q e. let i : record { 0 = PageNumber; 1 = c.from } ≡ r = cc in simp (q, refuse_false, then_err) (ap (λ (x : Refusal). refused x) (sym i)))
    where
      go : ltb c.page g.pages ≡ true → (k : Packet) → v c.page ≡ k → passed c k ≡ Err r
          → refused r ≡ entered c (and_then (refuse_unless (ltb c.page g.pages) 6 c.from) (λ _. and_then (packet_at v c.page) (λ x. and_then (test c.count c.page x.bytes) (λ _. ok x))))
      go q bad s e = let i : record { 0 = BadPacket; 1 = c.page } ≡ r = cc in simp (q, refuse_true, then_ok, packet_bad c.page s, then_err) (ap (λ (x : Refusal). refused x) (sym i))
      go q (good b m) s e = absurd (let z : ◌≡◌ {A = ℕ} 0 1 = cc in omega arith)

  module _ (test : Test) (size : ℕ) (d : Cursor) (k : Taken g v c size d) where
    pub enter_fault : (x : Refusal) → refused x ≡ test c.count c.page k.bytes → refused x ≡ entered c (enter_of g v test c)
    unfolding enter_of
    enter_fault x e =
        simp (enter_of, lt-ltb c.page g.pages k.inside, refuse_true, then_ok, packet_good v c.page k.bytes d.page k.shows, ← e, then_err)

    pub enter_on : ok tt ≡ test c.count c.page k.bytes → ok d ≡ entered c (enter_of g v test c)
    unfolding enter_of
    enter_on e' =
        simp (enter_of, lt-ltb c.page g.pages k.inside, refuse_true, then_ok, packet_good v c.page k.bytes d.page k.shows, ← e') (ap (λ (x : Cursor). ok x) (k.is ∙ ap (λ (l : ℕ). after c l d.page) (sym k.long)))

-- a page entered, from what the code cuts and asks
module _ (g : Geometry) (image : List ℕ) (c : Cursor) (size : ℕ) (d : Cursor) (s : Ok (size, d) ≡ step_of g (view_of g image) c) (page : List ℕ) (e : page ≡ page_of g c.page image) where
  k : Taken g (view_of g image) c size d
  k = taken g (view_of g image) c size d s

  right : Right g.width page k.bytes d.page
  unfolding view_of
  right = right_packet g.width c.page page k.bytes d.page (ap (packet_of g.width c.page) e ∙ k.shows)

  pub reaches : size + 1 ≤ length page
  reaches = omega (arith, right.room, k.long)

  module _ (test : Test) (bytes : List ℕ) (b : bytes ≡ take size (drop 1 page)) (r : Result (Unit {0}) Refusal) (f : answer_of r ≡ test c.count c.page bytes) where
    told : answer_of r ≡ test c.count c.page k.bytes
    told =
        let q : bytes ≡ k.bytes = b ∙ sym (right.bytes_are ∙ ap (λ (l : ℕ). take l (drop 1 page)) k.long) in
        f ∙ ap (test c.count c.page) q

    pub entered_fault : (x : Refusal) → r ≡ Err x → refused x ≡ entered c (enter_of g (view_of g image) test c)
    entered_fault x z = enter_fault g (view_of g image) c test size d k x (ap answer_of (sym z) ∙ told)

    pub entered_on : (u : Unit {0}) → r ≡ Ok u → ok d ≡ entered c (enter_of g (view_of g image) test c)
    entered_on u z = enter_on g (view_of g image) c test size d k (ap answer_of (sym z) ∙ told)
