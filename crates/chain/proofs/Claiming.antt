-- A chain claimed page by page: whatever answers what is left of the walk answers the whole.
use mathlib.Core.Path.{◌≡◌, refl, ap, ap₂, sym, ◌∙◌}
use mathlib.Core.Bool.{Bool, true, false, not}
use mathlib.Core.List.{List, [], ◌∷◌, ◌++◌, append-nil}
use Prim.Native.Nat.{ℕ, suc, ◌+◌, ◌-◌, ◌*◌, ◌≤◌, ◌<◌}
use native.Mathlib.Omega.{arith}
use lib.Dec.{eqb}
use lib.ListN.{length, set, length-append}
use borrow.Author.Tests.{ltb-true, lt-ltb, eq-eqb, ne_eqb}
use Rattle.std.specs.Prelude.{Result, Ok, Err}
use Rattle.refusals.specs.declared.Refusal.{Refusal}
use Rattle.refusals.specs.declared.Fault.TheVariants.{Crossed}
use Rattle.geometry.specs.declared.Geometry.{Geometry}
use Rattle.geometry.specs.Choose.{choose}
use Rattle.geometry.specs.ChooseLaws.{choose_true, choose_false}
use Rattle.geometry.specs.Geometry.{Fit}
use Rattle.geometry.specs.Page.{page_of}
use Rattle.geometry.specs.PageLaws.{page_length}
use Rattle.packet.specs.Packet.{View, view_of}
use Rattle.packet.specs.Reading.{right_packet}
use Rattle.rules.specs.Result.{Res, ok, err, and_then, refuse_unless}
use Rattle.rules.specs.Answers.{refused}
use Rattle.rules.proofs.ResultLaws.{ok_inj, then_ok, then_err, refuse_true, refuse_false, on_then, on_refuse}
use Rattle.rules.specs.PageSets.{mem}
use Rattle.rules.proofs.PageSetLaws.{within_length, free_true, mem_true}
use Rattle.rules.specs.Chain.{Link, link, content, Body, Test, walk}
use Rattle.rules.proofs.ChainLaws.{packet_inv}
use Rattle.rules.specs.Owners.{OwnerRecord, held}
use Rattle.owners.specs.Owned.{owner_at, Represents}
use Rattle.owners.specs.OwnerLaws.{nonzero_pos, owner_inside, represents_within, represents_set, represents_length, free_represents, taken, in_use, in_use_room}
use Rattle.chain.specs.declared.Cursor.{Cursor}
use Rattle.chain.specs.declared.Claim.{Claim}
use Rattle.chain.specs.Steps.{first_step, after}
use Rattle.chain.specs.Claims.{enter_of, entered, Agrees}

-- ---- a page entered
refused_is : (c : Cursor) (r : Res Body) (n p : ℕ) → err n p ≡ entered c r → r ≡ err n p
refused_is c (ok x) n p e = absurd (let z : ◌≡◌ {A = ℕ} 0 1 = cc in omega arith)
refused_is c (err m q) n p e = let i : m ≡ n = cc in let j : q ≡ p = cc in ap₂ err i j

on_is : (c d : Cursor) (r : Res Body) → ok d ≡ entered c r → (x : Body) × (r ≡ ok x) × (d ≡ after c (length x.bytes) x.next)
on_is c d (ok x) e = (x, refl, cc)
on_is c d (err m q) e = absurd (let z : ◌≡◌ {A = ℕ} 0 1 = cc in omega arith)

-- the crossing test may come before the page's number
reorder : {B : Type 0} (t s : Bool) (n p m q : ℕ) (r : Res Body) (f : Body → Res (Unit {0})) (k : Body → Res B) → s ≡ true
    → and_then (refuse_unless t n p) (λ _. and_then (refuse_unless s m q) (λ _. and_then r (λ x. and_then (f x) (λ _. k x))))
    ≡ and_then (and_then (refuse_unless t n p) (λ _. and_then r (λ x. and_then (f x) (λ _. ok x)))) k
unfolding and_then refuse_unless
reorder false s n p m q r f k e = refl
reorder true false n p m q r f k e = absurd (mathlib.Core.Bool.false≢true e)
reorder true true n p m q (err a b) f k e = refl
reorder true true n p m q (ok x) f k e = go (f x)
  where
    go : (y : Res (Unit {0})) → and_then y (λ _. k x) ≡ and_then (and_then y (λ _. ok x)) k
    go (ok u) = refl
    go (err a b) = refl

module _ (g : Geometry) (v : View) (test : Test) where
  pub inside : (c d : Cursor) → ok d ≡ entered c (enter_of g v test c) → c.page < g.pages
  unfolding enter_of
  inside c d e = let k = on_is c d _ e in on_refuse _ _ _ _ _ k.1 λ q _. ltb-true c.page g.pages q

  pub counted_on : (c d : Cursor) → ok d ≡ entered c (enter_of g v test c) → d.count ≡ c.count + 1
  counted_on c d e = ap (λ (y : Cursor). y.count) (on_is c d (enter_of g v test c) e).2

  walk_enter : (fuel : ℕ) (claimed : List ℕ) (c : Cursor) → not (mem c.page claimed) ≡ true
      → walk g.pages v test (suc fuel) c.count claimed c.from c.page
      ≡ and_then (enter_of g v test c) (λ x. and_then (choose (eqb x.next 0) (ok []) (walk g.pages v test fuel (suc c.count) (c.page ∷ claimed) c.page x.next)) (λ ls. ok (link c.page x.bytes ∷ ls)))
  unfolding walk enter_of
  walk_enter fuel claimed c e = reorder _ _ _ _ _ _ _ _ _ e

  walk_crossed : (fuel : ℕ) (claimed : List ℕ) (i from p : ℕ) → p < g.pages → mem p claimed ≡ true → walk g.pages v test (suc fuel) i claimed from p ≡ err 7 p
  unfolding walk
  walk_crossed fuel claimed i from p h e = simp (lt-ltb p g.pages h, refuse_true, then_ok, e, refuse_false, then_err)

  module _ (owner from start : ℕ) where
    -- what holds before a page: the table t represents the claimed pages, and what answers the rest answers the whole
    pub record Held (t₀ : List OwnerRecord) (claimed₀ : List ℕ) (t : List OwnerRecord) (c : Cursor) : Type 0 where
      pub claimed : List ℕ
      pub fuel : ℕ
      pub represents : Represents t claimed
      pub left : fuel + c.count ≡ suc g.pages
      pub counted : length claimed ≡ c.count + length claimed₀
      pub small : c.bytes ≤ 256 * c.count
      pub same : (r : Result Claim Refusal) (u : List OwnerRecord) → Agrees c.count c.bytes owner t (walk g.pages v test fuel c.count claimed c.from c.page) r u
          → Agrees 0 0 owner t₀ (walk g.pages v test (suc g.pages) 0 claimed₀ from start) r u

    pub held_first : (t : List OwnerRecord) (claimed : List ℕ) (c : Cursor) → c ≡ first_step start from → Represents t claimed → Held t claimed t c
    held_first t claimed c e h = rw e (record { claimed = claimed; fuel = suc g.pages; represents = h; left = omega arith; counted = omega arith; small = omega arith; same = λ r u a. a })

    module _ {t₀ : List OwnerRecord} {claimed₀ : List ℕ} {t : List OwnerRecord} {c : Cursor} (H : Held t₀ claimed₀ t c) (l : length t ≡ g.pages) where
      open H use {claimed, fuel, represents, left, counted, small, same}

      -- a chain has at most N pages
      pub counts : c.count ≤ g.pages
      counts = omega (arith, within_length (length t) claimed (represents_within t claimed represents))

      one_left : (R : Res (List Link)) → walk g.pages v test (suc (g.pages - c.count)) c.count claimed c.from c.page ≡ R
          → walk g.pages v test fuel c.count claimed c.from c.page ≡ R
      one_left R e = let q : fuel ≡ suc (g.pages - c.count) = omega (arith, counts) in rw q e

      pub crossed : 0 < owner_at t c.page → Agrees 0 0 owner t₀ (walk g.pages v test (suc g.pages) 0 claimed₀ from start) (Err (record { 0 = Crossed; 1 = c.page })) t
      crossed z =
          let k = owner_inside t c.page z in
          let m = mem_true c.page claimed (omega (arith, represents c.page, nonzero_pos (owner_at t c.page) (omega arith))) in
          same (Err (record { 0 = Crossed; 1 = c.page })) t (one_left _ (walk_crossed (g.pages - c.count) claimed c.count c.from c.page (omega arith) m))

      module _ (z : owner_at t c.page ≡ 0) where
        clear : not (mem c.page claimed) ≡ true
        clear = free_true c.page claimed (free_represents t claimed c.page represents z)

        pub refused_too : (x : Refusal) → refused x ≡ entered c (enter_of g v test c) → Agrees 0 0 owner t₀ (walk g.pages v test (suc g.pages) 0 claimed₀ from start) (Err x) t
        refused_too x e =
            let q : enter_of g v test c ≡ refused x = refused_is c (enter_of g v test c) _ _ e in
            same (Err x) t (one_left _ (walk_enter (g.pages - c.count) claimed c clear ∙ simp (q, then_err)))

        module _ (d : Cursor) (e : ok d ≡ entered c (enter_of g v test c)) where
          x : Body
          x = (on_is c d (enter_of g v test c) e).0

          was : enter_of g v test c ≡ ok x
          unfolding x
          was = (on_is c d (enter_of g v test c) e).1

          is : d ≡ after c (length x.bytes) x.next
          unfolding x
          is = (on_is c d (enter_of g v test c) e).2

          next_page : d.page ≡ x.next
          next_page = ap (λ (y : Cursor). y.page) is

          pub last : d.page ≡ 0 → (u : List OwnerRecord) → u ≡ set t c.page (held owner c.count)
              → Agrees 0 0 owner t₀ (walk g.pages v test (suc g.pages) 0 claimed₀ from start) (Ok (record { pages = d.count; bytes = d.bytes })) u
          last y u w =
              let n : x.next ≡ 0 = sym next_page ∙ y in
              let k : d.count ≡ c.count + 1 = ap (λ (y : Cursor). y.count) is in
              let b : d.bytes ≡ c.bytes + length (x.bytes ++ []) = ap (λ (y : Cursor). y.bytes) is ∙ ap (λ (l : List ℕ). c.bytes + length l) (sym (append-nil x.bytes)) in
              same (Ok (record { pages = d.count; bytes = d.bytes })) u (
                link c.page x.bytes ∷ [],
                one_left _ (walk_enter (g.pages - c.count) claimed c clear ∙ simp (was, then_ok, eq-eqb x.next 0 n, choose_true)),
                k,
                b,
                w,
              )

          onward : (d.page ≡ 0 → ⊥) → (r : Result Claim Refusal) (u : List OwnerRecord)
              → Agrees (suc c.count) d.bytes owner (set t c.page (held owner c.count)) (walk g.pages v test (g.pages - c.count) (suc c.count) (c.page ∷ claimed) c.page x.next) r u
              → Agrees c.count c.bytes owner t (walk g.pages v test fuel c.count claimed c.from c.page) r u
          onward y (Ok z) u (ls, w, a, o, b) = (
            link c.page x.bytes ∷ ls,
            one_left _ (walk_enter (g.pages - c.count) claimed c clear ∙ simp (was, then_ok, ne_eqb x.next 0 (λ q. y (next_page ∙ q)), choose_false, w)),
            omega arith,
            omega (arith, ap (λ (y : Cursor). y.bytes) is, length-append x.bytes (content ls)),
            b,
          )
          onward y (Err z) u w =
              one_left _ (walk_enter (g.pages - c.count) claimed c clear ∙ simp (was, then_ok, ne_eqb x.next 0 (λ q. y (next_page ∙ q)), choose_false, w, then_err))

          pub again : (d.page ≡ 0 → ⊥) → 0 < owner → c.page < length t → d.bytes ≤ 256 * d.count → (u : List OwnerRecord) → u ≡ set t c.page (held owner c.count) → Held t₀ claimed₀ u d
          again y o h i u w =
              let k : d.count ≡ c.count + 1 = ap (λ (y : Cursor). y.count) is in
              let k' : d.count ≡ suc c.count = omega arith in
              let f : d.from ≡ c.page = ap (λ (y : Cursor). y.from) is in
              rw w (record {
                claimed = c.page ∷ claimed;
                fuel = g.pages - c.count;
                represents = represents_set t claimed c.page (held owner c.count) represents h z o;
                left = omega (arith, counts);
                counted = omega arith;
                small = i;
                same = λ r u a. same r u (onward y r u (rw (k', f, next_page) at a));
              })

      -- while a page is free, the owner fits
      pub leaves_room : claimed₀ ≡ taken t₀ → c.page < length t → owner_at t c.page ≡ 0 → in_use t₀ < g.pages
      leaves_room e h z = omega (arith, in_use_room t c.page h z, represents_length t claimed represents, ap length e)

-- the bytes passed stay within 256 a page
pub stays_small : (g : Geometry) (image : List ℕ) (test : Test) (c d : Cursor) → Fit g image → ok d ≡ entered c (enter_of g (view_of g image) test c) → c.bytes ≤ 256 * c.count → d.bytes ≤ 256 * d.count
unfolding enter_of view_of
stays_small g image test c d f e h =
    let k = on_is c d (enter_of g (view_of g image) test c) e in
    on_refuse _ _ _ _ _ k.1 λ q w. on_then _ _ _ w λ y a w. on_then _ _ _ w λ u t w.
    let i = ltb-true c.page g.pages q in
    let r = right_packet g.width c.page (page_of g c.page image) y.bytes y.next (packet_inv (view_of g image) c.page y a) in
    let s : y ≡ k.0 = ok_inj w in
    let l : length y.bytes ≡ length k.0.bytes = ap (λ (z : Body). length z.bytes) s in
    let b : d.bytes ≡ c.bytes + length k.0.bytes = ap (λ (z : Cursor). z.bytes) k.2 in
    let n : d.count ≡ c.count + 1 = ap (λ (z : Cursor). z.count) k.2 in
    omega (arith, r.room, page_length g image c.page f i, f.valid.most)
