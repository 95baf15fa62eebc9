-- A dump's header, and the check of its image.
use Rattle.std.specs.Prelude.{Result, Ok, Err, Some, None}
use mathlib.Core.Path.{◌≡◌, refl, ap, sym, ◌∙◌, subst}
use mathlib.Core.Bool.{Bool, true, false}
use mathlib.Core.List.{List}
use Prim.Native.Nat.{ℕ, ◌-◌, ◌≤◌, ◌*◌}
use native.Mathlib.Omega.{arith}
use lib.ListN.{length, take, drop, length-drop}
use lib.Seq.{take_all}
use borrow.Author.Tests.{le-leb, leb-true, leb-false}
use lib.Dec.{leb}
use Rattle.std.specs.Bool.{then_some}
use Rattle.rules.specs.Owners.{OwnerRecord}
use Rattle.geometry.specs.declared.Geometry.{Geometry}
use Rattle.geometry.specs.Choose.{choose}
use Rattle.geometry.specs.ChooseLaws.{choose_true, choose_false, on_choose}
use Rattle.geometry.specs.Geometry.{geometry_of, Fit}
use Rattle.geometry.specs.ShapeLaws.{sized_of}
use Rattle.rules.specs.declared.Totals.{Totals}
use Rattle.refusals.specs.declared.Refusal.{Refusal}
use Rattle.rules.specs.Answers.{refused}
use Rattle.rules.specs.Result.{Res, err}
use Rattle.rules.specs.Tree.{Image}
use Rattle.rules.specs.Chain.{views_of}
use Rattle.rules.specs.ListText.{dump_offset, dump_right}
use Rattle.volume.specs.Scans.{TableChecked}
use Rattle.dump.specs.Prints.{place_of, Checks}
use Rattle.dump.specs.DumpLaws.{Right, right_sizes}

-- ---- the header
pub place_invalid : (dump : List ℕ) → (Right dump (dump_offset dump) → ⊥) → None ≡ place_of dump
unfolding place_of
place_invalid dump k = go (dump_right dump) refl
  where
    go : (t : Bool) → dump_right dump ≡ t → None ≡ choose t (Some (dump_offset dump)) None
    go true e = absurd (k (right_sizes dump e))
    go false e = sym (choose_false _ _)

pub place_right : (dump : List ℕ) (offset : ℕ) → offset ≡ dump_offset dump → Right dump offset → Some offset ≡ place_of dump
unfolding place_of
place_right dump offset e r =
    let k : Right dump (dump_offset dump) = subst (Right dump) e r in
    ap Some e ∙ sym (simp (le-leb _ _ k.header, le-leb _ _ k.least, le-leb _ _ k.most, le-leb _ _ k.inside, le-leb _ _ k.short, choose_true))

-- with the other four bounds met, the last one decides
pub place_judged : (dump : List ℕ) (offset size : ℕ) → offset ≡ dump_offset dump → 8 ≤ length dump → (8 ≤ offset) × (offset ≤ 32768) → offset ≤ length dump → size ≡ length dump - offset
    → then_some (leb size 32768) offset ≡ place_of dump
place_judged dump offset size e h b i s = go (leb size 32768) refl
  where
    go : (t : Bool) → leb size 32768 ≡ t → then_some t offset ≡ place_of dump
    go true k = place_right dump offset e (record { header = h; least = b.0; most = b.1; inside = i; short = let l = leb-true size 32768 k in omega arith })
    go false k = place_invalid dump (λ r. let l = leb-false size 32768 k in omega (arith, r.short))

-- and what its answers say
pub malformed : (dump : List ℕ) → None ≡ place_of dump → dump_right dump ≡ false
unfolding place_of
malformed dump e = on_choose _ _ _ _ (sym e) (λ t q. absurd (let z : ◌≡◌ {A = ℕ} 0 1 = cc in omega arith)) (λ t q. t)

pub well_placed : (dump : List ℕ) (offset : ℕ) → Some offset ≡ place_of dump → (dump_right dump ≡ true) × (offset ≡ dump_offset dump)
unfolding place_of
well_placed dump offset e = on_choose _ _ _ _ (sym e) (λ t q. (t, sym cc)) (λ t q. absurd (let z : ◌≡◌ {A = ℕ} 0 1 = cc in omega arith))

pub well_sized : (dump : List ℕ) (offset : ℕ) → Some offset ≡ place_of dump → Right dump offset
well_sized dump offset e = let k = well_placed dump offset e in subst (Right dump) (sym k.1) (right_sizes dump k.0)

-- the image ends the dump
pub image_is : (dump : List ℕ) (offset : ℕ) → Some offset ≡ place_of dump → take (length dump - offset) (drop offset dump) ≡ drop (dump_offset dump) dump
image_is dump offset e =
    let k = well_placed dump offset e in
    take_all (length dump - offset) (drop offset dump) (omega (arith, length-drop offset dump)) ∙ ap (λ (o : ℕ). drop o dump) k.1

-- ---- the check
pub checks_invalid : (P N : ℕ) (image : List ℕ) (y : Refusal) → geometry_of P N (length image) 262140 ≡ None → ◌≡◌ {A = Res Image} (refused y) (err 1 0) → Checks P N image (Err y)
checks_invalid P N image y e q = rw e (sym q)

module _ (P N : ℕ) (image : List ℕ) (g : Geometry) (e : geometry_of P N (length image) 262140 ≡ Some g) where
  pub fits : Fit g image
  fits = let z = sized_of P N (length image) 262140 g e in record { valid = z.valid; whole = z.whole }

  pub room : 4 * g.pages ≤ 262140
  room = (sized_of P N (length image) 262140 g e).room

  module _ (r : Result Totals Refusal) (u : List OwnerRecord) (k : TableChecked g (views_of g image) r u) where
    pub checks_refused : (y : Refusal) → r ≡ Err y → Checks P N image (Err y)
    checks_refused y i = let a : TableChecked g (views_of g image) (Err y) u = subst (λ (x : Result Totals Refusal). TableChecked g (views_of g image) x u) i k in rw e a.0

    pub checks_done : (t : Totals) → r ≡ Ok t → Checks P N image (Ok (g, t))
    checks_done t i =
        let a : TableChecked g (views_of g image) (Ok t) u = subst (λ (x : Result Totals Refusal). TableChecked g (views_of g image) x u) i k in
        (e, record { fit = fits; tree = a.0; accepted = a.1; counted = a.2 })
