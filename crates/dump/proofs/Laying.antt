-- The text laid into an output, line by line; and the whole call.
use mathlib.Core.Path.{◌≡◌, refl, ap, ap₂, sym, ◌∙◌, subst}
use mathlib.Core.Bool.{true, false}
use mathlib.Core.List.{List, ◌++◌}
use Prim.Native.Nat.{ℕ, ◌+◌, ◌^◌, ◌≤◌, ◌<◌}
use native.Mathlib.Omega.{arith}
use lib.ListN.{length, take, drop, length-take}
use borrow.Author.Tests.{le-leb, lt-leb}
use Rattle.geometry.specs.declared.Geometry.{Geometry}
use Rattle.geometry.specs.Geometry.{Valid, geometry_of}
use Rattle.rules.specs.declared.Totals.{Totals}
use Rattle.rules.specs.declared.Line.{Line}
use Rattle.rules.specs.Result.{Res, ok, err, and_then, refuse_unless}
use Rattle.rules.proofs.ResultLaws.{then_ok, then_err}
use Rattle.refusals.specs.declared.Refusal.{Refusal}
use Rattle.refusals.specs.declared.Fault.TheVariants as fault
use Rattle.rules.specs.Answers.{refused}
use Rattle.rules.specs.Chain.{views_of}
use Rattle.rules.specs.Tree.{Image}
use Rattle.rules.specs.Check.{check}
use Rattle.rules.specs.Owners.{totals}
use Rattle.rules.specs.Calls.{in_geometry}
use Rattle.rules.specs.Listing.{lines_of, line_at}
use Rattle.rules.specs.ListText.{dump_size, dump_pages, dump_offset, dump_right, dump_text, totals_text, line_text, lines_text, refusal_text, list_text, text_call}
use Rattle.listing.specs.KnownTree.{HasImage, Tells, LooksImage}
use Rattle.text.specs.Placed.{placed, Written}
use Rattle.text.specs.PlacedLaws.{placed_none, placed_whole}
use Rattle.text.proofs.Steps.{nothing, and_then_lem}
use Rattle.std.specs.Prelude.{Option, None, Some, Ok, Err}
use Rattle.dump.specs.PrintResult.{print_result}
use Rattle.dump.specs.Prints.{Answer, lines_in, AcceptedWith, IsChecked, Checks, answer_text, Prints}
use Rattle.dump.specs.LineLaws.{lines_are, lines_few, line_below, line_next, lines_end, lines_short}
use Rattle.dump.specs.DumpLaws.{listed_invalid, listed_right}

-- ---- the lines
-- k lines laid from a position on
pub record Laid (g : Geometry) (image : List ℕ) (at : ℕ) (before : List ℕ) (k next : ℕ) (after : List ℕ) : Type 0 where
  pub within : k ≤ length (lines_in g image)
  pub written : Written at (lines_text (take k (lines_in g image))) before next after

pub laid_none : (g : Geometry) (image : List ℕ) (at : ℕ) (o : List ℕ) → Laid g image at o 0 at o
laid_none g image at o = record { within = omega arith; written = nothing }

module _ {g : Geometry} {image : List ℕ} {at k m : ℕ} {o p : List ℕ} (l : Laid g image at o k m p) where
  pub laid_few : Valid g → k ≤ 65535
  laid_few v = omega (arith, l.within, lines_few g image, v.few)

  pub laid_room : Valid g → at ≤ 200 → m + 100 ≤ 2 ^ 40
  laid_room v h = omega (arith, l.written.position, lines_short (take k (lines_in g image)), length-take k (lines_in g image), laid_few v, h)

  module _ (a : HasImage g (views_of g image)) (r : Option Line) (h : LooksImage g (views_of g image) k r) where
    tells : Tells k (lines_in g image) r
    tells = subst (λ (xs : List Line). Tells k xs r) (sym (lines_are g image a.image a.accepted)) (h a.image a.accepted)

    found : (x : Line) → r ≡ Some x → line_at k (lines_in g image) ≡ ok x
    found x e = subst (Tells k (lines_in g image)) e tells

    pub laid_less : (x : Line) → r ≡ Some x → k < length (lines_in g image)
    laid_less x e = line_below k (lines_in g image) x (found x e)

    pub laid_more : (x : Line) (n : ℕ) (q : List ℕ) → r ≡ Some x → Written m (line_text x) p n q → Laid g image at o (k + 1) n q
    laid_more x n q e w = record { within = omega (arith, laid_less x e); written = rw (line_next k (lines_in g image) x (found x e)) (and_then_lem l.written w) }

    pub laid_end : ((x : Line) → r ≡ Some x → ⊥) → Written at (lines_text (lines_in g image)) o m p
    laid_end f = go r refl
      where
        go : (s : Option Line) → r ≡ s → Written at (lines_text (lines_in g image)) o m p
        go (Some x) e = absurd (f x e)
        go None e = subst (λ (xs : List Line). Written at (lines_text xs) o m p) (lines_end k (lines_in g image) (subst (Tells k (lines_in g image)) e tells)) l.written

-- ---- the whole text
pub text_refused : (image : List ℕ) (a : Answer) (y : Refusal) (r : ℕ) (o q : List ℕ) → a ≡ Err y → Written 0 (refusal_text (refused y)) o r q → Written 0 (answer_text image a) o r q
unfolding answer_text
text_refused image a y r o q e w = rw e w

pub text_done : (image : List ℕ) (a : Answer) (g : Geometry) (t : Totals) (m r : ℕ) (o p q : List ℕ) → a ≡ Ok (g, t) → Written 0 (totals_text g t) o m p
    → Written m (lines_text (lines_in g image)) p r q → Written 0 (answer_text image a) o r q
unfolding answer_text
text_done image a g t m r o p q e v w = rw e (and_then_lem v w)

pub known : (image : List ℕ) (a : Answer) (g : Geometry) (t : Totals) → IsChecked image a → a ≡ Ok (g, t) → AcceptedWith g image t
known image a g t h e = subst (IsChecked image) e h

pub accepted : (g : Geometry) (image : List ℕ) (t : Totals) → AcceptedWith g image t → HasImage g (views_of g image)
accepted g image t h = record { image = h.tree; accepted = h.accepted }

-- ---- the call
-- counted in no output, a text leaves it as it is
counted : (text out part : List ℕ) (n : ℕ) → Written 0 text (take 0 out) n part → part ++ drop 0 out ≡ out
counted text out part n w = ap (λ (l : List ℕ). l ++ out) (w.output ∙ placed_none 0 text)

pub prints_short : (text out : List ℕ) (n : ℕ) (part : List ℕ) → Written 0 text (take 0 out) n part → length (part ++ drop 0 out) < n → Prints text out None (part ++ drop 0 out)
prints_short text out n part w h = (omega (arith, w.position, h, ap length (counted text out part n w)), counted text out part n w)

pub prints_whole : (text out : List ℕ) (n m : ℕ) (part after : List ℕ) → Written 0 text (take 0 out) n part → n ≤ length (part ++ drop 0 out) → Written 0 text (part ++ drop 0 out) m after → Prints text out (Some n) after
prints_whole text out n m part after w h v =
    let k : length text ≤ length out = omega (arith, w.position, h, ap length (counted text out part n w)) in
    (omega (arith, w.position), k, v.output ∙ ap (placed 0 text) (counted text out part n w) ∙ placed_whole text out k)

-- by the rule
pub called : (dump text out : List ℕ) (r : Option ℕ) (after : List ℕ) → text ≡ list_text dump → Prints text out r after → (print_result r, after) ≡ text_call dump out
unfolding text_call and_then refuse_unless
called dump text out (Some n) after e h = rw (← e, le-leb (length text) (length out) h.1) (ap₂ (λ (x : ℕ) (l : List ℕ). (ok x, l)) h.0 h.2)
called dump text out None after e h = rw (← e, lt-leb (length text) (length out) h.0) (ap (λ (l : List ℕ). (err 18 0, l)) h.1)

-- ---- the text of an answer is that of the dump
pub listed_malformed : (dump : List ℕ) → dump_right dump ≡ false → answer_text dump (Err (record { 0 = fault.Dump; 1 = 0 })) ≡ list_text dump
unfolding answer_text
listed_malformed dump e = sym (listed_invalid dump e)

fails : (s : Option Geometry) (c : Geometry → Res Image) (f : Geometry → Image → Res (List ℕ)) (n p : ℕ) → in_geometry s (err 1 0) c ≡ err n p → in_geometry s (err 1 0) (λ g. and_then (c g) (f g)) ≡ err n p
fails None c f n p e = cc
fails (Some g) c f n p e = rw e (then_err n p (f g))

answered : (dump image : List ℕ) (a : Answer) → Checks (dump_size dump) (dump_pages dump) image a → answer_text image a ≡ refusal_text (dump_text dump image)
unfolding answer_text dump_text refusal_text
answered dump image (Err y) k =
    ap refusal_text (sym (fails (geometry_of (dump_size dump) (dump_pages dump) (length image) 262140) (λ g. check g (views_of g image)) (λ g i. ok (totals_text g (totals i) ++ lines_text (lines_of 0 i.tree))) _ _ k))
answered dump image (Ok (g, t)) k =
    let a = k.1 in
    rw (k.0, a.accepted, then_ok a.tree (λ i. ok (totals_text g (totals i) ++ lines_text (lines_of 0 i.tree))))
    (ap₂ (λ (x : Totals) (xs : List Line). totals_text g x ++ lines_text xs) a.counted (lines_are g image a.tree a.accepted))

pub listed : (dump image : List ℕ) (P N : ℕ) (a : Answer) → dump_right dump ≡ true → image ≡ drop (dump_offset dump) dump → P ≡ dump_size dump → N ≡ dump_pages dump → Checks P N image a
    → answer_text image a ≡ list_text dump
listed dump image P N a t e f h k =
    let c : Checks (dump_size dump) (dump_pages dump) image a = subst (λ (y : ℕ). Checks (dump_size dump) y image a) h (subst (λ (x : ℕ). Checks x N image a) f k) in
    answered dump image a c ∙ ap (λ (l : List ℕ). refusal_text (dump_text dump l)) e ∙ sym (listed_right dump t)

pub checks_known : (P N : ℕ) (image : List ℕ) (a : Answer) → Checks P N image a → IsChecked image a
checks_known P N image (Err y) k = tt
checks_known P N image (Ok (g, t)) k = k.1
