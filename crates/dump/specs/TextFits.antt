-- The text of a dump is at most 102,600 bytes long, since its image has at most 1,024 pages; and 65,537 bytes of a dump decide its text.
use Rattle.std.specs.Prelude.{Option, Some, None, ◌≡◌, refl, Bool, true, false, List, ◌++◌, ℕ, ◌*◌, ◌≤◌, length, take, drop}
use Rattle.std.proofs.Common.{ap, sym, ◌∙◌, arith, mul-le-mul_right, length-append, length-take, length-drop, take_all, le-leb}
use Rattle.std.proofs.Math.Decide.{dec_lt}
use Rattle.geometry.specs.declared.Geometry.{Geometry}
use Rattle.geometry.specs.Geometry.{geometry_of}
use Rattle.geometry.specs.ShapeLaws.{sized_of}
use Rattle.rules.specs.Result.{Res, ok, err, and_then, refuse_unless}
use Rattle.rules.specs.Chain.{views_of}
use Rattle.rules.specs.Tree.{Image}
use Rattle.rules.specs.Check.{check}
use Rattle.rules.specs.Owners.{totals}
use Rattle.rules.specs.Listing.{lines_of}
use Rattle.rules.specs.ListText.{dump_size, dump_pages, dump_offset, dump_right, dump_text, totals_text, lines_text, refusal_text, list_text, text_call}
use Rattle.text.specs.TextLaws.{totals_short, refusal_short}
use Rattle.dump.specs.LineLaws.{lines_are, lines_few, lines_short}
use Rattle.dump.specs.DumpLaws.{listed_invalid, listed_right, right_sizes}

-- an image of so many bytes has few pages
few_pages : (P N : ℕ) → 32 ≤ P → P * N ≤ 32768 → N ≤ 1024
few_pages P N h k = omega (arith, mul-le-mul_right N h)

image_fits : (g : Geometry) (image : List ℕ) → g.pages ≤ 1024
    → length (refusal_text (and_then (check g (views_of g image)) (λ i. ok (totals_text g (totals i) ++ lines_text (lines_of 0 i.tree))))) ≤ 102600
unfolding and_then refusal_text
image_fits g image h = go (check g (views_of g image)) refl
  where
    go : (r : Res Image) → check g (views_of g image) ≡ r → length (refusal_text (and_then r (λ i. ok (totals_text g (totals i) ++ lines_text (lines_of 0 i.tree))))) ≤ 102600
    go (ok i) e =
        let xs = lines_of 0 i.tree in
        omega (arith, length-append (totals_text g (totals i)) (lines_text xs), totals_short g (totals i), lines_short xs, ap length (lines_are g image i e), lines_few g image, h)
    go (err n p) e = omega (arith, refusal_short n p)

dump_fits : (dump image : List ℕ) → length image ≤ 32768 → length (refusal_text (dump_text dump image)) ≤ 102600
unfolding dump_text
dump_fits dump image h = go (geometry_of (dump_size dump) (dump_pages dump) (length image) 262140) refl
  where
    go : (s : Option Geometry) → geometry_of (dump_size dump) (dump_pages dump) (length image) 262140 ≡ s → length (refusal_text (dump_text dump image)) ≤ 102600
    go None e = unfold dump_text in rw e (omega (arith, refusal_short 1 0))
    go (Some g) e =
        let z = sized_of (dump_size dump) (dump_pages dump) (length image) 262140 g e in
        unfold dump_text in rw e (image_fits g image (few_pages g.size g.pages z.valid.least (omega (arith, z.whole, h))))

pub text_fits : (dump : List ℕ) → length (list_text dump) ≤ 102600
text_fits dump = go (dump_right dump) refl
  where
    go : (t : Bool) → dump_right dump ≡ t → length (list_text dump) ≤ 102600
    go false e = rw (listed_invalid dump e) (omega (arith, refusal_short 19 0))
    go true e = rw (listed_right dump e) (dump_fits dump (drop (dump_offset dump) dump) (omega (arith, length-drop (dump_offset dump) dump, (right_sizes dump e).short)))

-- a dump of 65,537 bytes or more is malformed
long_invalid : (dump : List ℕ) → 65537 ≤ length dump → list_text dump ≡ refusal_text (err 19 0)
long_invalid dump h = go (dump_right dump) refl
  where
    go : (t : Bool) → dump_right dump ≡ t → list_text dump ≡ refusal_text (err 19 0)
    go false e = listed_invalid dump e
    go true e = let r = right_sizes dump e in absurd (omega (arith, r.most, r.short, h))

pub text_front : (n : ℕ) (dump : List ℕ) → 65537 ≤ n → list_text (take n dump) ≡ list_text dump
text_front n dump h = elim (dec_lt (length dump) n) [
  | yes q ↦ ap list_text (take_all n dump (omega (arith, q)))
  | no q ↦ long_invalid (take n dump) (omega (arith, length-take n dump, q, h)) ∙ sym (long_invalid dump (omega (arith, q, h)))
]

-- an output of 102,600 bytes is never too short
pub room_enough : (dump out : List ℕ) → 102600 ≤ length out → text_call dump out ≡ (ok (length (list_text dump)), list_text dump ++ drop (length (list_text dump)) out)
unfolding text_call and_then refuse_unless
room_enough dump out h = rw (le-leb (length (list_text dump)) (length out) (omega (arith, text_fits dump, h))) refl
