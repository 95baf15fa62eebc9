-- What a dump that is right has, and the text of a dump by that test.
use Rattle.std.specs.Prelude.{◌≡◌, Bool, true, false, List, ℕ, ◌-◌, ◌≤◌, length, drop}
use Rattle.std.proofs.Common.{ap, leb-true}
use Rattle.geometry.specs.BoolLaws.{both}
use Rattle.rules.specs.Result.{err, and_then, and_after, refuse_unless}
use Rattle.rules.specs.ListText.{dump_offset, dump_right, dump_text, refusal_text, list_text}

pub record Right (dump : List ℕ) (offset : ℕ) : Type 0 where
  pub header : 8 ≤ length dump
  pub least : 8 ≤ offset
  pub most : offset ≤ 32768
  pub inside : offset ≤ length dump
  pub short : length dump - offset ≤ 32768

pub right_sizes : (dump : List ℕ) → dump_right dump ≡ true → Right dump (dump_offset dump)
right_sizes dump e =
    let r₁ = both _ _ e in
    let r₂ = both _ _ r₁.1 in
    let r₃ = both _ _ r₂.1 in
    let r₄ = both _ _ r₃.1 in
    record {
      header = leb-true 8 (length dump) r₁.0;
      least = leb-true 8 (dump_offset dump) r₂.0;
      most = leb-true (dump_offset dump) 32768 r₃.0;
      inside = leb-true (dump_offset dump) (length dump) r₄.0;
      short = leb-true (length dump - dump_offset dump) 32768 r₄.1;
    }

unfoldable by_test : List ℕ → Bool → List ℕ
by_test dump t = refusal_text (and_after (refuse_unless t 19 0) (dump_text dump (drop (dump_offset dump) dump)))

pub listed_invalid : (dump : List ℕ) → dump_right dump ≡ false → list_text dump ≡ refusal_text (err 19 0)
unfolding list_text by_test and_then refuse_unless
listed_invalid dump e = ap (by_test dump) e

pub listed_right : (dump : List ℕ) → dump_right dump ≡ true → list_text dump ≡ refusal_text (dump_text dump (drop (dump_offset dump) dump))
unfolding list_text by_test and_then refuse_unless
listed_right dump e = ap (by_test dump) e
