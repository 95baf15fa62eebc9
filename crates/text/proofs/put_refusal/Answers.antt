-- The number behind `refused`, the page behind `page`, the line's end: joined they are `refusal_text`.
use mathlib.Core.Path.{◌≡◌, sym, ◌∙◌}
use Rattle.refusals.specs.Numbers.{number_of}
use Rattle.rules.specs.ListText.{refusal_text}
use Rattle.text.proofs.Steps.{and_then_lem}
use Rattle.text.proofs.put_refusal.Goals as goal

pub returns : goal.returns
unfolding refusal_text
returns c =
    let number : number_of c.args.refusal.0 ≡ c.from.result = sym (c.from.ensures ∙ c.number.ensures) in
    rw number (and_then_lem c.put_field-place.ensures.0 (and_then_lem c.put_field-last.ensures.0 c.put_byte.ensures))
