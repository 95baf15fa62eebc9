-- At the end the bytes summed are those that were given: `search` finds it by what the slices hold.
use Rattle.std.proofs.Common.{rules, ap, ◌∙◌, List, ℕ}
use Rattle.std.proofs.lemmas.Grind.{common_steps}
use Rattle.crc16.specs.Crc16.{crc16}
use Rattle.crc16.proofs.Bytes.{more, done}
use Rattle.crc16.proofs.crc_of.Goals as goal

pub loop-byte-preserved : goal.loop-byte-preserved
loop-byte-preserved c =
    more _ _ _ _ _ c.loop-byte-test.true c.loop-byte.invariant c.byte_step-register.ensures

pub returns : goal.returns
returns c =
    done _ _ _ _ c.loop-byte-test.false c.loop-byte.invariant ∙ ap (λ (s : List ℕ). crc16 c.args.start s) (search (rules, common_steps))
