-- The bytes counted are the chain's content: an output with fewer is refused with 18 and stays, any other gets them at its front.
use native.Mathlib.Omega.{arith}
use Rattle.rules.specs.Chain.{content}
use Rattle.query.proofs.FileRead.{too_short, long_enough}
use Rattle.query.proofs.read_chain.Goals as goal

pub returns-then-out-length : goal.returns-then-out-length
returns-then-out-length c =
    λ ls d.
    let e = c.chain_bytes-length.ensures ls d in
    too_short c.args.out.now (content ls) (omega (arith, c.if-out-length.true))

pub copy_chain-requires : goal.copy_chain-requires
copy_chain-requires c =
    let s = c.requires in record { fit = s.fit; known_chain = s.known_chain; fits = λ ls d. let e = c.chain_bytes-length.ensures ls d in omega (arith, c.if-out-length.false) }

pub returns : goal.returns
returns c =
    λ ls d.
    let e = c.chain_bytes-length.ensures ls d in
    long_enough c.args.out.now (content ls) _ _ (omega (arith, c.if-out-length.false)) e (c.copy_chain.ensures ls d)
