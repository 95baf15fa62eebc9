-- The chain is released if its start page is one of the image's; else there is none.
use mathlib.Core.Path.{◌≡◌, ap, sym}
use mathlib.Core.List.{List}
use native.Mathlib.Omega.{arith}
use Prim.Native.Nat.{ℕ}
use Rattle.rules.specs.Owners.{OwnerRecord}
use Rattle.owners.specs.Records.{records_of}
use Rattle.geometry.specs.declared.Geometry.{Geometry}
use Rattle.packet.specs.Packet.{View}
use Rattle.rules.specs.Chain.{Link, pages}
use Rattle.chain.specs.KnownChain.{ChainAt}
use Rattle.owners.specs.Owned.{freed}
use Rattle.chain.specs.Claims.{Releases}
use Rattle.edit.proofs.release_old.Goals as goal

released : (g : Geometry) (v : View) (start : ℕ) (before after : List OwnerRecord) → Releases g v start before after → (ls : List Link) → ChainAt g v start ls → after ≡ freed (pages ls) before
unfolding Releases
released g v start before after h = h

pub release_chain-requires : goal.release_chain-requires
release_chain-requires c =
    let h = c.requires.has_old.0 in record { fit = c.requires.fit; known_chain = (record { links = h.links; chain = h.old.chain c.if-start-g.true }, c.requires.has_old.1) }

pub returns-then-start-g : goal.returns-then-start-g
returns-then-start-g c =
    λ ls o. released _ _ _ _ _ c.release_chain.ensures ls (o.chain c.if-start-g.true)

pub returns-else-start-g : goal.returns-else-start-g
returns-else-start-g c = λ ls o. sym (ap (λ (l : List Link). freed (pages l) (records_of c.args.table.now)) (o.none (omega (arith, c.if-start-g.false))))
