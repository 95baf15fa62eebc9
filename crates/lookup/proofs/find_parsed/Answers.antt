-- The directories of a path are followed, then what it names is looked for: each answer is the rule's at the first of these that fails, or the entry's place.
use native.Mathlib.Omega.{arith}
use Rattle.rules.specs.Chain.{views_of}
use Rattle.rules.specs.Paths.{root_place}
use Rattle.rules.proofs.AnswerLaws.{passed_up}
use Rattle.lookup.proofs.PathPlace.{root_tree, root_reached, has_tree, nowhere, path_absent, entry_at}
use Rattle.lookup.proofs.find_parsed.Goals as goal

pub resolve-requires : goal.resolve-requires
resolve-requires c =
    let s = c.requires in
    let H = s.has_image.0 in
    record { fit = s.fit; has_tree = (record { tree = H.image.tree; at = root_tree _ _ H.image H.accepted }, omega (arith, s.has_image.1)) }

pub returns-in_err-d : goal.returns-in_err-d
returns-in_err-d c =
    let a = c.args in
    rw (passed_up c.from_residual.result _ c.from_residual.ensures.1)
    (λ i h. nowhere a.g (views_of a.g a.image.now) a.path.now i a.parsed.names a.parsed.name a.parsed.extension c.resolve.result
    (c.resolve.ensures (root_place i.tree) (root_reached _ _ i h)) _ c.in_err-d.was)

pub find_place-requires : goal.find_place-requires
find_place-requires c =
    let a = c.args in
    let s = c.requires in
    let H = s.has_image.0 in record {
      fit = s.fit;
      has_tree = has_tree a.g (views_of a.g a.image.now) a.path.now H.image a.parsed.names 0 0 c.resolve.result
          (c.resolve.ensures (root_place H.image.tree) (root_reached _ _ H.image H.accepted)) _ c.in_ok-d.was;
    }

pub returns-in_default : goal.returns-in_default
returns-in_default c =
    let a = c.args in
    λ i h. path_absent a.g (views_of a.g a.image.now) a.path.now i a.parsed.names a.parsed.name a.parsed.extension c.resolve.result
    (c.resolve.ensures (root_place i.tree) (root_reached _ _ i h)) _ c.in_ok-d.was _ c.key_of-key.ensures c.find_place.result
    c.find_place.ensures c.in_default.is

pub returns : goal.returns
returns c =
    let a = c.args in
    λ i h. entry_at a.g (views_of a.g a.image.now) a.path.now i a.parsed.names a.parsed.name a.parsed.extension c.resolve.result
    (c.resolve.ensures (root_place i.tree) (root_reached _ _ i h)) _ c.in_ok-d.was _ c.key_of-key.ensures c.find_place.result
    c.find_place.ensures _ c.in-Some.is
