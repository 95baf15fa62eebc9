-- Example 4 as a consequence of what a delete states: whatever image a delete of DEMO.12 leaves, bytes 11 to 17 of page 0 are as before.
use Rattle.std.specs.Prelude.{◌≡◌, refl, List, [], ◌∷◌, ℕ, take, drop}
use Rattle.std.proofs.Common.{ap, ◌∙◌, subst}
use Rattle.geometry.specs.Page.{page_of}
use Rattle.packet.specs.Packet.{made}
use Rattle.rules.specs.Result.{Res, ok, and_then}
use Rattle.rules.proofs.ResultLaws.{ok_inj, then_ok}
use Rattle.rules.specs.Chain.{views_of}
use Rattle.rules.specs.Tree.{Image, used}
use Rattle.rules.specs.Bitmap.{bitmap_of}
use Rattle.rules.specs.Check.{check}
use Rattle.rules.specs.Paths.{path_of, Target, target_of}
use Rattle.rules.proofs.TargetLaws.{target_is}
use Rattle.rules.specs.Writes.{edited, edit_writes}
use Rattle.rules.specs.Delete.{delete_edit}
use Rattle.rules.specs.Demand2.{reach, IsFile, Deleted}
use Rattle.reading_theorems.specs.Accepted.{accepted}
use Rattle.rule_examples.specs.Cases.{g, DEMO, formatted, with_demo, shown}
use Rattle.rule_examples.specs.Opened.{rules}

-- the image of example 3
abbrev pub demo : List ℕ
demo = shown 0 512 with_demo

-- where the longest packet ends that a delete changes in page 0
abbrev end_of : Image → Target → Image → ℕ
end_of i x j = reach g 0 (made g (edit_writes g (bitmap_of g (used i) i.map) (delete_edit x.to x.place) i j) demo)

abbrev after : Image → Target → Image
after i x = edited g x.to.directories (delete_edit x.to x.place) i

-- it ends at byte 11, and the bytes from there on are those that example 4 prints
computed : ◌≡◌ {A = Res ℕ × List ℕ}
    (and_then (check g (views_of g demo)) (λ i. and_then (target_of DEMO i.tree) (λ x. ok (end_of i x (after i x)))), take 7 (drop 11 (page_of g 0 demo)))
    (ok 11, 0x4F ∷ 0x0C ∷ 0x01 ∷ 0x01 ∷ 0x00 ∷ 0x73 ∷ 0xA5 ∷ [])
unfolding rules formatted with_demo
computed = refl

pub kept_bytes : (left : List ℕ) → Deleted g (path_of DEMO) IsFile demo left → take 7 (drop 11 (page_of g 0 left)) ≡ 0x4F ∷ 0x0C ∷ 0x01 ∷ 0x01 ∷ 0x00 ∷ 0x73 ∷ 0xA5 ∷ []
kept_bytes left d =
    let i = d.at.before in
    let x : Target = record { to = d.at.to; place = d.at.place } in
    let c = accepted g demo i d.at.accepted in
    let r = target_is (path_of DEMO) i.tree d.at.to d.at.formed d.at.place d.at.there in
    let e : end_of i x (after i x) ≡ 11 = ok_inj (simp (c, r, then_ok) at (ap (λ (y : Res ℕ × List ℕ). y.0) computed)) in
    let f : end_of i x d.tree ≡ 11 = ap (end_of i x) d.tree_is ∙ e in
    ap (take 7) (subst (λ (n : ℕ). drop n (page_of g 0 left) ≡ drop n (page_of g 0 demo)) f (d.done.rest 0)) ∙ ap (λ (y : Res ℕ × List ℕ). y.1) computed
