-- Demand 3: where nothing but room could refuse a put, or a making, it is done exactly when there is a candidate, else 17; and no candidate has fewer pages in use than its result.
use Rattle.std.specs.Prelude.{Option, Some, None, ◌≡◌, refl, ◌↔◌, ◌⊎◌, List, ◌++◌, ℕ, ◌+◌, ◌≤◌, ◌<◌, length}
use Rattle.std.proofs.Common.{ap, sym, ◌∙◌, subst, inl, inr, arith, length-append}
use Rattle.std.proofs.Math.Decide.{dec_lt}
use Rattle.geometry.specs.declared.Geometry.{Geometry}
use Rattle.geometry.specs.Geometry.{Fit}
use Rattle.geometry.specs.Number.{Bytes}
use Rattle.rules.specs.Result.{Res, ok, err}
use Rattle.rules.proofs.ResultLaws.{ok_inj, clash, err_same, on_then, on_refused}
use Rattle.rules.proofs.PageSetLaws.{count_append, free_length}
use Rattle.rules.specs.Chain.{views_of, Link}
use Rattle.rules.specs.Tree.{Label, Items, Image, used}
use Rattle.rules.specs.Put.{put_at}
use Rattle.rules.specs.Check.{check}
use Rattle.rules.specs.Paths.{Path, file_key, file_label, Found, find, Place, Target}
use Rattle.rules.proofs.RefusalLaws.{Refuses}
use Rattle.rules.proofs.FuelLaws.{check_faults}
use Rattle.rules.specs.Candidate.{Accepted, OnlyRoom, Exists, at_path, stamps_of, target_path, file_path, Candidate, chain_pages, pages_in_use, CandidateFor, Demand3}
use Rattle.rules.specs.Calls.{in_geometry, shape, plainly, effect, changed}
use Rattle.reading_theorems.specs.Accepted.{accepted}
use Rattle.geometry.specs.ShapeLaws.{fit_of}
use Rattle.editing_theorems.proofs.CallEdits.{done_ok}
use Rattle.editing_theorems.specs.PutLaws.{same_length, Asked, located, all_old, kept, kept_within, free, free_clear, extra, wanted, result, kept_old, put_total, put_edited}
use Rattle.editing_theorems.proofs.PutDone.{put_fits, put_full, put_room, Met, PutCall, asked_at, put_gives}
use Rattle.editing_theorems.specs.PutCandidate.{put_candidate, no_entry_more}
use Rattle.editing_theorems.specs.LowerBound.{Needs, least, candidate_room}

-- ---- from its parts, for any call that puts something at a path: where nothing but room could refuse it, it is done or refused for room, so the rest follows from what is done and from no room without a candidate
pub demand_from : (P N : ℕ) (image table : List ℕ) (asked : Res Path) (Allowed Asked : Found → Type 0) (is_done is_full : Type 0) (after : List ℕ)
    → (OnlyRoom P N image table asked Allowed ↔ (is_done ⊎ is_full))
    → ((o : OnlyRoom P N image table asked Allowed) → is_done → CandidateFor P N image table asked Allowed Asked o after)
    → ((o : OnlyRoom P N image table asked Allowed) (new : List ℕ) → CandidateFor P N image table asked Allowed Asked o new → is_full → ⊥)
    → ((o : OnlyRoom P N image table asked Allowed) → is_done → (i : Image) → Accepted o.geometry after i
    → (new : List ℕ) (c : CandidateFor P N image table asked Allowed Asked o new) → pages_in_use i ≤ pages_in_use c.after)
    → ((o : OnlyRoom P N image table asked Allowed) → is_done → (i : Image) → Accepted o.geometry after i
    → (ks : List ℕ) → (ks ≡ file_path o.to → ⊥) → Exists (at_path ks i) → Exists (at_path ks o.tree))
    → Demand3 P N image table asked Allowed Asked is_done is_full after
demand_from P N image table asked Allowed Asked is_done is_full after room done none least keeps = record {
  only_room = room;
  exactly = λ o. (λ x. (after, done o x), λ c. elim (room.0 o) [ inl x ↦ x | inr f ↦ absurd (none o c.0 c.1 f) ]);
  refused = λ o. (λ f new c. none o new c f, λ h. elim (room.0 o) [ inl x ↦ absurd (h after (done o x)) | inr f ↦ f ]);
  candidate = done;
  least = least;
  keeps = keeps;
}

-- ---- a call that puts something, and that nothing but room could refuse
module _ {asked : Res Path} {Allowed Wanted : Found → Type 0} {target : Items → Res Target} {bytes_at : Geometry → Place → List ℕ} {stands : Label → List Link → Found}
    (C : PutCall asked Allowed Wanted target bytes_at stands) (plain : (l : Label) (ls : List Link) → stamps_of (stands l ls) ≡ l.stamps) (P N : ℕ) (image table : List ℕ) (image_bytes : Bytes image) where
  -- the call: answer, image and owner table
  abbrev pub call : Res (Unit {0}) × List ℕ × List ℕ
  call = changed P N image table (λ g. put_at g target (bytes_at g) image)

  module _ (o : OnlyRoom P N image table asked Allowed) where
    abbrev pub g : Geometry
    g = o.geometry

    abbrev pub fit : Fit g image
    fit = fit_of P N image table g o.right

    abbrev pub goal : Target
    goal = record { to = o.to; place = o.place }

    pub met : Met asked Allowed o.tree.tree goal
    met = record { formed = o.formed; there = o.there; seen = o.shown; allowed = o.allowed }

    abbrev pub bytes : List ℕ
    bytes = bytes_at g o.place

    abbrev pub a : Asked g image bytes stands
    a = asked_at C g image fit image_bytes o.tree o.accepted goal met

    pub given : target o.tree.tree ≡ ok goal
    given = C.given o.tree.tree goal met

    abbrev pub IsCandidate : List ℕ → Type 0
    IsCandidate new = Candidate g image (target_path o.to) (file_path o.to) Wanted new

    -- the free pages, and the chain that is replaced
    abbrev pub spare : List ℕ
    spare = free g image bytes stands a

    abbrev pub old : List ℕ
    old = chain_pages (find (file_key o.to) o.place.items)

    -- what a call that is done leaves is a candidate
    pub put_done : (after : List ℕ) → put_at g target (bytes_at g) image ≡ ok after → IsCandidate after
    put_done after e =
        let p = put_gives C g image fit image_bytes after e in
        subst (λ (q : Path). Candidate g image (target_path q) (file_path q) Wanted after) (ok_inj (sym p.at.formed ∙ o.formed))
        (put_candidate g asked stands (bytes_at g) Wanted image after p (λ l ls h. C.wanted g p.at.place l ls h) plain)

    needs : Needs g Wanted (wanted g image bytes stands a)
    needs = C.needs g fit.valid o.place

    -- no candidate has fewer pages in use
    pub put_least : (after : List ℕ) → put_at g target (bytes_at g) image ≡ ok after → (i : Image) → Accepted g after i → (new : List ℕ) (c : IsCandidate new) → pages_in_use i ≤ pages_in_use c.after
    put_least after e i h new c =
        let r = put_room g image bytes stands a (bytes_at g) refl target given after e in
        let clear = free_clear g image bytes stands a in
        let w = (put_edited g image bytes stands a spare clear r.0).well_formed in
        let same : i ≡ result g image bytes stands a spare clear r.0 = ok_inj (sym h ∙ ap (λ (l : List ℕ). check g (views_of g l)) r.1 ∙ accepted g _ _ w) in
        omega (
          arith,
          ap pages_in_use same,
          put_total g image bytes stands a spare clear r.0,
          ap length (all_old g image bytes stands a),
          least g image o.tree a.well o.to.directories o.place (located g image bytes stands a) (file_label o.to) Wanted (wanted g image bytes stands a) needs new c,
        )

    -- where there is one, there is room
    put_takes : (new : List ℕ) → IsCandidate new → extra g image bytes stands a + wanted g image bytes stands a ≤ length spare
    put_takes new c =
        let keeps = kept g image bytes stands a in
        let k = same_length (keeps ++ old) (used o.tree) (λ x. count_append x keeps old ∙ kept_old g image bytes stands a x) in
        omega (
          arith,
          candidate_room g image o.tree a.well o.to.directories o.place (located g image bytes stands a) (file_label o.to) Wanted (wanted g image bytes stands a) needs new c,
          ap length (all_old g image bytes stands a),
          k,
          length-append keeps old,
          free_length keeps g.pages (kept_within g image bytes stands a),
        )

    -- and it keeps all else exactly: what stands at another path stood there
    pub put_keeps : (after : List ℕ) → put_at g target (bytes_at g) image ≡ ok after → (i : Image) → Accepted g after i
        → (ks : List ℕ) → (ks ≡ file_path o.to → ⊥) → Exists (at_path ks i) → Exists (at_path ks o.tree)
    put_keeps after e i h ks n x =
        let p = put_gives C g image fit image_bytes after e in
        let t : p.tree ≡ i = ok_inj (sym (accepted g after p.tree p.done.well_formed) ∙ h) in
        let b : p.at.before ≡ o.tree = ok_inj (sym (accepted g image p.at.before p.at.accepted) ∙ o.accepted) in
        let q : p.at.to ≡ o.to = ok_inj (sym p.at.formed ∙ o.formed) in
        subst (λ (j : Image). Exists (at_path ks j)) b
        (no_entry_more g asked stands (bytes_at g) image after p ks (λ f. n (f ∙ ap file_path q)) (subst (λ (j : Image). Exists (at_path ks j)) (sym t) x))

    call_is : call ≡ effect P N image table g (plainly (put_at g target (bytes_at g) image))
    call_is = rw o.right refl

    -- a call that answers 0 leaves what the rule tells
    pub call_ok : call.0 ≡ ok tt → put_at g target (bytes_at g) image ≡ ok call.1
    call_ok e = rw call_is (done_ok P N image table g (put_at g target (bytes_at g) image) (rw call_is at e))

    call_done : (after : List ℕ) → put_at g target (bytes_at g) image ≡ ok after → call.0 ≡ ok tt
    call_done after e = rw (call_is, e) refl

    call_full : put_at g target (bytes_at g) image ≡ err 17 0 → call.0 ≡ err 17 0
    call_full e = rw (call_is, e) refl

    -- where there is a candidate it is done
    pub call_takes : (new : List ℕ) → IsCandidate new → call.0 ≡ err 17 0 → ⊥
    call_takes new c e = clash (sym e ∙ call_done _ (put_fits g image bytes stands a (bytes_at g) refl target given (put_takes new c)))

  -- ---- nothing but room could refuse it exactly when it is done or refused for room
  -- what it has met when it comes to the room
  room_met : (g : Geometry) → shape P N image table ≡ Some g → (i : Image) → check g (views_of g image) ≡ ok i → (x : Target) → target i.tree ≡ ok x → OnlyRoom P N image table asked Allowed
  room_met g s i c x t =
      let m = C.met i.tree x t in
      record { geometry = g; right = s; tree = i; accepted = c; to = x.to; formed = m.formed; place = x.place; there = m.there; shown = m.seen; allowed = m.allowed }

  -- a number that only room gives
  not_17 : {A D : Type 0} (low high most : ℕ) (r : Res A) → Refuses low high most r → high < 17 → r ≡ err 17 0 → D
  not_17 low high most r h k e = absurd (omega (arith, (h.number 17 0 e).1))

  rule_met : (g : Geometry) → shape P N image table ≡ Some g → (r : Res (List ℕ)) → put_at g target (bytes_at g) image ≡ r
      → ((effect P N image table g (plainly r)).0 ≡ ok tt) ⊎ ((effect P N image table g (plainly r)).0 ≡ err 17 0) → OnlyRoom P N image table asked Allowed
  unfolding put_at
  rule_met g s (ok after) e h = on_then _ _ _ e λ i c e. on_then _ _ _ e λ x t e. room_met g s i c x t
  rule_met g s (err n p) e (inl h) = clash h
  rule_met g s (err n p) e (inr h) =
      let f : put_at g target (bytes_at g) image ≡ err 17 0 = e ∙ err_same h in
      on_refused _ _ _ _ f (not_17 2 13 (g.pages + 33) _ (check_faults g (views_of g image) (omega (arith, (fit_of P N image table g s).valid.some))) (omega arith)) λ i c f.
      on_refused _ _ _ _ f (λ r. absurd (C.not_room i.tree r)) λ x t f. room_met g s i c x t

  call_met : (s : Option Geometry) → shape P N image table ≡ s
      → ((in_geometry s (err 1 0, image, table) (λ g. effect P N image table g (plainly (put_at g target (bytes_at g) image)))).0 ≡ ok tt)
      ⊎ ((in_geometry s (err 1 0, image, table) (λ g. effect P N image table g (plainly (put_at g target (bytes_at g) image)))).0 ≡ err 17 0) → OnlyRoom P N image table asked Allowed
  call_met None e (inl h) = clash h
  call_met None e (inr h) = absurd (let z : ◌≡◌ {A = ℕ} 1 17 = cc in omega arith)
  call_met (Some g) e h = rule_met g e (put_at g target (bytes_at g) image) refl h

  pub only_room : OnlyRoom P N image table asked Allowed ↔ ((call.0 ≡ ok tt) ⊎ (call.0 ≡ err 17 0))
  only_room = (
    λ o. elim (dec_lt (length (spare o)) (extra (g o) image (bytes o) stands (a o) + wanted (g o) image (bytes o) stands (a o))) [
      | yes k ↦ inr (call_full o (put_full (g o) image (bytes o) stands (a o) (bytes_at (g o)) refl target (given o) k))
      | no k ↦ let e = put_fits (g o) image (bytes o) stands (a o) (bytes_at (g o)) refl target (given o) (omega arith) in inl (call_done o _ e)
    ],
    call_met (shape P N image table) refl,
  )
