-- An answer has the number 0 exactly when the call is done, so what the calls state of the tree holds of the exported answers.
use Rattle.std.specs.Prelude.{Option, Some, None}
use mathlib.Core.Path.{◌≡◌, refl, ap, ap₂, sym, ◌∙◌}
use mathlib.Core.Logic.{◌↔◌, inl, inr}
use mathlib.Core.List.{List}
use Prim.Native.Nat.{ℕ, ◌≤◌}
use native.Mathlib.Omega.{arith}
use lib.ListN.{length}
use Rattle.geometry.specs.Number.{Bytes}
use Rattle.geometry.specs.declared.Geometry.{Geometry}
use Rattle.geometry.specs.Geometry.{geometry_of}
use Rattle.geometry.specs.ShapeLaws.{fit_of}
use Rattle.rules.specs.declared.Totals.{Totals}
use Rattle.rules.specs.declared.Line.{Line}
use Rattle.rules.specs.Result.{Res, ok, err, and_then, IsOk}
use Rattle.rules.proofs.ResultLaws.{on_refused}
use Rattle.rules.specs.Chain.{views_of}
use Rattle.rules.proofs.RefusalLaws.{Refuses, refuses_ok, refuses_within, line_faults}
use Rattle.rules.proofs.FuelLaws.{check_faults}
use Rattle.rules.specs.Tree.{Image}
use Rattle.rules.specs.Check.{check}
use Rattle.rules.specs.Owners.{totals}
use Rattle.rules.specs.Listing.{lines_of, line_at}
use Rattle.rules.specs.Format.{format}
use Rattle.rules.specs.Put.{put}
use Rattle.rules.specs.Delete.{delete}
use Rattle.rules.specs.Directories.{make_directory, make_call, remove_directory, remove_call}
use Rattle.rules.specs.Calls.{read_bytes, length_of, filled, asked, Effect, plainly, effective, check_call, list_call, read_call, format_call, put_call, delete_call}
use Rattle.rules.proofs.CallLaws.{asked_fits, asked_invalid, read_faults}
use Rattle.rules.specs.Paths.{path_of, directory_path_of}
use Rattle.rules.specs.Candidate.{NotReadOnly, Absent, PutFile, EmptyDirectory}
use Rattle.rules.specs.Promises.{Accepts, TellsTree, Formats, Deletes, Removes, Puts, Makes}
use Rattle.reading_theorems.specs.CheckCall.{asked_tells, tells_said}
use Rattle.editing_theorems.proofs.Demand3Calls.{demand_said}
use Rattle.editing_theorems.proofs.Promised.{format_stated, delete_stated, removal_stated, put_stated, make_stated, leaves_said}
use Rattle.answers.proofs.CallFaults.{some_pages, CallFaults, format_told, delete_told, make_told, remove_told, put_told}
use Rattle.answers.proofs.EffectLaws.{effective_number}
use Rattle.answers.specs.declared.OwfsTotals.{OwfsTotals}
use Rattle.answers.specs.declared.OwfsEntry.{OwfsEntry}
use Rattle.answers.specs.declared.OwfsLength.{OwfsLength}
use Rattle.answers.specs.declared.OwfsAnswer.{OwfsAnswer}
use Rattle.answers.specs.ExportedAnswers.{totals_for, entry_for, length_for, answer_for, asks_local, check_answer, list_answer, read_answer, format_answer, make_answer, remove_answer, put_answer, delete_answer}

-- no refusal has the number 0
module _ {A : Type 0} (P N : ℕ) (image t : List ℕ) (question : Image → Res A) (h : (i : Image) → Refuses 14 18 1 (question i)) where
  asked_number : (n p : ℕ) → (asked P N image t question).0 ≡ err n p → 1 ≤ n
  asked_number n p k = go (geometry_of P N (length image) (length t)) refl
    where
      go : (s : Option Geometry) → geometry_of P N (length image) (length t) ≡ s → 1 ≤ n
      go None e = let z : err 1 0 ≡ err n p = sym (ap (λ (x : Res A × List ℕ). x.0) (asked_invalid P N image t e question)) ∙ k in let i : 1 ≡ n = cc in omega arith
      go (Some g) e =
          let z : and_then (check g (views_of g image)) question ≡ err n p = sym (ap (λ (x : Res A × List ℕ). x.0) (asked_fits P N image t g e question)) ∙ k in
          on_refused _ _ _ _ z (λ c. omega (arith, ((check_faults g (views_of g image) (some_pages (fit_of P N image t g e))).number n p c).0)) (λ i _ c. omega (arith, ((h i).number n p c).0))

  -- so an answer is there where the number told is 0
  pub done : (number : Res A → ℕ) → ((n p : ℕ) → number (err n p) ≡ n) → number (asked P N image t question).0 ≡ 0 → IsOk (asked P N image t question).0
  done number k z = go (asked P N image t question).0 refl
    where
      go : (r : Res A) → (asked P N image t question).0 ≡ r → IsOk (asked P N image t question).0
      go (ok a) e = (a, e)
      go (err n p) e = absurd (omega (arith, asked_number n p e, sym (ap number e) ∙ z, k n p))

module _ (P N : ℕ) (image owners : List ℕ) (bytes : Bytes image) where
  pub accepts_tree : (r : OwfsTotals) (b : List ℕ) → (r, b) ≡ check_answer P N image owners → Accepts P N image owners (r.number ≡ 0)
  unfolding check_answer check_call
  accepts_tree r b e =
      let f : Image → Res Totals = λ i. ok (totals i) in
      let n : r.number ≡ (totals_for (asked P N image owners f).0).number = ap (λ (x : OwfsTotals × List ℕ). x.0.number) e in
      let k = asked_tells P N image owners bytes f in
      (λ z. k.formed (done P N image owners f (λ i. refuses_ok) (λ x. (totals_for x).number) (λ n p. refl) (sym n ∙ z)), λ w. n ∙ ap (λ (x : Res Totals). (totals_for x).number) (k.tells w))

  pub lists_tree : (k : ℕ) (r : OwfsEntry) (b : List ℕ) → (r, b) ≡ list_answer P N image owners k
      → TellsTree P N image owners (λ i. line_at k (lines_of 0 i.tree)) (λ x. r ≡ entry_for x) (r.number ≡ 0)
  unfolding list_answer list_call
  lists_tree k r b e =
      let f : Image → Res Line = λ i. line_at k (lines_of 0 i.tree) in
      let q : r ≡ entry_for (asked P N image owners f).0 = ap (λ (x : OwfsEntry × List ℕ). x.0) e in
      let h : (i : Image) → Refuses 14 18 1 (f i) = λ i. refuses_within 14 18 1 (omega arith) (omega arith) (omega arith) (line_faults k (lines_of 0 i.tree)) in
      tells_said (λ x t. q ∙ ap entry_for t) (λ z. done P N image owners f h (λ x. (entry_for x).number) (λ n p. refl) (sym (ap (λ (x : OwfsEntry). x.number) q) ∙ z)) (asked_tells P N image owners bytes f)

  pub reads_tree : (path out : List ℕ) (r : OwfsLength) (after b : List ℕ) → (r, after, b) ≡ read_answer P N image owners path out
      → TellsTree P N image owners (read_bytes path out) (λ x. (r ≡ length_for (length_of x)) × (after ≡ filled out x)) (r.number ≡ 0)
  unfolding read_answer read_call
  reads_tree path out r after b e =
      let f = read_bytes path out in
      let q : r ≡ length_for (length_of (asked P N image owners f).0) = ap (λ (x : OwfsLength × List ℕ × List ℕ). x.0) e in
      let o : after ≡ filled out (asked P N image owners f).0 = ap (λ (x : OwfsLength × List ℕ × List ℕ). x.1) e in
      tells_said (λ x t. (q ∙ ap (λ (y : Res (List ℕ)). length_for (length_of y)) t, o ∙ ap (filled out) t))
      (λ z. done P N image owners f (read_faults path out) (λ x. (length_for (length_of x)).number) (λ n p. refl) (sym (ap (λ (x : OwfsLength). x.number) q) ∙ z)) (asked_tells P N image owners bytes f)

-- ---- an edit: the number told is 0 exactly when it is done
module _ (P N : ℕ) (image table : List ℕ) (edit : Geometry → Res (Effect (Unit {0}))) (h : CallFaults image edit) where
  abbrev call : Res (Unit {0}) × List ℕ × List ℕ
  call = effective P N image table edit

  module _ (r : OwfsAnswer) (told : r ≡ answer_for call.0) where
    told_as : (q : Res (Unit {0})) → call.0 ≡ q → r ≡ answer_for q
    told_as q k = told ∙ ap answer_for k

    pub edit_done : (r.number ≡ 0) ↔ (call.0 ≡ ok tt)
    edit_done = (go call.0 refl, λ k. ap (λ (x : OwfsAnswer). x.number) (told_as (ok tt) k))
      where
        go : (q : Res (Unit {0})) → call.0 ≡ q → r.number ≡ 0 → call.0 ≡ ok tt
        go (ok u) k z = k
        go (err n p) k z = absurd (omega (arith, effective_number P N image table edit h n p k, ap (λ (x : OwfsAnswer). x.number) (told_as (err n p) k), z))

    pub edit_told : (m o : ℕ) → 1 ≤ m → (r ≡ record { number = m; page = o }) ↔ (call.0 ≡ err m o)
    edit_told m o some = (go call.0 refl, λ k. told_as (err m o) k)
      where
        go : (q : Res (Unit {0})) → call.0 ≡ q → r ≡ record { number = m; page = o } → call.0 ≡ err m o
        go (ok u) k z = absurd (omega (arith, some, ap (λ (x : OwfsAnswer). x.number) (sym (told_as (ok u) k) ∙ z)))
        go (err n p) k z =
            let e = sym (told_as (err n p) k) ∙ z in
            k ∙ ap₂ (λ (x y : ℕ). err x y) (ap (λ (x : OwfsAnswer). x.number) e) (ap (λ (x : OwfsAnswer). x.page) e)

module _ (P N : ℕ) (image owners : List ℕ) (bytes : Bytes image) where
  pub formats : (local : ℕ) (r : OwfsAnswer) (after b : List ℕ) → (r, after, b) ≡ format_answer P N image owners local
      → Formats P N image owners (asks_local local) (r.number ≡ 0) (λ x. r ≡ answer_for x) after
  unfolding format_answer format_call
  formats local r after b e =
      let t = owners in
      let f : Geometry → Res (Effect (Unit {0})) = λ g. plainly (format g (asks_local local) image) in
      let h : CallFaults image f = format_told image (asks_local local) in
      let told : r ≡ answer_for (effective P N image t f).0 = ap (λ (x : OwfsAnswer × List ℕ × List ℕ). x.0) e in
      let left : after ≡ (effective P N image t f).1 = ap (λ (x : OwfsAnswer × List ℕ × List ℕ). x.1) e in
      let d = edit_done P N image t f h r told in
      let k = format_stated P N image t bytes (asks_local local) in (
        rw left (leaves_said d k.0),
        λ z. elim (k.1 (λ y. z (d.1 y))) [ inl i ↦ inl (told_as P N image t f h r told (err 1 0) i) | inr i ↦ inr (told_as P N image t f h r told (err 4 0) i) ],
      )

  pub deletes : (path : List ℕ) (r : OwfsAnswer) (after b : List ℕ) → (r, after, b) ≡ delete_answer P N image owners path
      → Deletes P N image owners path (r.number ≡ 0) after
  unfolding delete_answer delete_call
  deletes path r after b e =
      let t = owners in
      let f : Geometry → Res (Effect (Unit {0})) = λ g. plainly (delete g path image) in
      let h : CallFaults image f = delete_told image path in
      let told : r ≡ answer_for (effective P N image t f).0 = ap (λ (x : OwfsAnswer × List ℕ × List ℕ). x.0) e in
      let left : after ≡ (effective P N image t f).1 = ap (λ (x : OwfsAnswer × List ℕ × List ℕ). x.1) e in
      rw left (leaves_said (edit_done P N image t f h r told) (delete_stated P N image t bytes path))

  pub removes : (path : List ℕ) (r : OwfsAnswer) (after b : List ℕ) → (r, after, b) ≡ remove_answer P N image owners path
      → Removes P N image owners path (r.number ≡ 0) after
  unfolding remove_answer remove_call
  removes path r after b e =
      let t = owners in
      let f : Geometry → Res (Effect (Unit {0})) = λ g. plainly (remove_directory g path image) in
      let h : CallFaults image f = remove_told image path in
      let told : r ≡ answer_for (effective P N image t f).0 = ap (λ (x : OwfsAnswer × List ℕ × List ℕ). x.0) e in
      let left : after ≡ (effective P N image t f).1 = ap (λ (x : OwfsAnswer × List ℕ × List ℕ). x.1) e in
      rw left (leaves_said (edit_done P N image t f h r told) (removal_stated P N image t bytes path))

  pub makes : (path : List ℕ) → Bytes path → (r : OwfsAnswer) (after b : List ℕ) → (r, after, b) ≡ make_answer P N image owners path
      → Makes P N image owners path (r.number ≡ 0) (λ x. r ≡ answer_for x) after
  unfolding make_answer make_call
  makes path pb r after b e =
      let t = owners in
      let f : Geometry → Res (Effect (Unit {0})) = λ g. plainly (make_directory g path image) in
      let h : CallFaults image f = make_told image path in
      let told : r ≡ answer_for (effective P N image t f).0 = ap (λ (x : OwfsAnswer × List ℕ × List ℕ). x.0) e in
      let left : after ≡ (effective P N image t f).1 = ap (λ (x : OwfsAnswer × List ℕ × List ℕ). x.1) e in
      let d = edit_done P N image t f h r told in
      let k = make_stated P N image t bytes path pb in
      rw left (leaves_said d k.0, demand_said P N image t (directory_path_of path) Absent EmptyDirectory d (edit_told P N image t f h r told 17 0 (omega arith)) k.1)

  pub puts : (path text : List ℕ) → Bytes path → Bytes text → (r : OwfsAnswer) (after b : List ℕ) → (r, after, b) ≡ put_answer P N image owners path text
      → Puts P N image owners path text (r.number ≡ 0) (λ x. r ≡ answer_for x) after
  unfolding put_answer put_call
  puts path text pb db r after b e =
      let t = owners in
      let f : Geometry → Res (Effect (Unit {0})) = λ g. plainly (put g path text image) in
      let h : CallFaults image f = put_told image path text in
      let told : r ≡ answer_for (effective P N image t f).0 = ap (λ (x : OwfsAnswer × List ℕ × List ℕ). x.0) e in
      let left : after ≡ (effective P N image t f).1 = ap (λ (x : OwfsAnswer × List ℕ × List ℕ). x.1) e in
      let d = edit_done P N image t f h r told in
      let k = put_stated P N image t bytes path text pb db in
      rw left (leaves_said d k.0, demand_said P N image t (path_of path) NotReadOnly (PutFile text) d (edit_told P N image t f h r told 17 0 (omega arith)) k.1)
