-- A report told as numbers is that report again, and an answer told as numbers is that answer; so what is stated of the rules' is stated of them.
use mathlib.Core.Path.{◌≡◌, refl, sym, ap, subst, ◌∙◌}
use mathlib.Core.Bool.{Bool, true, false, not}
use mathlib.Core.List.{List, []}
use Prim.Native.Nat.{ℕ}
use native.Mathlib.Omega.{arith}
use borrow.Author.Tests.{eq-eqb, ne_eqb}
use lib.Dec.{eqb}
use lib.IntN.{ℤ}
use Rattle.geometry.specs.Choose.{choose}
use Rattle.geometry.specs.Number.{Bytes}
use Rattle.geometry.specs.ChooseLaws.{choose_true, choose_false}
use Rattle.rules.specs.PageSets.{bit}
use Rattle.reports.specs.declared.Version.{Version}
use Rattle.reports.specs.declared.Version.TheVariants.{None, One, Two, Unknown}
use Rattle.reports.specs.declared.Report.{Report}
use Rattle.reports.specs.Reports.{Added, Done, Refused, started_with, started, included, added, report_after}
use Rattle.reports.specs.ReportPromises.{TellsWith, Tells, Adds, AddsWeighted}
use Rattle.reports.specs.ReportLaws.{start_tells, start_tells_weighted, adds, adds_weighted}
use Rattle.answers.specs.declared.OwfsReport.{OwfsReport}
use Rattle.answers.specs.declared.OwfsAdded.{OwfsAdded}
use Rattle.answers.specs.ExportedReports.{version_for, knee_for, asked_version, version_of, report_for, report_of, added_for, added_of, start_answer, start_weighted_answer, add_answer}

bit_back : (t : Bool) → not (eqb (bit t) 0) ≡ t
bit_back true = refl
bit_back false = refl

version_back : (v : Version) → version_of (version_for v) (knee_for v) ≡ v
unfolding version_of asked_version choose
version_back None = refl
version_back (One k) = refl
version_back (Two k) = refl
version_back Unknown = refl

report_back : (r : Report) → report_of (report_for r) ≡ r
unfolding report_of report_for
report_back r = simp (bit_back r.found, version_back r.version)

-- 24 and 25 are the only refusals
by_choice : {A : Type 0} (P : A → Type 0) (t : Bool) (x y : A) → P x → P y → P (choose t x y)
unfolding choose
by_choice P true x y p q = p
by_choice P false x y p q = q

abbrev Plain : Added → Type 0
Plain a = (given : OwfsReport) → added_of (added_for given a) ≡ a

plain_done : (q : Report) → Plain (Done q)
unfolding added_of
plain_done q given = choose_true _ _ ∙ ap Done (report_back q)

plain_24 : Plain (Refused 24)
unfolding added_of
plain_24 given = choose_false _ _

plain_25 : Plain (Refused 25)
unfolding added_of
plain_25 given = choose_false _ _

added_back : (r : Report) (file : List ℕ) → Plain (added r file)
unfolding added included
added_back r file = by_choice Plain _ _ _ (by_choice Plain _ _ _ plain_24 (by_choice Plain _ _ _ plain_25 (plain_done _))) plain_24

pub start_stated : (limit : ℤ) (margin : ℕ) (q : Report) (r : OwfsReport) → q ≡ started limit margin → r ≡ report_for q → (r ≡ start_answer limit margin) × Tells limit margin [] (report_of r)
unfolding start_answer
start_stated limit margin q r e f =
    let told : r ≡ report_for (started limit margin) = f ∙ ap report_for e in
    (told, subst (λ (p : Report). Tells limit margin [] p) (sym (ap report_of told ∙ report_back (started limit margin))) (start_tells limit margin))

pub start_weighted_stated : (limit : ℤ) (margin n k : ℕ) (v : Version) (q : Report) (r : OwfsReport) → v ≡ asked_version n k → q ≡ started_with limit margin v → r ≡ report_for q
    → (r ≡ start_weighted_answer limit margin n k) × TellsWith limit margin (asked_version n k) [] (report_of r)
unfolding start_weighted_answer
start_weighted_stated limit margin n k v q r d e f =
    let w = asked_version n k in
    let told : r ≡ report_for (started_with limit margin w) = f ∙ ap report_for (e ∙ ap (λ (u : Version). started_with limit margin u) d) in
    (told, subst (λ (p : Report). TellsWith limit margin w [] p) (sym (ap report_of told ∙ report_back (started_with limit margin w))) (start_tells_weighted limit margin w))

pub add_stated : (given : OwfsReport) (file : List ℕ) (p : Report) (a : Added) (r : OwfsAdded) → Bytes file → p ≡ report_of given → a ≡ added p file → r ≡ added_for given a
    → (r ≡ add_answer given file) × (Adds (report_of given) file (added_of r) × AddsWeighted (report_of given) file (added_of r))
unfolding add_answer
add_stated given file p a r h e f g =
    let is : a ≡ added (report_of given) file = f ∙ ap (λ (q : Report). added q file) e in
    let told : r ≡ added_for given (added (report_of given) file) = g ∙ ap (λ (b : Added). added_for given b) is in
    let back : added_of r ≡ added (report_of given) file = ap added_of told ∙ added_back (report_of given) file given in
    (told, (adds (report_of given) file (added_of r) h back, adds_weighted (report_of given) file (added_of r) h back))

-- the report that comes back is the one that the library has then, so that what is stated of files added one after the other is stated of it
handed_on : (given : OwfsReport) (a : Added) → report_of (added_for given a).report ≡ report_after (report_of given) a
handed_on given (Done q) = report_back q
handed_on given (Refused n) = refl

pub handed_stated : (given : OwfsReport) (file : List ℕ) (r : OwfsAdded) → r ≡ add_answer given file → report_of r.report ≡ report_after (report_of given) (added_of r)
unfolding add_answer
handed_stated given file r told =
    let a = added (report_of given) file in
    let back : added_of r ≡ a = ap added_of told ∙ added_back (report_of given) file given in
    ap (λ (x : OwfsAdded). report_of x.report) told ∙ handed_on given a ∙ ap (report_after (report_of given)) (sym back)

-- the version of a number and a K, one law for each return
module _ (n k : ℕ) where
  pub asked_one : n ≡ 1 → One k ≡ asked_version n k
  unfolding asked_version
  asked_one e = simp (eq-eqb n 1 e, choose_true)

  pub asked_two : n ≡ 2 → Two k ≡ asked_version n k
  unfolding asked_version
  asked_two e = simp (ne_eqb n 1 (λ f. let z : ◌≡◌ {A = ℕ} 2 1 = sym e ∙ f in omega arith), eq-eqb n 2 e, choose_true, choose_false)

  pub asked_none : (n ≡ 1 → ⊥) → (n ≡ 2 → ⊥) → Unknown ≡ asked_version n k
  unfolding asked_version
  asked_none f g = simp (ne_eqb n 1 f, ne_eqb n 2 g, choose_false)

  pub version_none : n ≡ 0 → None ≡ version_of n k
  unfolding version_of
  version_none e = simp (eq-eqb n 0 e, choose_true)

  pub version_some : (v : Version) → (n ≡ 0 → ⊥) → v ≡ asked_version n k → v ≡ version_of n k
  unfolding version_of
  version_some v f e = e ∙ simp (ne_eqb n 0 f, choose_false)
