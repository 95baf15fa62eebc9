-- What the exported calls for reports answer: the rules' report as plain numbers.
use Rattle.std.specs.Prelude.{not, List, ℕ, eqb, ℤ}
use Rattle.geometry.specs.Choose.{choose}
use Rattle.rules.specs.PageSets.{bit}
use Rattle.reports.specs.declared.Version.{Version}
use Rattle.reports.specs.declared.Version.TheVariants.{None, One, Two, Unknown}
use Rattle.reports.specs.declared.Report.{Report}
use Rattle.reports.specs.Reports.{Added, Done, Refused, started_with, started, added}
use Rattle.answers.specs.declared.OwfsReport.{OwfsReport}
use Rattle.answers.specs.declared.OwfsAdded.{OwfsAdded}

-- a version as its number and K: 0 without weight, 2^32 - 1 for a version that there is not
abbrev pub version_for : Version → ℕ
version_for None = 0
version_for (One k) = 1
version_for (Two k) = 2
version_for Unknown = 4294967295

abbrev pub knee_for : Version → ℕ
knee_for None = 0
knee_for (One k) = k
knee_for (Two k) = k
knee_for Unknown = 0

-- the version that a start asks for by number and K; that of a report, whoever made it
unfoldable pub asked_version : ℕ → ℕ → Version
asked_version n k = choose (eqb n 1) (One k) (choose (eqb n 2) (Two k) Unknown)

unfoldable pub version_of : ℕ → ℕ → Version
version_of n k = choose (eqb n 0) None (asked_version n k)

-- a report as plain numbers: 1 if there is a greatest, else 0
unfoldable pub report_for : Report → OwfsReport
report_for r = record {
  cycles = r.cycles;
  near = r.near;
  weight = r.weight;
  limit = r.limit;
  greatest = r.greatest;
  found = bit r.found;
  margin = r.margin;
  version = version_for r.version;
  knee = knee_for r.version;
  files = r.files;
}

-- the report that such numbers are, whoever made them: any number but 0 says that there is a greatest
unfoldable pub report_of : OwfsReport → Report
report_of c = record {
  cycles = c.cycles;
  near = c.near;
  weight = c.weight;
  limit = c.limit;
  greatest = c.greatest;
  found = not (eqb c.found 0);
  margin = c.margin;
  version = version_of c.version c.knee;
  files = c.files;
}

-- 0 and the report, or the number of a refusal and the report that was given; page 0
abbrev pub added_for : OwfsReport → Added → OwfsAdded
added_for given (Done q) = record { number = 0; page = 0; report = report_for q }
added_for given (Refused n) = record { number = n; page = 0; report = given }

-- the answer that such numbers tell
unfoldable pub added_of : OwfsAdded → Added
added_of a = choose (eqb a.number 0) (Done (report_of a.report)) (Refused a.number)

-- the three calls
unfoldable pub start_answer : ℤ → ℕ → OwfsReport
start_answer limit margin = report_for (started limit margin)

unfoldable pub start_weighted_answer : ℤ → ℕ → ℕ → ℕ → OwfsReport
start_weighted_answer limit margin n k = report_for (started_with limit margin (asked_version n k))

unfoldable pub add_answer : OwfsReport → List ℕ → OwfsAdded
add_answer given file = added_for given (added (report_of given) file)
