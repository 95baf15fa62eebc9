-- The loop: a mend takes every bit passed, and the marks without an owner among them are counted.
use Prim.Native.Nat.{◌+◌, ◌≤◌}
use Rattle.owners.specs.Records.{records_of}
use Rattle.bitmap.proofs.SurveyLaws.{Surveyed}
use Rattle.bitmap.proofs.survey_bytes.Given as goal

abbrev pub invariant-loop-k : goal.invariant-loop-k
invariant-loop-k l = record { few : l.unowned ≤ l.passed + l.k; surveyed : Surveyed l.bytes l.at (records_of l.table) l.passed l.k l.unowned }
