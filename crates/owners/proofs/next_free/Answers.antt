-- All pages in front of the one found are in use; where none is found, all are.
use mathlib.Core.Path.{◌≡◌}
use mathlib.Core.Bool.{true, false}
use Prim.Native.Nat.{ℕ}
use borrow.Author.Rules.{rules}
use borrow.Author.Tests.{tests}
use Rattle.std.proofs.lemmas.Iterator.{first_from_Range}
use Rattle.owners.specs.Records.{records_of}
use Rattle.owners.specs.Owned.{is_owned}
use Rattle.owners.proofs.Finding.{next_is}
use Rattle.owners.proofs.next_free.Goals as goal

pub returns : goal.returns
returns c =
    let table = records_of c.args.table.now in
    next_is table _ _ _ _ c.pages_of-pages.ensures c.unwrap_or.ensures
    (first_from_Range _ _ _ c.find.result (λ (k : ℕ). false ≡ is_owned table k) (λ (k : ℕ). true ≡ is_owned table k) c.find.ensures.ran (λ x q k. search (rules, tests)) (λ x q k. search (rules, tests)))
