-- Four writes, each directly behind the one before: 4 + 1 + n + n bytes fill the slice, and each leaves the earlier ones alone.
use mathlib.Core.Path.{◌≡◌, subst}
use Prim.Native.Nat.{ℕ}
use native.Mathlib.Omega.{arith}
use Rattle.geometry.specs.Number.{number_bytes}
use Rattle.geometry.specs.Page.{overwritten}
use Rattle.directory.proofs.EntryLaws.{entry_filled}
use Rattle.directory.proofs.entries.put_entry.Goals as goal

pub returns : goal.returns
returns c =
    let second = subst (λ (x : ℕ). c.put_number-2.new.target ≡ overwritten 4 (number_bytes 1 x) c.put_number.new.target) c.from.ensures c.put_number-2.ensures in
    entry_filled c.args.e _ _ _ _ _ _ c.requires (omega arith) c.put_number.ensures second c.put_number-3.ensures c.put_number-4.ensures
