-- For contracts: the answer of a careful edit from what its steps leave of their budget.
use Rattle.std.specs.Prelude.{Result, Ok, Err, ℕ, ◌-◌, ◌≤◌}
use Rattle.refusals.specs.declared.Refusal.{Refusal}
use Rattle.packet.specs.declared.Budget.{Budget}
use Rattle.rules.specs.declared.WriteCount.{WriteCount}

-- no more is left than was allowed
abbrev pub HasSpent : Result Budget Refusal → ℕ → Type 0
HasSpent (Ok left) allowed = left.left ≤ allowed
HasSpent (Err r) allowed = Unit {0}

-- the writes made, and whether any are left
abbrev pub halt_of : Result Budget Refusal → ℕ → Result WriteCount Refusal
halt_of (Ok left) allowed = Ok (record { made = allowed - left.left; left = left.stopped })
halt_of (Err r) allowed = Err r
