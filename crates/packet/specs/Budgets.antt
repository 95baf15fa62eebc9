-- For contracts: page writes within a budget. Without a limit every write is made; within one a packet that would not change is not written, and a write for which none is left stops the budget.
use Rattle.std.specs.Prelude.{◌≡◌, true, false, List, [], ◌∷◌, ℕ, ◌-◌, eqb}
use Rattle.geometry.specs.declared.Geometry.{Geometry}
use Rattle.geometry.specs.Choose.{choose}
use Rattle.packet.specs.declared.Budget.{Budget}
use Rattle.packet.specs.Packet.{Write, write_page, unchanged}

-- an image, and the budget for further writes
pub record Progress : Type 0 where
  pub image : List ℕ
  pub budget : Budget

-- nothing was held back yet
abbrev pub Open : Budget → Type 0
Open b = b.stopped ≡ false

-- a write was held back, since none was left
pub record Stopped (b : Budget) : Type 0 where
  pub limited : b.limited ≡ true
  pub none : b.left ≡ 0
  pub told : b.stopped ≡ true

abbrev pub unlimited : Budget
unlimited = record { limited = false; left = 0; stopped = false }

abbrev pub with_limit : ℕ → Budget
with_limit n = record { limited = true; left = n; stopped = false }

-- a write that changes a packet, within a limit
abbrev pub spend : Geometry → Write → Progress → Progress
spend g w s = choose (eqb s.budget.left 0)
    (record { image = s.image; budget = record { limited = true; left = 0; stopped = true } })
    (record { image = write_page g w s.image; budget = record { limited = true; left = s.budget.left - 1; stopped = s.budget.stopped } })

-- one page write
unfoldable pub write_one : Geometry → Write → Progress → Progress
write_one g w s = choose s.budget.limited (choose (unchanged g w s.image) s (spend g w s)) (record { image = write_page g w s.image; budget = s.budget })

-- a list of page writes, the first one first
unfoldable pub write_all : Geometry → List Write → Progress → Progress
write_all g [] s = s
write_all g (w ∷ ws) s = write_all g ws (write_one g w s)
