-- A value by a test, for all rules.
use Rattle.std.specs.Prelude.{Bool, true, false}

-- x where the test is true, else y
unfoldable pub choose : {A : Type 0} → Bool → A → A → A
choose true x y = x
choose false x y = y
