-- The page count that an entry tells, as the code has it.
use mathlib.Core.Path.{◌≡◌, ap, sym, ◌∙◌, subst}
use mathlib.Core.Bool.{Bool, true, false}
use mathlib.Core.List.{List}
use Prim.Native.Nat.{ℕ}
use Rattle.geometry.specs.declared.Geometry.{Geometry}
use Rattle.geometry.specs.Choose.{choose}
use Rattle.geometry.specs.ChooseLaws.{choose_true, choose_false}
use Rattle.packet.specs.declared.Budget.{Budget}
use Rattle.rules.specs.declared.Entry.{Entry}
use Rattle.rules.specs.Names.{directory_number}
use Rattle.rules.specs.Owners.{OwnerRecord}
use Rattle.edit.specs.declared.Pages.{Pages}
use Rattle.edit.specs.declared.NewFile.{NewFile}
use Rattle.edit.specs.Plans.{change_of, count_told, entry_of, Plan, Carries}

module _ (x n : ℕ) (b : Bool) (is : b ≡ directory_number x) where
  pub told_none : b ≡ true → 0 ≡ count_told x n
  told_none e = sym (ap (λ (c : Bool). choose c 0 n) (sym is ∙ e) ∙ choose_true _ _)

  pub told_all : b ≡ false → n ≡ count_told x n
  told_all e = sym (ap (λ (c : Bool). choose c 0 n) (sym is ∙ e) ∙ choose_false _ _)

-- the entry with a count
abbrev pub told : NewFile → Pages → ℕ → Entry
told f p m = record { name = f.name; extension = f.extension; start = p.start; pages = m }

-- with the count that was worked out
module _ {g : Geometry} {image : List ℕ} {table : List OwnerRecord} {bytes : List ℕ} (f : NewFile) (p : Pages) (n k : ℕ) (is : k ≡ count_told f.extension n) where
  pub plan_told : Plan g image table bytes (change_of f p) (entry_of f p n) → Plan g image table bytes (change_of f p) (told f p k)
  plan_told P = subst (λ (m : ℕ). Plan g image table bytes (change_of f p) (told f p m)) (sym is) P

  pub carries_told : (budget : Budget) (after : List ℕ) (left : Budget)
      → Carries g image table bytes (change_of f p) (told f p k) budget after left → Carries g image table bytes (change_of f p) (entry_of f p n) budget after left
  carries_told budget after left c = subst (λ (m : ℕ). Carries g image table bytes (change_of f p) (told f p m) budget after left) is c
