-- For contracts: what the code answers of the root's control field and of a directory page's entries, and the test for a kind of chain.
use Rattle.std.specs.Prelude.{◌≡◌, Result, Ok, Err, List, ℕ, ◌-◌, ◌*◌, length, take, drop}
use Rattle.refusals.specs.declared.Refusal.{Refusal}
use Rattle.refusals.specs.declared.Fault.TheVariants as fault
use Rattle.geometry.specs.declared.Geometry.{Geometry}
use Rattle.geometry.specs.Choose.{choose}
use Rattle.geometry.specs.Number.{number}
use Rattle.rules.specs.Result.{Res, ok, err}
use Rattle.rules.specs.Answers.{answer_of}
use Rattle.rules.specs.Chain.{Test, any_page}
use Rattle.rules.specs.Control.{Head, map_start, map_count, place_zeros, whole_entries, root_page, sub_page}
use Rattle.directory.specs.declared.control.Root.{Root}
use Rattle.directory.specs.declared.control.Root.TheVariants.{Local, Remote}
use Rattle.directory.specs.declared.control.Kind.{Kind}
use Rattle.directory.specs.declared.control.Kind.TheVariants as kind

-- the bitmap file's place in the four bytes
unfoldable pub place : ℕ → List ℕ → Result Root Refusal
place n field = choose (place_zeros n field) (Ok (Remote (number (take n (drop (4 - 2 * n) field))) (number (take n (drop (4 - n) field))))) (Err (record { 0 = fault.Control; 1 = 0 }))

-- the root's control field
abbrev pub control : ℕ → Res Head → Res Root
control n (ok h) = ok (choose h.local Local (Remote (map_start n h) (map_count n h)))
control n (err k p) = err k p

-- the test of a chain's pages, by its kind
unfoldable pub test_of : Geometry → Kind → Test
test_of g kind.File = any_page
test_of g kind.Root = root_page g
test_of g (kind.Sub name start) = sub_page g (record { name = name; start = start })

-- the answer r is that of a directory page's entries of so many bytes
abbrev pub AreWhole : Geometry → ℕ → ℕ → Result (Unit {0}) Refusal → Type 0
AreWhole g p size r = (b : List ℕ) → length b ≡ size → answer_of r ≡ whole_entries g p b
