-- The tests of an extension number, as the code makes them.
use mathlib.Core.Bool.{true, false}
use mathlib.Core.Path.{◌≡◌, subst}
use Prim.Native.Nat.{ℕ, ◌%◌, ◌≤◌, ◌<◌}
use native.Mathlib.Omega.{arith}
use borrow.Author.Tests.{le-leb, lt-leb, eq-eqb, ne_eqb}
use Rattle.rules.specs.Names.{file_number, directory_number}
use Rattle.directory.specs.declared.extensions.EntryKind.{EntryKind}
use Rattle.directory.specs.declared.extensions.EntryKind.TheVariants as kind
use Rattle.directory.specs.declared.extensions.Extension.{Extension}
use Rattle.directory.specs.Extensions.{IsKind, Means}

-- each test of the number alone, for `kind_of`
pub file_yes : (x : ℕ) → x % 128 ≤ 99 → file_number x ≡ true
unfolding file_number
file_yes x h = le-leb (x % 128) 99 h

pub file_no : (x : ℕ) → 99 < x % 128 → file_number x ≡ false
unfolding file_number
file_no x h = lt-leb (x % 128) 99 h

pub directory_yes : (x : ℕ) → x % 128 ≡ 127 → directory_number x ≡ true
unfolding directory_number
directory_yes x e = eq-eqb (x % 128) 127 e

pub directory_no : (x : ℕ) → (x % 128 ≡ 127 → ⊥) → directory_number x ≡ false
unfolding directory_number
directory_no x e = ne_eqb (x % 128) 127 e

pub is_file_lem : (x : ℕ) → x % 128 ≤ 99 → IsKind x kind.File
is_file_lem x h = (file_yes x h, directory_no x (λ e. omega (arith, h, e)))

pub is_directory_lem : (x : ℕ) → 99 < x % 128 → x % 128 ≡ 127 → IsKind x kind.Directory
is_directory_lem x h e = (file_no x h, directory_yes x e)

pub is_unknown : (x : ℕ) → 99 < x % 128 → (x % 128 ≡ 127 → ⊥) → IsKind x kind.Unknown
is_unknown x h e = (file_no x h, directory_no x e)

-- of the kind that a match has told
pub told_kind : (x : ℕ) (r s : EntryKind) → IsKind x r → r ≡ s → IsKind x s
told_kind x r s k e = subst (IsKind x) e k

-- the attribute is the top bit
pub top_set : (x : ℕ) (r : Extension) → Means x r → (r.attribute ≡ 0 → ⊥) → 127 < x
top_set x r m h = omega (arith, m.attribute_is)

pub top_clear : (x : ℕ) (r : Extension) → Means x r → r.attribute ≡ 0 → x ≤ 127
top_clear x r m h = omega (arith, m.attribute_is)
