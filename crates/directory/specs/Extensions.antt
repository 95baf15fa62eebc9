-- For contracts: what an extension byte means, by the rules' tests of it.
use Rattle.std.specs.Prelude.{◌≡◌, true, false, ℕ}
use Rattle.rules.specs.Names.{extension_number, attribute, file_number, directory_number}
use Rattle.directory.specs.declared.extensions.EntryKind.{EntryKind}
use Rattle.directory.specs.declared.extensions.EntryKind.TheVariants as kind
use Rattle.directory.specs.declared.extensions.Extension.{Extension}

-- 0 to 99 a file, 127 a subdirectory, any other number refused
abbrev pub IsKind : ℕ → EntryKind → Type 0
IsKind x kind.File = (file_number x ≡ true) × (directory_number x ≡ false)
IsKind x kind.Directory = (file_number x ≡ false) × (directory_number x ≡ true)
IsKind x kind.Unknown = (file_number x ≡ false) × (directory_number x ≡ false)

pub record Means (x : ℕ) (r : Extension) : Type 0 where
  pub is_kind : IsKind x r.kind
  pub number_is : r.number ≡ extension_number x
  pub attribute_is : r.attribute ≡ attribute x
