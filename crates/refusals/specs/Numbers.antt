-- Document 01, "Numbers that an answer can carry", and document 02's further numbers.
use Rattle.std.specs.Prelude.{ℕ}
use Rattle.refusals.specs.declared.Fault.{Fault}
use Rattle.refusals.specs.declared.Fault.TheVariants as fault

abbrev pub number_of : Fault → ℕ
number_of fault.Sizes = 1
number_of fault.Packet = 2
number_of fault.Marker = 3
number_of fault.Control = 4
number_of fault.InProgress = 5
number_of fault.PageNumber = 6
number_of fault.Crossed = 7
number_of fault.Count = 8
number_of fault.Name = 9
number_of fault.Extension = 10
number_of fault.Twice = 11
number_of fault.Depth = 12
number_of fault.Bitmap = 13
number_of fault.Path = 14
number_of fault.Absent = 15
number_of fault.ReadOnly = 16
number_of fault.NoRoom = 17
number_of fault.ShortOutput = 18
number_of fault.Dump = 19
number_of fault.NotEmpty = 20
number_of fault.Exists = 21
number_of fault.Hidden = 22
