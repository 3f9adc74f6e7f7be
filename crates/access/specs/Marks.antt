-- 02, request 5: what a journal notes of a call, by number (house).
use Rattle.std.specs.Prelude.{Option, Some, None, ℕ}
use Rattle.access.specs.declared.Right.{Right}
use Rattle.access.specs.declared.Right.TheVariants.{Read, Write, ReadWrite, Change, SdmMetaRead, SdmFileRead, SdmCtrRet}
use Rattle.access.specs.declared.Grant.{Grant}
use Rattle.access.specs.declared.Grant.TheVariants.{ByKey, ByTap, Free, Unasked, Never, Denied}
use Rattle.access.specs.declared.Marks.{Marks}

-- Table 9's order
unfoldable pub right_number : Right → ℕ
right_number Read = 1
right_number Write = 2
right_number ReadWrite = 3
right_number Change = 4
right_number SdmMetaRead = 5
right_number SdmFileRead = 6
right_number SdmCtrRet = 7

-- by a key, by the tap rule, by E, under none of the rights, refused
unfoldable pub how_number : Grant → ℕ
how_number (ByKey r) = 1
how_number ByTap = 2
how_number (Free r) = 3
how_number Unasked = 4
how_number Never = 5
how_number Denied = 5

-- the right that grants, 0 where none does; the tap rule is SDMFileRead's
unfoldable pub granting_right : Grant → ℕ
granting_right (ByKey r) = right_number r
granting_right ByTap = right_number SdmFileRead
granting_right (Free r) = right_number r
granting_right Unasked = 0
granting_right Never = 0
granting_right Denied = 0

-- zeros where the decision was never got to
unfoldable pub marks_of : Option Grant → Marks
marks_of None = record { how = 0; right = 0 }
marks_of (Some g) = record { how = how_number g; right = granting_right g }
