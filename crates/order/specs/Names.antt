-- The fourteen commands (01, "The tag we build"), each with its class and INS.
use Rattle.std.specs.Prelude.{List, [], ◌∷◌, Option, Some, None, ℕ, eqb}
use Rattle.base.specs.Decide.{pick, and}
use Rattle.order.specs.declared.Name.{Name}
use Rattle.order.specs.declared.Name.TheVariants.{AuthenticateFirst, AuthenticateNonFirst, PartTwo, ChangeKey, GetKeyVersion, GetCardUid}
use Rattle.order.specs.declared.Name.TheVariants.{GetFileSettings, ChangeFileSettings, GetFileCounters, ReadData, WriteData}
use Rattle.order.specs.declared.Name.TheVariants.{IsoSelectFile, IsoReadBinary, IsoUpdateBinary}

-- wrapped, CLA 90, and CLA 00
unfoldable pub class_of : Name → ℕ
class_of AuthenticateFirst = 0x90
class_of AuthenticateNonFirst = 0x90
class_of PartTwo = 0x90
class_of ChangeKey = 0x90
class_of GetKeyVersion = 0x90
class_of GetCardUid = 0x90
class_of GetFileSettings = 0x90
class_of ChangeFileSettings = 0x90
class_of GetFileCounters = 0x90
class_of ReadData = 0x90
class_of WriteData = 0x90
class_of IsoSelectFile = 0x00
class_of IsoReadBinary = 0x00
class_of IsoUpdateBinary = 0x00

unfoldable pub ins_of : Name → ℕ
ins_of AuthenticateFirst = 0x71
ins_of AuthenticateNonFirst = 0x77
ins_of PartTwo = 0xAF
ins_of ChangeKey = 0xC4
ins_of GetKeyVersion = 0x64
ins_of GetCardUid = 0x51
ins_of GetFileSettings = 0xF5
ins_of ChangeFileSettings = 0x5F
ins_of GetFileCounters = 0xF6
ins_of ReadData = 0xAD
ins_of WriteData = 0x8D
ins_of IsoSelectFile = 0xA4
ins_of IsoReadBinary = 0xB0
ins_of IsoUpdateBinary = 0xD6

abbrev pub fourteen : List Name
fourteen =
    AuthenticateFirst
    ∷ AuthenticateNonFirst
    ∷ PartTwo
    ∷ ChangeKey
    ∷ GetKeyVersion
    ∷ GetCardUid
    ∷ GetFileSettings
    ∷ ChangeFileSettings
    ∷ GetFileCounters
    ∷ ReadData
    ∷ WriteData
    ∷ IsoSelectFile
    ∷ IsoReadBinary
    ∷ IsoUpdateBinary
    ∷ []

-- the first command of a list that has this class and INS
unfoldable pub among : ℕ → ℕ → List Name → Option Name
among class ins [] = None
among class ins (n ∷ ns) = pick (and (eqb (class_of n) class) (eqb ins (ins_of n))) (Some n) (among class ins ns)

unfoldable pub named : ℕ → ℕ → Option Name
named class ins = among class ins fourteen
