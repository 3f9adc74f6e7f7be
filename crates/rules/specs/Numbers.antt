-- The rules by their place in 01's order, 1 to 22; 0 where every rule holds.
use Rattle.std.specs.Prelude.{List, [], ◌∷◌, ℕ, Result, Ok, Err}
use Rattle.base.specs.Decide.{pick}
use Rattle.rules.specs.declared.Part.{Part}
use Rattle.rules.specs.declared.Part.TheVariants.{OptionByte, RightsBytes, SdmOptionsByte, SdmRightsBytes, Whole}
use Rattle.rules.specs.declared.Check.{Check}
use Rattle.rules.specs.declared.Check.TheVariants.{OptionBits, SdmFile, Rights, SdmOptionsBits, SdmRights}
use Rattle.rules.specs.declared.Check.TheVariants.{MetaMirrors, MetaOff, EncNeeds, EncSize}
use Rattle.rules.specs.declared.Check.TheVariants.{UidInside, CounterInside, PiccInside, EncInside, MacInside}
use Rattle.rules.specs.declared.Check.TheVariants.{Shared, MacInput, EncBetween}
use Rattle.rules.specs.declared.findings.Broken.{Broken}
use Rattle.rules.specs.declared.findings.Broken.TheVariants.{Missing, Wrong}
use Rattle.rules.specs.Rules.{Rule}

unfoldable pub part_number : Part → ℕ
part_number OptionByte = 1
part_number RightsBytes = 4
part_number SdmOptionsByte = 6
part_number SdmRightsBytes = 8
part_number Whole = 13

unfoldable pub check_number : Check → ℕ
check_number OptionBits = 2
check_number SdmFile = 3
check_number Rights = 5
check_number SdmOptionsBits = 7
check_number SdmRights = 9
check_number MetaMirrors = 10
check_number MetaOff = 11
check_number EncNeeds = 12
check_number EncSize = 14
check_number UidInside = 15
check_number CounterInside = 16
check_number PiccInside = 17
check_number EncInside = 18
check_number MacInside = 19
check_number Shared = 20
check_number MacInput = 21
check_number EncBetween = 22

unfoldable pub broken_number : Broken → ℕ
broken_number (Missing p) = part_number p
broken_number (Wrong k) = check_number k

unfoldable pub finding_number : Result (Unit {0}) Broken → ℕ
finding_number (Ok _) = 0
finding_number (Err e) = broken_number e

-- the number of the first rule that does not hold
unfoldable pub first_number : List Rule → ℕ
first_number [] = 0
first_number (e ∷ es) = pick e.holds (first_number es) (broken_number e.otherwise)
