-- What the arguments of a run ask for, and the name of the file that is written beside a kept one.
use Rattle.std.specs.Prelude.{Bool, Option, None, Some, Result, Ok, Err, List, [], ◌∷◌, ◌++◌, ◌≡◌, ℕ, ◌+◌, leb, length}
use Rattle.base.specs.Decide.{pick}
use Rattle.base.specs.Bytes.{over}
use Rattle.arguments.specs.declared.Asked.{Asked}
use Rattle.arguments.specs.declared.Asked.TheVariants.{Plain, Image}
use Rattle.arguments.specs.declared.BadArguments.{BadArguments}
use Rattle.arguments.specs.declared.BadArguments.TheVariants.{NoFile, Unknown}

-- numbers of this house: an unknown argument has 10 and its place
unfoldable pub asked_number : Result Asked BadArguments → ℕ
asked_number (Ok Plain) = 0
asked_number (Ok Image) = 1
asked_number (Err NoFile) = 2
asked_number (Err (Unknown i)) = 10 + i

-- no argument, or --image and a file; the program's name is counted, and has number 0
unfoldable pub asked_by : ℕ → Bool → Result Asked BadArguments
asked_by count named =
    pick (leb count 1) (Ok Plain)
    (pick named (pick (leb count 2) (Err NoFile) (pick (leb 4 count) (Err (Unknown 3)) (Ok Image))) (Err (Unknown 1)))

-- the same by number
unfoldable pub asked_case : ℕ → Bool → ℕ
asked_case count named = pick (leb count 1) 0 (pick named (pick (leb count 2) 2 (pick (leb 4 count) 13 1)) 11)

pub record Asks (count : ℕ) (named : Bool) (r : Result Asked BadArguments) : Type 0 where
  pub number : asked_number r ≡ asked_case count named
  pub told : r ≡ asked_by count named

-- the name of a file with .new behind it
abbrev pub dot_new : List ℕ
dot_new = 46 ∷ 110 ∷ 101 ∷ 119 ∷ []

abbrev pub new_name : List ℕ → List ℕ
new_name path = path ++ dot_new

-- it is written where there is room for it
unfoldable pub beside_length : List ℕ → List ℕ → Option ℕ
beside_length path room = pick (leb (length (new_name path)) (length room)) (Some (length (new_name path))) None

unfoldable pub beside_room : List ℕ → List ℕ → List ℕ
beside_room path room = pick (leb (length (new_name path)) (length room)) (over (new_name path) room) room
