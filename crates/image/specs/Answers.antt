-- What reading and writing an image answer.
use Rattle.std.specs.Prelude.{Bool, true, List, [], ◌∷◌, ℕ, eqb, leb, length, Result, Ok, Err}
use Rattle.base.specs.Decide.{pick, and}
use Rattle.base.specs.Bytes.{byte_at}
use Rattle.state.specs.declared.Tag.{Tag}
use Rattle.delivery.specs.Fresh.{blank}
use Rattle.image.specs.declared.NoImage.{NoImage}
use Rattle.image.specs.declared.NoImage.TheVariants.{WrongLength, WrongVersion, NotABoolean}
use Rattle.image.specs.declared.NotRead.{NotRead}
use Rattle.image.specs.declared.OtherLength.{OtherLength}
use Rattle.image.specs.Image.{image_version, image_length, image_of, tag_in}

-- Numbers of the house, those that the C border answers: 0 for a state, 1005 for another length, and 1000 with refusal 3's number
-- for bytes of the right length that hold none.
abbrev pub refused_number : NoImage → ℕ
refused_number WrongLength = 1005
refused_number WrongVersion = 1003
refused_number NotABoolean = 1003

abbrev pub found_number : Result Tag NotRead → ℕ
found_number (Ok t) = 0
found_number (Err e) = refused_number e.why

abbrev pub stored_number : Result (Unit {0}) OtherLength → ℕ
stored_number (Ok u) = 0
stored_number (Err e) = 1005

-- the bytes at these places are 0 or 1
unfoldable pub bits_at : List ℕ → List ℕ → Bool
bits_at s [] = true
bits_at s (i ∷ is) = and (leb (byte_at s i) 1) (bits_at s is)

-- where the Booleans stand: session, pending part, of 71, application, tap, by ISOReadBinary
abbrev pub booleans : List ℕ
booleans = 593 ∷ 633 ∷ 634 ∷ 664 ∷ 666 ∷ 667 ∷ []

unfoldable pub right_length : List ℕ → Bool
right_length s = eqb (length s) image_length

-- a refusal by name, with a state beside it whose every byte and number is 0
abbrev pub refused_as : NoImage → Result Tag NotRead
refused_as f = Err (record { why = f; beside = blank })

-- the state, or the refusals in their order
unfoldable pub read_in : List ℕ → Result Tag NotRead
read_in s =
    pick (right_length s)
    (pick (eqb (byte_at s 0) image_version) (pick (bits_at s booleans) (Ok (tag_in s)) (refused_as NotABoolean)) (refused_as WrongVersion))
    (refused_as WrongLength)

-- an image is written over one of its length, and nothing else
unfoldable pub stored_in : List ℕ → Result (Unit {0}) OtherLength
stored_in s = pick (right_length s) (Ok tt) (Err (record {}))

unfoldable pub image_in : Tag → List ℕ → List ℕ
image_in t s = pick (right_length s) (image_of t) s
