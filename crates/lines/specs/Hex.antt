-- Capital hexadecimal.
use Rattle.std.specs.Prelude.{Bool, true, false, Option, None, Some, Result, Ok, Err, List, [], ◌∷◌, ℕ, ◌+◌, ◌-◌, ◌*◌, ◌/◌, ◌%◌, is_some, unwrap_or, leb, ltb, length}
use Rattle.base.specs.Decide.{pick, and}
use Rattle.base.specs.Bytes.{over}
use Rattle.lines.specs.declared.DecodeError.{DecodeError}
use Rattle.lines.specs.declared.DecodeError.TheVariants.{NotHex, RoomTooSmall}

-- the value of a character 0 to 9 or A to F; any other has none
unfoldable pub digit_of : ℕ → Option ℕ
digit_of c = pick (and (leb 48 c) (leb c 57)) (Some (c - 48)) (pick (and (leb 65 c) (leb c 70)) (Some (c - 55)) None)

-- the character of a value below 16
unfoldable pub char_of : ℕ → ℕ
char_of v = pick (ltb v 10) (48 + v) (55 + v)

-- an even number of such characters
unfoldable pub is_hex : List ℕ → Bool
is_hex [] = true
is_hex (a ∷ []) = false
is_hex (a ∷ b ∷ s) = and (and (is_some (digit_of a)) (is_some (digit_of b))) (is_hex s)

-- two characters to a byte, the high one first (a character that is no digit counts 0)
unfoldable pub byte_of : ℕ → ℕ → ℕ
byte_of a b = unwrap_or (digit_of a) 0 * 16 + unwrap_or (digit_of b) 0

unfoldable pub bytes_of : List ℕ → List ℕ
bytes_of [] = []
bytes_of (a ∷ []) = []
bytes_of (a ∷ b ∷ s) = byte_of a b ∷ bytes_of s

unfoldable pub chars_of : List ℕ → List ℕ
chars_of [] = []
chars_of (b ∷ bs) = char_of (b / 16 % 16) ∷ char_of (b % 16) ∷ chars_of bs

-- numbers of the house: 0 for bytes, 1 for a text that is none, 2 for a room that they do not fit in
abbrev pub decoded_number : Result ℕ DecodeError → ℕ
decoded_number (Ok n) = 0
decoded_number (Err NotHex) = 1
decoded_number (Err RoomTooSmall) = 2

-- what decoding answers, and what it leaves in the room
unfoldable pub decoded : List ℕ → List ℕ → Result ℕ DecodeError
decoded s room = pick (is_hex s) (pick (leb (length s / 2) (length room)) (Ok (length s / 2)) (Err RoomTooSmall)) (Err NotHex)

unfoldable pub decoded_room : List ℕ → List ℕ → List ℕ
decoded_room s room = pick (and (is_hex s) (leb (length s / 2) (length room))) (over (bytes_of s) room) room

-- what encoding leaves in the room
unfoldable pub chars_room : List ℕ → List ℕ → List ℕ
chars_room s room = pick (leb (length s * 2) (length room)) (over (chars_of s) room) room
