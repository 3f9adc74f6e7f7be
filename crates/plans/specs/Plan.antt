-- What a line of a plan means.
use Rattle.std.specs.Prelude.{Bool, false, Result, Ok, Err, is_none, List, [], ◌∷◌, ℕ, ◌+◌, eqb, leb, ltb, length, take, drop}
use Rattle.base.specs.Decide.{pick, or}
use Rattle.lines.specs.Lines.{seek}
use Rattle.lines.specs.Hex.{digit_of, decoded, decoded_room}
use Rattle.lines.specs.declared.DecodeError.{DecodeError}
use Rattle.lines.specs.declared.DecodeError.TheVariants.{NotHex, RoomTooSmall}
use Rattle.first_lines.specs.Said.{good_bytes, bytes_room}
use Rattle.plans.specs.declared.Reason.{Reason}
use Rattle.plans.specs.declared.Reason.TheVariants.{NoCommand, Stray, OddDigits, TooLong, BadRandom, BadExpected}
use Rattle.plans.specs.declared.Line.{Line}
use Rattle.plans.specs.declared.Meaning.{Meaning}
use Rattle.plans.specs.declared.Meaning.TheVariants.{Blank, Drawn, Given}

-- a character that is no digit
unfoldable pub stray_in : List ℕ → Bool
stray_in [] = false
stray_in (x ∷ xs) = or (is_none (digit_of x)) (stray_in xs)

-- why digits can't be read, and the bytes of a command's digits
abbrev pub decode_reason : DecodeError → Reason
decode_reason NotHex = OddDigits
decode_reason RoomTooSmall = TooLong

abbrev pub as_digits : Result ℕ DecodeError → Result ℕ Reason
as_digits (Ok n) = Ok n
as_digits (Err e) = Err (decode_reason e)

unfoldable pub digits_of : List ℕ → List ℕ → Result ℕ Reason
digits_of s room = pick (eqb (length s) 0) (Err NoCommand) (pick (stray_in s) (Err Stray) (as_digits (decoded s room)))

unfoldable pub digits_room : List ℕ → List ℕ → List ℕ
digits_room s room = pick (eqb (length s) 0) room (pick (stray_in s) room (decoded_room s room))

-- where '/' stands, else the end; what is before it and what is behind it
unfoldable pub slash : List ℕ → ℕ
slash s = seek s 0 47

abbrev pub front : List ℕ → List ℕ
front s = take (slash s) s

abbrev pub back : List ℕ → List ℕ
back s = drop (slash s + 1) s

-- a command without random bytes, and one with
abbrev pub drawn_by : Result ℕ Reason → Result Meaning Reason
drawn_by (Ok n) = Ok (Drawn n)
drawn_by (Err r) = Err r

abbrev pub given_by : Bool → Result ℕ Reason → Result Meaning Reason
given_by good (Ok n) = pick good (Ok (Given n)) (Err BadRandom)
given_by good (Err r) = Err r

-- what stands before '=' means; the rooms are the command's and the random bytes'
unfoldable pub meaning_of : List ℕ → List ℕ → List ℕ → Result Meaning Reason
meaning_of s command random =
    pick (eqb (length s) 0) (Ok Blank)
    (pick (ltb (slash s) (length s))
    (given_by (good_bytes (length random) (back s)) (digits_of (front s) command))
    (drawn_by (digits_of s command)))

-- what it leaves in the two rooms
unfoldable pub command_room : List ℕ → List ℕ → List ℕ
command_room s room =
    pick (eqb (length s) 0) room (pick (ltb (slash s) (length s)) (digits_room (front s) room) (digits_room s room))

unfoldable pub random_room : List ℕ → List ℕ → List ℕ
random_room s room = pick (eqb (length s) 0) room (pick (ltb (slash s) (length s)) (bytes_room (back s) room) room)

-- a line that expects nothing
abbrev pub plain_line : Result Meaning Reason → Result Line Reason
plain_line (Ok m) = Ok (record { meaning = m; expected = 0 })
plain_line (Err r) = Err r

-- a command whose line has '=' expects at least one byte
abbrev pub wanted_by : Meaning → Result ℕ Reason → Result Line Reason
wanted_by m (Ok n) = Ok (record { meaning = m; expected = n })
wanted_by m (Err r) = Err BadExpected

abbrev pub expecting_by : Result Meaning Reason → Result ℕ Reason → Result Line Reason
expecting_by (Ok Blank) d = Err NoCommand
expecting_by (Ok (Drawn n)) d = wanted_by (Drawn n) d
expecting_by (Ok (Given n)) d = wanted_by (Given n) d
expecting_by (Err r) d = Err r

-- where '=' stands, else the end; what is before it and what is behind it
unfoldable pub equals : List ℕ → ℕ
equals s = seek s 0 61

abbrev pub asked : List ℕ → List ℕ
asked s = take (equals s) s

abbrev pub awaited : List ℕ → List ℕ
awaited s = drop (equals s + 1) s

-- what the characters of a line mean: COMMAND, COMMAND / RANDOM, and either with = EXPECTED behind it
unfoldable pub line_of : List ℕ → List ℕ → List ℕ → List ℕ → Result Line Reason
line_of s command random expected =
    pick (leb 1700 (length s)) (Err TooLong)
    (pick (ltb (equals s) (length s))
    (expecting_by (meaning_of (asked s) command random) (digits_of (awaited s) expected))
    (plain_line (meaning_of s command random)))

-- what the line leaves in the three rooms
unfoldable pub line_command : List ℕ → List ℕ → List ℕ
line_command s room =
    pick (leb 1700 (length s)) room (pick (ltb (equals s) (length s)) (command_room (asked s) room) (command_room s room))

unfoldable pub line_random : List ℕ → List ℕ → List ℕ
line_random s room =
    pick (leb 1700 (length s)) room (pick (ltb (equals s) (length s)) (random_room (asked s) room) (random_room s room))

unfoldable pub line_expected : List ℕ → List ℕ → List ℕ
line_expected s room =
    pick (leb 1700 (length s)) room (pick (ltb (equals s) (length s)) (digits_room (awaited s) room) room)
