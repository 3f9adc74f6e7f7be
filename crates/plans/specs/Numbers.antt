-- Numbers of this house for the cases of its own answers, and what a line means, by number and in full.
use Rattle.std.specs.Prelude.{Result, Ok, Err, List, ◌≡◌, ℕ, ◌+◌, eqb, leb, ltb, length}
use Rattle.base.specs.Decide.{pick}
use Rattle.lines.specs.Hex.{decoded}
use Rattle.lines.specs.declared.DecodeError.{DecodeError}
use Rattle.lines.specs.declared.DecodeError.TheVariants.{NotHex, RoomTooSmall}
use Rattle.first_lines.specs.Said.{said, good_bytes}
use Rattle.plans.specs.declared.Line.{Line}
use Rattle.plans.specs.declared.Reason.{Reason}
use Rattle.plans.specs.declared.Reason.TheVariants.{NoCommand, Stray, OddDigits, TooLong, BadRandom, BadExpected}
use Rattle.plans.specs.declared.Meaning.{Meaning}
use Rattle.plans.specs.declared.Meaning.TheVariants.{Blank, Drawn, Given}
use Rattle.plans.specs.Plan.{stray_in, slash, front, back, equals, asked, awaited, line_of, line_command, line_random, line_expected}

-- why a line is bad
unfoldable pub reason_number : Reason → ℕ
reason_number NoCommand = 1
reason_number Stray = 2
reason_number OddDigits = 3
reason_number TooLong = 4
reason_number BadRandom = 5
reason_number BadExpected = 6

-- what a line asks for, and a line; a bad one has 10 and its reason's number
abbrev pub meaning_number : Meaning → ℕ
meaning_number Blank = 0
meaning_number (Drawn n) = 1
meaning_number (Given n) = 2

unfoldable pub line_number : Result Line Reason → ℕ
line_number (Ok l) = meaning_number l.meaning
line_number (Err r) = 10 + reason_number r

-- a text of digits: 0, or its reason's number
unfoldable pub digits_number : Result ℕ Reason → ℕ
digits_number (Ok n) = 0
digits_number (Err r) = reason_number r

-- ---- the number of each case, from the characters
-- digits: 1 there are none, 2 one is none, 3 an odd number of them, 4 more than the room takes
abbrev pub decoded_case : Result ℕ DecodeError → ℕ
decoded_case (Ok n) = 0
decoded_case (Err NotHex) = 3
decoded_case (Err RoomTooSmall) = 4

unfoldable pub digits_case : List ℕ → List ℕ → ℕ
digits_case s room = pick (eqb (length s) 0) 1 (pick (stray_in s) 2 (decoded_case (decoded s room)))

-- n for digits that can be read, else 10 and why not
abbrev pub unless_wrong : ℕ → ℕ → ℕ
unless_wrong d n = pick (eqb d 0) n (10 + d)

-- what stands before '=': 0 nothing, 1 a command alone, 2 one with its random bytes; 15 these are bad
unfoldable pub meaning_case : List ℕ → List ℕ → List ℕ → ℕ
meaning_case s command random =
    pick (eqb (length s) 0) 0
    (pick (ltb (slash s) (length s))
    (unless_wrong (digits_case (front s) command) (pick (good_bytes (length random) (back s)) 2 15))
    (unless_wrong (digits_case s command) 1))

-- and behind '=': 11 no command stood before it, 16 what is expected is bad
unfoldable pub expecting_case : ℕ → ℕ → ℕ
expecting_case m d = pick (eqb m 0) 11 (pick (ltb 10 m) m (pick (eqb d 0) m 16))

-- 14 the line is too long
unfoldable pub line_case : List ℕ → List ℕ → List ℕ → List ℕ → ℕ
line_case s command random expected =
    pick (leb 1700 (length s)) 14
    (pick (ltb (equals s) (length s))
    (expecting_case (meaning_case (asked s) command random) (digits_case (awaited s) expected))
    (meaning_case s command random))

-- a line, and the three rooms before and behind it
pub record Means (line c x e : List ℕ) (r : Result Line Reason) (c' x' e' : List ℕ) : Type 0 where
  pub number : line_number r ≡ line_case (said line) c x e
  pub told : r ≡ line_of (said line) c x e
  pub command : c' ≡ line_command (said line) c
  pub random : x' ≡ line_random (said line) x
  pub expected : e' ≡ line_expected (said line) e
