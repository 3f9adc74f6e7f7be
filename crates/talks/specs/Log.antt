-- The lines of a log, each of capital hexadecimal.
use Rattle.std.specs.Prelude.{Result, Ok, Err, Bool, true, false, List, [], ◌∷◌, ℕ, suc, ◌+◌, ◌-◌, ◌/◌, min, eqb, leb, ltb, length, take, drop}
use Rattle.base.specs.Decide.{pick, or}
use Rattle.base.specs.Bytes.{byte_at}
use Rattle.buffers.specs.declared.buffer.Buffer.{Buffer}
use Rattle.buffers.specs.Text.{text_of}
use Rattle.lines.specs.Lines.{before, seek}
use Rattle.lines.specs.Hex.{is_hex, bytes_of}
use Rattle.lines.specs.declared.DecodeError.{DecodeError}
use Rattle.lines.specs.declared.DecodeError.TheVariants.{NotHex, RoomTooSmall}
use Rattle.talks.specs.declared.Unread.{Unread}
use Rattle.talks.specs.declared.Unread.TheVariants.{NotCapitalHex, TooLong, Missing}

-- neither a newline nor a carriage return
unfoldable pub solid : ℕ → Bool
solid b = pick (eqb b 10) false (pick (eqb b 13) false true)

-- how many bytes there are up to the last solid one
unfoldable pub trimmed : List ℕ → ℕ
trimmed [] = 0
trimmed (b ∷ s) = pick (or (solid b) (ltb 0 (trimmed s))) (suc (trimmed s)) 0

-- how many bytes of a line count: all but a carriage return at the end
unfoldable pub counted : List ℕ → ℕ
counted s = pick (eqb (byte_at s (length s - 1)) 13) (length s - 1) (length s)

unfoldable pub without_return : List ℕ → List ℕ
without_return s = take (counted s) s

-- the line that begins at i
unfoldable pub line_at : List ℕ → ℕ → List ℕ
line_at s i = without_return (take (before 10 (drop i s)) (drop i s))

-- where the next line begins, or the end
unfoldable pub next_line : List ℕ → ℕ → ℕ
next_line s i = min (seek s i 10 + 1) (length s)

unfoldable pub after_three : List ℕ → ℕ → ℕ
after_three s i = next_line s (next_line s (next_line s i))

-- why digits can't be read, as a line
abbrev pub unread_by : DecodeError → Unread
unread_by NotHex = NotCapitalHex
unread_by RoomTooSmall = TooLong

-- the bytes of a line, or why it can't be read
unfoldable pub field_in : List ℕ → Result (List ℕ) Unread
field_in s = pick (is_hex s) (pick (leb (length s / 2) 300) (Ok (bytes_of s)) (Err TooLong)) (Err NotCapitalHex)

-- the same at a place of a log: behind the last line it breaks off
unfoldable pub field_at : List ℕ → ℕ → Result (List ℕ) Unread
field_at s i = pick (ltb i (length s)) (field_in (line_at s i)) (Err Missing)

-- what was read of a line
abbrev pub read_as : Result (Buffer 300) Unread → Result (List ℕ) Unread
read_as (Ok f) = Ok (text_of f)
read_as (Err e) = Err e

-- the house's numbers of what a line is: 0 for one that can be read
abbrev pub log_line_number : Result (List ℕ) Unread → ℕ
log_line_number (Ok s) = 0
log_line_number (Err NotCapitalHex) = 1
log_line_number (Err TooLong) = 2
log_line_number (Err Missing) = 3
