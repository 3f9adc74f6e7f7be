-- Where a plan begins: its first line that is not blank is the tag's UID.
use Rattle.std.specs.Prelude.{Bool, true, false, List, [], ◌∷◌, ◌≡◌, ℕ, zero, suc, ◌+◌, ◌-◌, ◌≤◌, eqb, ltb, length, take, drop}
use Rattle.base.specs.Decide.{pick, and}
use Rattle.base.specs.Bytes.{byte_at}
use Rattle.lines.specs.Lines.{seek}
use Rattle.first_lines.specs.declared.FirstLine.{FirstLine}
use Rattle.first_lines.specs.Said.{is_blank}

-- the length of a byte order mark, EF BB BF, at the front
unfoldable pub mark_in : List ℕ → ℕ
mark_in text = pick (and (eqb (byte_at text 0) 0xEF) (and (eqb (byte_at text 1) 0xBB) (eqb (byte_at text 2) 0xBF))) 3 0

-- a line of blanks, whatever stands behind '#'
unfoldable pub silent_in : List ℕ → Bool
silent_in [] = true
silent_in (x ∷ xs) = pick (eqb x 35) true (pick (is_blank x) (silent_in xs) false)

-- no line is left: the text's end
abbrev pub no_line : List ℕ → ℕ → FirstLine
no_line text number = record { start = length text; end = length text; number = number }

-- from an index on, where the line with this number begins: the first that is not blank; n is at least the number of lines
unfoldable pub line_from : ℕ → List ℕ → ℕ → ℕ → FirstLine
line_from zero text at number = no_line text number
line_from (suc n) text at number =
    pick (ltb at (length text))
    (pick (silent_in (take (seek text at 10 - at) (drop at text)))
    (line_from n text (seek text at 10 + 1) (number + 1))
    (record { start = at; end = seek text at 10; number = number }))
    (no_line text number)

unfoldable pub first_line_of : List ℕ → FirstLine
first_line_of text = line_from (length text) text (mark_in text) 1

-- it lies inside the text, and no line has a larger number than its place
pub record Begins (text : List ℕ) (r : FirstLine) : Type 0 where
  pub told : r ≡ first_line_of text
  pub order : r.start ≤ r.end
  pub inside : r.end ≤ length text
  pub counted : r.number ≤ r.end + 1
