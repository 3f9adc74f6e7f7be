-- A line of a plan: what it does, and what is printed of it.
use Rattle.std.specs.Prelude.{Result, List, ℕ, take, replicate}
use Rattle.state.specs.declared.Tag.{Tag}
use Rattle.first_lines.specs.Said.{said}
use Rattle.plans.specs.Plan.{line_command, line_random, line_expected}
use Rattle.plans.specs.declared.Line.{Line}
use Rattle.plans.specs.declared.Meaning.{Meaning}
use Rattle.plans.specs.declared.Reason.{Reason}
use Rattle.turns.specs.Steps.{line_in, meaning_in, expected_in}
use Rattle.turns.specs.Acts.{Act, acted_by}
use Rattle.telling.specs.Turns.{line_text}

-- what is printed of a command, the first bytes of c, by its turn and the reply
unfoldable pub told_of : ℕ → Result Meaning Reason → List ℕ → List ℕ → Act → List ℕ
told_of number m c expected a =
    line_text number m c a.reply a.why a.turn.went.blocks expected a.turn.went.undrawn a.turn.went.unmet

-- a line that was read, with what it left in the three rooms
abbrev pub acted_in : Result Line Reason → Tag → List ℕ → List ℕ → List ℕ → List ℕ → Act
acted_in l t c random room drawn = acted_by (meaning_in l) t c random (take (expected_in l) room) drawn

abbrev pub told_in : ℕ → Result Line Reason → List ℕ → List ℕ → Act → List ℕ
told_in number l c room a = told_of number (meaning_in l) c (take (expected_in l) room) a

-- the turn of a line, by the machine's random bytes
unfoldable pub line_acted : Tag → List ℕ → List ℕ → Act
line_acted t line drawn =
    acted_in (line_in (said line)) t (line_command (said line) (replicate 512 0)) (line_random (said line) (replicate 20 0))
    (line_expected (said line) (replicate 258 0)) drawn

-- and what is printed of it
unfoldable pub line_told : ℕ → Tag → List ℕ → List ℕ → List ℕ
line_told number t line drawn =
    told_in number (line_in (said line)) (line_command (said line) (replicate 512 0)) (line_expected (said line) (replicate 258 0))
    (line_acted t line drawn)
