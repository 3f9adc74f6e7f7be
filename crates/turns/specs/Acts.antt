-- A line's turn as it is computed: with the reply, and by the machine's random bytes.
use Rattle.std.specs.Prelude.{true, false, Option, Result, Ok, Err, List, [], ℕ, eqb, length, take, replicate}
use Rattle.base.specs.Decide.{pick}
use Rattle.state.specs.declared.Tag.{Tag}
use Rattle.buffers.specs.Text.{text_of}
use Rattle.tag.specs.Way.{answered, noted}
use Rattle.tag.specs.Call.{outcome_of, by_outcome, room_by}
use Rattle.tag.specs.declared.Called.{Called}
use Rattle.access.specs.declared.Grant.{Grant}
use Rattle.access.specs.Marks.{marks_of}
use Rattle.telling.specs.declared.Why.{Why}
use Rattle.plans.specs.declared.Meaning.{Meaning}
use Rattle.plans.specs.declared.Meaning.TheVariants.{Blank, Drawn, Given}
use Rattle.plans.specs.declared.Reason.{Reason}
use Rattle.turns.specs.declared.Turn.{Turn}
use Rattle.turns.specs.declared.Acted.{Acted}
use Rattle.turns.specs.Steps.{told_by, stays}

-- a turn, the reply, and what is noted of it
pub record Act : Type 0 where
  pub turn : Turn
  pub reply : List ℕ
  pub why : Why

abbrev pub act_of : Acted → Act
act_of a = record { turn = a.turn; reply = text_of a.reply; why = a.why }

-- what a call notes, and the key of its session
unfoldable pub why_with : Option Grant → ℕ → Why
why_with n key = record { how = (marks_of n).how; right = (marks_of n).right; key = key }

-- by what the call answers and leaves in the room
unfoldable pub acted_of : Called → ℕ → List ℕ → List ℕ → Act
acted_of d key room expected =
    record {
      turn = told_by d.tag (take d.length room) expected d.cost;
      reply = take d.length room;
      why = why_with d.noted key;
    }

-- a command that is played
unfoldable pub played_as : Tag → List ℕ → List ℕ → List ℕ → Act
played_as t c random expected =
    acted_of (by_outcome t (answered t c random) (noted t c) (outcome_of t random (replicate 258 0))) t.live.key
    (room_by (answered t c random) (replicate 258 0) (outcome_of t random (replicate 258 0)))
    expected

-- none is, and there is neither a reply nor anything to note
unfoldable pub silent : Turn → Act
silent u =
    record {
      turn = u;
      reply = [];
      why = record { how = 0; right = 0; key = 0 };
    }

-- 20 random bytes of the machine are taken, any other number of them is none
unfoldable pub drawn_by : ℕ → Tag → List ℕ → List ℕ → List ℕ → Act
drawn_by n t c expected drawn = pick (eqb (length drawn) 20) (played_as t (take n c) drawn expected) (silent (stays t true true))

-- a line that is blank or bad leaves the tag; any other is a command, the first n bytes of c
unfoldable pub acted_by : Result Meaning Reason → Tag → List ℕ → List ℕ → List ℕ → List ℕ → Act
acted_by (Ok Blank) t c random expected drawn = silent (stays t false false)
acted_by (Err e) t c random expected drawn = silent (stays t true false)
acted_by (Ok (Drawn n)) t c random expected drawn = drawn_by n t c expected drawn
acted_by (Ok (Given n)) t c random expected drawn = played_as t (take n c) random expected
