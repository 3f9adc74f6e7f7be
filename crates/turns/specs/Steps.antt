-- What a line does to the tag, and what is said of it.
use Rattle.std.specs.Prelude.{Bool, true, false, Result, Ok, Err, List, ◌≡◌, ℕ, ltb, length, take, replicate}
use Rattle.base.specs.Decide.{pick}
use Rattle.state.specs.declared.Tag.{Tag}
use Rattle.tag.specs.Way.{answered, noted}
use Rattle.tag.specs.Call.{outcome_of, by_outcome, room_by}
use Rattle.first_lines.specs.Said.{said}
use Rattle.plans.specs.Plan.{line_of, line_command, line_random, line_expected}
use Rattle.plans.specs.declared.Line.{Line}
use Rattle.plans.specs.declared.Meaning.{Meaning}
use Rattle.plans.specs.declared.Meaning.TheVariants.{Blank, Drawn, Given}
use Rattle.plans.specs.declared.Reason.{Reason}
use Rattle.verdict.specs.Replies.{status_in, refusing, differing}
use Rattle.tallies.specs.declared.Went.{Went}
use Rattle.turns.specs.declared.Turn.{Turn}

-- the tag behind a command
unfoldable pub next_of : Tag → List ℕ → List ℕ → Tag
next_of t c random = (by_outcome t (answered t c random) (noted t c) (outcome_of t random (replicate 258 0))).tag

-- the reply to it: as many first bytes of the room as the call says
unfoldable pub reply_to : Tag → List ℕ → List ℕ → List ℕ
reply_to t c random =
    take (by_outcome t (answered t c random) (noted t c) (outcome_of t random (replicate 258 0))).length
    (room_by (answered t c random) (replicate 258 0) (outcome_of t random (replicate 258 0)))

-- the AES blocks that were computed for it
unfoldable pub cost_of : Tag → List ℕ → List ℕ → ℕ
cost_of t c random = (by_outcome t (answered t c random) (noted t c) (outcome_of t random (replicate 258 0))).cost

-- a command was played: its reply, what was expected, which is nothing where it has no bytes, and the blocks that it took
unfoldable pub went_by : List ℕ → List ℕ → ℕ → Went
went_by reply expected blocks =
    record {
      played = true;
      refused = refusing (status_in reply);
      skipped = false;
      undrawn = false;
      expecting = ltb 0 (length expected);
      unmet = differing expected reply;
      blocks = blocks;
    }

unfoldable pub told_by : Tag → List ℕ → List ℕ → ℕ → Turn
told_by t reply expected blocks = record { tag = t; went = went_by reply expected blocks }

unfoldable pub played : Tag → List ℕ → List ℕ → List ℕ → Turn
played t c random expected = told_by (next_of t c random) (reply_to t c random) expected (cost_of t c random)

-- no command was played, and the tag stays; was the line skipped, and because the machine gave no random bytes?
unfoldable pub stays : Tag → Bool → Bool → Turn
stays t skipped undrawn =
    record {
      tag = t;
      went = record {
        played = false;
        refused = false;
        skipped = skipped;
        undrawn = undrawn;
        expecting = false;
        unmet = false;
        blocks = 0;
      };
    }

-- a command that was played with some 20 random bytes
pub record Drew (t : Tag) (c expected : List ℕ) (r : Turn) : Type 0 where
  pub random : List ℕ
  pub twenty : length random ≡ 20
  pub is : r ≡ played t c random expected

-- with random bytes of the machine; only where the line says that it gave none is it skipped
unfoldable pub Draws : Tag → List ℕ → List ℕ → Turn → Type 0
Draws t c expected r = pick r.went.undrawn (r ≡ stays t true true) (Drew t c expected r)

-- a line that is blank or bad leaves the tag; any other is a command, the first n bytes of c
unfoldable pub Carried : Result Meaning Reason → Tag → List ℕ → List ℕ → List ℕ → Turn → Type 0
Carried (Ok Blank) t c random expected r = r ≡ stays t false false
Carried (Err e) t c random expected r = r ≡ stays t true false
Carried (Ok (Drawn n)) t c random expected r = Draws t (take n c) expected r
Carried (Ok (Given n)) t c random expected r = r ≡ played t (take n c) random expected

-- a line that was read, with what it left in the three rooms
abbrev pub meaning_in : Result Line Reason → Result Meaning Reason
meaning_in (Ok l) = Ok l.meaning
meaning_in (Err e) = Err e

abbrev pub expected_in : Result Line Reason → ℕ
expected_in (Ok l) = l.expected
expected_in (Err e) = 0

abbrev pub CarriedLine : Result Line Reason → Tag → List ℕ → List ℕ → List ℕ → Turn → Type 0
CarriedLine l t c random room r = Carried (meaning_in l) t c random (take (expected_in l) room) r

abbrev pub line_in : List ℕ → Result Line Reason
line_in s = line_of s (replicate 512 0) (replicate 20 0) (replicate 258 0)

unfoldable pub Stepped : Tag → List ℕ → Turn → Type 0
Stepped t line r =
    CarriedLine (line_in (said line)) t (line_command (said line) (replicate 512 0)) (line_random (said line) (replicate 20 0))
    (line_expected (said line) (replicate 258 0)) r
