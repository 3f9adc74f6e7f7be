-- What a command is answered: status, data, the next state, and what it cost.
use Rattle.std.specs.Prelude.{List, [], Err, ◌≡◌, ℕ, min, ◌+◌, ◌≤◌, ltb, length, take, replicate}
use Rattle.base.specs.Decide.{pick}
use Rattle.base.specs.Bytes.{laid}
use Rattle.base.specs.Status.{operation_ok}
use Rattle.buffers.specs.Text.{text_of}
use Rattle.statuses.specs.Words.{status_word}
use Rattle.messaging.specs.declared.Mode.{Mode}
use Rattle.closing.specs.declared.NotClosed.TheVariants.{TooLong}
use Rattle.closing.specs.Reply.{closed, overlong, closed_status, closed_cost}
use Rattle.state.specs.declared.Live.{Live}
use Rattle.state.specs.declared.Tag.{Tag}
use Rattle.state.specs.State.{session_of, talking, ended_of}
use Rattle.replies.specs.declared.Done.{Done}

-- 02, request 10: the cost is how many AES blocks were computed, key schedules not counted
pub record Answer : Type 0 where
  pub status : ℕ
  pub text : List ℕ
  pub tag : Tag
  pub cost : ℕ

abbrev pub given_for : ℕ → Tag → ℕ → List ℕ → Answer
given_for n t s d = record { status = s; text = d; tag = t; cost = n }

abbrev pub given : Tag → ℕ → List ℕ → Answer
given t s d = given_for 0 t s d

-- an answer for n blocks more, refused or not
abbrev pub costing : ℕ → Answer → Answer
costing n a = record { status = a.status; text = a.text; tag = a.tag; cost = n + a.cost }

-- A refusal by status has no data, and ends session, pending part two and tap
unfoldable pub refusal : Tag → ℕ → Answer
refusal t s = given (ended_of t) s []

-- CmdCtr rises by one in session. 01, step 7, sees to it that it can: no accepted command gets here with 65,535, which stays
unfoldable pub raised : Live → Live
raised l =
    record {
      on = l.on;
      key = l.key;
      enc = l.enc;
      mac = l.mac;
      ti = l.ti;
      counter = pick l.on (pick (ltb l.counter 65535) (l.counter + 1) l.counter) l.counter;
    }

-- the tag after an accepted command that is no tap: CmdCtr has risen, and no tap runs
unfoldable pub afterwards : Tag → Tag
afterwards t = talking t (raised t.live) t.pending

-- An accepted command: its data closed in its mode under the raised CmdCtr; over 256 bytes with its MAC: 917E
unfoldable pub accepted : Tag → Mode → List ℕ → Answer
accepted t m d =
    pick (overlong m (length d)) (refusal t (closed_status (Err TooLong)))
    (given_for (closed_cost m (length d)) (afterwards t) operation_ok (closed (session_of (raised t.live)) m 0 d))

-- of the code, not the paper: a text given out of a room of 258 zeros; one of at most 256 bytes is given whole
unfoldable pub room_given : ℕ → Tag → ℕ → List ℕ → Answer
room_given n t status e = given_for n t status (take (min (length e) 256) (laid e 0 (replicate 258 0)))

-- of the code, not the paper: what its answer says, data in a buffer of 258 bytes, of which at most 256 count
unfoldable pub answer_of : Done → Answer
answer_of d = given_for d.cost d.tag (status_word d.status) (text_of d.data)

pub record Gives (a : Answer) (d : Done) : Type 0 where
  pub says : answer_of d ≡ a
  pub short : d.data.length ≤ 256
