-- A call: refusals 1 to 3, and the reply in the room.
use Rattle.std.specs.Prelude.{List, Option, None, [], ◌∷◌, ◌++◌, ◌≡◌, ℕ, ◌/◌, ◌%◌, ◌≤◌, eqb, ltb, length}
use Rattle.base.specs.Decide.{pick}
use Rattle.base.specs.Bytes.{over}
use Rattle.state.specs.declared.Tag.{Tag}
use Rattle.soundness.specs.Sound.{sound_tag}
use Rattle.access.specs.declared.Grant.{Grant}
use Rattle.replies.specs.Answer.{Answer}
use Rattle.tag.specs.Way.{answered, noted}
use Rattle.tag.specs.declared.Outcome.{Outcome}
use Rattle.tag.specs.declared.Outcome.TheVariants.{Replied, SmallRoom, WrongRandom, Unsound}
use Rattle.tag.specs.declared.Called.{Called}

-- data and two status bytes
unfoldable pub with_status : List ℕ → ℕ → List ℕ
with_status text s = text ++ (s / 256 % 256) ∷ (s % 256) ∷ []

unfoldable pub reply_of : Answer → List ℕ
reply_of a = with_status a.text a.status

-- refusals 1 to 3, in this order
unfoldable pub outcome_of : Tag → List ℕ → List ℕ → Outcome
outcome_of t random room =
    pick (ltb (length room) 258) SmallRoom (pick (eqb (length random) 20) (pick (sound_tag t) Replied Unsound) WrongRandom)

-- 01's number of an outcome; 0 where there is a reply
unfoldable pub refusal_number : Outcome → ℕ
refusal_number Replied = 0
refusal_number SmallRoom = 1
refusal_number WrongRandom = 2
refusal_number Unsound = 3

-- refusals 1 to 3, in this order, by their numbers
unfoldable pub refusal_of : Tag → List ℕ → List ℕ → ℕ
refusal_of t random room = pick (ltb (length room) 258) 1 (pick (eqb (length random) 20) (pick (sound_tag t) 0 3) 2)

-- refused: length 0 and the state as it was; the command never got to the access decision, and nothing was computed
unfoldable pub unanswered : Outcome → Tag → Called
unanswered o t = record { outcome = o; length = 0; tag = t; noted = None; cost = 0 }

-- a reply: its length, the next state, what the journal notes, and what it cost
unfoldable pub replied : Answer → Option Grant → Called
replied a n = record { outcome = Replied; length = length (reply_of a); tag = a.tag; noted = n; cost = a.cost }

abbrev pub by_outcome : Tag → Answer → Option Grant → Outcome → Called
by_outcome t a n Replied = replied a n
by_outcome t a n SmallRoom = unanswered SmallRoom t
by_outcome t a n WrongRandom = unanswered WrongRandom t
by_outcome t a n Unsound = unanswered Unsound t

-- the reply at the front of the room and the rest untouched; on a refusal the room as it was
abbrev pub room_by : Answer → List ℕ → Outcome → List ℕ
room_by a room Replied = over (reply_of a) room
room_by a room SmallRoom = room
room_by a room WrongRandom = room
room_by a room Unsound = room

-- what the journal notes; on a refusal that the command never got to the access decision
abbrev pub noted_by : Option Grant → Outcome → Option Grant
noted_by n Replied = n
noted_by n SmallRoom = None
noted_by n WrongRandom = None
noted_by n Unsound = None

-- how many blocks were computed (02, request 10); before a refusal none
abbrev pub cost_by : Answer → Outcome → ℕ
cost_by a Replied = a.cost
cost_by a SmallRoom = 0
cost_by a WrongRandom = 0
cost_by a Unsound = 0

-- a reply fits into the 258 bytes that a room must have
pub record Calls (t : Tag) (c random old : List ℕ) (r : Called) (new : List ℕ) : Type 0 where
  pub number : refusal_number r.outcome ≡ refusal_of t random old
  pub told : r ≡ by_outcome t (answered t c random) (noted t c) (outcome_of t random old)
  pub left : new ≡ room_by (answered t c random) old (outcome_of t random old)
  pub short : r.length ≤ 258

-- a text at the front of the room, and its length
pub record Laid (text old : List ℕ) (n : ℕ) (new : List ℕ) : Type 0 where
  pub count : n ≡ length text
  pub room : new ≡ over text old
  pub short : n ≤ 258

-- an answer as a reply, and what the journal notes
pub record Replies (a : Answer) (n : Option Grant) (old : List ℕ) (r : Called) (new : List ℕ) : Type 0 where
  pub told : r ≡ replied a n
  pub left : new ≡ over (reply_of a) old
  pub short : r.length ≤ 258
