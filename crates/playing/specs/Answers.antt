-- A call at the C border: the number that each case is answered with, and what image, room and journal hold then.
use Rattle.std.specs.Prelude.{Bool, true, false, List, ◌∷◌, ◌++◌, ◌≡◌, ℕ, ◌+◌, eqb, leb, length, replicate, Option, Result, Ok, Err}
use Rattle.base.specs.Decide.{pick, and}
use Rattle.base.specs.Bytes.{low}
use Rattle.state.specs.declared.Tag.{Tag}
use Rattle.image.specs.declared.NotRead.{NotRead}
use Rattle.image.specs.Image.{image_of}
use Rattle.image.specs.Answers.{right_length, read_in}
use Rattle.making.specs.Making.{wrong_image}
use Rattle.access.specs.declared.Grant.{Grant}
use Rattle.access.specs.Marks.{marks_of}
use Rattle.replies.specs.Answer.{Answer}
use Rattle.tag.specs.declared.Outcome.{Outcome}
use Rattle.tag.specs.declared.Outcome.TheVariants.{Replied, SmallRoom, WrongRandom, Unsound}
use Rattle.tag.specs.Way.{answered, noted}
use Rattle.tag.specs.Call.{reply_of, outcome_of, room_by, noted_by, cost_by, refusal_number}

-- ---- a call: the reply's length, or 1000 and the number of refusals 1 to 3
abbrev pub call_number : Answer → Outcome → ℕ
call_number a Replied = length (reply_of a)
call_number a SmallRoom = 1000 + refusal_number SmallRoom
call_number a WrongRandom = 1000 + refusal_number WrongRandom
call_number a Unsound = 1000 + refusal_number Unsound

-- a number up to 258 is a reply's length, any other a refusal
abbrev pub is_reply : Outcome → Bool
is_reply Replied = true
is_reply SmallRoom = false
is_reply WrongRandom = false
is_reply Unsound = false

-- the image of the next state; on a refusal the image as it was
abbrev pub call_image : Answer → List ℕ → Outcome → List ℕ
call_image a image Replied = image_of a.tag
call_image a image SmallRoom = image
call_image a image WrongRandom = image
call_image a image Unsound = image

-- ---- the journal (02, requests 5 and 10, house): 16 bytes, how a command was granted and under which right in the first two, how many AES blocks
-- were computed in the next two, low byte first, zeros behind them
abbrev pub journal_length : ℕ
journal_length = 16

unfoldable pub journal_of : Option Grant → ℕ → List ℕ
journal_of n cost = (marks_of n).how ∷ (marks_of n).right ∷ low 2 cost ++ replicate 12 0

pub record Answers (t : Tag) (image c random room : List ℕ) (r : ℕ) (image' room' journal' : List ℕ) : Type 0 where
  pub number : r ≡ call_number (answered t c random) (outcome_of t random room)
  pub kept : image' ≡ call_image (answered t c random) image (outcome_of t random room)
  pub left : room' ≡ room_by (answered t c random) room (outcome_of t random room)
  pub notes : journal' ≡ journal_of (noted_by (noted t c) (outcome_of t random room)) (cost_by (answered t c random) (outcome_of t random room))
  pub apart : leb r 258 ≡ is_reply (outcome_of t random room)

-- what was read, or the state beside the refusal
abbrev pub read_or_beside : Result Tag NotRead → Tag
read_or_beside (Ok t) = t
read_or_beside (Err e) = e.beside

-- the state in an image; bytes of its length that hold none stand for a state of zeros, which is not sound
abbrev pub state_in : List ℕ → Tag
state_in image = read_or_beside (read_in image)

-- a journal of another length; this comes next after the image's
abbrev pub wrong_journal : ℕ
wrong_journal = 1007

-- an image and a journal of the right length
unfoldable pub fit : List ℕ → List ℕ → Bool
fit image journal = and (right_length image) (eqb (length journal) journal_length)

pub record Plays (image c random room journal : List ℕ) (r : ℕ) (image' room' journal' : List ℕ) : Type 0 where
  pub number : r ≡ pick (right_length image)
      (pick (fit image journal) (call_number (answered (state_in image) c random) (outcome_of (state_in image) random room)) wrong_journal) wrong_image
  pub kept : image' ≡ pick (fit image journal) (call_image (answered (state_in image) c random) image (outcome_of (state_in image) random room)) image
  pub left : room' ≡ pick (fit image journal) (room_by (answered (state_in image) c random) room (outcome_of (state_in image) random room)) room
  pub notes : journal' ≡ pick (fit image journal)
      (journal_of (noted_by (noted (state_in image) c) (outcome_of (state_in image) random room))
      (cost_by (answered (state_in image) c random) (outcome_of (state_in image) random room))) journal
  pub apart : leb r 258 ≡ and (fit image journal) (is_reply (outcome_of (state_in image) random room))
