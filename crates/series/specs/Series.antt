-- A series of calls, what a state has as a value of the machine, and what a status says of the next state.
use Rattle.std.specs.Prelude.{Bool, true, false, List, [], ◌∷◌, ◌≡◌, ℕ, ◌*◌, eqb, length, take, drop}
use Rattle.base.specs.Decide.{and, or}
use Rattle.base.specs.Status.{operation_ok, additional_frame, iso_normal}
use Rattle.aes.specs.Block.{IsBlock}
use Rattle.state.specs.declared.Files.{Files}
use Rattle.state.specs.declared.Tag.{Tag}
use Rattle.state.specs.State.{slot_of, ended_of}
use Rattle.access.specs.declared.Grant.{Grant}
use Rattle.access.specs.declared.Grant.TheVariants.{ByKey, ByTap, Free, Unasked, Never, Denied}
use Rattle.replies.specs.Answer.{Answer}
use Rattle.tag.specs.declared.Outcome.{Outcome}
use Rattle.tag.specs.declared.Outcome.TheVariants.{Replied, SmallRoom, WrongRandom, Unsound}
use Rattle.tag.specs.Way.{answered, noted}
use Rattle.tag.specs.Call.{outcome_of, by_outcome}

-- what a caller brings: a command, random bytes and a room, any of them
pub record Asked : Type 0 where
  pub command : List ℕ
  pub random : List ℕ
  pub room : List ℕ

-- the state that a call leaves
unfoldable pub step : Tag → Asked → Tag
step t a = (by_outcome t (answered t a.command a.random) (noted t a.command) (outcome_of t a.random a.room)).tag

unfoldable pub after : Tag → List Asked → Tag
after t [] = t
after t (a ∷ more) = after (step t a) more

-- the 27 bytes of the place of file n among the settings
abbrev pub slot_in : Files → ℕ → List ℕ
slot_in f n = take 27 (drop (slot_of n * 27) f.rules)

-- ---- what a status says
-- the statuses that accept
unfoldable pub accepting : ℕ → Bool
accepting status = or (eqb status iso_normal) (eqb status operation_ok)

-- 9000, 9100 and 91AF
unfoldable pub passing : ℕ → Bool
passing status = or (accepting status) (eqb status additional_frame)

-- there is a reply: none of refusals 1 to 3
abbrev pub replies : Outcome → Bool
replies Replied = true
replies SmallRoom = false
replies WrongRandom = false
replies Unsound = false

-- the grants that let a command on
abbrev pub allows : Grant → Bool
allows (ByKey r) = true
allows ByTap = true
allows (Free r) = true
allows Unasked = true
allows Never = false
allows Denied = false

-- a call with an accepting reply
unfoldable pub accepts : Tag → Asked → Bool
accepts t a = and (replies (outcome_of t a.random a.room)) (accepting (answered t a.command a.random).status)

-- an answer that only ends session, pending part two and tap
pub record Ended (t : Tag) (a : Answer) : Type 0 where
  pub state : a.tag ≡ ended_of t
  pub empty : a.text ≡ []

-- files, settings, keys and versions as they were
pub record Same (t u : Tag) : Type 0 where
  pub files : u.files ≡ t.files
  pub secrets : u.secrets ≡ t.secrets

-- ---- every value of the type
-- the arrays of the settings strings have their lengths, and the session's ENC key is 16 bytes. Every value of the type meets this; theorems, whose tags are
-- records of lists, take it as one premise
pub record Typed (t : Tag) : Type 0 where
  pub rules : length t.files.rules ≡ 81
  pub lens : length t.files.lens ≡ 3
  pub enc : IsBlock t.live.enc
