-- Every record is reachable: the command that carries a settings string, the tags that grant it, and what it comes to.
use Rattle.std.specs.Prelude.{◌≡◌, true, false, List, [], ◌∷◌, ◌++◌, ◌⊎◌, ℕ, ◌+◌, ◌-◌, ◌≤◌, ◌<◌, length, replicate}
use Rattle.base.specs.Bytes.{over}
use Rattle.messaging.specs.declared.Mode.{Mode}
use Rattle.messaging.specs.declared.Mode.TheVariants.{Plain, Full}
use Rattle.messaging.specs.Protect.{message_mac}
use Rattle.opening.specs.Command.{sent_command, opening_cost}
use Rattle.closing.specs.Reply.{closed, closed_cost}
use Rattle.fields.specs.declared.Settings.{Settings}
use Rattle.fields.specs.Fields.{sdm_on, read_of, string_of}
use Rattle.fields.specs.Normal.{normal}
use Rattle.meanings.specs.Meaning.{OneString}
use Rattle.order.specs.declared.Name.TheVariants.{ChangeFileSettings}
use Rattle.state.specs.declared.Tag.{Tag}
use Rattle.state.specs.State.{rules_of, reading_in, session_of}
use Rattle.access.specs.Access.{grant_for, decided}
use Rattle.soundness.specs.Sound.{sound_tag}
use Rattle.replies.specs.Answer.{given_for, afterwards, raised}
use Rattle.change_settings.specs.ChangeSettings.{with_rules, restrung}
use Rattle.tag.specs.declared.Outcome.TheVariants.{Replied}
use Rattle.tag.specs.Way.{answered}
use Rattle.tag.specs.Call.{reply_of, outcome_of, room_by}
use Rattle.series.specs.Series.{Asked, step, allows, Typed}

-- CLA 90, INS, P1 P2 0000, Lc, data, Le 00
unfoldable pub built : ℕ → List ℕ → List ℕ
built ins x = 0x90 ∷ ins ∷ 0 ∷ 0 ∷ length x ∷ (x ++ 0 ∷ [])

-- the Change right of file n
unfoldable pub change_of : Tag → ℕ → ℕ
change_of t n = (reading_in t.files n).settings.head.change

-- what the other side sends: ChangeFileSettings of file n, its data the string in the mode, under the session's keys
unfoldable pub carried : Tag → Mode → ℕ → List ℕ → List ℕ
carried t m n s = sent_command (session_of t.live) m 0x5F (n ∷ []) true s

-- 02, request 10: what opening it costs, and closing its reply, which has no data
unfoldable pub change_cost : Tag → Mode → ℕ → List ℕ → ℕ
change_cost t m n s = opening_cost (session_of t.live) m 0x5F (carried t m n s) 1 true + closed_cost m 0

unfoldable pub changing : Tag → Mode → ℕ → List ℕ → List ℕ
changing t m n s = built 0x5F (carried t m n s)

-- the call with the string of a record
abbrev pub asking : Tag → ℕ → Settings → Mode → List ℕ → List ℕ → Asked
asking t n r m random room = record { command = changing t m n (string_of r); random = random; room = room }

-- the tag with that string, after an accepted command
unfoldable pub changed : Tag → ℕ → List ℕ → Tag
changed t n s =
    let f = with_rules t.files n (normal s ++ replicate (27 - length s) 0) (length s) in
    afterwards (restrung t (reading_in t.files n).settings.head.sdm (sdm_on s) f)

-- a sound tag in the application, no part two pending, that grants the change of file n, in mode m; in session CmdCtr is below
-- 65,535
pub record Ready (t : Tag) (n : ℕ) (m : Mode) : Type 0 where
  pub typed : Typed t
  pub sound : sound_tag t ≡ true
  pub application : t.place.application ≡ true
  pub idle : t.pending.on ≡ false
  pub first : 1 ≤ n
  pub last : n ≤ 3
  pub allowed : allows (grant_for ChangeFileSettings t.live (reading_in t.files n).settings.head) ≡ true
  pub decides : (decided ChangeFileSettings t.live (reading_in t.files n).settings.head).mode ≡ m
  pub counter : t.live.on ≡ true → t.live.counter < 65535

-- under E: the command is plain, and the reply is 9100 alone
pub record UnderE (t : Tag) (n : ℕ) (s : List ℕ) (m : Mode) (random : List ℕ) : Type 0 where
  pub right : change_of t n ≡ 14
  pub mode : m ≡ Plain
  pub command : changing t m n s ≡ 0x90 ∷ 0x5F ∷ 0 ∷ 0 ∷ (1 + length s) ∷ n ∷ (s ++ 0 ∷ [])
  pub reply : reply_of (answered t (changing t m n s) random) ≡ 0x91 ∷ 0x00 ∷ []

-- under the session's key: the command is encrypted and has a MAC, and the reply is a MAC, under CmdCtr raised by one, and 9100
pub record UnderKey (t : Tag) (n : ℕ) (s : List ℕ) (m : Mode) (random : List ℕ) : Type 0 where
  pub live : t.live.on ≡ true
  pub right : change_of t n ≡ t.live.key
  pub mode : m ≡ Full
  pub command : changing t m n s ≡ built 0x5F (sent_command (session_of t.live) Full 0x5F (n ∷ []) true s)
  pub counted : (raised t.live).counter ≡ t.live.counter + 1
  pub reply : reply_of (answered t (changing t m n s) random) ≡ message_mac (session_of (raised t.live)) 0 [] ++ 0x91 ∷ 0x00 ∷ []

pub record Reached (t : Tag) (n : ℕ) (r : Settings) (m : Mode) (random room : List ℕ) : Type 0 where
  pub string : OneString n r (string_of r)
  pub answers : outcome_of t random room ≡ Replied
  pub accepts : answered t (changing t m n (string_of r)) random
      ≡ given_for (change_cost t m n (string_of r)) (changed t n (string_of r)) 0x9100 (closed (session_of (raised t.live)) m 0 [])
  pub room-holds : room_by (answered t (changing t m n (string_of r)) random) room (outcome_of t random room)
      ≡ over (reply_of (answered t (changing t m n (string_of r)) random)) room
  pub due : UnderKey t n (string_of r) m random ⊎ UnderE t n (string_of r) m random
  pub holds : rules_of (step t (asking t n r m random room)).files n ≡ string_of r
  pub means : read_of (rules_of (step t (asking t n r m random room)).files n) ≡ r
  pub sound : sound_tag (step t (asking t n r m random room)) ≡ true
