-- What a series of calls says, and the last change of a file's settings that was accepted in it.
use Rattle.access.specs.declared.Grant.{Grant}
use Rattle.std.specs.Prelude.{Bool, true, not, List, [], ◌∷◌, ◌++◌, ◌≡◌, ℕ, eqb, take, drop, replicate, Option}
use Rattle.base.specs.Decide.{pick, and}
use Rattle.base.specs.Bytes.{byte_at}
use Rattle.messaging.specs.declared.Mode.TheVariants.{Plain, Mac}
use Rattle.closing.specs.Reply.{closed}
use Rattle.messaging.specs.Protect.{Opening, plain, wrong_length, wrong_mac, wrong_padding}
use Rattle.fields.specs.Normal.{normal}
use Rattle.state.specs.declared.Tag.{Tag}
use Rattle.state.specs.State.{size_of, reading_in, session_of}
use Rattle.delivery.specs.Fresh.{first_rules, second_rules, third_rules}
use Rattle.access.specs.Access.{decided}
use Rattle.replies.specs.Answer.{Answer, raised}
use Rattle.details.specs.Details.{settings_reply}
use Rattle.tag.specs.declared.Outcome.{Outcome}
use Rattle.tag.specs.declared.Outcome.TheVariants.{Replied, SmallRoom, WrongRandom, Unsound}
use Rattle.tag.specs.declared.Called.{Called}
use Rattle.order.specs.declared.Name.TheVariants.{ChangeFileSettings}
use Rattle.order.specs.Order.{command_data}
use Rattle.order.specs.Commands.{wrapped_command}
use Rattle.wrapped.specs.Wrapped.{opening_of}
use Rattle.tag.specs.Way.{answered, noted}
use Rattle.tag.specs.Call.{reply_of, outcome_of, noted_by, cost_by, Calls}
use Rattle.series.specs.Series.{Asked, step, after, accepts}
use Rattle.series.specs.Worked.{select_application, settings_of}

-- what a call says: its outcome, the reply, none where it is refused, and what a journal notes of it, with how many blocks it cost
pub record Said : Type 0 where
  pub outcome : Outcome
  pub reply : List ℕ
  pub noted : Option Grant
  pub cost : ℕ

abbrev pub heard : Answer → Outcome → List ℕ
heard a Replied = reply_of a
heard a SmallRoom = []
heard a WrongRandom = []
heard a Unsound = []

unfoldable pub said : Tag → Asked → Said
said t a =
    let o = outcome_of t a.random a.room in
    let x = answered t a.command a.random in
    record { outcome = o; reply = heard x o; noted = noted_by (noted t a.command) o; cost = cost_by x o }

unfoldable pub said_all : Tag → List Asked → List Said
said_all t [] = []
said_all t (a ∷ more) = said t a ∷ said_all (step t a) more

-- two tags behave alike: they say the same to every later series of commands
unfoldable pub Alike : Tag → Tag → Type 0
Alike t u = (asked : List Asked) → said_all t asked ≡ said_all u asked

-- ---- what `call` promises, in these words
-- what a caller has from a call: its result, and the room then
pub record Had : Type 0 where
  pub result : Called
  pub room : List ℕ

-- what that says: the outcome, as many bytes of the room as the length says, what is noted, and what it cost
abbrev pub saying : Had → Said
saying h =
    record { outcome = h.result.outcome; reply = take h.result.length h.room; noted = h.result.noted; cost = h.result.cost }

-- the next state is that of `step`, outcome, reply, what is noted and the cost are those of `said`, and the rest of the room is as it was
pub record Speaks (t : Tag) (a : Asked) (h : Had) : Type 0 where
  pub state : h.result.tag ≡ step t a
  pub says : saying h ≡ said t a
  pub rest : drop h.result.length h.room ≡ drop h.result.length a.room

-- a series as a caller plays it: every call by the promise of `call`, from the state that the one before gave back
unfoldable pub Played : Tag → List Asked → List Had → Type 0
Played t [] [] = Unit
Played t [] (h ∷ had) = ⊥
Played t (a ∷ more) [] = ⊥
Played t (a ∷ more) (h ∷ had) = Calls t a.command a.random a.room h.result h.room × Played h.result.tag more had

-- the state that a caller holds at the end, and all that was said
unfoldable pub held : Tag → List Had → Tag
held t [] = t
held t (h ∷ had) = held h.result.tag had

unfoldable pub sayings : List Had → List Said
sayings [] = []
sayings (h ∷ had) = saying h ∷ sayings had

pub record SpeaksAll (t : Tag) (asked : List Asked) (had : List Had) : Type 0 where
  pub state : held t had ≡ after t asked
  pub says : sayings had ≡ said_all t asked

-- ---- ChangeFileSettings
-- CLA 90, INS 5F, file n
unfoldable pub is_change : List ℕ → ℕ → Bool
is_change c n = and (eqb (byte_at c 0) 0x90) (and (eqb (byte_at c 1) 0x5F) (eqb (byte_at (command_data c) 0) n))

abbrev pub plain_of : Opening → List ℕ
plain_of (plain p) = p
plain_of wrong_length = []
plain_of wrong_mac = []
plain_of wrong_padding = []

-- the string of a change, as the tag opens it
unfoldable pub string_in : Tag → List ℕ → List ℕ
string_in t c =
    let h = (reading_in t.files (byte_at (command_data c) 0)).settings.head in
    plain_of (opening_of t (wrapped_command ChangeFileSettings c) (command_data c) (decided ChangeFileSettings t.live h).mode)

-- a call that changes the settings of file n: it is a change of that file, and the reply accepts it
unfoldable pub changes : Tag → Asked → ℕ → Bool
changes t a n = and (is_change a.command n) (accepts t a)

-- the normal form of the last change of file n that a series accepts; s where there is none
unfoldable pub last_change : Tag → List Asked → ℕ → List ℕ → List ℕ
last_change t [] n s = s
last_change t (a ∷ more) n s = last_change (step t a) more n (pick (changes t a n) (normal (string_in t a.command)) s)

-- ---- GetFileSettings
-- CLA 90, INS F5, file n
unfoldable pub asks_settings : List ℕ → ℕ → Bool
asks_settings c n = and (eqb (byte_at c 0) 0x90) (and (eqb (byte_at c 1) 0xF5) (eqb (byte_at (command_data c) 0) n))

-- what GetFileSettings of file n is answered: MAC in session, else Plain
abbrev pub read_text : Tag → ℕ → List ℕ → List ℕ
read_text t n s = closed (session_of (raised t.live)) (pick t.live.on Mac Plain) 0 (settings_reply s (size_of n))

-- the string in a reply: FileOption and rights behind the file type, then what stands behind the size
unfoldable pub string_of_reply : List ℕ → List ℕ
string_of_reply x = take 3 (drop 1 x) ++ drop 7 x

-- no call of a series changes the settings of file n
unfoldable pub untouched : Tag → List Asked → ℕ → Bool
untouched t [] n = true
untouched t (a ∷ more) n = and (not (changes t a n)) (untouched (step t a) more n)

-- the settings of file n at delivery
unfoldable pub delivered : ℕ → List ℕ
delivered n = pick (eqb n 1) first_rules (pick (eqb n 2) second_rules third_rules)

-- the series that tells two tags apart: the application is selected, and GetFileSettings of file n
unfoldable pub telling : ℕ → List Asked
telling n =
    record { command = select_application; random = replicate 20 0; room = replicate 258 0 }
    ∷ record { command = settings_of n; random = replicate 20 0; room = replicate 258 0 }
    ∷ []

-- two changes of file n whose tags answer that series alike have one normal form
abbrev pub Tells : Tag → ℕ → List ℕ → List ℕ → List ℕ → Type 0
Tells t n c d random =
    said_all (answered t c random).tag (telling n) ≡ said_all (answered t d random).tag (telling n)
    → normal (string_in t c) ≡ normal (string_in t d)

-- two changes: alike in every later series, and one normal form
pub record Exactly (t : Tag) (c d random : List ℕ) : Type 0 where
  pub alike : normal (string_in t c) ≡ normal (string_in t d) → Alike (answered t c random).tag (answered t d random).tag
  pub one_form : Alike (answered t c random).tag (answered t d random).tag → normal (string_in t c) ≡ normal (string_in t d)
