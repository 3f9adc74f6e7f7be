-- 02, request 3: padding "is drawn when the tap starts, kept in the tag state, and used until the tap ends. Any two reads of one tap
-- that show the same byte agree."
use Rattle.std.specs.Prelude.{Bool, true, false, List, [], ◌∷◌, ◌++◌, ◌⊎◌, ◌≡◌, ℕ, ◌+◌, ◌-◌, ◌*◌, ◌≤◌, ◌<◌, eqb, length, take, drop}
use Rattle.base.specs.Decide.{pick, and}
use Rattle.base.specs.Bytes.{byte_at}
use Rattle.base.specs.Status.{operation_ok, iso_normal}
use Rattle.fields.specs.Fields.{three}
use Rattle.state.specs.declared.Tag.{Tag}
use Rattle.state.specs.State.{reading_in, tapped}
use Rattle.order.specs.Order.{command_data}
use Rattle.contents.specs.Contents.{asked}
use Rattle.mirror.specs.Mirrors.{dynamic_cost}
use Rattle.taps.specs.Taps.{tap_of, tap_text}
use Rattle.tag.specs.Call.{with_status, outcome_of}
use Rattle.series.specs.Series.{Asked, step, after, replies, accepts}
use Rattle.demands.specs.Talks.{Said, said, said_all}

-- ---- reads of file 2
-- by ISOReadBinary: CLA 00, INS B0, file 2 selected; by ReadData: CLA 90, INS AD, file 2
unfoldable pub asks_read : Tag → List ℕ → Bool → Bool
asks_read t c iso =
    pick iso (and (eqb (byte_at c 0) 0x00) (and (eqb (byte_at c 1) 0xB0) (eqb t.place.file 2)))
    (and (eqb (byte_at c 0) 0x90) (and (eqb (byte_at c 1) 0xAD) (eqb (byte_at (command_data c) 0) 2)))

-- the part that is asked for: from where on, and how many bytes; length 0 and Le 00 mean to the end, which is at 256
unfoldable pub from_of : List ℕ → Bool → ℕ
from_of c iso = pick iso (byte_at c 2 * 256 + byte_at c 3) (three (command_data c) 1)

unfoldable pub count_of : List ℕ → Bool → ℕ
count_of c iso = asked (from_of c iso) (pick iso (byte_at c 4) (three (command_data c) 4)) 256

unfoldable pub part_asked : List ℕ → List ℕ → Bool → List ℕ
part_asked text c iso = take (count_of c iso) (drop (from_of c iso) text)

-- a read of file 2 that is accepted (so the tag is sound: refusal 3)
pub record Reads (t : Tag) (a : Asked) (iso : Bool) : Type 0 where
  pub asks : asks_read t a.command iso ≡ true
  pub accepted : accepts t a ≡ true

-- ---- a tap
-- what a tap shows: file 2 with its mirrors, from the state while it runs
unfoldable pub text_of : Tag → List ℕ
text_of t = tap_text t (reading_in t.files 2)

-- a read of a tap, whether it starts the tap or goes on with it: no session, and SDM on
pub record Taps (t : Tag) (a : Asked) (iso : Bool) : Type 0 where
  pub reads : Reads t a iso
  pub free : t.live.on ≡ false
  pub sdm : (reading_in t.files 2).settings.head.sdm ≡ true

-- the calls behind it that are of the same tap: accepted reads by the command that it runs by, and calls that refusals 1 to 3 refuse
unfoldable pub OfTap : Tag → List Asked → Type 0
OfTap t [] = Unit
OfTap t (a ∷ more) = (Reads t a t.tap.iso ⊎ (replies (outcome_of t a.random a.room) ≡ false)) × OfTap (step t a) more

-- ---- one text
-- a read of a tap replies the part asked for of what the tap shows behind it, and leaves the tap running and all else as it was; each costs what
-- the whole text does (request 10)
pub record Shown (t : Tag) (a : Asked) (iso : Bool) : Type 0 where
  pub reply : (said t a).reply ≡ with_status (part_asked (text_of (step t a)) a.command iso) (pick iso iso_normal operation_ok)
  pub state : step t a ≡ tapped t (tap_of t.tap iso a.random)
  pub runs : (step t a).tap.on ≡ true
  pub by : (step t a).tap.iso ≡ iso
  pub cost : (said t a).cost ≡ dynamic_cost (reading_in t.files 2)

abbrev pub OneRead : Type 0
OneRead = (t : Tag) (a : Asked) (iso : Bool) → Taps t a iso → Shown t a iso

-- of a tap that runs, every read replies the part asked for of one text
unfoldable pub PartsOf : List ℕ → Tag → List Asked → Type 0
PartsOf text t [] = Unit
PartsOf text t (a ∷ more) =
    (Reads t a t.tap.iso → (said t a).reply ≡ with_status (part_asked text a.command t.tap.iso) (pick t.tap.iso iso_normal operation_ok))
    × PartsOf text (step t a) more

pub record OneText (t : Tag) (asked : List Asked) : Type 0 where
  pub parts : PartsOf (text_of t) t asked
  pub state : after t asked ≡ t

abbrev pub OneTextOfTap : Type 0
OneTextOfTap = (t : Tag) → t.tap.on ≡ true → (asked : List Asked) → OfTap t asked → OneText t asked

-- from the read that starts the tap on
abbrev pub OneTextFromStart : Type 0
OneTextFromStart =
    (t : Tag) (a : Asked) (iso : Bool) → Taps t a iso → (more : List Asked) → OfTap (step t a) more → Shown t a iso × OneText (step t a) more

-- ---- two reads agree
-- the data of a reply, without its two status bytes
unfoldable pub data_in : Said → List ℕ
data_in s = take (length s.reply - 2) s.reply

-- data from a place of the file on show byte p of it
pub record ShowsByte (from : ℕ) (data' : List ℕ) (p : ℕ) : Type 0 where
  pub begins : from ≤ p
  pub ends : p < from + length data'

-- what two reads say of one byte of the file
unfoldable pub Agree : Tag → Asked → Tag → Asked → Bool → Type 0
Agree t a u b iso =
    let i = from_of a.command iso in
    let j = from_of b.command iso in
    (p : ℕ) → ShowsByte i (data_in (said t a)) p → ShowsByte j (data_in (said u b)) p
    → byte_at (data_in (said t a)) (p - i) ≡ byte_at (data_in (said u b)) (p - j)

-- a read that starts the tap or goes on with it, and any later read of that tap
abbrev pub TwoAgree : Type 0
TwoAgree =
    (t : Tag) (a : Asked) (iso : Bool) → Taps t a iso → (between : List Asked) → OfTap (step t a) between
    → (b : Asked) → Reads (after (step t a) between) b iso → Agree t a (after (step t a) between) b iso

-- any two reads of a tap that runs
abbrev pub AnyTwoAgree : Type 0
AnyTwoAgree =
    (t : Tag) → t.tap.on ≡ true → (before : List Asked) → OfTap t before → (a : Asked) → Reads (after t before) a t.tap.iso
    → (between : List Asked) → OfTap (step (after t before) a) between
    → (b : Asked) → Reads (after (step (after t before) a) between) b t.tap.iso
    → Agree (after t before) a (after (step (after t before) a) between) b t.tap.iso

-- ---- the phone
-- reads of one tap, each from where the one before ended, to the end of the file
unfoldable pub Pieces : Tag → Bool → ℕ → List Asked → Type 0
Pieces t iso from [] = from ≡ 256
Pieces t iso from (a ∷ more) =
    Reads t a iso × ((from_of a.command iso ≡ from) × Pieces (step t a) iso (from + count_of a.command iso) more)

-- the data of all replies, put together
unfoldable pub gathered : List Said → List ℕ
gathered [] = []
gathered (s ∷ more) = data_in s ++ gathered more

-- the file read in pieces, put together, is what one read gives: of the whole file, in place of the first piece, with its random bytes
abbrev pub InPieces : Type 0
InPieces =
    (t : Tag) (a : Asked) (iso : Bool) → Taps t a iso → (more : List Asked) → Pieces t iso 0 (a ∷ more)
    → (whole : Asked) → Reads t whole iso → from_of whole.command iso ≡ 0 → count_of whole.command iso ≡ 256 → whole.random ≡ a.random
    → gathered (said_all t (a ∷ more)) ≡ data_in (said t whole)
