-- The state of a tag and its parts (8.2, 9.1, 9.3).
use Rattle.std.specs.Prelude.{false, List, ℕ, ◌*◌, eqb, leb, take, drop, replicate}
use Rattle.base.specs.Decide.{pick}
use Rattle.base.specs.Bytes.{byte_at}
use Rattle.spans.specs.declared.Reading.{Reading}
use Rattle.messaging.specs.declared.Session.{Session}
use Rattle.fields.specs.Fields.{read_of}
use Rattle.spans.specs.Spans.{reading_of}
use Rattle.state.specs.declared.Files.{Files}
use Rattle.state.specs.declared.Secrets.{Secrets}
use Rattle.state.specs.declared.Live.{Live}
use Rattle.state.specs.declared.Pending.{Pending}
use Rattle.state.specs.declared.Place.{Place}
use Rattle.state.specs.declared.Tapping.{Tapping}
use Rattle.state.specs.declared.Tag.{Tag}

-- one of three answers for files 1 to 3, and one that stands in for any other number, which no accepted command has
abbrev pub by_file : ℕ → ℕ → ℕ → ℕ → ℕ → ℕ
by_file n a b c other = pick (eqb n 1) a (pick (eqb n 2) b (pick (eqb n 3) c other))

-- Table 5: file 1 has 32 bytes, file 2 256, file 3 128; they stand one behind the other
unfoldable pub start_of : ℕ → ℕ
start_of n = by_file n 0 32 288 416

unfoldable pub size_of : ℕ → ℕ
size_of n = by_file n 32 256 128 0

-- the bytes of file n
unfoldable pub file_of : Files → ℕ → List ℕ
file_of f n = take (size_of n) (drop (start_of n) f.bytes)

-- a file's place among the settings
unfoldable pub slot_of : ℕ → ℕ
slot_of n = by_file n 0 1 2 3

-- the settings string of file n: as many bytes of its 27 as its length says (a length over 27 is not sound)
abbrev pub string_at : List ℕ → List ℕ → ℕ → List ℕ
string_at rules lens n = take (byte_at lens (slot_of n)) (take 27 (drop (slot_of n * 27) rules))

unfoldable pub rules_of : Files → ℕ → List ℕ
rules_of f n = string_at f.rules f.lens n

-- what it means
unfoldable pub reading_in : Files → ℕ → Reading
reading_in f n = reading_of (read_of (rules_of f n))

-- key k; for a number over 4, which no sound state and no accepted command has, zeros stand in
unfoldable pub key_in : List ℕ → ℕ → List ℕ
key_in keys k = pick (leb k 4) (take 16 (drop (k * 16) keys)) (replicate 16 0)

-- what protects the messages of a session
unfoldable pub session_of : Live → Session
session_of l = record { enc = l.enc; mac = l.mac; ti = l.ti; counter = l.counter }

-- what has ended leaves zeros
unfoldable pub no_live : Live
no_live = record { on = false; key = 0; enc = replicate 16 0; mac = replicate 16 0; ti = replicate 4 0; counter = 0 }

unfoldable pub no_pending : Pending
no_pending = record { on = false; first = false; key = 0; rnd_b = replicate 16 0; cap = replicate 6 0; ti = replicate 4 0; counter = 0 }

-- 02, request 3: ended taps hold zeros where the padding was kept
abbrev pub no_padding : List ℕ
no_padding = replicate 12 0

-- no tap; the tap counter stays
unfoldable pub quieted : Tapping → Tapping
quieted t = record { on = false; iso = false; counter = t.counter; padding = no_padding }

-- The ways in which a tag changes: another tap; other files with their settings; other keys and versions; another selection;
-- another session and pending part two, and no tap
unfoldable pub tapped : Tag → Tapping → Tag
tapped t p = record { uid = t.uid; files = t.files; secrets = t.secrets; live = t.live; pending = t.pending; place = t.place; tap = p }

unfoldable pub filed : Tag → Files → Tag
filed t f = record { uid = t.uid; files = f; secrets = t.secrets; live = t.live; pending = t.pending; place = t.place; tap = t.tap }

unfoldable pub keyed : Tag → Secrets → Tag
keyed t s = record { uid = t.uid; files = t.files; secrets = s; live = t.live; pending = t.pending; place = t.place; tap = t.tap }

unfoldable pub placed : Tag → Place → Tag
placed t p = record { uid = t.uid; files = t.files; secrets = t.secrets; live = t.live; pending = t.pending; place = p; tap = t.tap }

unfoldable pub talking : Tag → Live → Pending → Tag
talking t l p =
    record { uid = t.uid; files = t.files; secrets = t.secrets; live = l; pending = p; place = t.place; tap = quieted t.tap }

-- session, pending part two and tap have ended; files, settings, keys, versions, selection and tap counter stay
unfoldable pub ended_of : Tag → Tag
ended_of t = talking t no_live no_pending
