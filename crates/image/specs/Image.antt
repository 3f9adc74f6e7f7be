-- The image of a tag: a version byte, then the fields of the state in their order, one behind the other (docs/IMAGE.md).
use Rattle.std.specs.Prelude.{Bool, List, [], ◌∷◌, ◌++◌, ℕ, eqb, take, drop}
use Rattle.base.specs.Decide.{pick}
use Rattle.base.specs.Bytes.{byte_at, number, low}
use Rattle.state.specs.declared.Files.{Files}
use Rattle.state.specs.declared.Secrets.{Secrets}
use Rattle.state.specs.declared.Live.{Live}
use Rattle.state.specs.declared.Pending.{Pending}
use Rattle.state.specs.declared.Place.{Place}
use Rattle.state.specs.declared.Tapping.{Tapping}
use Rattle.state.specs.declared.Tag.{Tag}

-- version 1, of 672 bytes, had no padding
abbrev pub image_version : ℕ
image_version = 2

-- pieces one behind the other
unfoldable pub join : List (List ℕ) → List ℕ
join [] = []
join (p ∷ ps) = p ++ join ps

-- n bytes from i on
abbrev pub bytes_from : List ℕ → ℕ → ℕ → List ℕ
bytes_from s i n = take n (drop i s)

-- a Boolean is one byte, 0 or 1
abbrev pub flag_byte : Bool → ℕ
flag_byte b = pick b 1 0

abbrev pub flag : ℕ → Bool
flag n = eqb n 1

-- ---- writing: numbers are low byte first
abbrev pub file_pieces : Files → List (List ℕ)
file_pieces f = f.bytes ∷ f.rules ∷ f.lens ∷ []

abbrev pub secret_pieces : Secrets → List (List ℕ)
secret_pieces s = s.keys ∷ s.versions ∷ []

abbrev pub live_pieces : Live → List (List ℕ)
live_pieces l = (flag_byte l.on ∷ l.key ∷ []) ∷ l.enc ∷ l.mac ∷ l.ti ∷ low 2 l.counter ∷ []

abbrev pub pending_pieces : Pending → List (List ℕ)
pending_pieces p = (flag_byte p.on ∷ flag_byte p.first ∷ p.key ∷ []) ∷ p.rnd_b ∷ p.cap ∷ p.ti ∷ low 2 p.counter ∷ []

abbrev pub place_bytes : Place → List ℕ
place_bytes p = flag_byte p.application ∷ p.file ∷ []

abbrev pub tap_pieces : Tapping → List (List ℕ)
tap_pieces t = (flag_byte t.on ∷ flag_byte t.iso ∷ []) ∷ low 4 t.counter ∷ t.padding ∷ []

abbrev pub tag_pieces : Tag → List (List ℕ)
tag_pieces t =
    (image_version ∷ []) ∷ t.uid ∷ join (file_pieces t.files) ∷ join (secret_pieces t.secrets) ∷ join (live_pieces t.live)
    ∷ join (pending_pieces t.pending) ∷ place_bytes t.place ∷ join (tap_pieces t.tap) ∷ []

unfoldable pub image_of : Tag → List ℕ
image_of t = join (tag_pieces t)

-- 1, 7, 500, 85, 40, 31, 2 and 18
abbrev pub image_length : ℕ
image_length = 684

-- ---- reading
unfoldable pub files_in : List ℕ → Files
files_in s = record { bytes = bytes_from s 0 416; rules = bytes_from s 416 81; lens = bytes_from s 497 3 }

unfoldable pub secrets_in : List ℕ → Secrets
secrets_in s = record { keys = bytes_from s 0 80; versions = bytes_from s 80 5 }

unfoldable pub live_in : List ℕ → Live
live_in s =
    record {
      on = flag (byte_at s 0);
      key = byte_at s 1;
      enc = bytes_from s 2 16;
      mac = bytes_from s 18 16;
      ti = bytes_from s 34 4;
      counter = number (bytes_from s 38 2);
    }

unfoldable pub pending_in : List ℕ → Pending
pending_in s =
    record {
      on = flag (byte_at s 0);
      first = flag (byte_at s 1);
      key = byte_at s 2;
      rnd_b = bytes_from s 3 16;
      cap = bytes_from s 19 6;
      ti = bytes_from s 25 4;
      counter = number (bytes_from s 29 2);
    }

unfoldable pub place_in : List ℕ → Place
place_in s = record { application = flag (byte_at s 0); file = byte_at s 1 }

unfoldable pub tap_in : List ℕ → Tapping
tap_in s =
    record { on = flag (byte_at s 0); iso = flag (byte_at s 1); counter = number (bytes_from s 2 4); padding = bytes_from s 6 12 }

unfoldable pub tag_in : List ℕ → Tag
tag_in s =
    record {
      uid = bytes_from s 1 7;
      files = files_in (bytes_from s 8 500);
      secrets = secrets_in (bytes_from s 508 85);
      live = live_in (bytes_from s 593 40);
      pending = pending_in (bytes_from s 633 31);
      place = place_in (bytes_from s 664 2);
      tap = tap_in (bytes_from s 666 18);
    }
