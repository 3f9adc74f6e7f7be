-- What a run starts from: a fresh tag, or one that is kept in a file between runs.
use Rattle.std.specs.Prelude.{Bool, List, ◌≡◌, ℕ, eqb, length, Result, Ok, Err}
use Rattle.base.specs.Decide.{pick, and}
use Rattle.base.specs.Bytes.{byte_at, same}
use Rattle.soundness.specs.Sound.{sound_tag}
use Rattle.delivery.specs.Fresh.{right_uid, born}
use Rattle.delivery.specs.declared.WrongUid.{WrongUid}
use Rattle.state.specs.declared.Tag.{Tag}
use Rattle.image.specs.declared.NoImage.{NoImage}
use Rattle.image.specs.declared.NotRead.{NotRead}
use Rattle.image.specs.declared.NoImage.TheVariants.{WrongLength, WrongVersion, NotABoolean}
use Rattle.image.specs.Image.{image_version, tag_in}
use Rattle.image.specs.Answers.{bits_at, booleans, right_length, read_in}
use Rattle.keeping.specs.declared.NoStart.{NoStart}
use Rattle.keeping.specs.declared.NoStart.TheVariants.{OtherLength, OtherVersion, NotABit, Unsound, OtherUid, NoUid, Unread, EarlierVersion}
use Rattle.keeping.specs.declared.NotKept.{NotKept}

-- numbers of this house
unfoldable pub reason_number : NoStart → ℕ
reason_number OtherLength = 1
reason_number OtherVersion = 2
reason_number NotABit = 3
reason_number Unsound = 4
reason_number OtherUid = 5
reason_number NoUid = 6
reason_number Unread = 7
reason_number EarlierVersion = 8

unfoldable pub start_number : Result Tag NotKept → ℕ
start_number (Ok t) = 0
start_number (Err e) = reason_number e.why

-- no run, for a reason, with a tag beside it
abbrev pub not_kept : NoStart → Tag → NotKept
not_kept why t = record { why = why; beside = t }

-- a fresh tag, where the UID is one
unfoldable pub fresh_start : Result Tag WrongUid → Result Tag NotKept
fresh_start (Ok t) = Ok t
fresh_start (Err e) = Err (not_kept NoUid e.beside)

pub record Starts (uid : List ℕ) (r : Result Tag NotKept) : Type 0 where
  pub number : start_number r ≡ pick (right_uid uid) 0 6
  pub told : r ≡ fresh_start (born uid)

-- an image of version 1: 672 bytes that begin with 01
unfoldable pub earlier : List ℕ → Bool
earlier s = and (eqb (length s) 672) (eqb (byte_at s 0) 1)

-- why bytes hold no state: those of another length may be an image of version 1
unfoldable pub start_by : NoImage → Bool → NoStart
start_by WrongLength old = pick old EarlierVersion OtherLength
start_by WrongVersion old = OtherVersion
start_by NotABoolean old = NotABit

-- what was found in a file: a whole image must hold a sound state, and that of the plan's tag. Beside a refusal stands what was read
unfoldable pub kept_by : Result Tag NotRead → Bool → List ℕ → Result Tag NotKept
kept_by (Ok t) old uid = pick (sound_tag t) (pick (same uid t.uid) (Ok t) (Err (not_kept OtherUid t))) (Err (not_kept Unsound t))
kept_by (Err e) old uid = Err (not_kept (start_by e.why old) e.beside)

-- what a file's bytes give a plan for the tag with a UID to start from
unfoldable pub kept_in : List ℕ → List ℕ → Result Tag NotKept
kept_in s uid = kept_by (read_in s) (earlier s) uid

-- the same by number
unfoldable pub kept_case : List ℕ → List ℕ → ℕ
kept_case s uid =
    pick (right_length s)
    (pick (eqb (byte_at s 0) image_version)
    (pick (bits_at s booleans) (pick (sound_tag (tag_in s)) (pick (same uid (tag_in s).uid) 0 5) 4) 3) 2)
    (pick (earlier s) 8 1)

pub record Keeps (s uid : List ℕ) (r : Result Tag NotKept) : Type 0 where
  pub number : start_number r ≡ kept_case s uid
  pub told : r ≡ kept_in s uid
