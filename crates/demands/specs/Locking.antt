-- 02, request 13, what locking means: "Before we send books out, Write, ReadWrite and Change of file 2 are set to F. Show that from such a sound
-- state no series of commands, keys known or not, changes that file's stored bytes or its settings."
use Rattle.std.specs.Prelude.{true, List, ◌≡◌, ℕ}
use Rattle.locks.specs.Locks.{locked}
use Rattle.state.specs.declared.Files.{Files}
use Rattle.state.specs.declared.Tag.{Tag}
use Rattle.state.specs.State.{file_of, rules_of, reading_in}
use Rattle.soundness.specs.Sound.{sound_tag}
use Rattle.tag.specs.declared.Called.{Called}
use Rattle.tag.specs.Call.{Calls}
use Rattle.series.specs.Series.{Asked, step, after, slot_in}
use Rattle.demands.specs.Talks.{Had, Played, held}

-- Write, ReadWrite and Change of file n are F
pub record Locked (t : Tag) (n : ℕ) : Type 0 where
  pub write : (reading_in t.files n).settings.head.write ≡ 15
  pub read_write : (reading_in t.files n).settings.head.read_write ≡ 15
  pub change : (reading_in t.files n).settings.head.change ≡ 15

-- of file n the bytes, the settings string and the 27 bytes of its place are as they were
pub record Unchanged (before then : Files) (n : ℕ) : Type 0 where
  pub bytes : file_of then n ≡ file_of before n
  pub string : rules_of then n ≡ rules_of before n
  pub slot : slot_in then n ≡ slot_in before n

-- and it is locked still: locking is for good
pub record Lasts (t u : Tag) (n : ℕ) : Type 0 where
  pub kept : Unchanged t.files u.files n
  pub locked : Locked u n

-- ---- the theorems, of file 2 and of every other; a tag need not be sound: refusal 3 keeps one that is not as it is
-- one call, whatever its command, random bytes and room
abbrev pub CallKeeps : Type 0
CallKeeps = (t : Tag) (n : ℕ) → Locked t n → (a : Asked) → Lasts t (step t a) n

-- any series of calls
abbrev pub SeriesKeeps : Type 0
SeriesKeeps = (t : Tag) (n : ℕ) → Locked t n → (asked : List Asked) → Lasts t (after t asked) n

-- 02's sentence: file 2 of a sound tag
abbrev pub SecondKept : Type 0
SecondKept = (t : Tag) → sound_tag t ≡ true → Locked t 2 → (asked : List Asked) → Unchanged t.files (after t asked).files 2

-- the same of the tag that `call` gives back, by its promise
abbrev pub PromiseKeeps : Type 0
PromiseKeeps =
    (t : Tag) (n : ℕ) → Locked t n → (command random room : List ℕ) (r : Called) (later : List ℕ) → Calls t command random room r later → Lasts t r.tag n

-- and of the tag that a caller holds behind any series of calls
abbrev pub PlayedKeeps : Type 0
PlayedKeeps = (t : Tag) (n : ℕ) → Locked t n → (asked : List Asked) (had : List Had) → Played t asked had → Lasts t (held t had) n

-- ---- what `locks::locked` answers of the rights of file n, and so what a rehearsal prints at its end, is `Locked`
pub record SaysLocked (t : Tag) (n : ℕ) : Type 0 where
  pub is_locked : locked (reading_in t.files n).settings.head ≡ true → Locked t n
  pub is_said : Locked t n → locked (reading_in t.files n).settings.head ≡ true
