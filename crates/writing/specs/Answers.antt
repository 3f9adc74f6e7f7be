-- What writing a record answers, and what the room holds then.
use Rattle.std.specs.Prelude.{Bool, true, false, List, ℕ, leb, length, Result, Ok, Err}
use Rattle.base.specs.Decide.{pick}
use Rattle.base.specs.Bytes.{over}
use Rattle.fields.specs.declared.Settings.{Settings}
use Rattle.fields.specs.Fields.{string_of}
use Rattle.rules.specs.Rules.{meets}
use Rattle.settings.specs.Filing.{by_fault, file_fault_word}
use Rattle.writing.specs.declared.NotWritten.{NotWritten}
use Rattle.writing.specs.declared.NotWritten.TheVariants.{NoFile, BadRecord, NoRoom}

-- Writing a record into a room: the record's refusal first, then the room
unfoldable pub record_as : Bool → Settings → List ℕ → Result ℕ NotWritten
record_as true r room = pick (leb (length (string_of r)) (length room)) (Ok (length (string_of r))) (Err NoRoom)
record_as false r room = Err BadRecord

unfoldable pub record_room : Bool → Settings → List ℕ → List ℕ
record_room true r room = pick (leb (length (string_of r)) (length room)) (over (string_of r) room) room
record_room false r room = room

-- for file n; the file byte is judged before the record is looked at
abbrev pub written_as : ℕ → Settings → List ℕ → Result ℕ NotWritten
written_as n r room = by_fault n (λ f. Err (NoFile f)) (record_as (meets n r) r room)

abbrev pub written_room : ℕ → Settings → List ℕ → List ℕ
written_room n r room = by_fault n (λ f. room) (record_room (meets n r) r room)

-- its number: the length of the string, the status of a bad file, or the house's 1008 for a bad record, 1006 for a room too small
unfoldable pub written_number : Result ℕ NotWritten → ℕ
written_number (Ok n) = n
written_number (Err (NoFile f)) = file_fault_word f
written_number (Err BadRecord) = 1008
written_number (Err NoRoom) = 1006

-- the same number, case by case
unfoldable pub record_number : Bool → Settings → List ℕ → ℕ
record_number true r room = pick (leb (length (string_of r)) (length room)) (length (string_of r)) 1006
record_number false r room = 1008

abbrev pub writing_number : ℕ → Settings → List ℕ → ℕ
writing_number n r room = by_fault n file_fault_word (record_number (meets n r) r room)
