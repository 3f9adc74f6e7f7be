-- What normalising a string answers, and what the room holds then.
use Rattle.std.specs.Prelude.{List, ℕ, leb, length, Result, Ok, Err}
use Rattle.base.specs.Decide.{pick}
use Rattle.base.specs.Bytes.{over}
use Rattle.settings.specs.Answers.{Verdict, fault_word}
use Rattle.fields.specs.Normal.{normal}
use Rattle.normalising.specs.declared.NotNormal.{NotNormal}
use Rattle.normalising.specs.declared.NotNormal.TheVariants.{Fault, RoomTooSmall}

-- Normalising into a room: the string's refusal first, then the room
unfoldable pub normalised : Verdict → List ℕ → List ℕ → Result ℕ NotNormal
normalised (Ok _) s room = pick (leb (length s) (length room)) (Ok (length s)) (Err RoomTooSmall)
normalised (Err e) s room = Err (Fault e)

-- and what the room holds then
unfoldable pub normal_room : Verdict → List ℕ → List ℕ → List ℕ
normal_room (Ok _) s room = pick (leb (length s) (length room)) (over (normal s) room) room
normal_room (Err e) s room = room

-- its number: the length of the normal string, the status of a bad file or string, or the house's 1006 for a room too small
unfoldable pub normal_number : Result ℕ NotNormal → ℕ
normal_number (Ok n) = n
normal_number (Err (Fault e)) = fault_word e
normal_number (Err RoomTooSmall) = 1006
