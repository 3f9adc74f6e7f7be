-- The number of what writing answers for a file that there is.
use mathlib.Core.Path.{◌≡◌, refl}
use mathlib.Core.Bool.{Bool, true, false}
use mathlib.Core.List.{List}
use Prim.Native.Nat.{ℕ}
use lib.Dec.{leb}
use lib.ListN.{length}
use Rattle.std.specs.Prelude.{Ok, Err}
use Rattle.base.specs.Decide.{pick}
use Rattle.fields.specs.declared.Settings.{Settings}
use Rattle.fields.specs.Fields.{string_of}
use Rattle.writing.specs.declared.NotWritten.TheVariants.{NoRoom}
use Rattle.writing.specs.Answers.{record_as, written_number, record_number}

picked : (b : Bool) (k : ℕ) → written_number (pick b (Ok k) (Err NoRoom)) ≡ pick b k 1006
unfolding written_number
picked true k = refl
picked false k = refl

pub record_numbered : (b : Bool) (r : Settings) (room : List ℕ) → written_number (record_as b r room) ≡ record_number b r room
unfolding record_as record_number written_number
record_numbered true r room = picked (leb (length (string_of r)) (length room)) (length (string_of r))
record_numbered false r room = refl
