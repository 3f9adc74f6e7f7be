-- Where a file is selected. The flag is a parameter of its own, so that no record is taken apart.
use mathlib.Core.Path.{◌≡◌, ap}
use mathlib.Core.List.{List, []}
use mathlib.Core.Bool.{Bool, true}
use Prim.Native.Nat.{ℕ}
use lib.ListN.{take}
use Rattle.base.specs.Decide.{pick}
use Rattle.state.specs.declared.Place.{Place}
use Rattle.state.specs.declared.Tag.{Tag}
use Rattle.state.specs.declared.Tapping.{Tapping}
use Rattle.state.specs.State.{quieted, placed, tapped}
use Rattle.replies.specs.declared.Done.{Done}
use Rattle.replies.specs.Answer.{Answer, Gives, given, refusal}
use Rattle.selects.specs.Selects.{selected_file}

abbrev at_file : ℕ → Place
at_file n = record { application = true; file = n }

when : (b : Bool) (x y : Answer) (d : Done) → b ≡ true → Gives x d → Gives (pick b x y) d
when b x y d e h = rw e h

pub file_there : (t : Tag) (n : ℕ) (q : Tapping) (text : List ℕ) (d : Done) → t.place.application ≡ true → q ≡ quieted t.tap → text ≡ []
    → Gives (given (placed (tapped t q) (at_file n)) 0x9000 (take 256 text)) d → Gives (selected_file t n) d
unfolding selected_file
file_there t n q text d e f g h =
    when t.place.application (given (placed (tapped t (quieted t.tap)) (at_file n)) 0x9000 []) (refusal t 0x6A82) d e (rw (← f, ← ap (take 256) g) h)
