-- The numbers of the answers, by what the promise says.
use mathlib.Core.Path.{◌≡◌, refl, ap, ◌∙◌}
use mathlib.Core.List.{List}
use Prim.Native.Nat.{ℕ}
use lib.Dec.{ltb}
use lib.ListN.{length}
use Rattle.base.specs.Decide.{pick}
use Rattle.base.proofs.Bytes.{pick_of}
use Rattle.padding.specs.Padding.{unpadded_status}
use Rattle.messaging.specs.Protect.{Opening, text_of}
use Rattle.opening.specs.Command.{told, answers, Opens, opened_status}
use Rattle.std.proofs.Common.{Option, Some, None, Err}
use Rattle.opening.specs.declared.Opened.{Opened}
use Rattle.opening.specs.declared.NotOpened.TheVariants.{TooLong, NoRoom}

-- what unpadding answers has the status that opening with it has
pub unpad-status : (s : List ℕ) (u : Option ℕ) → unpadded_status u ≡ opened_status (told (text_of s u))
unfolding unpadded_status opened_status
unpad-status s (Some n) = refl
unpad-status s None = refl

-- 1 for over 255 bytes, 2 for a room that is too small, else the status of what opening gives
pub opens_status : {x old new : List ℕ} {o : Opening} {n : ℕ} {r : Opened} → Opens x o n old r new
    → opened_status r.«data» ≡ pick (ltb 255 (length x)) 1 (pick (ltb (length old) (length x)) 2 (opened_status (told o)))
unfolding opened_status answers
opens_status {x = x} {old = old} {o = o} h =
    let small = ltb (length old) (length x) in
    ap opened_status h.answer ∙ pick_of opened_status (ltb 255 (length x)) (Err TooLong) (pick small (Err NoRoom) (told o))
    ∙ ap (pick (ltb 255 (length x)) 1) (pick_of opened_status small (Err NoRoom) (told o))
