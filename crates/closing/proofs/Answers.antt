-- The numbers of the answers, by what the promise says.
use mathlib.Core.Path.{◌≡◌, ap, ◌∙◌}
use mathlib.Core.List.{List}
use Prim.Native.Nat.{ℕ}
use lib.Dec.{ltb}
use lib.ListN.{length}
use Rattle.base.specs.Decide.{pick}
use Rattle.base.proofs.Bytes.{pick_of}
use Rattle.closing.specs.Reply.{overlong, closed_length, closed_cost, closed_reply, closing, Closes, closed_status}
use Rattle.messaging.specs.declared.Session.{Session}
use Rattle.messaging.specs.declared.Mode.{Mode}
use Rattle.closing.specs.declared.Closed.{Closed}
use Rattle.closing.specs.declared.NotClosed.{NotClosed}
use Rattle.closing.specs.declared.NotClosed.TheVariants.{TooLong, NoRoom}
use Rattle.std.proofs.Common.{Result, Ok, Err}

-- 917E for over 256 bytes, 1 for a room that is too small, else 9100
pub closes_status : {s : Session} {m : Mode} {code n : ℕ} {old new : List ℕ} {r : Result Closed NotClosed} → Closes s m code n old r new
    → closed_status r ≡ pick (overlong m n) 0x917E (pick (ltb (length old) (closed_length m n)) 1 0x9100)
unfolding closed_status closing
closes_status {m = m} {n = n} {old = old} h =
    let small = ltb (length old) (closed_length m n) in
    let done : Result Closed NotClosed = Ok (closed_reply (closed_length m n) (closed_cost m n)) in
    ap closed_status h.answer ∙ pick_of closed_status (overlong m n) (Err TooLong) (pick small (Err NoRoom) done)
    ∙ ap (pick (overlong m n) 0x917E) (pick_of closed_status small (Err NoRoom) done)
