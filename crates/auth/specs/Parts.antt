-- 01, "Authentication and messages (9.1, 10.4)": the checks of 71 and 77, their part one, and its reply.
use Rattle.std.specs.Prelude.{Bool, true, false, List, ◌++◌, ℕ, ◌+◌, ◌-◌, ◌/◌, ◌%◌, eqb, ltb, length, take, drop, replicate}
use Rattle.base.specs.Decide.{pick}
use Rattle.base.specs.Bytes.{byte_at}
use Rattle.base.specs.Status.{no_such_key, length_error, permission_denied, parameter_error, additional_frame}
use Rattle.authentication.specs.Authentication.{enciphered, part_one_cost}
use Rattle.order.specs.Order.{key_status}
use Rattle.state.specs.declared.Live.{Live}
use Rattle.state.specs.declared.Pending.{Pending}
use Rattle.state.specs.declared.Tag.{Tag}
use Rattle.state.specs.State.{key_in, no_live, talking}
use Rattle.replies.specs.Answer.{Answer, given_for, refusal}

-- 71 behind its lengths: key byte; PCDcap2.1 bit 1 set 919D; PICC level 9140
unfoldable pub values_status : List ℕ → Bool → ℕ
values_status x application =
    pick (eqb (key_status (byte_at x 0)) 0)
    (pick (eqb (byte_at x 2 / 2 % 2) 1) permission_denied (pick application 0 no_such_key))
    (key_status (byte_at x 0))

-- 71: under 2 bytes 917E; LenCap over 6 919E; length not 2 + LenCap 917E; then its values
unfoldable pub first_status : List ℕ → Bool → ℕ
first_status x application =
    pick (ltb (length x) 2) length_error
    (pick (ltb 6 (byte_at x 1)) parameter_error
    (pick (eqb (length x) (2 + byte_at x 1)) (values_status x application) length_error))

-- 77, in order: length not 1 917E; no session 919D; key byte
unfoldable pub next_status : List ℕ → Bool → ℕ
next_status x live = pick (eqb (length x) 1) (pick live (key_status (byte_at x 0)) permission_denied) length_error

-- part one accepted gives E(Kx; RndB), 91AF, and ends the old session
unfoldable pub begun : Tag → Pending → Answer
begun t p = given_for part_one_cost (talking t no_live p) additional_frame (enciphered (key_in t.secrets.keys p.key) p.rnd_b)

-- PCDcap2 padded with zeros to six
unfoldable pub cap_of : List ℕ → List ℕ
cap_of x = drop 2 x ++ replicate (6 - length (drop 2 x)) 0

unfoldable pub pending_first : List ℕ → List ℕ → Pending
pending_first x random =
    record { on = true; first = true; key = byte_at x 0; rnd_b = take 16 random; cap = cap_of x; ti = replicate 4 0; counter = 0 }

-- 77 keeps TI and CmdCtr for the new one
unfoldable pub pending_next : Live → List ℕ → List ℕ → Pending
pending_next l x random =
    record { on = true; first = false; key = byte_at x 0; rnd_b = take 16 random; cap = replicate 6 0; ti = l.ti; counter = l.counter }

unfoldable pub part_one_first : Tag → List ℕ → List ℕ → Answer
part_one_first t x random =
    pick (eqb (first_status x t.place.application) 0) (begun t (pending_first x random)) (refusal t (first_status x t.place.application))

unfoldable pub part_one_next : Tag → List ℕ → List ℕ → Answer
part_one_next t x random =
    pick (eqb (next_status x t.live.on) 0) (begun t (pending_next t.live x random)) (refusal t (next_status x t.live.on))
