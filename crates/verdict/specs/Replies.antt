-- A reply is data and two status bytes (01, "Refusals before any status word").
use Rattle.std.specs.Prelude.{Bool, true, false, List, ℕ, ◌+◌, ◌-◌, ◌*◌, eqb, ltb, length, take, drop}
use Rattle.base.specs.Decide.{pick}
use Rattle.base.specs.Bytes.{byte_at, same}
use Rattle.base.specs.Status.{operation_ok, additional_frame, iso_normal}

-- the status, high byte first; 0 where there are no two bytes
unfoldable pub status_in : List ℕ → ℕ
status_in r = pick (ltb (length r) 2) 0 (byte_at r (length r - 2) * 256 + byte_at r (length r - 2 + 1))

-- every status refuses but 9000, 9100 and 91AF
unfoldable pub refusing : ℕ → Bool
refusing s = pick (eqb s iso_normal) false (pick (eqb s operation_ok) false (pick (eqb s additional_frame) false true))

-- what is expected are the first bytes of the reply, or its two status bytes; else the reply differs
unfoldable pub differing : List ℕ → List ℕ → Bool
differing e r =
    pick (ltb (length r) (length e)) true
    (pick (same e (take (length e) r)) false
    (pick (eqb (length e) 2) (pick (same e (drop (length r - 2) r)) false true) true))
