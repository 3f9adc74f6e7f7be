-- 9.1.8 to 9.1.10: a reply, as the tag closes it and as the other side opens it. CmdCtr is the one already raised.
use Rattle.std.specs.Prelude.{Bool, true, List, Result, Ok, Err, ◌≡◌, ℕ, ◌+◌, ◌-◌, ◌%◌, eqb, leb, ltb, length, take, drop}
use Rattle.base.specs.Decide.{pick, and}
use Rattle.base.specs.Bytes.{over}
use Rattle.base.specs.Status.{operation_ok, length_error}
use Rattle.padding.specs.Padding.{padded_length}
use Rattle.messaging.specs.Protect.{reply_iv, mac_length, sent, signed, Opening, wrong_length, wrong_mac, content, mac_right, part_cost, signed_cost}
use Rattle.messaging.specs.declared.Session.{Session}
use Rattle.messaging.specs.declared.Mode.{Mode}
use Rattle.messaging.specs.declared.Mode.TheVariants.{Plain, Mac, Full}
use Rattle.closing.specs.declared.Closed.{Closed}
use Rattle.closing.specs.declared.NotClosed.{NotClosed}
use Rattle.closing.specs.declared.NotClosed.TheVariants.{TooLong, NoRoom}

-- an empty data part isn't encrypted
abbrev pub filled : ℕ → Bool
filled n = leb 1 n

-- the reply's data and MAC, for a return code
unfoldable pub closed : Session → Mode → ℕ → List ℕ → List ℕ
closed s m code d = signed m s code (sent m s (reply_iv s) (filled (length d)) d)

-- how long n bytes are, encrypted
unfoldable pub hidden_length : ℕ → ℕ
hidden_length n = pick (filled n) (padded_length n) 0

-- how long n bytes are, closed
unfoldable pub closed_length : Mode → ℕ → ℕ
closed_length Plain n = n
closed_length Mac n = n + 8
closed_length Full n = hidden_length n + 8

-- 02, request 10: what it costs to close n bytes: the data part as it is sent, and the MAC over it
unfoldable pub closed_cost : Mode → ℕ → ℕ
closed_cost m n =
    let k = closed_length m n - mac_length m in
    part_cost m (filled n) k + signed_cost m k

-- a closed reply of k bytes, for n blocks
abbrev pub closed_reply : ℕ → ℕ → Closed
closed_reply k n = record { length = k; cost = n }

-- 01 (house): a reply over 256 bytes with its MAC
unfoldable pub overlong : Mode → ℕ → Bool
overlong m n = ltb 256 (closed_length m n)

-- the n bytes at the front of a room, closed there: over 256 bytes with the MAC, or a room that is too small, is refused
unfoldable pub closing : Mode → ℕ → List ℕ → Result Closed NotClosed
closing m n old =
    pick (overlong m n) (Err TooLong)
    (pick (ltb (length old) (closed_length m n)) (Err NoRoom)
    (Ok (closed_reply (closed_length m n) (closed_cost m n))))

unfoldable pub closed_in : Session → Mode → ℕ → ℕ → List ℕ → List ℕ
closed_in s m code n old =
    pick (overlong m n) old (pick (ltb (length old) (closed_length m n)) old (over (closed s m code (take n old)) old))

-- what that costs: a refusal nothing
unfoldable pub closing_cost : Mode → ℕ → List ℕ → ℕ
closing_cost m n old = pick (overlong m n) 0 (pick (ltb (length old) (closed_length m n)) 0 (closed_cost m n))

-- what stands at the front of a room became the bytes p, k of them, over what stood there
pub record Seals (p : List ℕ) (k : ℕ) (old : List ℕ) (r : ℕ) (new : List ℕ) : Type 0 where
  pub count : r ≡ k
  pub len : k ≡ length p
  pub room : new ≡ over p old

-- how many blocks were computed
abbrev pub blocks_for : Result Closed NotClosed → ℕ
blocks_for (Ok c) = c.cost
blocks_for (Err e) = 0

pub record Closes (s : Session) (m : Mode) (code n : ℕ) (old : List ℕ) (r : Result Closed NotClosed) (new : List ℕ) : Type 0 where
  pub answer : r ≡ closing m n old
  pub cost : blocks_for r ≡ closing_cost m n old
  pub room : new ≡ closed_in s m code n old

-- 01's status for each answer; a room that is too small is refused before any status (01's refusal 1) and has the house's
-- number 1 (proofs/Answers.antt: closes-status)
unfoldable pub closed_status : Result Closed NotClosed → ℕ
closed_status (Ok c) = operation_ok
closed_status (Err TooLong) = length_error
closed_status (Err NoRoom) = 1

-- a length that a reply of the mode can have
unfoldable pub reply_right : Mode → ℕ → Bool
reply_right Plain n = true
reply_right Mac n = leb 8 n
reply_right Full n = and (leb 8 n) (eqb ((n - 8) % 16) 0)

-- what the other side does with it: the length for the mode, then the MAC, then the padding
unfoldable pub reply_opening : Session → Mode → ℕ → List ℕ → Opening
reply_opening s m code x =
    pick (reply_right m (length x))
    (pick (mac_right m s code (take (length x - mac_length m) x) (drop (length x - mac_length m) x))
    (content m s (reply_iv s) (filled (length x - mac_length m)) (take (length x - mac_length m) x))
    wrong_mac)
    wrong_length
