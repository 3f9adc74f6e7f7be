-- 9.1.8 to 9.1.10: a command, as the other side builds it and as the tag opens it. 01's step 8.
use Rattle.std.specs.Prelude.{Bool, List, Result, Ok, Err, ◌++◌, ◌≡◌, ℕ, ◌+◌, ◌-◌, eqb, leb, ltb, length, take, drop}
use Rattle.base.specs.Decide.{pick, and, or}
use Rattle.base.specs.Bytes.{over}
use Rattle.base.specs.Status.{operation_ok, integrity_error, length_error}
use Rattle.padding.specs.Padding.{blocks}
use Rattle.messaging.specs.Protect.{command_iv, mac_length, sent, signed, Opening, plain, wrong_length, wrong_mac, wrong_padding, content, mac_right, part_cost, signed_cost}
use Rattle.messaging.specs.declared.Session.{Session}
use Rattle.messaging.specs.declared.Mode.{Mode}
use Rattle.messaging.specs.declared.Mode.TheVariants.{Plain, Mac, Full}
use Rattle.opening.specs.declared.Opened.{Opened}
use Rattle.opening.specs.declared.NotOpened.{NotOpened}
use Rattle.opening.specs.declared.NotOpened.TheVariants.{WrongLength, WrongMac, WrongPadding, TooLong, NoRoom}

-- what the other side sends: header, data part and MAC
unfoldable pub sent_command : Session → Mode → ℕ → List ℕ → Bool → List ℕ → List ℕ
sent_command s m cmd header there d = signed m s cmd (header ++ sent m s (command_iv s) there d)

-- 01: a data part has any length in MAC, and in Full is a multiple of 16, at least 16; without one there is nothing
unfoldable pub part_right : Mode → Bool → ℕ → Bool
part_right Plain there n = or there (eqb n 0)
part_right Mac there n = or there (eqb n 0)
part_right Full there n = pick there (blocks n) (eqb n 0)

-- n bytes for a header of h: the header, a data part, and the MAC's 8
unfoldable pub length_right : Mode → Bool → ℕ → ℕ → Bool
length_right m there h n = and (leb (h + mac_length m) n) (part_right m there (n - mac_length m - h))

-- the MAC, then the padding
unfoldable pub checked : Mode → Session → ℕ → List ℕ → ℕ → Bool → Opening
checked m s cmd x h there =
    pick (mac_right m s cmd (take (length x - mac_length m) x) (drop (length x - mac_length m) x))
    (content m s (command_iv s) there (drop h (take (length x - mac_length m) x)))
    wrong_mac

-- 01, step 8: the length for the mode, then those
unfoldable pub opening : Session → Mode → ℕ → List ℕ → ℕ → Bool → Opening
opening s m cmd x h there = pick (length_right m there h (length x)) (checked m s cmd x h there) wrong_length

-- 02, request 10: what that costs: the MAC, and where it is right the data part, padded rightly or not; nothing where the length is wrong
unfoldable pub checked_cost : Mode → Session → ℕ → List ℕ → ℕ → Bool → ℕ
checked_cost m s cmd x h there =
    let n = length x - mac_length m in
    signed_cost m n + pick (mac_right m s cmd (take n x) (drop n x)) (part_cost m there (n - h)) 0

unfoldable pub opening_cost : Session → Mode → ℕ → List ℕ → ℕ → Bool → ℕ
opening_cost s m cmd x h there = pick (length_right m there h (length x)) (checked_cost m s cmd x h there) 0

abbrev pub opened_for : Result ℕ NotOpened → ℕ → Opened
opened_for o n = record { «data» = o; cost = n }

-- the answer, and what the lent room holds: the plain data at its front, or where refused what stood there
abbrev pub told : Opening → Result ℕ NotOpened
told (plain d) = Ok (length d)
told wrong_length = Err WrongLength
told wrong_mac = Err WrongMac
told wrong_padding = Err WrongPadding

abbrev pub left : List ℕ → Opening → List ℕ
left old (plain d) = over d old
left old wrong_length = old
left old wrong_mac = old
left old wrong_padding = old

pub record OpensInto (o : Opening) (n : ℕ) (old : List ℕ) (r : Opened) (new : List ℕ) : Type 0 where
  pub answer : r.«data» ≡ told o
  pub room : new ≡ left old o
  pub cost : r.cost ≡ n

-- (house) before that: no command has over 255 bytes, and the room has to hold as many as came
unfoldable pub answers : List ℕ → List ℕ → Opening → Result ℕ NotOpened
answers x old o = pick (ltb 255 (length x)) (Err TooLong) (pick (ltb (length old) (length x)) (Err NoRoom) (told o))

unfoldable pub leaves : List ℕ → List ℕ → Opening → List ℕ
leaves x old o = pick (ltb 255 (length x)) old (pick (ltb (length old) (length x)) old (left old o))

unfoldable pub costs : List ℕ → List ℕ → ℕ → ℕ
costs x old n = pick (ltb 255 (length x)) 0 (pick (ltb (length old) (length x)) 0 n)

pub record Opens (x : List ℕ) (o : Opening) (n : ℕ) (old : List ℕ) (r : Opened) (new : List ℕ) : Type 0 where
  pub answer : r.«data» ≡ answers x old o
  pub room : new ≡ leaves x old o
  pub cost : r.cost ≡ costs x old n

-- 01's status for each answer; the two that are refused by house rules alone have none, and the house's numbers 1 and 2
-- (proofs/Answers.antt: opens-status)
unfoldable pub opened_status : Result ℕ NotOpened → ℕ
opened_status (Ok n) = operation_ok
opened_status (Err WrongLength) = length_error
opened_status (Err WrongMac) = integrity_error
opened_status (Err WrongPadding) = integrity_error
opened_status (Err TooLong) = 1
opened_status (Err NoRoom) = 2
