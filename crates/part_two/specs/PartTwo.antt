-- 01, "Authentication and messages (9.1, 10.4)": part two, its reply, and the session.
use Rattle.std.specs.Prelude.{true, List, Result, Ok, Err, ℕ, ◌+◌, drop}
use Rattle.base.specs.Decide.{pick}
use Rattle.base.specs.Status.{operation_ok}
use Rattle.authentication.specs.declared.Wrong.{Wrong}
use Rattle.authentication.specs.declared.Wrong.TheVariants.{NotThirtyTwo, WrongRndB}
use Rattle.authentication.specs.Authentication.{part_two, proof_status, first_reply, first_reply_cost, next_reply, next_reply_cost}
use Rattle.session_keys.specs.Keys.{enc_key, mac_key, session_keys_cost}
use Rattle.state.specs.declared.Live.{Live}
use Rattle.state.specs.declared.Pending.{Pending}
use Rattle.state.specs.declared.Tag.{Tag}
use Rattle.state.specs.State.{key_in, no_pending, talking}
use Rattle.replies.specs.Answer.{Answer, given_for, costing, refusal}

-- the session that part two opens, with a TI and a CmdCtr
unfoldable pub session_from : Pending → List ℕ → List ℕ → List ℕ → ℕ → Live
session_from p kx a ti counter =
    record { on = true; key = p.key; enc = enc_key kx a p.rnd_b; mac = mac_key kx a p.rnd_b; ti = ti; counter = counter }

-- part two of 71 accepted: TI, RndA', PDcap2, PCDcap2; the session has a new TI and CmdCtr 0 (9.1.2, 9.1.5). It costs the session keys and
-- the reply (02, request 10)
unfoldable pub entered_first : Tag → List ℕ → List ℕ → List ℕ → Answer
entered_first t kx a random =
    let ti = drop 16 random in
    given_for (session_keys_cost + first_reply_cost) (talking t (session_from t.pending kx a ti 0) no_pending) operation_ok
    (first_reply kx ti a t.pending.cap)

-- part two of 77 accepted: RndA'; TI and CmdCtr are the kept ones
unfoldable pub entered_next : Tag → List ℕ → List ℕ → Answer
entered_next t kx a =
    given_for (session_keys_cost + next_reply_cost) (talking t (session_from t.pending kx a t.pending.ti t.pending.counter) no_pending) operation_ok
    (next_reply kx a)

unfoldable pub entered : Tag → List ℕ → List ℕ → List ℕ → Answer
entered t kx a random = pick t.pending.first (entered_first t kx a random) (entered_next t kx a)

-- part two: length not 32 917E; wrong RndB' 91AE
abbrev pub by_proof : Tag → List ℕ → List ℕ → Result (List ℕ) Wrong → Answer
by_proof t kx random (Ok a) = entered t kx a random
by_proof t kx random (Err NotThirtyTwo) = refusal t (proof_status (Err NotThirtyTwo))
by_proof t kx random (Err WrongRndB) = refusal t (proof_status (Err WrongRndB))

-- the check costs as much where RndB' is wrong
unfoldable pub part_two_answer : Tag → List ℕ → List ℕ → Answer
part_two_answer t x random =
    let kx = key_in t.secrets.keys t.pending.key in
    let p = part_two kx t.pending.rnd_b x in
    costing p.cost (by_proof t kx random p.a)
