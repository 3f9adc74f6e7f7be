-- 01: ChangeKey (10.6.1) and GetKeyVersion (10.6.2).
use Rattle.std.specs.Prelude.{List, [], ◌∷◌, ℕ, ◌*◌, eqb, length, drop}
use Rattle.std.specs.Int.Bits.{bit_xor}
use Rattle.base.specs.Decide.{pick}
use Rattle.base.specs.Bytes.{byte_at, same, laid, tab}
use Rattle.base.specs.Status.{operation_ok, integrity_error, length_error}
use Rattle.crc.specs.Crc.{crc}
use Rattle.messaging.specs.declared.Mode.{Mode}
use Rattle.messaging.specs.declared.Mode.TheVariants.{Full}
use Rattle.state.specs.declared.Secrets.{Secrets}
use Rattle.state.specs.declared.Tag.{Tag}
use Rattle.state.specs.State.{key_in, keyed, ended_of}
use Rattle.replies.specs.Answer.{Answer, given, refusal, accepted}

-- key 0 gives the new key, others new xor old
unfoldable pub new_key : List ℕ → List ℕ → ℕ → List ℕ
new_key p old k = tab 16 (λ i. pick (eqb k 0) (byte_at p i) (bit_xor (byte_at p i) (byte_at old i)))

-- key 0: 17 bytes; others: new xor old, version, CRC, 21 bytes; other lengths 917E, wrong CRC (over the new key) 911E
unfoldable pub change_status : List ℕ → ℕ → List ℕ → ℕ
change_status p k new =
    pick (eqb k 0) (pick (eqb (length p) 17) 0 length_error)
    (pick (eqb (length p) 21) (pick (same (drop 17 p) (crc new)) 0 integrity_error) length_error)

unfoldable pub with_key : Secrets → ℕ → List ℕ → ℕ → Secrets
with_key s k new version = record { keys = laid new (k * 16) s.keys; versions = laid (version ∷ []) k s.versions }

-- changing key 0 ends the session and the reply has no MAC
unfoldable pub changed_key : Tag → ℕ → List ℕ → Answer
changed_key t k p =
    let new = new_key p (key_in t.secrets.keys k) k in
    let next = keyed t (with_key t.secrets k new (byte_at p 16)) in
    pick (eqb (change_status p k new) 0)
    (pick (eqb k 0) (given (ended_of next) operation_ok []) (accepted next Full []))
    (refusal t (change_status p k new))

unfoldable pub key_version : Tag → ℕ → Mode → Answer
key_version t k m = accepted t m (byte_at t.secrets.versions k ∷ [])
