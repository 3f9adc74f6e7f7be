-- 9.1.7: the session keys.
use Rattle.std.specs.Prelude.{List, ◌∷◌, ◌++◌, ℕ, ◌+◌, ◌-◌, take, drop}
use Rattle.std.specs.Int.Bits.{bit_xor}
use Rattle.base.specs.Bytes.{byte_at, tab}
use Rattle.key_expansion.specs.Keys.{key_expansion}
use Rattle.cmac.specs.Cmac.{cmac, cmac_cost}
use Rattle.session_keys.specs.declared.Keys.{Keys}

-- bytes hi down to lo of 16; byte 15 is the first sent
abbrev pub bytes_down : List ℕ → ℕ → ℕ → List ℕ
bytes_down x hi lo = take (hi - lo + 1) (drop (15 - hi) x)

-- two times n bytes summed
abbrev pub sum : ℕ → List ℕ → List ℕ → List ℕ
sum n a b = tab n (λ i. bit_xor (byte_at a i) (byte_at b i))

-- SV1 and SV2 behind their label
unfoldable pub context : List ℕ → List ℕ → List ℕ
context a b =
    0 ∷ 1 ∷ 0 ∷ 128 ∷ bytes_down a 15 14
    ++ sum 6 (bytes_down a 13 8) (bytes_down b 15 10)
    ++ bytes_down b 9 0
    ++ bytes_down a 7 0

-- SesAuthENCKey and SesAuthMACKey, from Kx, RndA and RndB
unfoldable pub enc_key : List ℕ → List ℕ → List ℕ → List ℕ
enc_key kx a b = cmac (key_expansion kx) (0xA5 ∷ 0x5A ∷ context a b)

unfoldable pub mac_key : List ℕ → List ℕ → List ℕ → List ℕ
mac_key kx a b = cmac (key_expansion kx) (0x5A ∷ 0xA5 ∷ context a b)

-- 02, request 10: what both cost: two CMACs of 32 bytes
abbrev pub session_keys_cost : ℕ
session_keys_cost = cmac_cost 32 + cmac_cost 32

unfoldable pub session_keys : List ℕ → List ℕ → List ℕ → Keys
session_keys kx a b = record { enc = enc_key kx a b; mac = mac_key kx a b; cost = session_keys_cost }
