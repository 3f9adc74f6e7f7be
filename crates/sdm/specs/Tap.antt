-- 9.3.4, 9.3.6, 9.3.8 and 9.3.9: PICCData, and the keys and the vector of a tap.
use Rattle.std.specs.Prelude.{Bool, List, [], ◌∷◌, ◌++◌, ◌≡◌, ℕ, ◌+◌, ◌-◌, ◌≤◌, length, take, replicate, Result, Ok, Err}
use Rattle.base.specs.Decide.{pick}
use Rattle.base.specs.Bytes.{low}
use Rattle.aes.specs.Block.{cipher, block_cost}
use Rattle.cbc.specs.declared.Ragged.{Ragged}
use Rattle.cbc.specs.Cbc.{cbc_out, whole, cbc_cost, chained_cost}
use Rattle.cmac.specs.Cmac.{cmac, cmac_cost}
use Rattle.key_expansion.specs.Keys.{key_expansion}
use Rattle.sdm.specs.declared.Tap.{Tap}

-- UID and counter as far as they are mirrored, the counter low byte first
unfoldable pub mirrored : List ℕ → ℕ → Bool → Bool → List ℕ
mirrored uid counter names counts = pick names uid [] ++ pick counts (low 3 counter) []

abbrev pub mirrored_of : Tap → List ℕ
mirrored_of t = mirrored t.uid t.counter t.names t.counts

-- Table 21: 128 for the UID, 64 for the counter, plus 7 with the UID
unfoldable pub picc_tag : Bool → Bool → ℕ
picc_tag names counts = pick names (128 + 7) 0 + pick counts 64 0

-- PICCData: the tag, UID and counter, and padding: 5, 8 or 12 from the front of the twelve bytes that the tap keeps (02, request 3). With
-- neither UID nor counter, which no sound settings have, 15 are wanted, and three zeros stand behind the twelve
unfoldable pub picc_text : Tap → List ℕ → List ℕ
picc_text t padding =
    picc_tag t.names t.counts ∷ mirrored_of t ++ take (15 - length (mirrored_of t)) (padding ++ replicate 3 0)

unfoldable pub picc_data : List ℕ → Tap → List ℕ → List ℕ
picc_data key t padding = cipher (key_expansion key) (picc_text t padding)

-- 02, request 10: what PICCData costs
abbrev pub picc_cost : ℕ
picc_cost = block_cost

-- UID and counter, at the front of ten bytes that are zeros behind them
pub record Mirrors (p b : List ℕ) (n : ℕ) : Type 0 where
  pub count : n ≡ length p
  pub bytes : b ≡ p ++ replicate (10 - length p) 0
  pub fits : length p ≤ 10

-- the input of a key of the tap, for a label: zeros to 16
unfoldable pub tap_vector : ℕ → ℕ → Tap → List ℕ
tap_vector a b t = a ∷ b ∷ 0 ∷ 1 ∷ 0 ∷ 128 ∷ mirrored_of t ++ replicate (10 - length (mirrored_of t)) 0

unfoldable pub tap_key : List ℕ → ℕ → ℕ → Tap → List ℕ
tap_key key a b t = cmac (key_expansion key) (tap_vector a b t)

-- SesSDMFileReadENCKey and SesSDMFileReadMACKey
abbrev pub tap_enc_key : List ℕ → Tap → List ℕ
tap_enc_key key t = tap_key key 0xC3 0x3C t

abbrev pub tap_mac_key : List ℕ → Tap → List ℕ
tap_mac_key key t = tap_key key 0x3C 0xC3 t

-- 02, request 10: what each of them costs: a CMAC of 16 bytes
abbrev pub tap_key_cost : ℕ
tap_key_cost = cmac_cost 16

-- the vector of ENC
unfoldable pub tap_iv : List ℕ → ℕ → List ℕ
tap_iv key counter = cipher (key_expansion key) (low 3 counter ++ replicate 13 0)

-- 02, request 10: what the vector costs, and the encryption of n bytes with it
abbrev pub tap_iv_cost : ℕ
tap_iv_cost = block_cost

unfoldable pub hidden_cost : ℕ → ℕ
hidden_cost n = tap_iv_cost + cbc_cost n

-- SDMENCFileData over whole blocks; another length is refused before any block, the text as it was
pub record Hides (key : List ℕ) (counter : ℕ) (old : List ℕ) (r : Result ℕ Ragged) (new : List ℕ) : Type 0 where
  pub answer : r ≡ pick (whole old) (Ok (hidden_cost (length old))) (Err record {})
  pub cost : chained_cost r ≡ pick (whole old) (hidden_cost (length old)) 0
  pub text : new ≡ pick (whole old) (cbc_out (key_expansion key) (tap_iv key counter) old) old
