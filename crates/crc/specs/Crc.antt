-- 10.6.1 and 01: the CRC32 of IEEE 802.3 without its final complement.
use Rattle.std.specs.Prelude.{List, [], ◌∷◌, ℕ, zero, suc, ◌/◌, ◌%◌, eqb}
use Rattle.std.specs.Int.Bits.{bit_xor}
use Rattle.base.specs.Decide.{pick}
use Rattle.base.specs.Bytes.{low}

-- one bit, with the reflected polynomial
unfoldable pub crc_bit : ℕ → ℕ
crc_bit c = pick (eqb (c % 2) 1) (bit_xor (c / 2) 0xEDB88320) (c / 2)

-- n bits
unfoldable pub crc_bits : ℕ → ℕ → ℕ
crc_bits zero c = c
crc_bits (suc n) c = crc_bits n (crc_bit c)

-- each byte goes into the low bits, then eight bits out
unfoldable pub crc_bytes : ℕ → List ℕ → ℕ
crc_bytes c [] = c
crc_bytes c (b ∷ bs) = crc_bytes (crc_bits 8 (bit_xor c b)) bs

-- start FFFFFFFF, no final complement, low byte first
unfoldable pub crc : List ℕ → List ℕ
crc s = low 4 (crc_bytes 0xFFFFFFFF s)
