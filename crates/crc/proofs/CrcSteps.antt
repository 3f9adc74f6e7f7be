-- The CRC a bit and a byte at a time.
use mathlib.Core.Path.{◌≡◌, ap}
use mathlib.Core.List.{List}
use Prim.Native.Nat.{ℕ, zero, suc, ◌+◌, ◌-◌, ◌<◌}
use native.Mathlib.Numerals.{add-one}
use native.Mathlib.Omega.{arith}
use lib.Bits.{bit_xor}
use lib.ListN.{length, drop, get_or}
use lib.Seq.{drop-cons}
use Rattle.crc.specs.Crc.{crc_bit, crc_bits, crc_bytes}

pub bits_step : (n c : ℕ) → 0 < n → crc_bits n c ≡ crc_bits (n - 1) (crc_bit c)
unfolding crc_bits
bits_step zero c h = absurd (omega arith)
bits_step (suc n) c h = let e : n ≡ suc n - 1 = omega arith in ap (λ m. crc_bits m (crc_bit c)) e

pub bytes-step : (c : ℕ) (s : List ℕ) (i : ℕ) → i < length s
    → crc_bytes c (drop i s) ≡ crc_bytes (crc_bits 8 (bit_xor c (get_or s i 0))) (drop (i + 1) s)
unfolding crc_bytes
bytes-step c s i h = rw (add-one, drop-cons s i 0 h)
