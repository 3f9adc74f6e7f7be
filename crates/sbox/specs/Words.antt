-- A column of four bytes as one number, the byte of row 0 lowest, and for each byte what it brings to the column's product.
use Rattle.std.specs.Prelude.{List, ℕ, ◌+◌, ◌*◌}
use Rattle.base.specs.Bytes.{byte_at, tab}
use Rattle.sbox.specs.Field.{mul}
use Rattle.sbox.specs.Tables.{sbox}

abbrev pub packed : ℕ → ℕ → ℕ → ℕ → ℕ
packed a b c d = a + 256 * b + 65536 * c + 16777216 * d

-- 5.1.1 and 5.1.3: a byte of row 0 goes through the S-box, and with 02, 01, 01, 03 into rows 0 to 3 of (5.6)
abbrev pub mixes : ℕ → ℕ
mixes x = packed (mul 2 (byte_at sbox x)) (byte_at sbox x) (byte_at sbox x) (mul 3 (byte_at sbox x))

unfoldable pub mixing_table : List ℕ
mixing_table = tab 256 mixes

-- 5.3.3: a byte of row 0 goes with 0e, 09, 0d, 0b into rows 0 to 3 of (5.10)
abbrev pub unmixes : ℕ → ℕ
unmixes x = packed (mul 14 x) (mul 9 x) (mul 13 x) (mul 11 x)

unfoldable pub unmixing_table : List ℕ
unmixing_table = tab 256 unmixes
