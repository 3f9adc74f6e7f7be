-- FIPS 197, 4.3: a column of four bytes times a fixed polynomial. Each gives the first byte of the product of the column
-- a, b, c, d; the others are the same of the column turned (5.1.3 and 5.3.3).
use Rattle.std.specs.Prelude.{ℕ}
use Rattle.sbox.specs.Field.{◌⊕◌, mul}

-- (5.6): 02 a + 03 b + c + d
unfoldable pub mixed : ℕ → ℕ → ℕ → ℕ → ℕ
mixed a b c d = mul 2 a ⊕ mul 3 b ⊕ c ⊕ d

-- (5.10): 0e a + 0b b + 0d c + 09 d
unfoldable pub unmixed : ℕ → ℕ → ℕ → ℕ → ℕ
unmixed a b c d = mul 14 a ⊕ mul 11 b ⊕ mul 13 c ⊕ mul 9 d
