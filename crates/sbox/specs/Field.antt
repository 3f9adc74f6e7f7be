-- FIPS 197, section 4: the field of 256 elements. A byte's bits are a polynomial's coefficients; sums are bit_xor.
use Rattle.std.specs.Prelude.{ℕ, zero, suc, ◌+◌, ◌*◌, ◌/◌, ◌%◌, ◌^◌, eqb}
use Rattle.std.specs.Int.Bits.{bit_xor}
use Rattle.base.specs.Decide.{pick}

-- 4.1: the sum of two bytes
infixl 60 ◌⊕◌
abbrev pub ◌⊕◌ : ℕ → ℕ → ℕ
a ⊕ b = bit_xor a b

-- 4.2.1: the product with x: a shift to the left, and where bit 7 fell out, the sum with 1b
unfoldable pub xtime : ℕ → ℕ
xtime b = (b % 128 * 2) ⊕ (b / 128 % 2 * 27)

-- 4.2: the product: b times x to the i, summed over the bits i of a that are one, taken from a's high end
abbrev pub product_of : ℕ → ℕ → ℕ → ℕ
product_of zero a b = 0
product_of (suc n) a b = pick (eqb (a % 2) 1) (xtime (product_of n (a / 2) b) ⊕ b) (xtime (product_of n (a / 2) b))

abbrev pub mul : ℕ → ℕ → ℕ
mul a b = product_of 8 a b

-- 4.2: the inverse of a byte, 0 for 0: b to the 254, which is b to the 2 + 4 + .. + 128 (proofs/Rule.antt: it is one)
unfoldable pub squares : ℕ → ℕ → ℕ
squares zero b = 1
squares (suc n) b = mul (mul b b) (squares n (mul b b))

unfoldable pub inverse : ℕ → ℕ
inverse b = squares 7 b

-- bit i of a byte
abbrev pub bit_of : ℕ → ℕ → ℕ
bit_of i b = b / 2 ^ i % 2

-- 5.1.1, (5.1): bit i of the affine step is the sum of bits i, i + 4, i + 5, i + 6, i + 7 (modulo 8) and bit i of 63
unfoldable pub affine_bit : ℕ → ℕ → ℕ
affine_bit b i = (bit_of i b + bit_of ((i + 4) % 8) b + bit_of ((i + 5) % 8) b + bit_of ((i + 6) % 8) b + bit_of ((i + 7) % 8) b + bit_of i 0x63) % 2

-- the number whose n low bits are f's
unfoldable pub from_bits : ℕ → (ℕ → ℕ) → ℕ
from_bits zero f = 0
from_bits (suc n) f = f n * 2 ^ n + from_bits n f

unfoldable pub affine : ℕ → ℕ
affine b = from_bits 8 (affine_bit b)

-- 5.1.1: the S-box's entry for a byte: its inverse in the field, then the affine step
unfoldable pub substituted : ℕ → ℕ
substituted b = affine (inverse b)
