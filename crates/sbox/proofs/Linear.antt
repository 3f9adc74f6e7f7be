-- Sums of bytes form a group, and the product with a fixed factor is linear over them, for all numbers.
use mathlib.Core.Path.{◌≡◌, refl, sym, ap, ap₂, ◌∙◌}
use mathlib.Core.Bool.{Bool, true, false}
use Prim.Native.Nat.{ℕ, zero, suc, ◌+◌, ◌*◌, ◌/◌, ◌%◌, ◌^◌, ◌<◌}
use native.Mathlib.Nat.{mod-lt, div-add-mod', add-zero}
use native.Mathlib.Omega.{arith}
use lib.Arith.{bin_ind}
use lib.Bits.{bit_xor, xor_zero_l, xor_zero_r, xor_comm, xor_self, xor_lt, xor_mod, xor_shr, xor_block}
use lib.Dec.{eqb, lit<}
use Rattle.base.specs.Decide.{pick}
use Rattle.sbox.specs.Field.{◌⊕◌, xtime, product_of, mul}

-- a sum, its last digit apart
parts : (a b : ℕ) → a ⊕ b ≡ (a / 2 ⊕ b / 2) * 2 + (a % 2 ⊕ b % 2)
parts a b = sym (div-add-mod' (a ⊕ b) 2) ∙ ap₂ (λ (x y : ℕ). x * 2 + y) (xor_shr a b 1) (xor_mod a b 1)

digits_assoc : (x y z : ℕ) → x < 2 → y < 2 → z < 2 → (x ⊕ y) ⊕ z ≡ x ⊕ (y ⊕ z)
digits_assoc zero y z hx hy hz = refl
digits_assoc (suc zero) zero z hx hy hz = refl
digits_assoc (suc zero) (suc zero) zero hx hy hz = refl
digits_assoc (suc zero) (suc zero) (suc zero) hx hy hz = refl
digits_assoc (suc zero) (suc zero) (suc (suc z)) hx hy hz = absurd (omega arith)
digits_assoc (suc zero) (suc (suc y)) z hx hy hz = absurd (omega arith)
digits_assoc (suc (suc x)) y z hx hy hz = absurd (omega arith)

pub xor_assoc : (a b c : ℕ) → (a ⊕ b) ⊕ c ≡ a ⊕ (b ⊕ c)
xor_assoc a =
    bin_ind (λ (n : ℕ). (b c : ℕ) → (n ⊕ b) ⊕ c ≡ n ⊕ (b ⊕ c)) (λ b c. refl)
    (λ n ih b c.
    parts (n ⊕ b) c
    ∙ ap₂ (λ (x y : ℕ). (x ⊕ c / 2) * 2 + (y ⊕ c % 2)) (xor_shr n b 1) (xor_mod n b 1)
    ∙ ap₂ (λ (x y : ℕ). x * 2 + y) (ih (b / 2) (c / 2)) (digits_assoc (n % 2) (b % 2) (c % 2) (omega arith) (omega arith) (omega arith))
    ∙ ap₂ (λ (x y : ℕ). (n / 2 ⊕ x) * 2 + (n % 2 ⊕ y)) (sym (xor_shr b c 1)) (sym (xor_mod b c 1))
    ∙ sym (parts n (b ⊕ c))) a

pub xor_left_comm : (a b c : ℕ) → a ⊕ (b ⊕ c) ≡ b ⊕ (a ⊕ c)
xor_left_comm a b c = sym (xor_assoc a b c) ∙ ap (λ (x : ℕ). x ⊕ c) (xor_comm a b) ∙ xor_assoc b a c

-- a sum with the same number twice is what it was
pub xor_twice : (a b : ℕ) → (a ⊕ b) ⊕ b ≡ a
xor_twice a b = xor_assoc a b b ∙ ap (λ (x : ℕ). a ⊕ x) (xor_self b) ∙ xor_zero_r a

pub xor_again : (a b : ℕ) → a ⊕ (a ⊕ b) ≡ b
xor_again a b = sym (xor_assoc a a b) ∙ ap (λ (x : ℕ). x ⊕ b) (xor_self a)

pub xor_byte : (a b : ℕ) → a < 256 → b < 256 → a ⊕ b < 256
xor_byte a b h k = xor_lt 8 a b h k

xor_four : (a b c d : ℕ) → (a ⊕ b) ⊕ (c ⊕ d) ≡ (a ⊕ c) ⊕ (b ⊕ d)
xor_four a b c d =
    xor_assoc a b (c ⊕ d) ∙ ap (λ (x : ℕ). a ⊕ x) (xor_left_comm b c d) ∙ sym (xor_assoc a c (b ⊕ d))

-- ---- the product with x, and with any factor, is linear
doubled : (a b : ℕ) → (a ⊕ b) * 2 ≡ a * 2 ⊕ b * 2
doubled a b =
    sym (add-zero ((a ⊕ b) * 2)) ∙ sym (xor_block 1 a b 0 0 (lit< tt) (lit< tt))
    ∙ ap₂ (λ (x y : ℕ). x ⊕ y) (add-zero (a * 2)) (add-zero (b * 2))

carried : (x y : ℕ) → x < 2 → y < 2 → (x ⊕ y) * 27 ≡ x * 27 ⊕ y * 27
carried zero zero hx hy = refl
carried zero (suc zero) hx hy = refl
carried zero (suc (suc y)) hx hy = absurd (omega arith)
carried (suc zero) zero hx hy = refl
carried (suc zero) (suc zero) hx hy = refl
carried (suc zero) (suc (suc y)) hx hy = absurd (omega arith)
carried (suc (suc x)) y hx hy = absurd (omega arith)

pub xtime_linear : (a b : ℕ) → xtime (a ⊕ b) ≡ xtime a ⊕ xtime b
unfolding xtime
xtime_linear a b =
    ap₂ (λ (x y : ℕ). x * 2 ⊕ y * 27) (xor_mod a b 7) (ap (λ (x : ℕ). x % 2) (xor_shr a b 7) ∙ xor_mod (a / 128) (b / 128) 1)
    ∙ ap₂ (λ (x y : ℕ). x ⊕ y) (doubled (a % 128) (b % 128)) (carried (a / 128 % 2) (b / 128 % 2) (omega arith) (omega arith))
    ∙ xor_four (a % 128 * 2) (b % 128 * 2) (a / 128 % 2 * 27) (b / 128 % 2 * 27)

pub xtime_byte : (b : ℕ) → xtime b < 256
unfolding xtime
xtime_byte b = xor_byte (b % 128 * 2) (b / 128 % 2 * 27) (omega arith) (omega arith)

product_linear : (n k a b : ℕ) → product_of n k (a ⊕ b) ≡ product_of n k a ⊕ product_of n k b
product_linear zero k a b = refl
product_linear (suc n) k a b =
    step (eqb (k % 2) 1) _ (xtime (product_of n (k / 2) a)) (xtime (product_of n (k / 2) b))
    (ap xtime (product_linear n (k / 2) a b) ∙ xtime_linear (product_of n (k / 2) a) (product_of n (k / 2) b))
  where
    step : (t : Bool) (x y z : ℕ) → x ≡ y ⊕ z → pick t (x ⊕ (a ⊕ b)) x ≡ pick t (y ⊕ a) y ⊕ pick t (z ⊕ b) z
    step true x y z e = ap (λ (v : ℕ). v ⊕ (a ⊕ b)) e ∙ xor_four y z a b
    step false x y z e = e

pub mul_linear : (k a b : ℕ) → mul k (a ⊕ b) ≡ mul k a ⊕ mul k b
mul_linear k a b = product_linear 8 k a b

pub product_byte : (n k b : ℕ) → b < 256 → product_of n k b < 256
product_byte zero k b h = lit< tt
product_byte (suc n) k b h = step (eqb (k % 2) 1)
  where
    step : (t : Bool) → pick t (xtime (product_of n (k / 2) b) ⊕ b) (xtime (product_of n (k / 2) b)) < 256
    step true = xor_byte (xtime (product_of n (k / 2) b)) b (xtime_byte (product_of n (k / 2) b)) h
    step false = xtime_byte (product_of n (k / 2) b)

pub mul_byte : (k b : ℕ) → b < 256 → mul k b < 256
mul_byte k b h = product_byte 8 k b h

-- ---- the factors of 5.1.3 and 5.3.3, from twice, four and eight times a byte
pub xtime_zero : xtime 0 ≡ 0
unfolding xtime
xtime_zero = refl

pub times_2 : (x : ℕ) → mul 2 x ≡ xtime x
times_2 x = simp xtime_zero

pub times_3 : (x : ℕ) → mul 3 x ≡ xtime x ⊕ x
times_3 x = simp xtime_zero

pub times_9 : (x : ℕ) → mul 9 x ≡ xtime (xtime (xtime x)) ⊕ x
times_9 x = simp xtime_zero

pub times_11 : (x : ℕ) → mul 11 x ≡ xtime (xtime (xtime x)) ⊕ xtime x ⊕ x
times_11 x = simp (xtime_zero, xtime_linear)

pub times_13 : (x : ℕ) → mul 13 x ≡ xtime (xtime (xtime x)) ⊕ xtime (xtime x) ⊕ x
times_13 x = simp (xtime_zero, xtime_linear)

pub times_14 : (x : ℕ) → mul 14 x ≡ xtime (xtime (xtime x)) ⊕ xtime (xtime x) ⊕ xtime x
times_14 x = simp (xtime_zero, xtime_linear)
