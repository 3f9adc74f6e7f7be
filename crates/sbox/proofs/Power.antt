-- The product of bytes is commutative and associative, and a byte to the 256 is the byte itself. So the power that stands for
-- the inverse is the only byte whose product with it is 1.
use mathlib.Core.Path.{◌≡◌, refl, sym, ap, ap₂, ◌∙◌}
use mathlib.Core.Bool.{Bool, true, false}
use Prim.Native.Nat.{ℕ, zero, suc, ◌/◌, ◌%◌, ◌<◌}
use lib.Bits.{xor_zero_l, xor_self}
use lib.Dec.{eqb, eqb→eq, lit<}
use Rattle.base.specs.Decide.{pick}
use Rattle.sbox.specs.Field.{◌⊕◌, xtime, product_of, mul, squares, inverse}
use Rattle.sbox.specs.Tables.{sbox}
use Rattle.sbox.proofs.Linear.{xor_assoc, xor_again, xor_byte, xtime_zero, xtime_linear, xtime_byte, product_byte, mul_linear, mul_byte, times_2}
use Rattle.sbox.proofs.Table.{entries}

-- what is linear on bytes and commutes with doubling, commutes with every product
module _ (l : ℕ → ℕ) (linear : (a b : ℕ) → a < 256 → b < 256 → l (a ⊕ b) ≡ l a ⊕ l b)
    (doubled : (b : ℕ) → b < 256 → l (xtime b) ≡ xtime (l b)) where
  through : (n k b : ℕ) → b < 256 → l (product_of n k b) ≡ product_of n k (l b)
  through zero k b h = linear 0 0 (lit< tt) (lit< tt) ∙ xor_self (l 0)
  through (suc n) k b h =
      step (eqb (k % 2) 1) (xtime (product_of n (k / 2) b)) (xtime (product_of n (k / 2) (l b))) (xtime_byte (product_of n (k / 2) b))
      (doubled (product_of n (k / 2) b) (product_byte n (k / 2) b h) ∙ ap xtime (through n (k / 2) b h))
    where
      step : (t : Bool) (x y : ℕ) → x < 256 → l x ≡ y → l (pick t (x ⊕ b) x) ≡ pick t (y ⊕ l b) y
      step true x y hx e = linear x b hx h ∙ ap (λ (v : ℕ). v ⊕ l b) e
      step false x y hx e = e

-- the product, shut
times : ℕ → ℕ → ℕ
times a b = mul a b

times_linear : (k a b : ℕ) → times k (a ⊕ b) ≡ times k a ⊕ times k b
unfolding times
times_linear k a b = mul_linear k a b

times_byte : (k b : ℕ) → b < 256 → times k b < 256
unfolding times
times_byte k b h = mul_byte k b h

xtime_out : (k b : ℕ) → b < 256 → times k (xtime b) ≡ xtime (times k b)
unfolding times
xtime_out k b h = sym (through xtime (λ x y _ _. xtime_linear x y) (λ x _. refl) 8 k b h)

swap : (a b c : ℕ) → c < 256 → times a (times b c) ≡ times b (times a c)
unfolding times
swap a b c h = through (times a) (λ x y _ _. times_linear a x y) (xtime_out a) 8 b c h

times_two : (b : ℕ) → times 2 b ≡ xtime b
unfolding times
times_two b = times_2 b

times_unit : (b : ℕ) → times 1 b ≡ b
unfolding times
times_unit b = simp (xtime_zero, xor_zero_l)

is_one : ℕ → ℕ → Bool
is_one k x = eqb (mul k 1) k

times_one : (k : ℕ) → k < 256 → times k 1 ≡ k
unfolding times is_one xtime sbox
times_one k h = eqb→eq (mul k 1) k (entries is_one sbox tt k h)

comm : (a b : ℕ) → a < 256 → b < 256 → times a b ≡ times b a
comm a b ha hb = sym (ap (times a) (times_one b hb)) ∙ swap a b 1 (lit< tt) ∙ ap (times b) (times_one a ha)

assoc : (a b c : ℕ) → b < 256 → c < 256 → times (times a b) c ≡ times a (times b c)
assoc a b c hb hc =
    comm (times a b) c (times_byte a b hb) hc ∙ swap c a b hb ∙ ap (times a) (comm c b hc hb)

-- ---- squares, and squares of squares
square : ℕ → ℕ
square b = times b b

square_is : (b : ℕ) → square b ≡ times b b
unfolding square
square_is b = refl

square_byte : (b : ℕ) → b < 256 → square b < 256
unfolding square
square_byte b h = times_byte b b h

square_linear : (a b : ℕ) → a < 256 → b < 256 → square (a ⊕ b) ≡ square a ⊕ square b
unfolding square
square_linear a b ha hb =
    times_linear (a ⊕ b) a b
    ∙ ap₂ (λ (x y : ℕ). x ⊕ y) (comm (a ⊕ b) a ab ha ∙ times_linear a a b)
    (comm (a ⊕ b) b ab hb ∙ times_linear b a b ∙ ap (λ (x : ℕ). x ⊕ times b b) (comm b a hb ha))
    ∙ xor_assoc (times a a) (times a b) (times a b ⊕ times b b)
    ∙ ap (λ (x : ℕ). times a a ⊕ x) (xor_again (times a b) (times b b))
  where
    ab : a ⊕ b < 256
    ab = xor_byte a b ha hb

square_times : (a b : ℕ) → a < 256 → b < 256 → square (times a b) ≡ times (square a) (square b)
unfolding square
square_times a b ha hb =
    assoc a b (times a b) hb (times_byte a b hb) ∙ ap (times a) (swap b a b hb) ∙ sym (assoc a a (times b b) ha (times_byte b b hb))

-- b to the 2 to the n
raised : ℕ → ℕ → ℕ
raised zero b = b
raised (suc n) b = raised n (square b)

raised_linear : (n a b : ℕ) → a < 256 → b < 256 → raised n (a ⊕ b) ≡ raised n a ⊕ raised n b
unfolding raised
raised_linear zero a b ha hb = refl
raised_linear (suc n) a b ha hb =
    ap (raised n) (square_linear a b ha hb) ∙ raised_linear n (square a) (square b) (square_byte a ha) (square_byte b hb)

raised_times : (n a b : ℕ) → a < 256 → b < 256 → raised n (times a b) ≡ times (raised n a) (raised n b)
unfolding raised
raised_times zero a b ha hb = refl
raised_times (suc n) a b ha hb =
    ap (raised n) (square_times a b ha hb) ∙ raised_times n (square a) (square b) (square_byte a ha) (square_byte b hb)

two_fixed : raised 8 2 ≡ 2
unfolding raised square times xtime
two_fixed = refl

one_fixed : raised 8 1 ≡ 1
unfolding raised square times xtime
one_fixed = refl

raised-doubled : (b : ℕ) → b < 256 → raised 8 (xtime b) ≡ xtime (raised 8 b)
raised-doubled b h =
    ap (raised 8) (sym (times_two b)) ∙ raised_times 8 2 b (lit< tt) h ∙ ap (λ (x : ℕ). times x (raised 8 b)) two_fixed
    ∙ times_two (raised 8 b)

raised_product : (b : ℕ) → raised 8 (times b 1) ≡ times b (raised 8 1)
unfolding times
raised_product b = through (raised 8) (raised_linear 8) raised-doubled 8 b 1 (lit< tt)

-- a byte to the 256
fixed : (b : ℕ) → b < 256 → raised 8 b ≡ b
fixed b h =
    ap (raised 8) (sym (times_one b h)) ∙ raised_product b ∙ ap (times b) one_fixed ∙ times_one b h

-- ---- the power that stands for the inverse
squares_next : (n b : ℕ) → squares (suc n) b ≡ times (square b) (squares n (square b))
unfolding squares times square
squares_next n b = refl

squares_zero : (b : ℕ) → squares 0 b ≡ 1
unfolding squares
squares_zero b = refl

squares_byte : (n b : ℕ) → b < 256 → squares n b < 256
squares_byte zero b h = rw (squares_zero b) (lit< tt)
squares_byte (suc n) b h = rw (squares_next n b) (times_byte (square b) (squares n (square b)) (squares_byte n (square b) (square_byte b h)))

squares-raised : (n b : ℕ) → b < 256 → times (square b) (squares n b) ≡ raised (suc n) b
unfolding raised
squares-raised zero b h = ap (times (square b)) (squares_zero b) ∙ times_one (square b) (square_byte b h)
squares-raised (suc n) b h =
    ap (times (square b)) (squares_next n b)
    ∙ sym (assoc (square b) (square b) (squares n (square b)) (square_byte b h) (squares_byte n (square b) (square_byte b h)))
    ∙ ap (λ (x : ℕ). times x (squares n (square b))) (sym (square_is (square b))) ∙ squares-raised n (square b) (square_byte b h)

module _ (k t : ℕ) (hk : k < 256) (ht : t < 256) (e : times k t ≡ 1) where
  -- t takes k away
  away : (y : ℕ) → y < 256 → times t (times k y) ≡ y
  away y hy = swap t k y hy ∙ sym (assoc k t y ht hy) ∙ ap (λ (x : ℕ). times x y) e ∙ times_unit y

  only : (y : ℕ) → y < 256 → times (square k) y ≡ k → y ≡ t
  unfolding square
  only y hy f =
      sym (away y hy) ∙ ap (times t) (sym (away (times k y) (times_byte k y hy)) ∙ ap (times t) (sym (assoc k k y hk hy) ∙ f) ∙ comm t k ht hk ∙ e)
      ∙ times_one t ht

pub inverse-only : (k t : ℕ) → k < 256 → t < 256 → mul k t ≡ 1 → inverse k ≡ t
unfolding inverse times
inverse-only k t hk ht e = only k t hk ht e (squares 7 k) (squares_byte 7 k hk) (squares-raised 7 k hk ∙ fixed k hk)
