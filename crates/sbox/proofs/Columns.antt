-- The two column products undo each other on bytes. Each is a sum of four linear functions of a turned column, so the
-- product of both is one function of each byte: the byte itself for the first, 0 for the others. Each of these is a sum of
-- doublings of the byte, in which all but the byte itself come an even number of times.
use mathlib.Core.Path.{◌≡◌, refl, ◌∙◌}
use Prim.Native.Nat.{ℕ, ◌<◌}
use lib.Bits.{xor_zero_l, xor_zero_r, xor_comm, xor_self}
use Rattle.sbox.specs.Field.{◌⊕◌, mul}
use Rattle.sbox.specs.Columns.{mixed, unmixed}
use Rattle.sbox.proofs.Linear.{xor_assoc, xor_left_comm, xor_again, xor_byte, xtime_zero, xtime_linear, mul_linear, mul_byte}

four_sum : (w x y z a : ℕ) → w ≡ a → x ≡ 0 → y ≡ 0 → z ≡ 0 → w ⊕ x ⊕ y ⊕ z ≡ a
four_sum w x y z a ew ex ey ez = rw (ew, ex, ey, ez) (simp xor_zero_r)

abbrev Linear : (ℕ → ℕ) → Type 0
Linear f = (a b : ℕ) → f (a ⊕ b) ≡ f a ⊕ f b

module _ (f g h k p q r s : ℕ → ℕ) where
  -- what a byte of the column comes to in the product of both, by its place
  abbrev first : ℕ → ℕ
  first x = f (p x) ⊕ g (s x) ⊕ h (r x) ⊕ k (q x)

  abbrev second : ℕ → ℕ
  second x = f (q x) ⊕ g (p x) ⊕ h (s x) ⊕ k (r x)

  abbrev third : ℕ → ℕ
  third x = f (r x) ⊕ g (q x) ⊕ h (p x) ⊕ k (s x)

  abbrev fourth : ℕ → ℕ
  fourth x = f (s x) ⊕ g (r x) ⊕ h (q x) ⊕ k (p x)

  gathered : Linear f → Linear g → Linear h → Linear k → (a b c d : ℕ)
      → f (p a ⊕ q b ⊕ r c ⊕ s d) ⊕ g (p b ⊕ q c ⊕ r d ⊕ s a) ⊕ h (p c ⊕ q d ⊕ r a ⊕ s b) ⊕ k (p d ⊕ q a ⊕ r b ⊕ s c)
      ≡ first a ⊕ second b ⊕ third c ⊕ fourth d
  gathered lf lg lh lk a b c d = simp (lf, lg, lh, lk, xor_assoc, xor_comm, xor_left_comm)

  undone : Linear f → Linear g → Linear h → Linear k
      → ((x : ℕ) → first x ≡ x) → ((x : ℕ) → second x ≡ 0) → ((x : ℕ) → third x ≡ 0) → ((x : ℕ) → fourth x ≡ 0) → (a b c d : ℕ)
      → f (p a ⊕ q b ⊕ r c ⊕ s d) ⊕ g (p b ⊕ q c ⊕ r d ⊕ s a) ⊕ h (p c ⊕ q d ⊕ r a ⊕ s b) ⊕ k (p d ⊕ q a ⊕ r b ⊕ s c) ≡ a
  undone lf lg lh lk e1 e2 e3 e4 a b c d =
      gathered lf lg lh lk a b c d ∙ four_sum (first a) (second b) (third c) (fourth d) a (e1 a) (e2 b) (e3 c) (e4 d)

pub mixed_byte : (a b c d : ℕ) → a < 256 → b < 256 → c < 256 → d < 256 → mixed a b c d < 256
unfolding mixed
mixed_byte a b c d ha hb hc hd =
    xor_byte (mul 2 a ⊕ mul 3 b ⊕ c) d (xor_byte (mul 2 a ⊕ mul 3 b) c (xor_byte (mul 2 a) (mul 3 b) (mul_byte 2 a ha) (mul_byte 3 b hb)) hc) hd

pub unmixed_byte : (a b c d : ℕ) → a < 256 → b < 256 → c < 256 → d < 256 → unmixed a b c d < 256
unfolding unmixed
unmixed_byte a b c d ha hb hc hd =
    xor_byte (mul 14 a ⊕ mul 11 b ⊕ mul 13 c) (mul 9 d)
    (xor_byte (mul 14 a ⊕ mul 11 b) (mul 13 c) (xor_byte (mul 14 a) (mul 11 b) (mul_byte 14 a ha) (mul_byte 11 b hb)) (mul_byte 13 c hc))
    (mul_byte 9 d hd)

-- a sum of doublings, each out where it comes twice
ruleset cancel = (xtime_zero, xtime_linear, xor_assoc, xor_comm, xor_left_comm, xor_self, xor_again, xor_zero_l, xor_zero_r)

-- the first byte of a column that was mixed and then unmixed
pub unmixed-mixed : (a b c d : ℕ) → a < 256 → b < 256 → c < 256 → d < 256
    → unmixed (mixed a b c d) (mixed b c d a) (mixed c d a b) (mixed d a b c) ≡ a
unfolding mixed unmixed
unmixed-mixed a b c d ha hb hc hd =
    undone (mul 14) (mul 11) (mul 13) (mul 9) (mul 2) (mul 3) (λ x. x) (λ x. x) (mul_linear 14) (mul_linear 11) (mul_linear 13) (mul_linear 9)
    (λ x. simp cancel) (λ x. simp cancel) (λ x. simp cancel) (λ x. simp cancel) a b c d

-- and the other way round
pub mixed-unmixed : (a b c d : ℕ) → a < 256 → b < 256 → c < 256 → d < 256
    → mixed (unmixed a b c d) (unmixed b c d a) (unmixed c d a b) (unmixed d a b c) ≡ a
unfolding mixed unmixed
mixed-unmixed a b c d ha hb hc hd =
    undone (mul 2) (mul 3) (λ x. x) (λ x. x) (mul 14) (mul 11) (mul 13) (mul 9) (mul_linear 2) (mul_linear 3) (λ a b. refl) (λ a b. refl)
    (λ x. simp cancel) (λ x. simp cancel) (λ x. simp cancel) (λ x. simp cancel) a b c d
