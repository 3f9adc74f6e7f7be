-- The tables' rule, over the whole of each: the S-box is the inverse in the field and then the affine step, the inverse
-- table undoes it and is undone by it, and the inverse really is one.
use mathlib.Core.Path.{◌≡◌, refl, sym, ap, ◌∙◌}
use mathlib.Core.Bool.{Bool}
use mathlib.Core.List.{List}
use Prim.Native.Nat.{ℕ, zero, suc, ◌+◌, ◌%◌, ◌<◌}
use mathlib.Core.Logic.{⊎_elim}
use lib.Dec.{T, eqb, eqb→eq, ltb, ltb→lt, lit<}
use lib.ListN.{length, get_or, get_or-eq_default}
use Rattle.base.specs.Decide.{and, or}
use borrow.Author.Tests.{ne_eqb}
use native.Mathlib.Omega.{arith}
use Rattle.base.specs.Bytes.{byte_at, AllBytes}
use Rattle.base.proofs.Bytes.{le_or_lt}
use Rattle.sbox.specs.Field.{xtime, mul, squares, inverse, bit_of, affine_bit, from_bits, affine, substituted}
use Rattle.sbox.specs.Tables.{sbox, inv_sbox}
use Rattle.sbox.proofs.Power.{inverse-only}
use Rattle.sbox.proofs.Table.{every, entries, and_left, and_right}

-- the affine step undone: bit i is the sum of bits i + 2, i + 5, i + 7 (modulo 8) and bit i of 05
unaffine_bit : ℕ → ℕ → ℕ
unaffine_bit b i = (bit_of ((i + 2) % 8) b + bit_of ((i + 5) % 8) b + bit_of ((i + 7) % 8) b + bit_of i 5) % 2

unaffine : ℕ → ℕ
unaffine b = from_bits 8 (unaffine_bit b)

-- t is a byte, k's inverse where k has one, and gives x by the affine step
follows : ℕ → ℕ → ℕ → Bool
follows k x t = and (ltb t 256) (and (eqb x (affine t)) (or (eqb k 0) (eqb (mul k t) 1)))

followed : ℕ → ℕ → Bool
followed k x = follows k x (unaffine x)

entry : (k : ℕ) → k < 256 → T (follows k (byte_at sbox k) (unaffine (byte_at sbox k)))
unfolding sbox followed follows xtime affine_bit from_bits affine unaffine_bit unaffine
entry k h = entries followed sbox tt k h

-- of a byte other than 0, what the test says
told : (k x t : ℕ) → 0 < k → k < 256 → T (follows k x t) → (x ≡ substituted k) × (mul k (inverse k) ≡ 1)
unfolding follows substituted
told k x t h l f =
    (eqb→eq x (affine t) (and_left (eqb x (affine t)) _ (and_right (ltb t 256) _ f)) ∙ ap affine (sym same), ap (mul k) same ∙ inverted)
  where
    inverted : mul k t ≡ 1
    inverted = eqb→eq (mul k t) 1 (rw (ne_eqb k 0 (λ e. omega arith)) at (and_right (eqb x (affine t)) _ (and_right (ltb t 256) _ f)))

    same : inverse k ≡ t
    same = inverse-only k t l (ltb→lt t 256 (and_left (ltb t 256) _ f)) inverted

nonzero : (k : ℕ) → 0 < k → k < 256 → (byte_at sbox k ≡ substituted k) × (mul k (inverse k) ≡ 1)
nonzero k h l = told k (byte_at sbox k) (unaffine (byte_at sbox k)) h l (entry k l)

pub sbox_rule : (k : ℕ) → k < 256 → byte_at sbox k ≡ substituted k
unfolding sbox xtime squares inverse affine_bit from_bits affine substituted
sbox_rule zero h = refl
sbox_rule (suc k) h = (nonzero (suc k) (omega arith) h).0

-- a byte other than 0, times its inverse, is 1
pub inverse_is : (k : ℕ) → 0 < k → k < 256 → mul k (inverse k) ≡ 1
inverse_is k h l = (nonzero k h l).1

undone : ℕ → ℕ → Bool
undone k x = eqb (byte_at inv_sbox x) k

-- the inverse table undoes the S-box
pub inv_of_sbox : (k : ℕ) → k < 256 → byte_at inv_sbox (byte_at sbox k) ≡ k
unfolding sbox inv_sbox undone
inv_of_sbox k h = eqb→eq (byte_at inv_sbox (byte_at sbox k)) k (entries undone sbox tt k h)

redone : ℕ → ℕ → Bool
redone k x = eqb (byte_at sbox x) k

pub sbox_of_inv : (k : ℕ) → k < 256 → byte_at sbox (byte_at inv_sbox k) ≡ k
unfolding sbox inv_sbox redone
sbox_of_inv k h = eqb→eq (byte_at sbox (byte_at inv_sbox k)) k (entries redone inv_sbox tt k h)

is_byte : ℕ → ℕ → Bool
is_byte k x = ltb x 256

bytes_of : (t : List ℕ) → T (every is_byte 0 t) → AllBytes t
unfolding AllBytes is_byte
bytes_of t h k =
    ⊎_elim (λ l. rw (get_or-eq_default t 0 l) (lit< tt)) (λ l. ltb→lt (get_or t k 0) 256 (entries is_byte t h k l)) (le_or_lt (length t) k)

pub sbox-bytes : AllBytes sbox
unfolding sbox is_byte
sbox-bytes = bytes_of sbox tt

pub inv_sbox-bytes : AllBytes inv_sbox
unfolding inv_sbox is_byte
inv_sbox-bytes = bytes_of inv_sbox tt
