-- The bits of FileOption, SDMOptions and the rights, packed and unpacked.
use mathlib.Core.Path.{◌≡◌, refl, sym, ap, ◌∙◌}
use mathlib.Core.Bool.{Bool, true, false, not}
use mathlib.Core.Logic.{⊎_elim}
use Prim.Native.Nat.{ℕ, zero, suc, ◌+◌, ◌*◌, ◌/◌, ◌%◌, ◌^◌, ◌≤◌, ◌<◌}
use native.Mathlib.Omega.{arith}
use lib.Dec.{eqb, leb}
use borrow.Author.Tests.{leb-true, eqb-true, eq-eqb, ne_eqb}
use Rattle.base.specs.Decide.{pick, and, or}
use Rattle.base.proofs.Bytes.{le_or_lt, and_left, and_right}
use Rattle.fields.specs.Fields.{bit, one, mode_of}
use Rattle.rules.specs.Rules.{option_bits, sdm_options_bits, modes}
use Rattle.fields.specs.Normal.{plain_mode}
use Rattle.writing.proofs.Small.{or_true, mode_small}

-- ---- a flag and its bit
pub one_small : (b : Bool) → one b ≤ 1
one_small true = omega arith
one_small false = omega arith

pub one_is : (b : Bool) → eqb (one b) 1 ≡ b
one_is true = refl
one_is false = refl

-- bit k of x, where its digit is a flag
pub bit_is : (x k : ℕ) (b : Bool) → x / 2 ^ k % 2 ≡ one b → bit k x ≡ b
bit_is x k b e = ap (λ y. eqb y 1) e ∙ one_is b

-- ---- a test that is computed for every number below a bound
pub all_below : ℕ → (ℕ → Bool) → Bool
all_below zero f = true
all_below (suc n) f = and (f n) (all_below n f)

pub all_below_lem : (n : ℕ) (f : ℕ → Bool) → all_below n f ≡ true → (x : ℕ) → x < n → f x ≡ true
unfolding all_below
all_below_lem zero f e x h = absurd (omega arith)
all_below_lem (suc n) f e x h =
    ⊎_elim (λ (k : n ≤ x). let q : n ≡ x = omega arith in ap f (sym q) ∙ and_left (f n) (all_below n f) e)
    (λ (k : x < n). all_below_lem n f (and_right (f n) (all_below n f) e) x k)
    (le_or_lt n x)

implied : (a b : Bool) → a ≡ true → or (not a) b ≡ true → b ≡ true
implied true b e h = h
implied false b e h = cc

-- SDMOptions from its bits
options_test : ℕ → Bool
options_test x = or (not (sdm_options_bits x)) (eqb (128 * one (bit 7 x) + 64 * one (bit 6 x) + 32 * one (bit 5 x) + 16 * one (bit 4 x) + 1) x)

options_tested : all_below 256 options_test ≡ true
unfolding all_below options_test sdm_options_bits
options_tested = refl

pub options_back : (x : ℕ) → x < 256 → sdm_options_bits x ≡ true
    → 128 * one (bit 7 x) + 64 * one (bit 6 x) + 32 * one (bit 5 x) + 16 * one (bit 4 x) + 1 ≡ x
unfolding options_test
options_back x h e = eqb-true _ x (implied (sdm_options_bits x) _ e (all_below_lem 256 options_test options_tested x h))

-- FileOption from its bits, Plain as 00
option_test : ℕ → Bool
option_test x = or (not (option_bits x)) (eqb (mode_of x + 64 * one (bit 6 x)) (plain_mode x))

option_tested : all_below 256 option_test ≡ true
unfolding all_below option_test option_bits mode_of plain_mode
option_tested = refl

pub option_back : (x : ℕ) → x < 256 → option_bits x ≡ true → mode_of x + 64 * one (bit 6 x) ≡ plain_mode x
unfolding option_test
option_back x h e = eqb-true _ _ (implied (option_bits x) _ e (all_below_lem 256 option_test option_tested x h))

-- every FileOption has a mode
mode_test : ℕ → Bool
mode_test x = modes (pick (eqb x 2) 0 x)

mode_tested : all_below 4 mode_test ≡ true
unfolding all_below mode_test modes
mode_tested = refl

pub mode_is : (x : ℕ) → modes (mode_of x) ≡ true
unfolding mode_test mode_of
mode_is x = all_below_lem 4 mode_test mode_tested (x % 4) (omega arith)

-- ---- packed bits read back
pub mode_read : (m : ℕ) (b : Bool) → modes m ≡ true → mode_of (m + 64 * one b) ≡ m
unfolding mode_of modes
mode_read m b e =
    let s = one_small b in
    let l = mode_small m e in
    let q : (m + 64 * one b) % 4 ≡ m = omega arith in
    ap (λ y. pick (eqb y 2) 0 y) q
    ∙ ⊎_elim (λ h. rw (ne_eqb m 2 (λ f. omega (arith, leb-true m 1 h))) refl) (λ h. rw (ne_eqb m 2 (λ f. omega (arith, eqb-true m 3 h))) refl)
    (or_true (leb m 1) (eqb m 3) e)

pub sdm_read : (m : ℕ) (b : Bool) → m ≤ 3 → bit 6 (m + 64 * one b) ≡ b
sdm_read m b l = let s = one_small b in bit_is (m + 64 * one b) 6 b (omega arith)

pub option_good : (m : ℕ) (b : Bool) → m ≤ 3 → option_bits (m + 64 * one b) ≡ true
unfolding option_bits
option_good m b l =
    let s = one_small b in
    let p : (m + 64 * one b) / 128 ≡ 0 = omega arith in
    let q : (m + 64 * one b) / 4 % 16 ≡ 0 = omega arith in
    rw (eq-eqb ((m + 64 * one b) / 128) 0 p, eq-eqb ((m + 64 * one b) / 4 % 16) 0 q) refl

module _ (a b c d : Bool) where
  abbrev pub packed : ℕ
  packed = 128 * one a + 64 * one b + 32 * one c + 16 * one d + 1

  pub packed_7 : bit 7 packed ≡ a
  packed_7 = let p = one_small b in let q = one_small c in let r = one_small d in let s = one_small a in bit_is packed 7 a (omega arith)

  pub packed_6 : bit 6 packed ≡ b
  packed_6 = let p = one_small b in let q = one_small c in let r = one_small d in let s = one_small a in bit_is packed 6 b (omega arith)

  pub packed_5 : bit 5 packed ≡ c
  packed_5 = let p = one_small b in let q = one_small c in let r = one_small d in let s = one_small a in bit_is packed 5 c (omega arith)

  pub packed_4 : bit 4 packed ≡ d
  packed_4 = let p = one_small b in let q = one_small c in let r = one_small d in let s = one_small a in bit_is packed 4 d (omega arith)

  pub packed-good : sdm_options_bits packed ≡ true
  unfolding sdm_options_bits
  packed-good = let q : packed % 16 ≡ 1 = omega arith in ap (λ y. eqb y 1) q
