-- Laws of the CMAC's blocks.
use mathlib.Core.Path.{◌≡◌, refl, sym, ap, ◌∙◌}
use mathlib.Core.List.{List, ◌∷◌, ◌++◌}
use Prim.Native.Nat.{ℕ, zero, suc, ◌+◌, ◌-◌, ◌/◌, ◌≤◌, ◌<◌}
use native.Mathlib.Omega.{arith}
use borrow.Author.Tests.{ne_eqb}
use lib.ListN.{length, take, drop, set, replicate, length-drop}
use lib.Seq.{set_at}
use Rattle.base.specs.Bytes.{laid}
use Rattle.base.proofs.Bytes.{laid-front, drop-replicate}
use Rattle.aes.specs.Block.{cipher, xor_block}
use Rattle.cmac.specs.Cmac.{blocks_of, last_block, chained, cmac}

-- fewer than 16 bytes laid over zeros, and 80 behind them
pub padded-laid : (s : List ℕ) → length s < 16 → set (laid s 0 (replicate 16 0)) (length s) 128 ≡ s ++ 128 ∷ replicate (15 - length s) 0
padded-laid s h =
    let e : 16 - length s ≡ suc (15 - length s) = omega arith in
    ap (λ l. set l (length s) 128)
    (laid-front s (replicate 16 0) (omega arith)
    ∙ ap (λ r. s ++ r) (drop-replicate (length s) 16 0 ∙ ap (λ n. replicate n 0) e))
    ∙ set_at s 0 (replicate (15 - length s) 0) 128 (length s) refl

-- ---- what is left of a message
-- the CMAC of what is left of a message, after the chained blocks that came to v
pub from : List (List ℕ) → List ℕ → List ℕ → List ℕ
from w v s = chained w (blocks_of (length s) - 1) v s

blocks_more : (n : ℕ) → 16 < n → blocks_of n - 1 ≡ suc (blocks_of (n - 16) - 1)
unfolding blocks_of
blocks_more n h = rw (ne_eqb n 0 (λ e. omega arith), ne_eqb (n - 16) 0 (λ e. omega arith)) (omega arith)

blocks_last : (n : ℕ) → n ≤ 16 → blocks_of n - 1 ≡ 0
unfolding blocks_of
blocks_last zero h = refl
blocks_last (suc n) h = rw (ne_eqb (suc n) 0 (λ e. omega arith)) (omega arith)

-- ---- how many blocks a message has: one more than what is left behind the first 16 bytes; the last is one
pub blocks-turn : (n : ℕ) → 16 < n → blocks_of n ≡ suc (blocks_of (n - 16))
unfolding blocks_of
blocks-turn n h = rw (ne_eqb n 0 (λ e. omega arith), ne_eqb (n - 16) 0 (λ e. omega arith)) (omega arith)

pub blocks_one : (n : ℕ) → n ≤ 16 → blocks_of n ≡ 1
unfolding blocks_of
blocks_one zero h = refl
blocks_one (suc n) h = rw (ne_eqb (suc n) 0 (λ e. omega arith)) (omega arith)

-- at most one for each 16 bytes begun, and one for none
pub blocks_few : (n : ℕ) → blocks_of n ≤ n / 16 + 1
unfolding blocks_of
blocks_few zero = omega arith
blocks_few (suc n) = rw (ne_eqb (suc n) 0 (λ e. omega arith)) (omega arith)

pub from_more : (w : List (List ℕ)) (v s : List ℕ) → 16 < length s → from w v s ≡ from w (cipher w (xor_block (take 16 s) v)) (drop 16 s)
unfolding from chained
from_more w v s h =
    ap (λ n. chained w n v s) (blocks_more (length s) h)
    ∙ ap (λ n. chained w (blocks_of n - 1) (cipher w (xor_block (take 16 s) v)) (drop 16 s)) (sym (length-drop 16 s))

pub from_last : (w : List (List ℕ)) (v s : List ℕ) → length s ≤ 16 → from w v s ≡ cipher w (xor_block (last_block w s) v)
unfolding from chained
from_last w v s h = ap (λ n. chained w n v s) (blocks_last (length s) h)

pub from_start : (w : List (List ℕ)) (s : List ℕ) → cmac w s ≡ from w (replicate 16 0) s
unfolding from cmac
from_start w s = refl
