-- Each step of a round is undone by its opposite on blocks of bytes, and blocks stay blocks.
use mathlib.Core.Path.{◌≡◌, refl, sym, ap, ap₂, ◌∙◌}
use mathlib.Core.List.{List, []}
use Prim.Native.Nat.{ℕ, zero, suc, ◌+◌, ◌-◌, ◌*◌, ◌/◌, ◌%◌, ◌<◌}
use native.Mathlib.Omega.{arith}
use lib.ListN.{length}
use Rattle.base.specs.Bytes.{byte_at, AllBytes, tab}
use Rattle.base.proofs.Bytes.{tab-length, tab-bytes, tab_ext}
use Rattle.sbox.specs.Field.{◌⊕◌}
use Rattle.sbox.specs.Columns.{mixed, unmixed}
use Rattle.sbox.specs.Tables.{sbox, inv_sbox}
use Rattle.sbox.proofs.Linear.{xor_twice, xor_byte}
use Rattle.sbox.proofs.Rule.{inv_of_sbox, sbox_of_inv, sbox-bytes, inv_sbox-bytes}
use Rattle.sbox.proofs.Columns.{mixed_byte, unmixed_byte, unmixed-mixed, mixed-unmixed}
use Rattle.aes.proofs.Words.{block_table}
use Rattle.aes.specs.Block.{IsBlock, xor_block, substitute, shift_rows, inv_shift_rows, below, mix_columns, inv_mix_columns}

-- ---- blocks stay blocks
pub table_block : (f : ℕ → ℕ) → ((i : ℕ) → f i < 256) → IsBlock (tab 16 f)
table_block f h = record { len = tab-length 16 f; bytes = tab-bytes 16 f h }

pub xor_block_lem : (a b : List ℕ) → IsBlock a → IsBlock b → IsBlock (xor_block a b)
unfolding xor_block AllBytes
xor_block_lem a b ha hb = table_block (λ i. byte_at a i ⊕ byte_at b i) (λ i. xor_byte (byte_at a i) (byte_at b i) (ha.bytes i) (hb.bytes i))

pub substitute_block : (box s : List ℕ) → AllBytes box → IsBlock (substitute box s)
unfolding substitute AllBytes
substitute_block box s h = table_block (λ i. byte_at box (byte_at s i)) (λ i. h (byte_at s i))

pub shift_block : (s : List ℕ) → IsBlock s → IsBlock (shift_rows s)
unfolding shift_rows AllBytes
shift_block s h = table_block (λ i. byte_at s (i % 4 + 4 * ((i / 4 + i % 4) % 4))) (λ i. h.bytes (i % 4 + 4 * ((i / 4 + i % 4) % 4)))

pub shift_back_block : (s : List ℕ) → IsBlock s → IsBlock (inv_shift_rows s)
unfolding inv_shift_rows AllBytes
shift_back_block s h =
    table_block (λ i. byte_at s (i % 4 + 4 * ((i / 4 + 4 - i % 4) % 4))) (λ i. h.bytes (i % 4 + 4 * ((i / 4 + 4 - i % 4) % 4)))

below_byte : (s : List ℕ) → IsBlock s → (i k : ℕ) → below s i k < 256
unfolding AllBytes
below_byte s h i k = h.bytes (4 * (i / 4) + (i + k) % 4)

pub mix_block : (s : List ℕ) → IsBlock s → IsBlock (mix_columns s)
unfolding mix_columns
mix_block s h =
    table_block (λ i. mixed (below s i 0) (below s i 1) (below s i 2) (below s i 3))
    (λ i. mixed_byte (below s i 0) (below s i 1) (below s i 2) (below s i 3) (below_byte s h i 0) (below_byte s h i 1) (below_byte s h i 2) (below_byte s h i 3))

pub unmix_block : (s : List ℕ) → IsBlock s → IsBlock (inv_mix_columns s)
unfolding inv_mix_columns
unmix_block s h =
    table_block (λ i. unmixed (below s i 0) (below s i 1) (below s i 2) (below s i 3))
    (λ i. unmixed_byte (below s i 0) (below s i 1) (below s i 2) (below s i 3) (below_byte s h i 0) (below_byte s h i 1) (below_byte s h i 2) (below_byte s h i 3))

-- ---- each step and its opposite
pub xor_undone : (s k : List ℕ) → IsBlock s → xor_block (xor_block s k) k ≡ s
unfolding xor_block
xor_undone s k h = tab_ext 16 (λ i. (byte_at s i ⊕ byte_at k i) ⊕ byte_at k i) (byte_at s) (λ i. xor_twice (byte_at s i) (byte_at k i)) ∙ block_table s h

pub substitute_undone : (s : List ℕ) → IsBlock s → substitute inv_sbox (substitute sbox s) ≡ s
unfolding substitute AllBytes
substitute_undone s h =
    tab_ext 16 (λ i. byte_at inv_sbox (byte_at sbox (byte_at s i))) (byte_at s) (λ i. inv_of_sbox (byte_at s i) (h.bytes i)) ∙ block_table s h

pub substitute_redone : (s : List ℕ) → IsBlock s → substitute sbox (substitute inv_sbox s) ≡ s
unfolding substitute AllBytes
substitute_redone s h =
    tab_ext 16 (λ i. byte_at sbox (byte_at inv_sbox (byte_at s i))) (byte_at s) (λ i. sbox_of_inv (byte_at s i) (h.bytes i)) ∙ block_table s h

pub shift_undone : (s : List ℕ) → IsBlock s → inv_shift_rows (shift_rows s) ≡ s
unfolding shift_rows inv_shift_rows
shift_undone s h = block_table s h

pub shift_redone : (s : List ℕ) → IsBlock s → shift_rows (inv_shift_rows s) ≡ s
unfolding shift_rows inv_shift_rows
shift_redone s h = block_table s h

pub mix_undone : (s : List ℕ) → IsBlock s → inv_mix_columns (mix_columns s) ≡ s
unfolding mix_columns inv_mix_columns
mix_undone s h =
    tab_ext 16
    (λ i. unmixed (mixed (below s i 0) (below s i 1) (below s i 2) (below s i 3)) (mixed (below s i 1) (below s i 2) (below s i 3) (below s i 0))
    (mixed (below s i 2) (below s i 3) (below s i 0) (below s i 1)) (mixed (below s i 3) (below s i 0) (below s i 1) (below s i 2)))
    (λ i. below s i 0)
    (λ i. unmixed-mixed (below s i 0) (below s i 1) (below s i 2) (below s i 3) (below_byte s h i 0) (below_byte s h i 1) (below_byte s h i 2) (below_byte s h i 3))
    ∙ block_table s h

pub mix_redone : (s : List ℕ) → IsBlock s → mix_columns (inv_mix_columns s) ≡ s
unfolding mix_columns inv_mix_columns
mix_redone s h =
    tab_ext 16
    (λ i. mixed (unmixed (below s i 0) (below s i 1) (below s i 2) (below s i 3)) (unmixed (below s i 1) (below s i 2) (below s i 3) (below s i 0))
    (unmixed (below s i 2) (below s i 3) (below s i 0) (below s i 1)) (unmixed (below s i 3) (below s i 0) (below s i 1) (below s i 2)))
    (λ i. below s i 0)
    (λ i. mixed-unmixed (below s i 0) (below s i 1) (below s i 2) (below s i 3) (below_byte s h i 0) (below_byte s h i 1) (below_byte s h i 2) (below_byte s h i 3))
    ∙ block_table s h
