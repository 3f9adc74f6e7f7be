-- Blocks as words: each step over words is the standard's.
use mathlib.Core.Path.{◌≡◌, refl, ap, ◌∙◌}
use mathlib.Core.List.{List, [], ◌∷◌}
use Prim.Native.Nat.{ℕ, ◌/◌}
use Rattle.base.specs.Bytes.{byte_at, AllBytes, tab}
use Rattle.base.proofs.Pieces.{tab_of}
use Rattle.sbox.specs.Field.{◌⊕◌}
use Rattle.sbox.specs.Tables.{sbox, inv_sbox}
use Rattle.sbox.specs.Words.{mixing_table, unmixing_table}
use Rattle.sbox.proofs.Rule.{sbox-bytes, inv_sbox-bytes}
use Rattle.words.specs.Words.{rows, block_of, column_of, picked_of}
use Rattle.words.proofs.Words.{rows_xor, block_words, picked_rows, mixing_sub, mixing_rows, unmixing_rows}
use Rattle.aes.specs.Block.{IsBlock, xor_block, substitute, shift_rows, inv_shift_rows, mix_columns, inv_mix_columns}
use Rattle.aes.specs.ByTables.{mixed_by, sub_by, sub_column, shifted_by, unshifted_by, unmixed_by}

-- a block is the table of its bytes
pub block_table : (s : List ℕ) → IsBlock s → tab 16 (byte_at s) ≡ s
block_table s h = tab_of 16 s h.len

pub sum_block : (s w : List ℕ)
    → block_of ((byte_at s 0 ⊕ byte_at w 0) ∷ (byte_at s 1 ⊕ byte_at w 1) ∷ (byte_at s 2 ⊕ byte_at w 2) ∷ (byte_at s 3 ⊕ byte_at w 3) ∷ [])
    ≡ xor_block (block_of s) (block_of w)
unfolding xor_block block_of rows
sum_block s w =
    block_words (byte_at s 0 ⊕ byte_at w 0) (byte_at s 1 ⊕ byte_at w 1) (byte_at s 2 ⊕ byte_at w 2) (byte_at s 3 ⊕ byte_at w 3) _ _ _ _
    (rows_xor (byte_at s 0) (byte_at w 0)) (rows_xor (byte_at s 1) (byte_at w 1)) (rows_xor (byte_at s 2) (byte_at w 2)) (rows_xor (byte_at s 3) (byte_at w 3))

-- ---- words of a table's bytes
module _ (t : List ℕ) (h : AllBytes t) where
  -- SubBytes and ShiftRows
  pub shifted_block : (a b c d : ℕ)
      → block_of (picked_of t a b c d ∷ picked_of t b c d a ∷ picked_of t c d a b ∷ picked_of t d a b c ∷ [])
      ≡ shift_rows (substitute t (block_of (a ∷ b ∷ c ∷ d ∷ [])))
  unfolding shift_rows substitute block_of rows
  shifted_block a b c d =
      block_words (picked_of t a b c d) (picked_of t b c d a) (picked_of t c d a b) (picked_of t d a b c) _ _ _ _
      (picked_rows t h a b c d) (picked_rows t h b c d a) (picked_rows t h c d a b) (picked_rows t h d a b c)

  -- InvShiftRows and InvSubBytes
  pub unshifted_block : (a b c d : ℕ)
      → block_of (picked_of t a d c b ∷ picked_of t b a d c ∷ picked_of t c b a d ∷ picked_of t d c b a ∷ [])
      ≡ substitute t (inv_shift_rows (block_of (a ∷ b ∷ c ∷ d ∷ [])))
  unfolding inv_shift_rows substitute block_of rows
  unshifted_block a b c d =
      block_words (picked_of t a d c b) (picked_of t b a d c) (picked_of t c b a d) (picked_of t d c b a) _ _ _ _
      (picked_rows t h a d c b) (picked_rows t h b a d c) (picked_rows t h c b a d) (picked_rows t h d c b a)

-- ---- columns of a table's words
-- SubBytes, ShiftRows and MixColumns
pub mixing_block : (a b c d : ℕ) → (let t = mixing_table in
    block_of (column_of t a b c d ∷ column_of t b c d a ∷ column_of t c d a b ∷ column_of t d a b c ∷ [])
    ≡ mix_columns (shift_rows (substitute sbox (block_of (a ∷ b ∷ c ∷ d ∷ [])))))
unfolding mix_columns shift_rows substitute block_of rows
mixing_block a b c d =
    block_words (column_of mixing_table a b c d) (column_of mixing_table b c d a) (column_of mixing_table c d a b) (column_of mixing_table d a b c) _ _ _ _
    (mixing_rows a b c d) (mixing_rows b c d a) (mixing_rows c d a b) (mixing_rows d a b c)

-- InvMixColumns
pub unmixing_block : (a b c d : ℕ) → (let t = unmixing_table in
    block_of (column_of t a a a a ∷ column_of t b b b b ∷ column_of t c c c c ∷ column_of t d d d d ∷ [])
    ≡ inv_mix_columns (block_of (a ∷ b ∷ c ∷ d ∷ [])))
unfolding inv_mix_columns block_of rows
unmixing_block a b c d =
    block_words (column_of unmixing_table a a a a) (column_of unmixing_table b b b b) (column_of unmixing_table c c c c) (column_of unmixing_table d d d d) _ _ _ _
    (unmixing_rows a a a a) (unmixing_rows b b b b) (unmixing_rows c c c c) (unmixing_rows d d d d)

-- ---- four words by a table, where it is the standard's
pub mixed_table : (t x : List ℕ) → t ≡ mixing_table → block_of (mixed_by t x) ≡ mix_columns (shift_rows (substitute sbox (block_of x)))
unfolding mixed_by block_of
mixed_table t x e = ap (λ u. block_of (mixed_by u x)) e ∙ mixing_block (byte_at x 0) (byte_at x 1) (byte_at x 2) (byte_at x 3)

sub_picked : (a b c d : ℕ) → sub_column mixing_table a b c d ≡ picked_of sbox a b c d
unfolding sub_column sub_by picked_of
sub_picked a b c d = rw (mixing_sub a, mixing_sub (b / 256), mixing_sub (c / 65536), mixing_sub (d / 16777216)) refl

shifted_words : (x : List ℕ) → (let t = sbox in
    shifted_by mixing_table x
    ≡ picked_of t (byte_at x 0) (byte_at x 1) (byte_at x 2) (byte_at x 3) ∷ picked_of t (byte_at x 1) (byte_at x 2) (byte_at x 3) (byte_at x 0)
    ∷ picked_of t (byte_at x 2) (byte_at x 3) (byte_at x 0) (byte_at x 1) ∷ picked_of t (byte_at x 3) (byte_at x 0) (byte_at x 1) (byte_at x 2) ∷ [])
unfolding shifted_by
shifted_words x =
    rw (
      sub_picked (byte_at x 0) (byte_at x 1) (byte_at x 2) (byte_at x 3),
      sub_picked (byte_at x 1) (byte_at x 2) (byte_at x 3) (byte_at x 0),
      sub_picked (byte_at x 2) (byte_at x 3) (byte_at x 0) (byte_at x 1),
      sub_picked (byte_at x 3) (byte_at x 0) (byte_at x 1) (byte_at x 2),
    ) refl

pub shifted_table : (t x : List ℕ) → t ≡ mixing_table → block_of (shifted_by t x) ≡ shift_rows (substitute sbox (block_of x))
unfolding block_of
shifted_table t x e =
    ap (λ u. block_of (shifted_by u x)) e ∙ ap block_of (shifted_words x) ∙ shifted_block sbox sbox-bytes (byte_at x 0) (byte_at x 1) (byte_at x 2) (byte_at x 3)

pub unshifted_table : (v x : List ℕ) → v ≡ inv_sbox → block_of (unshifted_by v x) ≡ substitute inv_sbox (inv_shift_rows (block_of x))
unfolding unshifted_by block_of
unshifted_table v x e = ap (λ u. block_of (unshifted_by u x)) e ∙ unshifted_block inv_sbox inv_sbox-bytes (byte_at x 0) (byte_at x 1) (byte_at x 2) (byte_at x 3)

pub unmixed_table : (u x : List ℕ) → u ≡ unmixing_table → block_of (unmixed_by u x) ≡ inv_mix_columns (block_of x)
unfolding unmixed_by block_of
unmixed_table u x e = ap (λ v. block_of (unmixed_by v x)) e ∙ unmixing_block (byte_at x 0) (byte_at x 1) (byte_at x 2) (byte_at x 3)
