-- (house) How the block is computed: on four words, by tables that a caller loads once and lends on. Any tables do; with those of
-- `sbox` it is the standard's block, as the promises of `encrypt_with` and `decrypt_with` say.
use Rattle.std.specs.Prelude.{List, [], ◌∷◌, ◌≡◌, ℕ, zero, suc, ◌/◌, ◌%◌}
use Rattle.base.specs.Bytes.{byte_at}
use Rattle.sbox.specs.Field.{◌⊕◌}
use Rattle.sbox.specs.Tables.{inv_sbox}
use Rattle.sbox.specs.Words.{packed, mixing_table, unmixing_table}
use Rattle.words.specs.Words.{block_of, words_of, column_of, picked_of}
use Rattle.aes.specs.Block.{round_key, add_round_key, cipher, inv_cipher, block_cost}
use Rattle.aes.specs.declared.Counted.{Counted}

-- four words and a round key, summed
unfoldable pub with_key : List ℕ → List ℕ → List ℕ
with_key x k =
    (byte_at x 0 ⊕ byte_at (words_of k) 0) ∷ (byte_at x 1 ⊕ byte_at (words_of k) 1) ∷ (byte_at x 2 ⊕ byte_at (words_of k) 2)
    ∷ (byte_at x 3 ⊕ byte_at (words_of k) 3) ∷ []

-- the columns that a table of words gives: each takes its rows from the columns that ShiftRows brings there
unfoldable pub mixed_by : List ℕ → List ℕ → List ℕ
mixed_by t x =
    column_of t (byte_at x 0) (byte_at x 1) (byte_at x 2) (byte_at x 3) ∷ column_of t (byte_at x 1) (byte_at x 2) (byte_at x 3) (byte_at x 0)
    ∷ column_of t (byte_at x 2) (byte_at x 3) (byte_at x 0) (byte_at x 1) ∷ column_of t (byte_at x 3) (byte_at x 0) (byte_at x 1) (byte_at x 2) ∷ []

-- the byte of row 1 of a table's word
unfoldable pub sub_by : List ℕ → ℕ → ℕ
sub_by t x = byte_at t (x % 256) / 256 % 256

-- the word of those bytes, for row 0 of a, row 1 of b, row 2 of c and row 3 of d
unfoldable pub sub_column : List ℕ → ℕ → ℕ → ℕ → ℕ → ℕ
sub_column t a b c d = packed (sub_by t a) (sub_by t (b / 256)) (sub_by t (c / 65536)) (sub_by t (d / 16777216))

-- the columns of the last round, which mixes none
unfoldable pub shifted_by : List ℕ → List ℕ → List ℕ
shifted_by t x =
    sub_column t (byte_at x 0) (byte_at x 1) (byte_at x 2) (byte_at x 3) ∷ sub_column t (byte_at x 1) (byte_at x 2) (byte_at x 3) (byte_at x 0)
    ∷ sub_column t (byte_at x 2) (byte_at x 3) (byte_at x 0) (byte_at x 1) ∷ sub_column t (byte_at x 3) (byte_at x 0) (byte_at x 1) (byte_at x 2) ∷ []

-- rounds 1 to n
unfoldable pub rounds_by : List ℕ → List (List ℕ) → ℕ → List ℕ → List ℕ
rounds_by t w zero x = x
rounds_by t w (suc n) x = with_key (mixed_by t (rounds_by t w n x)) (round_key w (suc n))

-- the whole of it
unfoldable pub cipher_by : List ℕ → List (List ℕ) → List ℕ → List ℕ
cipher_by t w s = block_of (with_key (shifted_by t (rounds_by t w 9 (with_key (words_of s) (round_key w 0)))) (round_key w 10))

-- what a round and the whole give, that it is the standard's, and that it is one block
pub record Turns (t s k r : List ℕ) : Type 0 where
  pub by : r ≡ with_key (mixed_by t s) k
  pub key : block_of r ≡ add_round_key (block_of (mixed_by t s)) k

pub record Enciphers (t : List ℕ) (w : List (List ℕ)) (s : List ℕ) (r : Counted 16) : Type 0 where
  pub by : r.bytes ≡ cipher_by t w s
  pub standard : t ≡ mixing_table → r.bytes ≡ cipher w s
  pub cost : r.cost ≡ block_cost

-- ---- and back, by a table of bytes and one of words
unfoldable pub unshifted_by : List ℕ → List ℕ → List ℕ
unshifted_by v x =
    picked_of v (byte_at x 0) (byte_at x 3) (byte_at x 2) (byte_at x 1) ∷ picked_of v (byte_at x 1) (byte_at x 0) (byte_at x 3) (byte_at x 2)
    ∷ picked_of v (byte_at x 2) (byte_at x 1) (byte_at x 0) (byte_at x 3) ∷ picked_of v (byte_at x 3) (byte_at x 2) (byte_at x 1) (byte_at x 0) ∷ []

unfoldable pub unmixed_by : List ℕ → List ℕ → List ℕ
unmixed_by u x =
    column_of u (byte_at x 0) (byte_at x 0) (byte_at x 0) (byte_at x 0) ∷ column_of u (byte_at x 1) (byte_at x 1) (byte_at x 1) (byte_at x 1)
    ∷ column_of u (byte_at x 2) (byte_at x 2) (byte_at x 2) (byte_at x 2) ∷ column_of u (byte_at x 3) (byte_at x 3) (byte_at x 3) (byte_at x 3) ∷ []

-- rounds n to 1
unfoldable pub back_by : List ℕ → List ℕ → List (List ℕ) → ℕ → List ℕ → List ℕ
back_by v u w zero x = x
back_by v u w (suc n) x = back_by v u w n (unmixed_by u (with_key (unshifted_by v x) (round_key w (suc n))))

unfoldable pub inv_cipher_by : List ℕ → List ℕ → List (List ℕ) → List ℕ → List ℕ
inv_cipher_by v u w s = block_of (with_key (unshifted_by v (back_by v u w 9 (with_key (words_of s) (round_key w 10)))) (round_key w 0))

pub record TurnsBack (v u s k r : List ℕ) : Type 0 where
  pub by : r ≡ unmixed_by u (with_key (unshifted_by v s) k)
  pub key : block_of (with_key (unshifted_by v s) k) ≡ add_round_key (block_of (unshifted_by v s)) k

pub record Deciphers (v u : List ℕ) (w : List (List ℕ)) (s : List ℕ) (r : Counted 16) : Type 0 where
  pub by : r.bytes ≡ inv_cipher_by v u w s
  pub standard : v ≡ inv_sbox → u ≡ unmixing_table → r.bytes ≡ inv_cipher w s
  pub cost : r.cost ≡ block_cost
