-- The next round key, computed over words, is that over bytes.
use mathlib.Core.Path.{◌≡◌, refl, sym, ap, ◌∙◌}
use mathlib.Core.List.{List, [], ◌∷◌}
use Prim.Native.Nat.{ℕ, ◌/◌, ◌%◌, ◌<◌}
use lib.Bits.{xor_zero_r}
use lib.ListN.{length}
use Rattle.base.specs.Bytes.{byte_at, AllBytes}
use Rattle.sbox.specs.Field.{◌⊕◌}
use Rattle.sbox.specs.Tables.{sbox}
use Rattle.sbox.specs.Words.{packed}
use Rattle.sbox.proofs.Linear.{xor_byte}
use Rattle.sbox.proofs.Rule.{sbox-bytes}
use Rattle.key_expansion.specs.Keys.{xor_word, sub_word, rot_word}
use Rattle.key_expansion.specs.NextKey.{first_word, next_key}
use Rattle.words.specs.Words.{rows, block_of}
use Rattle.key_expansion.proofs.Schedule.{next_words}
use Rattle.words.proofs.Words.{rows-packed, rows_xor, block_words}

sum-word : (x y : ℕ) → rows (x ⊕ y) ≡ xor_word (rows x) (rows y)
unfolding xor_word
sum-word x y = rows_xor x y

rows-length : (x : ℕ) → length (rows x) ≡ 4
unfolding rows
rows-length x = refl

pub block_length : (s : List ℕ) → length (block_of s) ≡ 16
unfolding block_of rows
block_length s = refl

-- SubWord of RotWord, with Rcon
turned_rows : (d rc : ℕ) → rc < 256
    → rows (packed (byte_at sbox (d / 256 % 256) ⊕ rc) (byte_at sbox (d / 65536 % 256)) (byte_at sbox (d / 16777216 % 256)) (byte_at sbox (d % 256)))
    ≡ xor_word (sub_word sbox (rot_word (rows d))) (rc ∷ 0 ∷ 0 ∷ 0 ∷ [])
unfolding xor_word sub_word rot_word rows AllBytes
turned_rows d rc h =
    rows-packed (byte_at sbox (d / 256 % 256) ⊕ rc) (byte_at sbox (d / 65536 % 256)) (byte_at sbox (d / 16777216 % 256)) (byte_at sbox (d % 256))
    (xor_byte (byte_at sbox (d / 256 % 256)) rc (sbox-bytes (d / 256 % 256)) h) (sbox-bytes (d / 65536 % 256)) (sbox-bytes (d / 16777216 % 256)) (sbox-bytes (d % 256))
    ∙ simp xor_zero_r

pub first_rows : (a d rc : ℕ) → rc < 256
    → rows (a ⊕ packed (byte_at sbox (d / 256 % 256) ⊕ rc) (byte_at sbox (d / 65536 % 256)) (byte_at sbox (d / 16777216 % 256)) (byte_at sbox (d % 256)))
    ≡ first_word sbox rc (rows a) (rows d)
unfolding first_word
first_rows a d rc h =
    sum-word a (packed (byte_at sbox (d / 256 % 256) ⊕ rc) (byte_at sbox (d / 65536 % 256)) (byte_at sbox (d / 16777216 % 256)) (byte_at sbox (d % 256)))
    ∙ ap (xor_word (rows a)) (turned_rows d rc h)

-- the words behind the first
pub next_block : (k : List ℕ) (rc x : ℕ) → rows x ≡ first_word sbox rc (rows (byte_at k 0)) (rows (byte_at k 3))
    → (let y = byte_at k 1 ⊕ x in let z = byte_at k 2 ⊕ y in block_of (x ∷ y ∷ z ∷ (byte_at k 3 ⊕ z) ∷ []) ≡ next_key sbox rc (block_of k))
unfolding block_of
next_block k rc x ex =
    let a = byte_at k 0 in
    let b = byte_at k 1 in
    let c = byte_at k 2 in
    let d = byte_at k 3 in
    let y = b ⊕ x in
    let z = c ⊕ y in
    let ey = sum-word b x ∙ ap (xor_word (rows b)) ex in
    let ez = sum-word c y ∙ ap (xor_word (rows c)) ey in
    let eu = sum-word d z ∙ ap (xor_word (rows d)) ez in
    block_words x y z (d ⊕ z) _ _ _ _ ex ey ez eu
    ∙ sym (next_words (rows a) (rows b) (rows c) (rows d) (rows-length a) (rows-length b) (rows-length c) (rows-length d) sbox rc)
