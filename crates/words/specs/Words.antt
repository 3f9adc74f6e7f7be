-- (house) How a block is computed: as four words, one for each column (FIPS 197, 3.5), the byte of row 0 a word's lowest.
-- crates/aes/proofs/Words.antt links them to the standard's block.
use Rattle.std.specs.Prelude.{List, [], ◌∷◌, ◌++◌, ℕ, ◌+◌, ◌*◌, ◌/◌, ◌%◌}
use Rattle.base.specs.Bytes.{byte_at}
use Rattle.sbox.specs.Field.{◌⊕◌}
use Rattle.sbox.specs.Words.{packed}

-- the four bytes of a word
unfoldable pub rows : ℕ → List ℕ
rows x = x % 256 ∷ x / 256 % 256 ∷ x / 65536 % 256 ∷ x / 16777216 % 256 ∷ []

-- the sixteen bytes of four words
unfoldable pub block_of : List ℕ → List ℕ
block_of s = rows (byte_at s 0) ++ rows (byte_at s 1) ++ rows (byte_at s 2) ++ rows (byte_at s 3)

-- the four words of sixteen bytes
unfoldable pub words_of : List ℕ → List ℕ
words_of s =
    packed (byte_at s 0) (byte_at s 1) (byte_at s 2) (byte_at s 3) ∷ packed (byte_at s 4) (byte_at s 5) (byte_at s 6) (byte_at s 7)
    ∷ packed (byte_at s 8) (byte_at s 9) (byte_at s 10) (byte_at s 11) ∷ packed (byte_at s 12) (byte_at s 13) (byte_at s 14) (byte_at s 15) ∷ []

-- each byte of a word one row further down, the last one to row 0
unfoldable pub turn : ℕ → ℕ
turn x = x % 16777216 * 256 + x / 16777216

-- the sum of a table's words for row 0 of a, row 1 of b, row 2 of c and row 3 of d, each turned down to its row
unfoldable pub column_of : List ℕ → ℕ → ℕ → ℕ → ℕ → ℕ
column_of t a b c d =
    byte_at t (a % 256) ⊕ turn (byte_at t (b / 256 % 256)) ⊕ turn (turn (byte_at t (c / 65536 % 256)))
    ⊕ turn (turn (turn (byte_at t (d / 16777216 % 256))))

-- the word of a table's bytes for row 0 of a, row 1 of b, row 2 of c and row 3 of d
unfoldable pub picked_of : List ℕ → ℕ → ℕ → ℕ → ℕ → ℕ
picked_of t a b c d =
    packed (byte_at t (a % 256)) (byte_at t (b / 256 % 256)) (byte_at t (c / 65536 % 256)) (byte_at t (d / 16777216 % 256))
