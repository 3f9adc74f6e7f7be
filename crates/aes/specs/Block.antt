-- FIPS 197, sections 5.1 and 5.3: the cipher and the inverse cipher on a block of 16 bytes. The byte in row r and column c of
-- the standard's state is byte r + 4 c of the block (3.4). Round keys come as a list of eleven blocks (section 5.2: Keys).
use Rattle.std.specs.Prelude.{List, [], ℕ, zero, suc, ◌+◌, ◌-◌, ◌*◌, ◌/◌, ◌%◌, ◌≡◌, length, get_or}
use Rattle.base.specs.Bytes.{byte_at, AllBytes, tab}
use Rattle.sbox.specs.Field.{◌⊕◌}
use Rattle.sbox.specs.Columns.{mixed, unmixed}
use Rattle.sbox.specs.Tables.{sbox, inv_sbox}
use Rattle.aes.specs.declared.Counted.{Counted}

-- 16 bytes
pub record IsBlock (s : List ℕ) : Type 0 where
  pub len : length s ≡ 16
  pub bytes : AllBytes s

-- round key i
abbrev pub round_key : List (List ℕ) → ℕ → List ℕ
round_key w i = get_or w i []

-- two blocks summed byte by byte
unfoldable pub xor_block : List ℕ → List ℕ → List ℕ
xor_block a b = tab 16 (λ i. byte_at a i ⊕ byte_at b i)

-- 5.1.1 and 5.3.2: each byte through a table
unfoldable pub substitute : List ℕ → List ℕ → List ℕ
substitute box s = tab 16 (λ i. byte_at box (byte_at s i))

-- 5.1.2: row r is turned to the left by r columns
unfoldable pub shift_rows : List ℕ → List ℕ
shift_rows s = tab 16 (λ i. byte_at s (i % 4 + 4 * ((i / 4 + i % 4) % 4)))

-- 5.3.1: and to the right
unfoldable pub inv_shift_rows : List ℕ → List ℕ
inv_shift_rows s = tab 16 (λ i. byte_at s (i % 4 + 4 * ((i / 4 + 4 - i % 4) % 4)))

-- byte i of the state, in its column, k rows further down
abbrev pub below : List ℕ → ℕ → ℕ → ℕ
below s i k = byte_at s (4 * (i / 4) + (i + k) % 4)

-- 5.1.3
unfoldable pub mix_columns : List ℕ → List ℕ
mix_columns s = tab 16 (λ i. mixed (below s i 0) (below s i 1) (below s i 2) (below s i 3))

-- 5.3.3
unfoldable pub inv_mix_columns : List ℕ → List ℕ
inv_mix_columns s = tab 16 (λ i. unmixed (below s i 0) (below s i 1) (below s i 2) (below s i 3))

-- 5.1.4: AddRoundKey
abbrev pub add_round_key : List ℕ → List ℕ → List ℕ
add_round_key s k = xor_block s k

-- 5.1: whole rounds 1 to n
unfoldable pub rounds : List (List ℕ) → ℕ → List ℕ → List ℕ
rounds w zero s = s
rounds w (suc n) s = add_round_key (mix_columns (shift_rows (substitute sbox (rounds w n s)))) (round_key w (suc n))

-- 5.1: the first key, nine whole rounds, and the last one, which mixes no columns
unfoldable pub cipher : List (List ℕ) → List ℕ → List ℕ
cipher w s = add_round_key (shift_rows (substitute sbox (rounds w 9 (add_round_key s (round_key w 0))))) (round_key w 10)

-- 5.3: rounds n to 1 back
unfoldable pub rounds_back : List (List ℕ) → ℕ → List ℕ → List ℕ
rounds_back w zero s = s
rounds_back w (suc n) s = rounds_back w n (inv_mix_columns (add_round_key (substitute inv_sbox (inv_shift_rows s)) (round_key w (suc n))))

-- 5.3: the last key, nine rounds back, and the first one, which unmixes no columns
unfoldable pub inv_cipher : List (List ℕ) → List ℕ → List ℕ
inv_cipher w s = add_round_key (substitute inv_sbox (inv_shift_rows (rounds_back w 9 (add_round_key s (round_key w 10))))) (round_key w 0)

-- ---- 02, request 10: the cipher work is counted in blocks, key schedules not counted. A block, either way, is one
abbrev pub block_cost : ℕ
block_cost = 1

-- bytes, and how many blocks were computed for them
abbrev pub counted : {N : ℕ} → List ℕ → ℕ → Counted N
counted b n = record { bytes = b; cost = n }
