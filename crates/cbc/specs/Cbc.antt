-- SP 800-38A, section 6.2: cipher block chaining over whole blocks of 16 bytes, from an initial vector.
use Rattle.std.specs.Prelude.{List, [], ◌++◌, Bool, ◌≡◌, ℕ, zero, suc, ◌+◌, ◌/◌, ◌%◌, eqb, leb, length, take, drop, replicate, Result, Ok, Err}
use Rattle.base.specs.Decide.{pick}
use Rattle.aes.specs.Block.{cipher, inv_cipher, xor_block}
use Rattle.cbc.specs.declared.Ragged.{Ragged}

-- the block of s that starts at an index; zeros where s ends before it does
unfoldable pub block_at : List ℕ → ℕ → List ℕ
block_at s at = pick (leb (at + 16) (length s)) (take 16 (drop at s)) (replicate 16 0)

-- n blocks of s in turn, from the vector v: a block becomes f of the vector and itself, and the next vector is g of them
unfoldable pub across : (List ℕ → List ℕ → List ℕ) → (List ℕ → List ℕ → List ℕ) → ℕ → List ℕ → List ℕ → List ℕ
across f g zero v s = []
across f g (suc n) v s = f v (take 16 s) ++ across f g n (g v (take 16 s)) (drop 16 s)

-- a block encrypted: the cipher of its sum with the vector
unfoldable pub sealed : List (List ℕ) → List ℕ → List ℕ → List ℕ
sealed w v p = cipher w (xor_block p v)

-- a block decrypted: the inverse cipher of it, summed with the vector
unfoldable pub opened : List (List ℕ) → List ℕ → List ℕ → List ℕ
opened w v c = xor_block (inv_cipher w c) v

-- encryption: the next vector is the output block
unfoldable pub cbc_out : List (List ℕ) → List ℕ → List ℕ → List ℕ
cbc_out w v s = across (sealed w) (sealed w) (length s / 16) v s

-- decryption: the next vector is the input block
unfoldable pub cbc_back : List (List ℕ) → List ℕ → List ℕ → List ℕ
cbc_back w v s = across (opened w) (λ u c. c) (length s / 16) v s

-- 02, request 10: what n bytes cost, either way: each block is computed once
unfoldable pub cbc_cost : ℕ → ℕ
cbc_cost n = n / 16

-- the length is a whole number of blocks
abbrev pub whole : List ℕ → Bool
whole s = eqb (length s % 16) 0

-- (house) the number of each answer; 01 has none
unfoldable pub chained_number : Result ℕ Ragged → ℕ
chained_number (Ok cost) = 0
chained_number (Err ragged) = 1

-- how many blocks an answer computed
abbrev pub chained_cost : Result ℕ Ragged → ℕ
chained_cost (Ok cost) = cost
chained_cost (Err ragged) = 0

-- the answer with its number, what the buffer holds and what it cost: a length that is no whole number of blocks is refused before any
-- block, the buffer as it was
pub record Chains (f : List ℕ → List ℕ) (old : List ℕ) (r : Result ℕ Ragged) (new : List ℕ) : Type 0 where
  pub told : r ≡ pick (whole old) (Ok (cbc_cost (length old))) (Err record {})
  pub left : new ≡ pick (whole old) (f old) old
  pub number : chained_number r ≡ pick (whole old) 0 1
  pub cost : chained_cost r ≡ pick (whole old) (cbc_cost (length old)) 0
