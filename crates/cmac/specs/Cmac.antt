-- SP 800-38B, section 6: CMAC with AES-128, and the 8 bytes of it that 01 keeps.
use Rattle.std.specs.Prelude.{List, [], ◌∷◌, ◌++◌, ℕ, zero, suc, ◌+◌, ◌-◌, ◌*◌, ◌/◌, ◌%◌, eqb, leb, length, take, drop, replicate}
use Rattle.base.specs.Decide.{pick}
use Rattle.base.specs.Bytes.{byte_at, tab}
use Rattle.aes.specs.Block.{cipher, xor_block}
use Rattle.key_expansion.specs.Keys.{key_expansion}

-- a block shifted to the left by one bit: each byte's low seven bits doubled, and the high bit of the byte behind it
unfoldable pub shifted : List ℕ → List ℕ
shifted s = tab 16 (λ i. byte_at s i % 128 * 2 + byte_at s (i + 1) / 128)

-- 5.3: R, for blocks of 128 bits
abbrev pub R : List ℕ
R = 0 ∷ 0 ∷ 0 ∷ 0 ∷ 0 ∷ 0 ∷ 0 ∷ 0 ∷ 0 ∷ 0 ∷ 0 ∷ 0 ∷ 0 ∷ 0 ∷ 0 ∷ 135 ∷ []

-- 6.1: a block doubled: shifted, and where its first bit was one, summed with R
unfoldable pub doubled : List ℕ → List ℕ
doubled s = pick (leb 128 (byte_at s 0)) (xor_block (shifted s) R) (shifted s)

-- 6.1: the subkeys
unfoldable pub subkey1 : List (List ℕ) → List ℕ
subkey1 w = doubled (cipher w (replicate 16 0))

unfoldable pub subkey2 : List (List ℕ) → List ℕ
subkey2 w = doubled (subkey1 w)

-- 6.2: how many blocks a message has, an empty one too has one
unfoldable pub blocks_of : ℕ → ℕ
blocks_of n = pick (eqb n 0) 1 ((n + 15) / 16)

-- 6.2: the last block: whole with K1, else with 80 and zeros behind it and K2
unfoldable pub last_block : List (List ℕ) → List ℕ → List ℕ
last_block w s = pick (eqb (length s) 16) (xor_block s (subkey1 w)) (xor_block (s ++ 128 ∷ replicate (15 - length s) 0) (subkey2 w))

-- 6.2: n blocks chained, then the last one
unfoldable pub chained : List (List ℕ) → ℕ → List ℕ → List ℕ → List ℕ
chained w zero v s = cipher w (xor_block (last_block w s) v)
chained w (suc n) v s = chained w n (cipher w (xor_block (take 16 s) v)) (drop 16 s)

unfoldable pub cmac : List (List ℕ) → List ℕ → List ℕ
cmac w s = chained w (blocks_of (length s) - 1) (replicate 16 0) s

-- 02, request 10: what the CMAC of n bytes costs: the block of the subkeys (6.1), and each block of the message
unfoldable pub cmac_cost : ℕ → ℕ
cmac_cost n = 1 + blocks_of n

-- 01: the second, fourth and every further even place of the CMAC, counted from the first as one
unfoldable pub even_places : List ℕ → List ℕ
even_places t = tab 8 (λ i. byte_at t (i * 2 + 1))

-- 9.1.3: the MAC of a text under a key: the CMAC cut to its even places
unfoldable pub mac : List ℕ → List ℕ → List ℕ
mac key text = even_places (cmac (key_expansion key) text)
