-- FIPS 197, section 5.2: the key expansion, word by word, for a key of four words (Nk = 4) and ten rounds.
use Rattle.std.specs.Prelude.{List, [], ◌∷◌, ◌++◌, ℕ, zero, suc, ◌+◌, ◌*◌, ◌/◌, ◌%◌, eqb, take, drop}
use Rattle.base.specs.Decide.{pick}
use Rattle.base.specs.Bytes.{byte_at, tab}
use Rattle.sbox.specs.Field.{◌⊕◌, xtime}
use Rattle.sbox.specs.Tables.{sbox}

-- two words summed
unfoldable pub xor_word : List ℕ → List ℕ → List ℕ
xor_word a b = tab 4 (λ i. byte_at a i ⊕ byte_at b i)

-- SubWord, with a table
unfoldable pub sub_word : List ℕ → List ℕ → List ℕ
sub_word box w = tab 4 (λ i. byte_at box (byte_at w i))

-- RotWord: a, b, c, d becomes b, c, d, a
unfoldable pub rot_word : List ℕ → List ℕ
rot_word w = tab 4 (λ i. byte_at w ((i + 1) % 4))

-- the first byte of Rcon[i], x to the i - 1
unfoldable pub rcon : ℕ → ℕ
rcon zero = 0
rcon (suc zero) = 1
rcon (suc (suc i)) = xtime (rcon (suc i))

-- temp for word i, from the word before it
unfoldable pub temp : ℕ → List ℕ → List ℕ
temp i w = pick (eqb (i % 4) 0) (xor_word (sub_word sbox (rot_word w)) (rcon (i / 4) ∷ 0 ∷ 0 ∷ 0 ∷ [])) w

-- w[i]: the key's words, then each the sum of the word four before it and temp
unfoldable pub word : List ℕ → ℕ → List ℕ
word key zero = take 4 key
word key (suc zero) = take 4 (drop 4 key)
word key (suc (suc zero)) = take 4 (drop 8 key)
word key (suc (suc (suc zero))) = take 4 (drop 12 key)
word key (suc (suc (suc (suc i)))) = xor_word (word key i) (temp (suc (suc (suc (suc i)))) (word key (suc (suc (suc i)))))

-- round key r: words 4 r to 4 r + 3
unfoldable pub round_words : List ℕ → ℕ → List ℕ
round_words key r = word key (4 * r) ++ word key (4 * r + 1) ++ word key (4 * r + 2) ++ word key (4 * r + 3)

-- the eleven round keys of a key
unfoldable pub key_expansion : List ℕ → List (List ℕ)
key_expansion key = tab 11 (round_words key)
