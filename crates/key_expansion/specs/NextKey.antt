-- (house, how it is computed; no promise of a public function names it) The key expansion a round at a time.
-- proofs/Schedule.antt links it to the standard's words.
use Rattle.std.specs.Prelude.{List, [], ◌∷◌, ◌++◌, ℕ, ◌+◌}
use Rattle.base.specs.Bytes.{byte_at, tab}
use Rattle.key_expansion.specs.Keys.{xor_word, sub_word, rot_word}

-- the four bytes of a block from byte i on
abbrev pub four_at : List ℕ → ℕ → List ℕ
four_at k i = tab 4 (λ j. byte_at k (i + j))

-- the first word of the next round key, from the first and the last word, a table and Rcon's first byte
unfoldable pub first_word : List ℕ → ℕ → List ℕ → List ℕ → List ℕ
first_word box rc a d = xor_word a (xor_word (sub_word box (rot_word d)) (rc ∷ 0 ∷ 0 ∷ 0 ∷ []))

-- the four words of the next round key, each the sum of the word four before it and the word before it
unfoldable pub next_key : List ℕ → ℕ → List ℕ → List ℕ
next_key box rc k =
    let a = first_word box rc (four_at k 0) (four_at k 12) in
    let b = xor_word (four_at k 4) a in
    let c = xor_word (four_at k 8) b in
    a ++ b ++ c ++ xor_word (four_at k 12) c
