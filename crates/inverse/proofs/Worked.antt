-- FIPS 197, appendix C.1, computed by the definitions.
use mathlib.Core.Path.{◌≡◌, refl, sym, ap, ◌∙◌}
use mathlib.Core.List.{List, [], ◌∷◌}
use Prim.Native.Nat.{ℕ, zero, suc}
use native.Mathlib.Numerals.{add-one}
use lib.ListN.{length}
use Rattle.base.specs.Bytes.{tab}
use Rattle.base.proofs.Bytes.{tab_ext}
use Rattle.sbox.specs.Field.{xtime}
use Rattle.sbox.specs.Columns.{mixed, unmixed}
use Rattle.sbox.specs.Tables.{sbox}
use Rattle.aes.specs.Block.{xor_block, substitute, shift_rows, mix_columns, rounds, cipher}
use Rattle.key_expansion.specs.Keys.{xor_word, sub_word, rot_word, rcon, round_words, key_expansion}
use Rattle.key_expansion.specs.NextKey.{first_word, next_key}
use Rattle.key_expansion.proofs.Schedule.{round_next, round_first}

-- round key r, one round key after the other
round_by : List ℕ → ℕ → List ℕ
round_by key zero = key
round_by key (suc r) = next_key sbox (rcon (suc r)) (round_by key r)

round_by_lem : (key : List ℕ) → length key ≡ 16 → (r : ℕ) → round_words key r ≡ round_by key r
unfolding round_by
round_by_lem key h zero = round_first key h
round_by_lem key h (suc r) =
    ap (round_words key) (sym (add-one r)) ∙ round_next key h r ∙ ap (λ n. next_key sbox (rcon n) (round_words key r)) (add-one r)
    ∙ ap (next_key sbox (rcon (suc r))) (round_by_lem key h r)

expansion_by : (key : List ℕ) → length key ≡ 16 → key_expansion key ≡ tab 11 (round_by key)
unfolding key_expansion
expansion_by key h = tab_ext 11 (round_words key) (round_by key) (round_by_lem key h)

abbrev key : List ℕ
key = 0x00 ∷ 0x01 ∷ 0x02 ∷ 0x03 ∷ 0x04 ∷ 0x05 ∷ 0x06 ∷ 0x07 ∷ 0x08 ∷ 0x09 ∷ 0x0a ∷ 0x0b ∷ 0x0c ∷ 0x0d ∷ 0x0e ∷ 0x0f ∷ []

abbrev plain : List ℕ
plain = 0x00 ∷ 0x11 ∷ 0x22 ∷ 0x33 ∷ 0x44 ∷ 0x55 ∷ 0x66 ∷ 0x77 ∷ 0x88 ∷ 0x99 ∷ 0xaa ∷ 0xbb ∷ 0xcc ∷ 0xdd ∷ 0xee ∷ 0xff ∷ []

abbrev output : List ℕ
output = 0x69 ∷ 0xc4 ∷ 0xe0 ∷ 0xd8 ∷ 0x6a ∷ 0x7b ∷ 0x04 ∷ 0x30 ∷ 0xd8 ∷ 0xcd ∷ 0xb7 ∷ 0x80 ∷ 0x70 ∷ 0xb4 ∷ 0xc5 ∷ 0x5a ∷ []

computed : cipher (tab 11 (round_by key)) plain ≡ output
unfolding round_by xtime mixed sbox xor_block substitute shift_rows mix_columns rounds cipher xor_word sub_word rot_word rcon first_word next_key
computed = refl

pub appendix_c1 : cipher (key_expansion key) plain ≡ output
appendix_c1 = ap (λ w. cipher w plain) (expansion_by key refl) ∙ computed
