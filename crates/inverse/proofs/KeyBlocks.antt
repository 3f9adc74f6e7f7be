-- The round keys of a key of 16 bytes are blocks.
use mathlib.Core.Path.{◌≡◌, refl, sym, ap, ap₂, subst, ◌∙◌}
use mathlib.Core.Bool.{Bool, true, false}
use mathlib.Core.List.{List, [], ◌∷◌, ◌++◌}
use Prim.Native.Nat.{ℕ, zero, suc, ◌+◌, ◌*◌, ◌/◌, ◌%◌, ◌<◌}
use lib.Dec.{eqb, lit<}
use lib.ListN.{length, take, drop, length-append}
use Rattle.base.specs.Decide.{pick}
use Rattle.base.specs.Bytes.{byte_at, AllBytes, tab}
use Rattle.base.proofs.Bytes.{tab_at, tab-bytes, append-bytes, take-bytes, drop-bytes}
use Rattle.sbox.specs.Field.{◌⊕◌, xtime}
use Rattle.sbox.specs.Tables.{sbox}
use Rattle.sbox.proofs.Linear.{xor_byte, xtime_byte}
use Rattle.sbox.proofs.Rule.{sbox-bytes}
use Rattle.inverse.specs.RoundKeys.{IsKeys}
use Rattle.aes.specs.Block.{IsBlock}
use Rattle.key_expansion.specs.Keys.{xor_word, sub_word, rot_word, rcon, temp, word, round_words, key_expansion}
use Rattle.key_expansion.proofs.Schedule.{word-length}

xor_word-bytes : (a b : List ℕ) → AllBytes a → AllBytes b → AllBytes (xor_word a b)
unfolding xor_word AllBytes
xor_word-bytes a b ha hb = tab-bytes 4 (λ i. byte_at a i ⊕ byte_at b i) (λ i. xor_byte (byte_at a i) (byte_at b i) (ha i) (hb i))

sub_word-bytes : (w : List ℕ) → AllBytes (sub_word sbox w)
unfolding sub_word AllBytes
sub_word-bytes w = tab-bytes 4 (λ i. byte_at sbox (byte_at w i)) (λ i. sbox-bytes (byte_at w i))

rcon_byte : (i : ℕ) → rcon i < 256
unfolding rcon
rcon_byte zero = lit< tt
rcon_byte (suc zero) = lit< tt
rcon_byte (suc (suc i)) = xtime_byte (rcon (suc i))

rcon-bytes : (i : ℕ) → AllBytes (rcon i ∷ 0 ∷ 0 ∷ 0 ∷ [])
unfolding AllBytes
rcon-bytes i zero = rcon_byte i
rcon-bytes i (suc zero) = lit< tt
rcon-bytes i (suc (suc zero)) = lit< tt
rcon-bytes i (suc (suc (suc zero))) = lit< tt
rcon-bytes i (suc (suc (suc (suc j)))) = lit< tt

temp-bytes : (i : ℕ) (w : List ℕ) → AllBytes w → AllBytes (temp i w)
unfolding temp
temp-bytes i w h = step (eqb (i % 4) 0)
  where
    step : (t : Bool) → AllBytes (pick t (xor_word (sub_word sbox (rot_word w)) (rcon (i / 4) ∷ 0 ∷ 0 ∷ 0 ∷ [])) w)
    step true = xor_word-bytes (sub_word sbox (rot_word w)) (rcon (i / 4) ∷ 0 ∷ 0 ∷ 0 ∷ []) (sub_word-bytes (rot_word w)) (rcon-bytes (i / 4))
    step false = h

word_bytes : (key : List ℕ) → AllBytes key → (i : ℕ) → AllBytes (word key i)
unfolding word
word_bytes key h zero = take-bytes 4 key h
word_bytes key h (suc zero) = take-bytes 4 (drop 4 key) (drop-bytes 4 key h)
word_bytes key h (suc (suc zero)) = take-bytes 4 (drop 8 key) (drop-bytes 8 key h)
word_bytes key h (suc (suc (suc zero))) = take-bytes 4 (drop 12 key) (drop-bytes 12 key h)
word_bytes key h (suc (suc (suc (suc i)))) =
    xor_word-bytes (word key i) (temp (suc (suc (suc (suc i)))) (word key (suc (suc (suc i))))) (word_bytes key h i)
    (temp-bytes (suc (suc (suc (suc i)))) (word key (suc (suc (suc i)))) (word_bytes key h (suc (suc (suc i)))))

round_block : (key : List ℕ) → IsBlock key → (r : ℕ) → IsBlock (round_words key r)
unfolding round_words
round_block key h r =
    let b = word_bytes key h.bytes in
    let l = word-length key h.len in
    record {
      len = simp (length-append, l);
      bytes =
          append-bytes (word key (4 * r) ++ word key (4 * r + 1) ++ word key (4 * r + 2)) (word key (4 * r + 3))
          (append-bytes (word key (4 * r) ++ word key (4 * r + 1)) (word key (4 * r + 2))
          (append-bytes (word key (4 * r)) (word key (4 * r + 1)) (b (4 * r)) (b (4 * r + 1)))
          (b (4 * r + 2)))
          (b (4 * r + 3));
    }

pub keys_are : (key : List ℕ) → IsBlock key → IsKeys (key_expansion key)
unfolding key_expansion
keys_are key h = record { each = λ i l. subst IsBlock (sym (tab_at [] 11 (round_words key) i l)) (round_block key h i) }
