-- Decrypting undoes encrypting, and encrypting undoes decrypting, on blocks, under round keys that are blocks.
use mathlib.Core.Path.{◌≡◌, refl, sym, ap, ◌∙◌}
use mathlib.Core.List.{List}
use Prim.Native.Nat.{ℕ, zero, suc, ◌<◌}
use native.Mathlib.Omega.{arith}
use lib.Dec.{lit<}
use Rattle.sbox.specs.Tables.{sbox, inv_sbox}
use Rattle.sbox.proofs.Rule.{sbox-bytes, inv_sbox-bytes}
use Rattle.aes.specs.Block.{IsBlock, round_key, xor_block, substitute, shift_rows, inv_shift_rows, mix_columns, inv_mix_columns, add_round_key, rounds, cipher, rounds_back, inv_cipher}
use Rattle.inverse.specs.RoundKeys.{IsKeys}
use Rattle.inverse.proofs.Steps.{xor_block_lem, substitute_block, shift_block, shift_back_block, mix_block, unmix_block}
use Rattle.inverse.proofs.Steps.{xor_undone, substitute_undone, substitute_redone, shift_undone, shift_redone, mix_undone, mix_redone}

-- SubBytes and ShiftRows, and both back
abbrev forth : List ℕ → List ℕ
forth s = shift_rows (substitute sbox s)

abbrev back : List ℕ → List ℕ
back s = substitute inv_sbox (inv_shift_rows s)

forth_block : (s : List ℕ) → IsBlock (forth s)
forth_block s = shift_block (substitute sbox s) (substitute_block sbox s sbox-bytes)

back_block : (s : List ℕ) → IsBlock (back s)
back_block s = substitute_block inv_sbox (inv_shift_rows s) inv_sbox-bytes

back_of_forth : (s : List ℕ) → IsBlock s → back (forth s) ≡ s
back_of_forth s h = ap (substitute inv_sbox) (shift_undone (substitute sbox s) (substitute_block sbox s sbox-bytes)) ∙ substitute_undone s h

forth_of_back : (s : List ℕ) → IsBlock s → forth (back s) ≡ s
forth_of_back s h = ap shift_rows (substitute_redone (inv_shift_rows s) (shift_back_block s h)) ∙ shift_redone s h

module _ (w : List (List ℕ)) (k : IsKeys w) where
  rounds_block : (n : ℕ) → n < 11 → (s : List ℕ) → IsBlock s → IsBlock (rounds w n s)
  unfolding rounds
  rounds_block zero l s h = h
  rounds_block (suc n) l s h =
      xor_block_lem (mix_columns (shift_rows (substitute sbox (rounds w n s)))) (round_key w (suc n))
      (mix_block (shift_rows (substitute sbox (rounds w n s))) (forth_block (rounds w n s)))
      (k.each (suc n) l)

  -- n rounds, then SubBytes and ShiftRows, taken back
  rounds_undone : (n : ℕ) → n < 11 → (s : List ℕ) → IsBlock s → back (rounds_back w n (forth (rounds w n s))) ≡ s
  unfolding rounds rounds_back
  rounds_undone zero l s h = back_of_forth s h
  rounds_undone (suc n) l s h =
      let x = rounds w n s in
      ap (λ y. back (rounds_back w n (inv_mix_columns (add_round_key y (round_key w (suc n))))))
      (back_of_forth (rounds w (suc n) s) (rounds_block (suc n) l s h))
      ∙ ap (λ y. back (rounds_back w n (inv_mix_columns y))) (xor_undone (mix_columns (forth x)) (round_key w (suc n)) (mix_block (forth x) (forth_block x)))
      ∙ ap (λ y. back (rounds_back w n y)) (mix_undone (forth x) (forth_block x))
      ∙ rounds_undone n (omega arith) s h

  pub back_of_cipher : (s : List ℕ) → IsBlock s → inv_cipher w (cipher w s) ≡ s
  unfolding cipher inv_cipher
  back_of_cipher s h =
      let x = add_round_key s (round_key w 0) in
      ap (λ y. add_round_key (back (rounds_back w 9 y)) (round_key w 0)) (xor_undone (forth (rounds w 9 x)) (round_key w 10) (forth_block (rounds w 9 x)))
      ∙ ap (λ y. add_round_key y (round_key w 0)) (rounds_undone 9 (lit< tt) x (xor_block_lem s (round_key w 0) h (k.each 0 (lit< tt))))
      ∙ xor_undone s (round_key w 0) h

  rounds_redone : (n : ℕ) → n < 11 → (s : List ℕ) → IsBlock s → forth (rounds w n (back (rounds_back w n s))) ≡ s
  unfolding rounds rounds_back
  rounds_redone zero l s h = forth_of_back s h
  rounds_redone (suc n) l s h =
      let x = add_round_key (back s) (round_key w (suc n)) in
      let hx = xor_block_lem (back s) (round_key w (suc n)) (back_block s) (k.each (suc n) l) in
      ap (λ y. forth (add_round_key (mix_columns y) (round_key w (suc n)))) (rounds_redone n (omega arith) (inv_mix_columns x) (unmix_block x hx))
      ∙ ap (λ y. forth (add_round_key y (round_key w (suc n)))) (mix_redone x hx)
      ∙ ap forth (xor_undone (back s) (round_key w (suc n)) (back_block s))
      ∙ forth_of_back s h

  pub cipher_of_back : (s : List ℕ) → IsBlock s → cipher w (inv_cipher w s) ≡ s
  unfolding cipher inv_cipher
  cipher_of_back s h =
      let x = add_round_key s (round_key w 10) in
      let hx = xor_block_lem s (round_key w 10) h (k.each 10 (lit< tt)) in
      ap (λ y. add_round_key (forth (rounds w 9 y)) (round_key w 10)) (xor_undone (back (rounds_back w 9 x)) (round_key w 0) (back_block (rounds_back w 9 x)))
      ∙ ap (λ y. add_round_key y (round_key w 10)) (rounds_redone 9 (lit< tt) x hx)
      ∙ xor_undone s (round_key w 10) h

  -- bytes stay bytes
  pub cipher_block : (s : List ℕ) → IsBlock (cipher w s)
  unfolding cipher
  cipher_block s =
      let x = rounds w 9 (add_round_key s (round_key w 0)) in
      xor_block_lem (shift_rows (substitute sbox x)) (round_key w 10) (forth_block x) (k.each 10 (lit< tt))

  pub back_of_block : (s : List ℕ) → IsBlock (inv_cipher w s)
  unfolding inv_cipher
  back_of_block s =
      let x = rounds_back w 9 (add_round_key s (round_key w 10)) in
      xor_block_lem (substitute inv_sbox (inv_shift_rows x)) (round_key w 0) (back_block x) (k.each 0 (lit< tt))
