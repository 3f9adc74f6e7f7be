-- One round more, as the loops of the cipher and its inverse take it, and the whole.
use mathlib.Core.Path.{◌≡◌, refl, sym, ap, ap₂, subst, ◌∙◌}
use mathlib.Core.List.{List}
use Prim.Native.Nat.{ℕ, zero, suc, ◌-◌, ◌<◌}
use native.Mathlib.Numerals.{sub-one}
use native.Mathlib.Omega.{arith}
use Rattle.sbox.specs.Tables.{sbox, inv_sbox}
use Rattle.sbox.specs.Words.{mixing_table, unmixing_table}
use Rattle.words.specs.Words.{block_of, words_of}
use Rattle.aes.specs.Block.{round_key, substitute, shift_rows, inv_shift_rows, mix_columns, inv_mix_columns, add_round_key, rounds, rounds_back, cipher, inv_cipher, counted, block_cost}
use Rattle.aes.specs.ByTables.{with_key, mixed_by, shifted_by, rounds_by, cipher_by, Turns, Enciphers, unshifted_by, unmixed_by, back_by, inv_cipher_by, TurnsBack, Deciphers}
use Rattle.aes.proofs.Words.{mixed_table, shifted_table, unshifted_table, unmixed_table}

rounds_more : (w : List (List ℕ)) (n : ℕ) (s : List ℕ) → 0 < n
    → rounds w n s ≡ add_round_key (mix_columns (shift_rows (substitute sbox (rounds w (n - 1) s)))) (round_key w n)
unfolding rounds
rounds_more w zero s h = absurd (omega arith)
rounds_more w (suc n) s h =
    ap (λ m. add_round_key (mix_columns (shift_rows (substitute sbox (rounds w m s)))) (round_key w (suc n))) (sym (sub-one (suc n)))

back_more : (w : List (List ℕ)) (n : ℕ) (s : List ℕ) → 0 < n
    → rounds_back w n s ≡ rounds_back w (n - 1) (inv_mix_columns (add_round_key (substitute inv_sbox (inv_shift_rows s)) (round_key w n)))
unfolding rounds_back
back_more w zero s h = absurd (omega arith)
back_more w (suc n) s h =
    ap (λ m. rounds_back w m (inv_mix_columns (add_round_key (substitute inv_sbox (inv_shift_rows s)) (round_key w (suc n))))) (sym (sub-one (suc n)))

back_none : (w : List (List ℕ)) (s : List ℕ) → rounds_back w 0 s ≡ s
unfolding rounds_back
back_none w s = refl

by_more : (t : List ℕ) (w : List (List ℕ)) (n : ℕ) (x : List ℕ) → 0 < n
    → rounds_by t w n x ≡ with_key (mixed_by t (rounds_by t w (n - 1) x)) (round_key w n)
unfolding rounds_by
by_more t w zero x h = absurd (omega arith)
by_more t w (suc n) x h = ap (λ m. with_key (mixed_by t (rounds_by t w m x)) (round_key w (suc n))) (sym (sub-one (suc n)))

back_by_more : (v u : List ℕ) (w : List (List ℕ)) (n : ℕ) (x : List ℕ) → 0 < n
    → back_by v u w n x ≡ back_by v u w (n - 1) (unmixed_by u (with_key (unshifted_by v x) (round_key w n)))
unfolding back_by
back_by_more v u w zero x h = absurd (omega arith)
back_by_more v u w (suc n) x h =
    ap (λ m. back_by v u w m (unmixed_by u (with_key (unshifted_by v x) (round_key w (suc n))))) (sym (sub-one (suc n)))

-- ---- after i rounds
pub record Forth (t : List ℕ) (w : List (List ℕ)) (x₀ x : List ℕ) (i : ℕ) : Type 0 where
  pub by : x ≡ rounds_by t w i x₀
  pub block : t ≡ mixing_table → block_of x ≡ rounds w i (block_of x₀)

pub forth_none : (t : List ℕ) (w : List (List ℕ)) (x : List ℕ) → Forth t w x x 0
unfolding rounds_by rounds
forth_none t w x = record { by = refl; block = λ e. refl }

pub forth_more : (t : List ℕ) (w : List (List ℕ)) (x₀ x r : List ℕ) (i j : ℕ) → 0 < i → j ≡ i → Forth t w x₀ x (i - 1) → Turns t x (round_key w i) r
    → Forth t w x₀ r j
forth_more t w x₀ x r i j p e h c =
    let k = round_key w i in
    subst (Forth t w x₀ r) (sym e)
    record {
      by = c.by ∙ ap (λ y. with_key (mixed_by t y) k) h.by ∙ sym (by_more t w i x₀ p);
      block = λ e.
          c.key ∙ ap (λ y. add_round_key y k) (mixed_table t x e ∙ ap (λ y. mix_columns (shift_rows (substitute sbox y))) (h.block e))
          ∙ sym (rounds_more w i (block_of x₀) p);
    }

pub enciphers : (t : List ℕ) (w : List (List ℕ)) (s q x₀ x z y r : List ℕ) (i : ℕ) → i ≡ 9 → (q ≡ words_of s) × (block_of q ≡ s)
    → (x₀ ≡ with_key q (round_key w 0)) × (block_of x₀ ≡ add_round_key (block_of q) (round_key w 0)) → Forth t w x₀ x i → z ≡ shifted_by t x
    → (y ≡ with_key z (round_key w 10)) × (block_of y ≡ add_round_key (block_of z) (round_key w 10)) → r ≡ block_of y → Enciphers t w s (counted r block_cost)
unfolding cipher_by cipher
enciphers t w s q x₀ x z y r i n a b h d f g =
    let first = round_key w 0 in
    let last = round_key w 10 in
    record {
      by = g ∙ ap block_of
          (f.0 ∙ ap (λ m. with_key m last) (d ∙ ap (shifted_by t) (h.by ∙ ap₂ (rounds_by t w) n (b.0 ∙ ap (λ m. with_key m first) a.0))));
      standard = λ e.
          g ∙ f.1 ∙ ap (λ m. add_round_key m last) (ap block_of d ∙ shifted_table t x e
          ∙ ap (λ m. shift_rows (substitute sbox m)) (h.block e ∙ ap₂ (rounds w) n (b.1 ∙ ap (λ m. add_round_key m first) a.1)));
      cost = refl;
    }

-- ---- i rounds before the end of the way back
pub record Back (v u : List ℕ) (w : List (List ℕ)) (x₀ x : List ℕ) (i : ℕ) : Type 0 where
  pub by : back_by v u w i x ≡ back_by v u w 9 x₀
  pub block : v ≡ inv_sbox → u ≡ unmixing_table → rounds_back w i (block_of x) ≡ rounds_back w 9 (block_of x₀)

pub back_start : (v u : List ℕ) (w : List (List ℕ)) (x : List ℕ) → Back v u w x x 9
back_start v u w x = record { by = refl; block = λ e f. refl }

pub back-turn : (v u : List ℕ) (w : List (List ℕ)) (x₀ x r : List ℕ) (i : ℕ) → 0 < i → Back v u w x₀ x i → TurnsBack v u x (round_key w i) r
    → Back v u w x₀ r (i - 1)
back-turn v u w x₀ x r i p h c =
    let k = round_key w i in
    record {
      by = ap (back_by v u w (i - 1)) c.by ∙ sym (back_by_more v u w i x p) ∙ h.by;
      block = λ e f.
          ap (rounds_back w (i - 1)) (ap block_of c.by ∙ unmixed_table u (with_key (unshifted_by v x) k) f
          ∙ ap inv_mix_columns (c.key ∙ ap (λ y. add_round_key y k) (unshifted_table v x e)))
          ∙ sym (back_more w i (block_of x) p) ∙ h.block e f;
    }

by_none : (v u : List ℕ) (w : List (List ℕ)) (x : List ℕ) → back_by v u w 0 x ≡ x
unfolding back_by
by_none v u w x = refl

pub deciphers : (v u : List ℕ) (w : List (List ℕ)) (s q x₀ x z y r : List ℕ) (i : ℕ) → 0 ≡ i → (q ≡ words_of s) × (block_of q ≡ s)
    → (x₀ ≡ with_key q (round_key w 10)) × (block_of x₀ ≡ add_round_key (block_of q) (round_key w 10)) → Back v u w x₀ x i → z ≡ unshifted_by v x
    → (y ≡ with_key z (round_key w 0)) × (block_of y ≡ add_round_key (block_of z) (round_key w 0)) → r ≡ block_of y → Deciphers v u w s (counted r block_cost)
unfolding inv_cipher_by inv_cipher
deciphers v u w s q x₀ x z y r i n a b h d f g =
    let first = round_key w 0 in
    let last = round_key w 10 in
    record {
      by = g ∙ ap block_of (f.0 ∙ ap (λ m. with_key m first) (d ∙ ap (unshifted_by v) (sym (by_none v u w x) ∙ ap (λ m. back_by v u w m x) n
          ∙ h.by ∙ ap (back_by v u w 9) (b.0 ∙ ap (λ m. with_key m last) a.0))));
      standard = λ e e'.
          g ∙ f.1 ∙ ap (λ m. add_round_key m first) (ap block_of d ∙ unshifted_table v x e
          ∙ ap (λ m. substitute inv_sbox (inv_shift_rows m)) (sym (back_none w (block_of x)) ∙ ap (λ m. rounds_back w m (block_of x)) n
          ∙ h.block e e' ∙ ap (rounds_back w 9) (b.1 ∙ ap (λ m. add_round_key m last) a.1)));
      cost = refl;
    }
