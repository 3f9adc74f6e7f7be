-- The key expansion a round at a time is the standard's, word by word.
use mathlib.Core.Path.{◌≡◌, refl, sym, ap, ◌∙◌}
use mathlib.Core.List.{List, [], ◌∷◌, ◌++◌, append_assoc, append-nil}
use Prim.Native.Nat.{ℕ, zero, suc, ◌+◌, ◌*◌, ◌/◌, ◌%◌}
use native.Mathlib.Omega.{arith}
use native.Mathlib.Numerals.{add-one, add-three, add-four}
use borrow.Author.Tests.{eq-eqb, ne_eqb}
use lib.ListN.{length, length-append, length-take, length-drop, get_or-append}
use lib.Seq.{ext_get_or, get_or-append-add, take-add, take_all}
use Rattle.base.specs.Bytes.{byte_at}
use Rattle.base.proofs.Bytes.{tab_at, tab-length}
use Rattle.sbox.specs.Field.{xtime}
use Rattle.sbox.specs.Tables.{sbox}
use Rattle.key_expansion.specs.Keys.{xor_word, sub_word, rot_word, rcon, temp, word, round_words}
use Rattle.key_expansion.specs.NextKey.{four_at, first_word, next_key}

-- ---- words
xor_word-length : (a b : List ℕ) → length (xor_word a b) ≡ 4
unfolding xor_word
xor_word-length a b = refl

pub word-length : (key : List ℕ) → length key ≡ 16 → (i : ℕ) → length (word key i) ≡ 4
unfolding word
word-length key h zero = simp (length-take, h)
word-length key h (suc zero) = simp (length-take, length-drop, h)
word-length key h (suc (suc zero)) = simp (length-take, length-drop, h)
word-length key h (suc (suc (suc zero))) = simp (length-take, length-drop, h)
word-length key h (suc (suc (suc (suc i)))) =
    xor_word-length (word key i) (temp (suc (suc (suc (suc i)))) (word key (suc (suc (suc i)))))

word_next : (key : List ℕ) (i : ℕ) → word key (i + 4) ≡ xor_word (word key i) (temp (i + 4) (word key (i + 3)))
unfolding word
word_next key i = rw (add-four, add-three) refl

temp_first : (r : ℕ) (w : List ℕ) → temp (4 * r + 4) w ≡ xor_word (sub_word sbox (rot_word w)) (rcon (r + 1) ∷ 0 ∷ 0 ∷ 0 ∷ [])
unfolding temp
temp_first r w =
    let q : (4 * r + 4) / 4 ≡ r + 1 = omega arith in
    rw (eq-eqb ((4 * r + 4) % 4) 0 (omega arith), q) refl

temp_other : (i : ℕ) (w : List ℕ) → (i % 4 ≡ 0 → ⊥) → temp i w ≡ w
unfolding temp
temp_other i w h = rw (ne_eqb (i % 4) 0 h) refl

-- ---- words in a block
-- the four bytes behind p
four_behind : (p a q : List ℕ) (i : ℕ) → length p ≡ i → length a ≡ 4 → four_at (p ++ (a ++ q)) i ≡ a
four_behind p a q i e l =
    ext_get_or 0 (four_at (p ++ (a ++ q)) i) a (tab-length 4 (λ j. byte_at (p ++ (a ++ q)) (i + j)) ∙ sym l)
    (λ j h.
    tab_at 0 4 (λ j. byte_at (p ++ (a ++ q)) (i + j)) j h
    ∙ ap (λ n. byte_at (p ++ (a ++ q)) (n + j)) (sym e)
    ∙ get_or-append-add p (a ++ q) j 0
    ∙ get_or-append a q 0 j (omega (arith, l)))

module _ (a b c d : List ℕ) (la : length a ≡ 4) (lb : length b ≡ 4) (lc : length c ≡ 4) (ld : length d ≡ 4) where
  first_four : four_at (a ++ b ++ c ++ d) 0 ≡ a
  first_four = simp append_assoc (four_behind [] a (b ++ (c ++ d)) 0 refl la)

  second_four : four_at (a ++ b ++ c ++ d) 4 ≡ b
  second_four = simp append_assoc (four_behind a b (c ++ d) 4 la lb)

  third_four : four_at (a ++ b ++ c ++ d) 8 ≡ c
  third_four = rw (append_assoc (a ++ b) c d) (four_behind (a ++ b) c d 8 (simp (length-append, la, lb)) lc)

  last_four : four_at (a ++ b ++ c ++ d) 12 ≡ d
  last_four =
      ap (λ l. four_at (a ++ b ++ c ++ l) 12) (sym (append-nil d))
      ∙ four_behind (a ++ b ++ c) d [] 12 (simp (length-append, la, lb, lc)) ld

  pub next_words : (box : List ℕ) (rc : ℕ) → next_key box rc (a ++ b ++ c ++ d)
      ≡ (let x = first_word box rc a d in let y = xor_word b x in let z = xor_word c y in x ++ y ++ z ++ xor_word d z)
  unfolding next_key
  next_words box rc = rw (first_four, second_four, third_four, last_four) refl

word_other : (key : List ℕ) (i : ℕ) → ((i + 4) % 4 ≡ 0 → ⊥) → word key (i + 4) ≡ xor_word (word key i) (word key (i + 3))
word_other key i h = word_next key i ∙ ap (xor_word (word key i)) (temp_other (i + 4) (word key (i + 3)) h)

-- the round key behind a round key
pub round_next : (key : List ℕ) → length key ≡ 16 → (r : ℕ) → round_words key (r + 1) ≡ next_key sbox (rcon (r + 1)) (round_words key r)
unfolding round_words first_word
round_next key h r =
    let l = word-length key h in
    let x : word key (4 * (r + 1)) ≡ first_word sbox (rcon (r + 1)) (word key (4 * r)) (word key (4 * r + 3)) =
    ap (word key) (omega arith) ∙ word_next key (4 * r) ∙ ap (xor_word (word key (4 * r))) (temp_first r (word key (4 * r + 3)))
    in
    let y : word key (4 * (r + 1) + 1) ≡ xor_word (word key (4 * r + 1)) (word key (4 * (r + 1))) =
    ap (word key) (omega arith) ∙ word_other key (4 * r + 1) (λ e. omega arith) ∙ ap (λ i. xor_word (word key (4 * r + 1)) (word key i)) (omega arith)
    in
    let z : word key (4 * (r + 1) + 2) ≡ xor_word (word key (4 * r + 2)) (word key (4 * (r + 1) + 1)) =
    ap (word key) (omega arith) ∙ word_other key (4 * r + 2) (λ e. omega arith) ∙ ap (λ i. xor_word (word key (4 * r + 2)) (word key i)) (omega arith)
    in
    let u : word key (4 * (r + 1) + 3) ≡ xor_word (word key (4 * r + 3)) (word key (4 * (r + 1) + 2)) =
    ap (word key) (omega arith) ∙ word_other key (4 * r + 3) (λ e. omega arith) ∙ ap (λ i. xor_word (word key (4 * r + 3)) (word key i)) (omega arith)
    in
    rw (u, z, y, x)
    (sym (next_words (word key (4 * r)) (word key (4 * r + 1)) (word key (4 * r + 2)) (word key (4 * r + 3)) (l (4 * r)) (l (4 * r + 1))
    (l (4 * r + 2)) (l (4 * r + 3)) sbox (rcon (r + 1))))

-- the first round key is the key
pub round_first : (key : List ℕ) → length key ≡ 16 → round_words key 0 ≡ key
unfolding round_words word
round_first key h = rw (← take-add 4 4 key, ← take-add 8 4 key, ← take-add 12 4 key) (take_all 16 key (omega arith))

pub rcon_more : (i : ℕ) → rcon (i + 1 + 1) ≡ xtime (rcon (i + 1))
unfolding rcon
rcon_more i = rw (add-one, add-one) refl
