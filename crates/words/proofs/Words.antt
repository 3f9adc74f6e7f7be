-- The bytes of a word, of sums and of a word turned; a column by the tables is the standard's, row by row.
use mathlib.Core.Path.{◌≡◌, refl, ap, ◌∙◌}
use mathlib.Core.List.{List, [], ◌∷◌, ◌++◌}
use Prim.Native.Nat.{ℕ, ◌+◌, ◌*◌, ◌/◌, ◌%◌, ◌<◌}
use native.Mathlib.Omega.{arith}
use lib.Bits.{bit_or, or_shifted, xor_comm, xor_mod, xor_shr}
use lib.ListN.{length}
use Rattle.std.specs.Int.{rotate_left, w32}
use Rattle.base.specs.Bytes.{byte_at, AllBytes, tab}
use Rattle.base.proofs.Pieces.{tab_of}
use Rattle.sbox.specs.Field.{◌⊕◌, mul}
use Rattle.sbox.specs.Columns.{mixed, unmixed}
use Rattle.sbox.specs.Tables.{sbox}
use Rattle.sbox.specs.Words.{packed, mixing_table, unmixing_table}
use Rattle.sbox.proofs.Linear.{xor_assoc, mul_byte}
use Rattle.sbox.proofs.Rule.{sbox-bytes}
use Rattle.sbox.proofs.Words.{mixing_at, unmixing_at}
use Rattle.words.specs.Words.{rows, block_of, words_of, turn, column_of, picked_of}

-- ---- one word
pub rows-packed : (a b c d : ℕ) → a < 256 → b < 256 → c < 256 → d < 256 → rows (packed a b c d) ≡ a ∷ b ∷ c ∷ d ∷ []
unfolding rows
rows-packed a b c d ha hb hc hd =
    let e : packed a b c d % 256 ≡ a = omega arith in
    let u : packed a b c d / 256 ≡ b + 256 * c + 65536 * d = omega arith in
    let v : packed a b c d / 65536 ≡ c + 256 * d = omega arith in
    let w : packed a b c d / 16777216 ≡ d = omega arith in
    let f : (b + 256 * c + 65536 * d) % 256 ≡ b = omega arith in
    let g : (c + 256 * d) % 256 ≡ c = omega arith in
    let h : d % 256 ≡ d = omega arith in
    rw (e, u, v, w, f, g, h)

turn-packed : (a b c d : ℕ) → a < 256 → b < 256 → c < 256 → d < 256 → turn (packed a b c d) ≡ packed d a b c
unfolding turn
turn-packed a b c d ha hb hc hd = omega arith

-- a word rotated by whole bytes is turned by as many rows
pub rotated_once : (x : ℕ) → x < 4294967296 → rotate_left w32 x 8 ≡ turn x
unfolding turn
rotated_once x h =
    let e : x * 256 % 4294967296 ≡ x % 16777216 * 256 = omega arith in
    ap (λ y. bit_or y (x / 16777216)) e ∙ or_shifted (x % 16777216) 8 (x / 16777216) (omega arith)

pub rotated_twice : (x : ℕ) → x < 4294967296 → rotate_left w32 x 16 ≡ turn (turn x)
unfolding turn
rotated_twice x h =
    let e : x * 65536 % 4294967296 ≡ x % 65536 * 65536 = omega arith in
    ap (λ y. bit_or y (x / 65536)) e ∙ or_shifted (x % 65536) 16 (x / 65536) (omega arith) ∙ omega arith

pub rotated_thrice : (x : ℕ) → x < 4294967296 → rotate_left w32 x 24 ≡ turn (turn (turn x))
unfolding turn
rotated_thrice x h =
    let e : x * 16777216 % 4294967296 ≡ x % 256 * 16777216 = omega arith in
    ap (λ y. bit_or y (x / 256)) e ∙ or_shifted (x % 256) 24 (x / 256) (omega arith) ∙ omega arith

-- the bytes of a sum are the sums of the bytes
byte_xor : (x y : ℕ) → (x ⊕ y) % 256 ≡ x % 256 ⊕ y % 256
byte_xor x y = xor_mod x y 8

pub rows_xor : (x y : ℕ) → rows (x ⊕ y) ≡ tab 4 (λ i. byte_at (rows x) i ⊕ byte_at (rows y) i)
unfolding rows
rows_xor x y =
    let f : (x ⊕ y) / 256 % 256 ≡ x / 256 % 256 ⊕ y / 256 % 256 = ap (λ z. z % 256) (xor_shr x y 8) ∙ byte_xor (x / 256) (y / 256) in
    let g : (x ⊕ y) / 65536 % 256 ≡ x / 65536 % 256 ⊕ y / 65536 % 256 = ap (λ z. z % 256) (xor_shr x y 16) ∙ byte_xor (x / 65536) (y / 65536) in
    let h : (x ⊕ y) / 16777216 % 256 ≡ x / 16777216 % 256 ⊕ y / 16777216 % 256 = ap (λ z. z % 256) (xor_shr x y 24) ∙ byte_xor (x / 16777216) (y / 16777216) in
    rw (byte_xor x y, f, g, h)

rows_four : (w x y z : ℕ)
    → rows (w ⊕ x ⊕ y ⊕ z) ≡ tab 4 (λ i. byte_at (rows w) i ⊕ byte_at (rows x) i ⊕ byte_at (rows y) i ⊕ byte_at (rows z) i)
rows_four w x y z = rw (rows_xor (w ⊕ x ⊕ y) z, rows_xor (w ⊕ x) y, rows_xor w x)

-- ---- four words
pub block_words : (a b c d : ℕ) (p q r s : List ℕ) → rows a ≡ p → rows b ≡ q → rows c ≡ r → rows d ≡ s
    → block_of (a ∷ b ∷ c ∷ d ∷ []) ≡ p ++ q ++ r ++ s
unfolding block_of
block_words a b c d p q r s ea eb ec ed = rw (ea, eb, ec, ed)

-- the words of a block
pub columns_block : (s : List ℕ) → length s ≡ 16 → AllBytes s → block_of (words_of s) ≡ s
unfolding AllBytes words_of
columns_block s l h = block_words _ _ _ _ _ _ _ _ (column 0) (column 4) (column 8) (column 12) ∙ tab_of 16 s l
  where
    column : (i : ℕ) → rows (packed (byte_at s i) (byte_at s (i + 1)) (byte_at s (i + 2)) (byte_at s (i + 3)))
        ≡ byte_at s i ∷ byte_at s (i + 1) ∷ byte_at s (i + 2) ∷ byte_at s (i + 3) ∷ []
    column i =
        rows-packed (byte_at s i) (byte_at s (i + 1)) (byte_at s (i + 2)) (byte_at s (i + 3)) (h i) (h (i + 1)) (h (i + 2)) (h (i + 3))

-- ---- words of a table's bytes
module _ (t : List ℕ) (h : AllBytes t) where
  pub picked_rows : (a b c d : ℕ)
      → rows (picked_of t a b c d) ≡ byte_at t (a % 256) ∷ byte_at t (b / 256 % 256) ∷ byte_at t (c / 65536 % 256) ∷ byte_at t (d / 16777216 % 256) ∷ []
  unfolding picked_of AllBytes
  picked_rows a b c d =
      rows-packed (byte_at t (a % 256)) (byte_at t (b / 256 % 256)) (byte_at t (c / 65536 % 256)) (byte_at t (d / 16777216 % 256)) (h (a % 256))
      (h (b / 256 % 256)) (h (c / 65536 % 256)) (h (d / 16777216 % 256))

-- ---- columns of a table's words
turn-over : (w x y z : ℕ) → w ⊕ x ⊕ y ⊕ z ≡ x ⊕ y ⊕ z ⊕ w
turn-over w x y z = ap (λ v. v ⊕ z) (xor_assoc w x y) ∙ xor_assoc w (x ⊕ y) z ∙ xor_comm w (x ⊕ y ⊕ z)

-- a function of four bytes, for each of the rows
abbrev pub four_of : (ℕ → ℕ → ℕ → ℕ → ℕ) → ℕ → ℕ → ℕ → ℕ → List ℕ
four_of f w x y z = f w x y z ∷ f x y z w ∷ f y z w x ∷ f z w x y ∷ []

abbrev pub OnBytes : (ℕ → ℕ) → Type 0
OnBytes f = (x : ℕ) → x < 256 → f x < 256

module _ (t : List ℕ) (p q r s : ℕ → ℕ) (hp : OnBytes p) (hq : OnBytes q) (hr : OnBytes r) (hs : OnBytes s)
    (entry : (x : ℕ) → x < 256 → byte_at t x ≡ packed (p x) (q x) (r x) (s x)) where
  once : (x : ℕ) → x < 256 → turn (byte_at t x) ≡ packed (s x) (p x) (q x) (r x)
  once x h = ap turn (entry x h) ∙ turn-packed (p x) (q x) (r x) (s x) (hp x h) (hq x h) (hr x h) (hs x h)

  twice : (x : ℕ) → x < 256 → turn (turn (byte_at t x)) ≡ packed (r x) (s x) (p x) (q x)
  twice x h = ap turn (once x h) ∙ turn-packed (s x) (p x) (q x) (r x) (hs x h) (hp x h) (hq x h) (hr x h)

  thrice : (x : ℕ) → x < 256 → turn (turn (turn (byte_at t x))) ≡ packed (q x) (r x) (s x) (p x)
  thrice x h = ap turn (twice x h) ∙ turn-packed (r x) (s x) (p x) (q x) (hr x h) (hs x h) (hp x h) (hq x h)

  sum_rows : (a b c d : ℕ) → a < 256 → b < 256 → c < 256 → d < 256
      → rows (byte_at t a ⊕ turn (byte_at t b) ⊕ turn (turn (byte_at t c)) ⊕ turn (turn (turn (byte_at t d))))
      ≡ four_of (λ w x y z. p w ⊕ s x ⊕ r y ⊕ q z) a b c d
  sum_rows a b c d ha hb hc hd =
      let ea = ap rows (entry a ha) ∙ rows-packed (p a) (q a) (r a) (s a) (hp a ha) (hq a ha) (hr a ha) (hs a ha) in
      let eb = ap rows (once b hb) ∙ rows-packed (s b) (p b) (q b) (r b) (hs b hb) (hp b hb) (hq b hb) (hr b hb) in
      let ec = ap rows (twice c hc) ∙ rows-packed (r c) (s c) (p c) (q c) (hr c hc) (hs c hc) (hp c hc) (hq c hc) in
      let ed = ap rows (thrice d hd) ∙ rows-packed (q d) (r d) (s d) (p d) (hq d hd) (hr d hd) (hs d hd) (hp d hd) in
      rows_four (byte_at t a) (turn (byte_at t b)) (turn (turn (byte_at t c))) (turn (turn (turn (byte_at t d))))
      ∙ rw (ea, eb, ec, ed)
      (rw (turn-over (q a) (p b) (s c) (r d), turn-over (r a) (q b) (p c) (s d), turn-over (q b) (p c) (s d) (r a), ← turn-over (p d) (s a) (r b) (q c)) refl)

  -- the four rows of a column
  pub column_rows : (a b c d : ℕ)
      → rows (column_of t a b c d) ≡ four_of (λ w x y z. p w ⊕ s x ⊕ r y ⊕ q z) (a % 256) (b / 256 % 256) (c / 65536 % 256) (d / 16777216 % 256)
  unfolding column_of
  column_rows a b c d =
      sum_rows (a % 256) (b / 256 % 256) (c / 65536 % 256) (d / 16777216 % 256) (omega arith) (omega arith) (omega arith) (omega arith)

-- the product with a factor, of a byte through the S-box
sub_times : (k : ℕ) → OnBytes (λ x. mul k (byte_at sbox x))
unfolding AllBytes
sub_times k x h = mul_byte k (byte_at sbox x) (sbox-bytes x)

sub_byte : OnBytes (byte_at sbox)
unfolding AllBytes
sub_byte x h = sbox-bytes x

pub mixing_sub : (x : ℕ) → byte_at mixing_table (x % 256) / 256 % 256 ≡ byte_at sbox (x % 256)
unfolding rows
mixing_sub x =
    let y = x % 256 in
    let h : y < 256 = omega arith in
    ap (λ l. byte_at l 1)
    (ap rows (mixing_at y h)
    ∙ rows-packed (mul 2 (byte_at sbox y)) (byte_at sbox y) (byte_at sbox y) (mul 3 (byte_at sbox y)) (sub_times 2 y h) (sub_byte y h) (sub_byte y h) (sub_times 3 y h))

pub mixing_rows : (a b c d : ℕ) → rows (column_of mixing_table a b c d)
    ≡ four_of (λ w x y z. mixed (byte_at sbox w) (byte_at sbox x) (byte_at sbox y) (byte_at sbox z)) (a % 256) (b / 256 % 256) (c / 65536 % 256) (d / 16777216 % 256)
unfolding mixed
mixing_rows =
    column_rows mixing_table (λ x. mul 2 (byte_at sbox x)) (byte_at sbox) (byte_at sbox) (λ x. mul 3 (byte_at sbox x)) (sub_times 2) sub_byte sub_byte (sub_times 3) mixing_at

pub unmixing_rows : (a b c d : ℕ) → rows (column_of unmixing_table a b c d) ≡ four_of unmixed (a % 256) (b / 256 % 256) (c / 65536 % 256) (d / 16777216 % 256)
unfolding unmixed
unmixing_rows = column_rows unmixing_table (mul 14) (mul 9) (mul 13) (mul 11) (mul_byte 14) (mul_byte 9) (mul_byte 13) (mul_byte 11) unmixing_at
