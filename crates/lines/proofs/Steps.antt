-- One step of each walk over a text.
use mathlib.Core.Path.{◌≡◌, refl, sym, ap, ap₂, ◌∙◌}
use mathlib.Core.Bool.{Bool, true, false}
use mathlib.Core.List.{List, [], ◌∷◌, ◌++◌, append-nil}
use Prim.Native.Nat.{ℕ, suc, ◌+◌, ◌-◌, ◌*◌, ◌/◌, ◌%◌, ◌≤◌, ◌<◌}
use native.Mathlib.Nat.{add-zero}
use native.Mathlib.Numerals.{add-one}
use native.Mathlib.Omega.{arith}
use mathlib.Core.Logic.{⊎_elim}
use lib.Dec.{eqb, ltb}
use lib.ListN.{length, get_or, take, drop, set, length-drop, drop_of_length-le}
use lib.Seq.{drop-cons, take-suc, take-suc-set, take_all, append_snoc, length-take-le}
use borrow.Author.Tests.{eq-eqb, ne_eqb, le-leb}
use Rattle.base.specs.Decide.{pick, and}
use Rattle.base.specs.Bytes.{laid, over}
use denote.Ref.{Bor}
use Rattle.std.specs.Slice.{IsGetRangeResult}
use Rattle.std.specs.Prelude.{Option, None, Some, is_some, unwrap_or, ◌==◌, not, cond, ◌&&◌}
use Rattle.std.specs.List.{list_all, position_or_len}
use Rattle.base.proofs.Bytes.{le_or_lt, over_more, tests}
use Rattle.lines.specs.Lines.{before, seek}
use Rattle.lines.specs.Hex.{digit_of, char_of, is_hex, byte_of, bytes_of, chars_of, chars_room}

-- the place that a search answers
pub before_first : (b : ℕ) (s : List ℕ) → before b s ≡ position_or_len (λ x. x == b) s
unfolding before
before_first b [] = refl
before_first b (x ∷ s) = by (eqb x b) (before_first b s)
  where
    by : (t : Bool) {m n : ℕ} → m ≡ n → pick t 0 (suc m) ≡ cond (not t) (1 + n) 0
    by true e = refl
    by false e = omega (arith, e)

-- what stands behind an index, and nothing past the end
pub rest_of : (s : List ℕ) (i : ℕ) (r : Option (Bor (List ℕ))) (none : Bor (List ℕ)) → IsGetRangeResult s i (length s) r → none.now ≡ [] → (unwrap_or r none).now ≡ drop i s
rest_of s i None none h e = e ∙ sym (drop_of_length-le s {i = i} (⊎_elim (λ k. omega arith) (λ k. omega arith) h.0))
rest_of s i (Some x) none h e = h.0.2 ∙ take_all (length s - i) (drop i s) (omega (arith, length-drop i s))

before_within : (b : ℕ) (s : List ℕ) → before b s ≤ length s
unfolding before
before_within b [] = omega arith
before_within b (x ∷ s) = within (eqb x b) (before_within b s)
  where
    within : (t : Bool) {m n : ℕ} → m ≤ n → pick t 0 (suc m) ≤ suc n
    within true h = omega arith
    within false h = omega arith

-- the place found lies behind the start, and inside the text where the start does
pub seek-from : (s : List ℕ) (i b : ℕ) → i ≤ seek s i b
unfolding seek
seek-from s i b = omega arith

pub seek_within : (s : List ℕ) (i b : ℕ) → i ≤ length s → seek s i b ≤ length s
unfolding seek
seek_within s i b h = omega (arith, before_within b (drop i s), length-drop i s)

-- an even number of characters, each of them a digit
off : (v : Bool) → (v && false) ≡ false
off true = refl
off false = refl

pub hex_all : (s : List ℕ) → is_hex s ≡ (eqb (length s % 2) 0 && list_all (λ c. is_some (digit_of c)) s)
unfolding is_hex
hex_all [] = refl
hex_all (a ∷ []) = refl
hex_all (a ∷ b ∷ s) =
    let e : suc (suc (length s)) % 2 ≡ length s % 2 = omega arith in
    by (is_some (digit_of a)) (is_some (digit_of b)) _ _ _ _ (ap (λ n. eqb n 0) (sym e)) (hex_all s)
  where
    by : (p q h u v w : Bool) → u ≡ v → h ≡ (u && w) → and (and p q) h ≡ (v && (p && (q && w)))
    by true true h u v w e f = f ∙ ap (λ t. t && w) e
    by true false h u v w e f = sym (off v)
    by false q h u v w e f = sym (off v)

-- a digit is below 16
pub digit_below : (c : ℕ) → unwrap_or (digit_of c) 0 < 16
unfolding digit_of
digit_below c = grind (arith, tests)

-- two characters on
two_on : (s : List ℕ) (i : ℕ) → i * 2 + 1 < length s
    → drop (i * 2) s ≡ get_or s (i * 2) 0 ∷ get_or s (i * 2 + 1) 0 ∷ drop ((i + 1) * 2) s
two_on s i h =
    let e : (i + 1) * 2 ≡ suc (suc (i * 2)) = omega arith in
    drop-cons s (i * 2) 0 (omega arith)
    ∙ ap (λ l. get_or s (i * 2) 0 ∷ l)
    (drop-cons s (suc (i * 2)) 0 (omega arith)
    ∙ ap₂ (λ m n. get_or s m 0 ∷ drop n s) (sym (add-one (i * 2))) (sym e))

pub bytes-step : (s : List ℕ) (i : ℕ) → i * 2 + 1 < length s
    → bytes_of (drop (i * 2) s) ≡ byte_of (get_or s (i * 2) 0) (get_or s (i * 2 + 1) 0) ∷ bytes_of (drop ((i + 1) * 2) s)
unfolding bytes_of
bytes-step s i h = rw (two_on s i h) refl

-- a byte more of a text
pub filled : (s r : List ℕ) (i v : ℕ) → i < length r → i * 2 + 1 < length s → v ≡ byte_of (get_or s (i * 2) 0) (get_or s (i * 2 + 1) 0)
    → take (i + 1) (set r i v) ++ bytes_of (drop ((i + 1) * 2) s) ≡ take i r ++ bytes_of (drop (i * 2) s)
filled s r i v h k e =
    ap (λ l. l ++ bytes_of (drop ((i + 1) * 2) s)) (ap (λ n. take n (set r i v)) (add-one i) ∙ take-suc-set r i v h)
    ∙ append_snoc (take i r) v (bytes_of (drop ((i + 1) * 2) s))
    ∙ ap (λ l. take i r ++ l) (ap (λ x. x ∷ bytes_of (drop ((i + 1) * 2) s)) e ∙ sym (bytes-step s i k))

pub filled_all : (s r : List ℕ) (i : ℕ) → length r ≤ i → length s ≤ i * 2 → take i r ++ bytes_of (drop (i * 2) s) ≡ r
unfolding bytes_of
filled_all s r i h k = rw (take_all i r h, drop_of_length-le s {i = i * 2} k) (append-nil r)

bytes-length : (s : List ℕ) → is_hex s ≡ true → length (bytes_of s) * 2 ≡ length s
unfolding bytes_of is_hex
bytes-length [] e = refl
bytes-length (a ∷ []) e = let z : ◌≡◌ {A = ℕ} 0 1 = cc in omega arith
bytes-length (a ∷ b ∷ s) e =
    let t = bytes-length s (Rattle.base.proofs.Bytes.and_right (and (is_some (digit_of a)) (is_some (digit_of b))) (is_hex s) e) in omega arith

pub bytes_half : (s : List ℕ) → is_hex s ≡ true → length (bytes_of s) ≡ length s / 2
bytes_half s e = let t = bytes-length s e in omega arith

pub hex_even : (s : List ℕ) → is_hex s ≡ true → length s / 2 * 2 ≡ length s
hex_even s e = let t = bytes-length s e in omega arith

chars_append : (a b : List ℕ) → chars_of (a ++ b) ≡ chars_of a ++ chars_of b
unfolding chars_of
chars_append [] b = refl
chars_append (x ∷ a) b = ap (λ l. char_of (x / 16 % 16) ∷ char_of (x % 16) ∷ l) (chars_append a b)

pub chars_length : (s : List ℕ) → length (chars_of s) ≡ length s * 2
unfolding chars_of
chars_length [] = refl
chars_length (x ∷ s) = let e = chars_length s in omega arith

-- a byte more in digits
pub chars_more : (s d b b' : List ℕ) (i : ℕ) → i < length s → length s * 2 ≤ length d → b ≡ over (chars_of (take i s)) d
    → b' ≡ laid (char_of (get_or s i 0 / 16 % 16) ∷ char_of (get_or s i 0 % 16) ∷ []) (i * 2) b
    → b' ≡ over (chars_of (take (i + 1) s)) d
unfolding chars_of
chars_more s d b b' i h k e f =
    let c : List ℕ = char_of (get_or s i 0 / 16 % 16) ∷ char_of (get_or s i 0 % 16) ∷ [] in
    let l : length (chars_of (take i s)) ≡ i * 2 = chars_length (take i s) ∙ ap (λ n. n * 2) (length-take-le i s (omega arith)) in
    f
    ∙ ap₂ (λ n x. laid c n x) (sym l) e
    ∙ over_more (chars_of (take i s)) c d (omega arith)
    ∙ ap (λ x. over x d)
    (sym (chars_append (take i s) (get_or s i 0 ∷ [])) ∙ ap chars_of (sym (take-suc s i 0 h) ∙ ap (λ n. take n s) (sym (add-one i))))

pub chars_all : (s d : List ℕ) (i : ℕ) → length s ≤ i → over (chars_of (take i s)) d ≡ over (chars_of s) d
chars_all s d i h = ap (λ x. over (chars_of x) d) (take_all i s h)

-- digits that fill their room
pub chars_whole : (s d : List ℕ) → length s * 2 ≡ length d → chars_room s d ≡ chars_of s
unfolding chars_room
chars_whole s d e =
    ap (λ x. pick x (over (chars_of s) d) d) (le-leb (length s * 2) (length d) (omega arith))
    ∙ ap (λ x. chars_of s ++ x) (drop_of_length-le d {i = length (chars_of s)} (omega (arith, chars_length s)))
    ∙ append-nil (chars_of s)
